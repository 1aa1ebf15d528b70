use Rattle.std.proofs.Common.{ℕ, ◌<◌, None}
use Rattle.codec.proofs.verdict.check_block.Given as goal

-- no byte so far is wrong
abbrev pub invariant-loop-i : goal.invariant-loop-i
invariant-loop-i g l = (k : ℕ) → k < l.i → goal.F-post g l.wrong k None
