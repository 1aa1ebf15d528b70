use Rattle.std.proofs.Common.{ℕ, ◌<◌}
use Rattle.codec.specs.Findings.{Clean}
use Rattle.codec.proofs.Judging.{rowAsk}
use Rattle.codec.proofs.verdict.check.Given as goal

-- the blocks of the doors so far are clean
abbrev pub invariant-loop-i : goal.invariant-loop-i
invariant-loop-i l = (e : ℕ) → e < l.i → Clean (rowAsk l.bytes e)
