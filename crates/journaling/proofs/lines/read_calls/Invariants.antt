use Rattle.std.proofs.Common.{length, vec_items}
use Rattle.journaling.proofs.Cuts.{ReadTo}
use Rattle.journaling.proofs.lines.read_calls.Given as goal

abbrev pub invariant-loop-line : goal.invariant-loop-line
invariant-loop-line l = ReadTo l.doors l.input l.rest (vec_items l.calls)

abbrev pub decreases-loop-line : goal.decreases-loop-line
decreases-loop-line l = length l.rest
