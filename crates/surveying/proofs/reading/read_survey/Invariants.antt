use Rattle.std.proofs.Common.{length, vec_items}
use Rattle.surveying.proofs.Lines.{ReadTo}
use Rattle.surveying.proofs.reading.read_survey.Given as goal

abbrev pub invariant-loop-line : goal.invariant-loop-line
invariant-loop-line l = ReadTo l.text l.rest l.number (vec_items l.records)

abbrev pub decreases-loop-line : goal.decreases-loop-line
decreases-loop-line l = length l.rest
