use Rattle.text.proofs.Numerals.{ReadTo}
use Rattle.text.proofs.numbers.digits_value.Given as goal

abbrev pub invariant-loop-digit : goal.invariant-loop-digit
invariant-loop-digit l = ReadTo l.digits l.digit-index l.value
