use Rattle.std.proofs.Common.{rules}
use Rattle.text.proofs.Numerals.{none_written, zero_written, written_from_value}
use Rattle.text.proofs.numbers.number.Goals as goal

pub returns-in-empty : goal.returns-in-empty
returns-in-empty c = none_written c.args.bytes.now (search rules)

pub returns-in-48 : goal.returns-in-48
returns-in-48 c = zero_written c.args.bytes.now (search rules) (search rules)

pub returns-in_default : goal.returns-in_default
returns-in_default c = written_from_value c.args.bytes.now c.digits_value.result (search rules) (λ h. search rules) c.digits_value.ensures
