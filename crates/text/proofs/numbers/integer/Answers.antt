use Rattle.std.proofs.Common.{◌-◌, length, take, drop, rules}
use Rattle.text.proofs.Signs.{read_plain, read_minus, read_minus_none, split_minus}
use Rattle.text.proofs.numbers.integer.Goals as goal

pub returns-in_err-number-in-45 : goal.returns-in_err-number-in-45
returns-in_err-number-in-45 c =
    rw c.from_residual.ensures
    (read_minus_none c.args.bytes.now (take (length c.args.bytes.now - 1) (drop 1 c.args.bytes.now)) (split_minus c.args.bytes.now (search rules) (search rules)) c.in_err-number-in-45.ensures)

pub returns-in_ok-number-in-45 : goal.returns-in_ok-number-in-45
returns-in_ok-number-in-45 c =
    read_minus c.args.bytes.now (take (length c.args.bytes.now - 1) (drop 1 c.args.bytes.now)) (split_minus c.args.bytes.now (search rules) (search rules))
    c.in_ok-number-in-45.field-0 c.negative.result c.in_ok-number-in-45.ensures c.negative.ensures

pub returns-in_ok-number-in_default : goal.returns-in_ok-number-in_default
returns-in_ok-number-in_default c =
    rw c.ok.ensures.value (read_plain c.in_ok-number-in_default.field-0 c.args.bytes.now c.try_from.result c.in_ok-number-in_default.ensures c.try_from.ensures)
