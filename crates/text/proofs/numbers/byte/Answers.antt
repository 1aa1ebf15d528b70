use Rattle.std.proofs.Common.{arith}
use Rattle.text.proofs.Signs.{read_smaller}
use Rattle.text.proofs.numbers.byte.Goals as goal

pub returns : goal.returns
returns c =
    rw c.ok.ensures.value (read_smaller 256 c.in_ok-value.value c.args.bytes.now c.try_from.result (omega arith) c.in_ok-value.ensures c.try_from.ensures)
