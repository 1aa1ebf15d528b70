use Rattle.text.proofs.Pairs.{no_space, no_first, no_second}
use Rattle.text.proofs.numbers.pair.Goals as goal

pub returns-in_err-first : goal.returns-in_err-first
returns-in_err-first c = rw c.from_residual.ensures (no_space c.args.bytes.now c.in_err-first.ensures)

pub returns-in_err-byte : goal.returns-in_err-byte
returns-in_err-byte c = let cut = c.in_ok-first.ensures in
    rw c.from_residual-in_err-byte.ensures (no_first c.args.bytes.now c.in_ok-first.first.now c.in_ok-first.second.now cut.0 cut.1 c.in_err-byte.ensures)

pub returns-in_err-byte-2 : goal.returns-in_err-byte-2
returns-in_err-byte-2 c = let cut = c.in_ok-first.ensures in
    rw c.from_residual-in_err-byte-2.ensures (no_second c.args.bytes.now c.in_ok-first.first.now c.in_ok-first.second.now cut.0 cut.1 c.in_err-byte-2.ensures)
