use Rattle.surveying.proofs.Records.{no_space, no_second_space, no_east, no_north, no_kind}
use Rattle.surveying.proofs.reading.read_record.Goals as goal

pub returns-in_err-east : goal.returns-in_err-east
returns-in_err-east c = rw c.from_residual.ensures (no_space c.args.line.now c.in_err-east.ensures)

pub returns-in_err-north : goal.returns-in_err-north
returns-in_err-north c = rw c.from_residual-in_err-north.ensures (no_second_space c.args.line.now _ _ c.in_ok-east.ensures c.in_err-north.ensures)

pub returns-in_err-integer : goal.returns-in_err-integer
returns-in_err-integer c = rw c.from_residual-in_err-integer.ensures (no_east c.args.line.now _ _ c.in_ok-east.ensures c.in_err-integer.ensures)

pub returns-in_err-integer-2 : goal.returns-in_err-integer-2
returns-in_err-integer-2 c = rw c.from_residual-in_err-integer-2.ensures (no_north c.args.line.now _ _ c.in_ok-east.ensures _ _ c.in_ok-north.ensures c.in_err-integer-2.ensures)

pub returns-in_err-byte : goal.returns-in_err-byte
returns-in_err-byte c = rw c.from_residual-in_err-byte.ensures (no_kind c.args.line.now _ _ c.in_ok-east.ensures _ _ c.in_ok-north.ensures c.in_err-byte.ensures)
