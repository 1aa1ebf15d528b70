use Rattle.std.proofs.Common.{arith}
use Rattle.levels.proofs.read_level.Goals as goal

pub returns : goal.returns
returns g c = omega (arith, c.truncate.ensures.len, c.in_ok-bytes.ensures.len)
