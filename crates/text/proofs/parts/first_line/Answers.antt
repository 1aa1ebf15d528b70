use Rattle.std.proofs.Common.{refl, rules}
use Rattle.text.proofs.Lines.{first_line_is}
use Rattle.text.proofs.parts.first_line.Goals as goal

pub returns : goal.returns
returns c = rw c.unwrap_or.ensures (first_line_is c.args.text.now c.split_once.result _ c.split_once.ensures (search rules) refl refl)
