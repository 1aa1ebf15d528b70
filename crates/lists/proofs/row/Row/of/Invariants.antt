use Rattle.lists.proofs.Filling.{Filled}
use Rattle.lists.proofs.row.Row.of.Given as goal

abbrev pub invariant-loop-i : goal.invariant-loop-i
invariant-loop-i l = Filled l.count l.own l.list l.places l.i
