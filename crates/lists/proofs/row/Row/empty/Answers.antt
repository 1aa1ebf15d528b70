use Rattle.lists.proofs.Filling.{empty_right}
use Rattle.lists.proofs.row.Row.empty.Goals as goal

pub invariant_of-result-clause-right : goal.invariant_of-result-clause-right
invariant_of-result-clause-right c = rw c.new.ensures empty_right
