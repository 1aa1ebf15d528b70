use Rattle.lists.specs.Tables.{lists}
use Rattle.lists.proofs.Edited.{TakenOff}
use Rattle.lists.proofs.table.ListTable.withdraw.Given as goal

abbrev pub invariant-loop-owner : goal.invariant-loop-owner
invariant-loop-owner l = TakenOff l.door (lists l.initial.self) (lists l.self) l.owner
