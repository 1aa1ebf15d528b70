use Rattle.lists.specs.Tables.{lists}
use Rattle.sources.proofs.Asked.{CopiedTo}
use Rattle.sources.proofs.reading.copied.Given as goal

abbrev pub invariant-loop-door : goal.invariant-loop-door
invariant-loop-door g l = CopiedTo (g.S.Source.lists l.source) (lists l.table) l.door
