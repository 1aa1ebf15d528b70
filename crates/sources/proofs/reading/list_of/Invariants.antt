use Rattle.matching.specs.Lists.{row}
use Rattle.sources.proofs.Asked.{Read}
use Rattle.sources.proofs.reading.list_of.Given as goal

abbrev pub invariant-loop-other : goal.invariant-loop-other
invariant-loop-other g l = Read (row (g.S.Source.lists l.source) l.door) l.buffer l.other
