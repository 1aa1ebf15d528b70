use Rattle.linker.specs.Tables.{ReadTo}
use Rattle.linker.proofs.reading.read_lists.Given as goal

abbrev pub invariant-loop-x : goal.invariant-loop-x
invariant-loop-x g l = ReadTo (g.S.Source.lists l.source) l.x l.lists l.places l.sizes
