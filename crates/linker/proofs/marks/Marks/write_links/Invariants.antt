use Rattle.linker.specs.Links.{WritesTo}
use Rattle.linker.proofs.marks.Marks.write_links.Given as goal

abbrev pub invariant-loop-x : goal.invariant-loop-x
invariant-loop-x l = WritesTo l.x l.self.holder.now l.out
