use Rattle.std.proofs.Common.{◌≡◌}
use Rattle.linker.specs.Meanings.{lists_in}
use Rattle.linker.specs.Holders.{height}
use Rattle.linker.specs.Parts.{LoweredIn}
use Rattle.linker.proofs.work.Work.settle.Given as goal

abbrev pub invariant-loop-self : goal.invariant-loop-self
invariant-loop-self l = (l.self.marks.tables ≡ l.initial.self.marks.tables) × LoweredIn l.d l.self

abbrev pub decreases-loop-self : goal.decreases-loop-self
decreases-loop-self l = height (lists_in l.self.marks.tables) l.self.marks.holder.now
