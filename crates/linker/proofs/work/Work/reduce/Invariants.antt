use Rattle.std.proofs.Common.{◌≡◌}
use Rattle.linker.specs.Parts.{LoweredIn}
use Rattle.linker.proofs.work.Work.reduce.Given as goal

abbrev pub invariant-loop-d : goal.invariant-loop-d
invariant-loop-d l = (l.self.marks.tables ≡ l.initial.self.marks.tables) × LoweredIn l.d l.self
