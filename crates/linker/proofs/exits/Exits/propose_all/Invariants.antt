use Rattle.std.proofs.Common.{◌≡◌, None}
use Rattle.linker.specs.Parts.{GoingBy}
use Rattle.linker.proofs.exits.Exits.propose_all.Given as goal

abbrev pub invariant-loop-x : goal.invariant-loop-x
invariant-loop-x l = (l.self.sided ≡ l.initial.self.sided) × GoingBy l.x None l.self
