use Rattle.std.proofs.Common.{◌≡◌, ◌+◌, ◌-◌, Some}
use Rattle.linker.specs.Parts.{GoingBy}
use Rattle.linker.proofs.exits.Exits.propose_from.Given as goal

abbrev pub invariant-loop-next : goal.invariant-loop-next
invariant-loop-next l = (l.self.sided ≡ l.initial.self.sided) × GoingBy (l.first + 1) (Some l.x) l.self

abbrev pub decreases-loop-next : goal.decreases-loop-next
decreases-loop-next l = 9217 - l.self.made
