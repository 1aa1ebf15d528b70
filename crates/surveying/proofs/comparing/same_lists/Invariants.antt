use Rattle.std.proofs.Common.{◌≡◌, ℕ, ◌<◌}
use Rattle.matching.specs.Lists.{row}
use Rattle.surveying.proofs.comparing.same_lists.Given as goal

abbrev pub invariant-loop-door : goal.invariant-loop-door
invariant-loop-door g l = (d : ℕ) → d < l.door → row (g.A.Source.lists l.one) d ≡ row (g.B.Source.lists l.other) d
