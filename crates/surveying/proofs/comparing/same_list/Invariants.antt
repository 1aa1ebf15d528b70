use Rattle.std.proofs.Common.{◌≡◌, ℕ, ◌<◌}
use Rattle.matching.specs.Lists.{row, place}
use Rattle.surveying.proofs.comparing.same_list.Given as goal

abbrev pub invariant-loop-listed : goal.invariant-loop-listed
invariant-loop-listed g l = (y : ℕ) → y < l.listed → place (row (g.A.Source.lists l.one) l.door) y ≡ place (row (g.B.Source.lists l.other) l.door) y
