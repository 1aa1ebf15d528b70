use Rattle.std.proofs.Common.{not}
use Rattle.std.proofs.lemmas.List.Filters.{FiltersInPlace}
use Rattle.level.proofs.live.Live.end.Given as goal

abbrev pub invariant-loop-i : goal.invariant-loop-i
invariant-loop-i g l = FiltersInPlace (λ t. not (g.T.Linked.is_meant l.about t)) l.initial.self-inside.records l.self-inside.records l.stay l.i
