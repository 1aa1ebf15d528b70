use Rattle.std.proofs.Common.{not, sym, ap, ◌∙◌, arith}
use Rattle.std.proofs.lemmas.List.{get_or_default}
use Rattle.std.proofs.lemmas.List.Filters.{FiltersInPlace-more_set, FiltersInPlace-more_no}
use Rattle.level.proofs.live.Live.end.Goals as goal

pub loop-i-preserved-then-is_about : goal.loop-i-preserved-then-is_about
loop-i-preserved-then-is_about g c =
    FiltersInPlace-more_no c.loop-i.invariant (omega arith) (ap not (sym c.is_about.ensures ∙ c.if-is_about.true)) (get_or_default c.loop-i.self-inside.records c.loop-i.i c.index-self-i.result _ (omega arith))

pub loop-i-preserved : goal.loop-i-preserved
loop-i-preserved g c =
    FiltersInPlace-more_set c.loop-i.invariant (omega arith) (ap not (sym c.is_about.ensures ∙ c.if-is_about.false)) (get_or_default c.loop-i.self-inside.records c.loop-i.i c.index-self-i.result _ (omega arith))
