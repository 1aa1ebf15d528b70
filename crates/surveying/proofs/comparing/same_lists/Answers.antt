use Rattle.std.proofs.Common.{[], refl, arith}
use Rattle.std.proofs.lemmas.List.{ext_get_or}
use Rattle.surveying.proofs.comparing.same_lists.Goals as goal

pub returns : goal.returns
returns g c =
    (λ t. ext_get_or [] (g.A.Source.lists c.args.one.now) (g.B.Source.lists c.args.other.now) (omega (arith, c.count.ensures, c.count-2.ensures, c.if-count.false)) (λ d h. c.loop-door.invariant d (omega (arith, c.count-door-end.ensures))), λ e. refl)
