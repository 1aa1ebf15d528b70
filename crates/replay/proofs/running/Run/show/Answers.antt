use Rattle.std.proofs.Common.{sym, refl, ◌∙◌}
use Rattle.replay.proofs.Steps.{shows_some}
use Rattle.replay.proofs.running.Run.show.Goals as goal

pub returns : goal.returns
returns g c =
    shows_some g.F.FnOnce c.args.edit c.args.self.now _ c.args.number c.in-Some.claim c.edit.result _ _ c.into.result c.into.ensures (sym c.take_claim.ensures.value ∙ c.in-Some.is) c.take_claim.ensures.left
    c.take_claim.ensures.level c.edit.ensures refl
