use Rattle.std.proofs.lemmas.Result.{IfOk-weaker}
use Rattle.replay.proofs.running.replay.Goals as goal

pub returns : goal.returns
returns g c = IfOk-weaker c.make-answers.result _ _ (λ answers w. w (g.S.Source.lists c.args.source.now) c.new-run.ensures) c.make-answers.ensures
