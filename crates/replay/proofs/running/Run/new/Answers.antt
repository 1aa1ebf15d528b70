use Rattle.replay.proofs.Run.{state_none}
use Rattle.replay.proofs.running.Run.new.Goals as goal

pub returns : goal.returns
returns g c = state_none (g.S.Source.lists c.args.source.now) _ (g.met.S.Source.sound c.args.source.now) c.new.ensures c.new-2.ensures.items
