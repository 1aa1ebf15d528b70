use Rattle.std.proofs.Common.{rules}
use Rattle.replay.proofs.Steps.{keeps_release, keeps_strike}
use Rattle.replay.proofs.running.Run.respond.Goals as goal

pub returns-in-Release : goal.returns-in-Release
returns-in-Release c = rw c.in-Release.is (keeps_release _ _ _ _ c.in-Release.number _ c.show.ensures (λ s l t r p. search rules))

pub returns-in-Strike : goal.returns-in-Strike
returns-in-Strike c = rw c.in-Strike.is (keeps_strike _ _ _ _ c.in-Strike.number _ c.show-in-Strike.ensures (λ s l t r p. search rules))
