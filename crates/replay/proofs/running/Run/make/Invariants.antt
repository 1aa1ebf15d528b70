use Rattle.std.proofs.Common.{vec_items}
use Rattle.replay.proofs.Run.{Led}
use Rattle.replay.proofs.running.Run.make.Given as goal

abbrev pub invariant-loop-call : goal.invariant-loop-call
invariant-loop-call l = Led l.initial.self l.calls (vec_items l.answers) l.call-index l.self
