use Rattle.linker.proofs.Ended.{Telling}
use Rattle.linker.proofs.exits.Exits.write_partners.Given as goal

abbrev pub invariant-loop-y : goal.invariant-loop-y
invariant-loop-y l = Telling l.self.held.now l.y l.out
