use Rattle.std.proofs.Common.{length}
use Rattle.std.specs.Fmt.{IsPlainFormatter}
use Rattle.text.proofs.Written.{WrittenTo}
use Rattle.text.proofs.linking.LinkingDisplay.fmt.Given as goal

abbrev pub invariant-loop-door : goal.invariant-loop-door
invariant-loop-door g l =
    IsPlainFormatter l.fn.f → WrittenTo g.W.Write.write_str_gives l.fn.f l.self.begun l.self.standing.now l.self.partners.now (length l.yielded) l.begun l.f
