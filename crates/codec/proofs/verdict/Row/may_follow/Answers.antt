use Rattle.std.proofs.Common.{arith}
use Rattle.std.proofs.lemmas.Bool.Decides.{nat_tests}
use Rattle.codec.specs.Findings.{may_follow}
use Rattle.codec.proofs.Listed.{listed_same}
use Rattle.codec.proofs.verdict.Row.may_follow.Goals as goal
use Rattle.codec.proofs.verdict.Row.may_follow.Goals.{then-door-self, else-door-self}

pub returns-then-door-self-2 : goal.returns-then-door-self-2
unfolding may_follow
returns-then-door-self-2 c =
    let same = listed_same c.args.before.now c.args.door c.contains.result c.contains.ensures.cases in
    elim c.if-door-self.branch [ then-door-self w ↦ grind (arith, nat_tests, same) | else-door-self w ↦ grind (arith, nat_tests, same) ]
