use Rattle.matching.proofs.Rows.{lawful_facts}
use Rattle.matching.proofs.TwoWay.{two_way_is_decided}
use Rattle.matching.proofs.rotations.two_way_decides.Goals as goal

pub returns : goal.returns
returns c = λ ls e. two_way_is_decided ls (lawful_facts ls e)
