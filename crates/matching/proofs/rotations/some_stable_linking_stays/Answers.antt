use Rattle.matching.proofs.Rows.{lawful_facts}
use Rattle.matching.proofs.TwoWay.{some_stable_stays}
use Rattle.matching.proofs.rotations.some_stable_linking_stays.Goals as goal

pub returns : goal.returns
returns c = λ ls e. some_stable_stays ls (lawful_facts ls e)
