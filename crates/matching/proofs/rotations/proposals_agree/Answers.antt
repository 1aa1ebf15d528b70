use Rattle.matching.proofs.Rows.{lawful_facts}
use Rattle.matching.proofs.TwoWay.{finished_proposals_agree}
use Rattle.matching.proofs.rotations.proposals_agree.Goals as goal

pub returns : goal.returns
returns c = λ ls e. finished_proposals_agree ls (lawful_facts ls e)
