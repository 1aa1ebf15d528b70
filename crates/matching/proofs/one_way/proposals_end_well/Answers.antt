use Rattle.matching.proofs.Rows.{lawful_facts}
use Rattle.matching.proofs.Endings.{one_way_result}
use Rattle.matching.proofs.one_way.proposals_end_well.Goals as goal

pub returns : goal.returns
returns c = λ ls sides m k h a. one_way_result ls sides (lawful_facts ls h) k m a
