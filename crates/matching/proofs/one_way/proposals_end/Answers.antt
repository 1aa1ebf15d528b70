use Rattle.matching.proofs.Rows.{lawful_facts}
use Rattle.matching.proofs.Existence.{run_ends}
use Rattle.matching.proofs.one_way.proposals_end.Goals as goal

pub returns : goal.returns
returns c = λ ls sides h. run_ends ls sides (lawful_facts ls h)
