use Rattle.matching.proofs.Rows.{lawful_facts}
use Rattle.matching.proofs.Endings.{one_way_result}
use Rattle.matching.proofs.one_way.order_does_not_matter.Goals as goal

pub returns : goal.returns
returns c = λ ls sides m m' k k' h a b. (one_way_result ls sides (lawful_facts ls h) k' m' b).only m k a
