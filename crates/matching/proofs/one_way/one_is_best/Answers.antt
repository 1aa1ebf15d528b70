use Rattle.matching.proofs.Rows.{lawful_facts}
use Rattle.matching.proofs.Endings.{best_only}
use Rattle.matching.proofs.one_way.one_is_best.Goals as goal

pub returns : goal.returns
returns c = λ ls sides m m' h l s b l' s' b'. best_only ls sides (lawful_facts ls h) m m' l s b l' s' b'
