use Rattle.matching.proofs.Rows.{lawful_facts}
use Rattle.codec.proofs.Accepted.{short_from_lawful}
use Rattle.codec.proofs.Bakings.{baking_apart}
use Rattle.codec.proofs.laws.baking_is_injective.Goals as goal

pub returns : goal.returns
returns c = λ ks ls a b e. baking_apart ks ls (short_from_lawful ks (lawful_facts ks a)) (short_from_lawful ls (lawful_facts ls b)) e
