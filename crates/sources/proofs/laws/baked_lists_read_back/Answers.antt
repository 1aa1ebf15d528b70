use Rattle.std.proofs.Common.{sym, ◌∙◌, ⊎_elim}
use Rattle.codec.proofs.Accepted.{short_from_lawful}
use Rattle.codec.proofs.Bakings.{baking_apart}
use Rattle.matching.proofs.Rows.{lawful_facts}
use Rattle.sources.proofs.laws.baked_lists_read_back.Goals as goal

pub returns : goal.returns
returns c = λ baked read bytes a b e means.
    ⊎_elim (λ same. baking_apart read baked (short_from_lawful read (lawful_facts read b)) (short_from_lawful baked (lawful_facts baked a)) (sym same ∙ e))
    (λ refused. absurd (refused.1.1 baked a e)) means
