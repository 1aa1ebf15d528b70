use Rattle.std.proofs.Common.{true, false, replicate, ap, ◌∙◌}
use Rattle.journaling.proofs.Ledgers.{kept_none}
use Rattle.journaling.proofs.ledger.Ledger.new.Goals as goal

pub returns : goal.returns
returns c =
    kept_none c.args.doors _ c.new.ensures.items (c.in_ok-vec.ensures.items_if_clones_equal (λ y e. e) ∙ ap (λ n. replicate n true) c.from-n.ensures)
    (c.in_ok-vec-2.ensures.items_if_clones_equal (λ y e. e) ∙ ap (λ n. replicate n false) c.from-n.ensures)
