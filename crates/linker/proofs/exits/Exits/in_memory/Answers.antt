use Rattle.std.proofs.Common.{◌≡◌, length, replicate, sym, ap, ◌∙◌}
use Rattle.matching.specs.Linkings.{unlinked}
use Rattle.linker.specs.Meanings.{lists_in}
use Rattle.linker.proofs.Standing.{tables_count}
use Rattle.linker.proofs.Proposed.{going_none}
use Rattle.linker.proofs.exits.Exits.in_memory.Goals as goal

pub returns-clause-going : goal.returns-clause-going
returns-clause-going c =
    let t = c.args.tables in
    let n = tables_count t in
    let next : c.fill.new.self ≡ replicate (length (lists_in t)) 0 = c.fill.ensures.after (λ y e. e) ∙ ap (λ m. replicate m 0) (c.split_at_mut-next.ensures.front_len ∙ sym n) in
    let held : c.fill-2.new.self ≡ replicate (length (lists_in t)) unlinked = c.fill-2.ensures.after (λ y e. e) ∙ ap (λ m. replicate m unlinked) (c.split_at_mut-held.ensures.front_len ∙ sym n) in
    rw (next, held) (going_none (lists_in t) c.args.sides.now)
