use Rattle.std.proofs.Common.{◌≡◌, ltb, subst, sym, ◌∙◌, arith, rules}
use Rattle.std.proofs.lemmas.Bool.{ltb-true, ltb-false}
use Rattle.linker.specs.Meanings.{lists_in}
use Rattle.linker.specs.Holders.{NextKept}
use Rattle.linker.proofs.Standing.{tables_count}
use Rattle.linker.proofs.Stepping.{two_told}
use Rattle.linker.proofs.marks.Marks.has_two.Goals as goal

pub returns : goal.returns
returns c =
    let m = c.args.self.now in
    let ls = lists_in m.tables in
    two_told ls m.tables.sound.legal m.holder.now m.keep.now m.first.now m.marked c.args.x (omega (arith, c.requires.door, tables_count m.tables)) c.requires.way _
    (subst (λ s. NextKept ls m.keep.now c.args.x s c.next_kept.result) c.first_place.ensures c.next_kept.ensures) _ _ c.is_some_and.ensures
    (λ k p. let e : c.is_some_and.result ≡ ltb k c.last_place-last.result = search rules in (λ t. omega (arith, ltb-true k _ (sym e ∙ t), c.last_place-last.ensures), λ f. omega (arith, ltb-false k _ (sym e ∙ f), c.last_place-last.ensures)))
