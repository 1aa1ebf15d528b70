use Rattle.std.proofs.Common.{refl, ap, inl, inr, ⊎_elim, ◌∙◌, arith}
use Rattle.std.proofs.lemmas.Bool.{cases_eq}
use Rattle.matching.proofs.Holders.{underway_start}
use Rattle.linker.specs.Meanings.{lists_in}
use Rattle.linker.specs.Holders.{ranks, lasts}
use Rattle.linker.proofs.Standing.{orders, tables_count}
use Rattle.linker.proofs.Asking.{settled_all}
use Rattle.linker.proofs.marks.Marks.propose_all.Goals as goal

pub loop-p-init : goal.loop-p-init
loop-p-init c =
    let t = c.args.self.now.tables in
    let ls = lists_in t in
    (refl, underway_start ls t.sound.legal (ranks ls) (orders ls t.sound.legal) (lasts c.args.self.now.holder.now) c.requires, λ z b. absurd (omega arith))

pub loop-p-preserved : goal.loop-p-preserved
loop-p-preserved c =
    let e = c.propose_from.ensures in
    let l = c.loop-p in (
      e.tables ∙ l.invariant.0,
      e.under,
      λ z b. e.settles z (⊎_elim (λ i. inl i) (λ n. inr (l.invariant.2 z (omega arith))) (cases_eq z l.p)),
    )

pub returns-clause-way : goal.returns-clause-way
returns-clause-way c =
    let l = c.loop-p in
    let t = l.self.tables in
    settled_all (lists_in t) t.sound.legal l.self.holder.now l.invariant.1 (λ z b. l.invariant.2 z (omega (arith, b, tables_count t, ap (λ t. t.count) l.invariant.0)))
