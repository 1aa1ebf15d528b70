use Rattle.std.proofs.Common.{Some, None, sym, ◌∙◌, subst, inl, inr, ⊎_elim, arith}
use Rattle.std.proofs.lemmas.Bool.{cases_eq}
use Rattle.linker.specs.Meanings.{lists_in}
use Rattle.linker.specs.Holders.{Settles, Proposed}
use Rattle.linker.proofs.Standing.{tables_count}
use Rattle.linker.proofs.marks.Marks.propose_from.Goals as goal
use Rattle.linker.proofs.marks.Marks.propose_from.Goals.{In-Some}

pub loop-next-preserved : goal.loop-next-preserved
loop-next-preserved c =
    let l = c.loop-next in
    let n = c.propose.new.self in
    let t0 = c.args.self.now.tables in
    let e : Proposed (lists_in t0) l.x l.self.holder.now n.holder.now n.keep.now n.first.now (Some c.in-Some.next) =
    subst (λ t. Proposed (lists_in t) l.x l.self.holder.now n.holder.now n.keep.now n.first.now (Some c.in-Some.next)) l.invariant.0 c.in-Some.ensures.proposed in (
      c.in-Some.ensures.tables ∙ l.invariant.0,
      omega (arith, e.goes.0, tables_count t0),
      e.under,
      λ z s. ⊎_elim (λ i. inl i) (λ n. inr (e.settles z (l.invariant.3 z s) (λ i. n (grind arith)))) (cases_eq z c.in-Some.next),
    )

pub returns-clause-settles : goal.returns-clause-settles
returns-clause-settles c z s =
    let l = c.loop-next in
    let n = c.propose.new.self in
    let e : Proposed (lists_in c.args.self.now.tables) l.x l.self.holder.now n.holder.now n.keep.now n.first.now None =
    subst (λ t. Proposed (lists_in t) l.x l.self.holder.now n.holder.now n.keep.now n.first.now None) l.invariant.0 c.in_default.ensures.proposed in
    subst (λ t. Settles (lists_in t) n.holder.now z) (sym (c.in_default.ensures.tables ∙ l.invariant.0)) (e.settles z (l.invariant.3 z s) (λ i. grind arith))
