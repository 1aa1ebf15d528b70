use Rattle.std.proofs.Common.{◌≡◌, ◌<◌, length, get_or, Some, sym, ◌∙◌, subst, arith}
use Rattle.std.proofs.lemmas.Bool.{eqb-true, eqb-false}
use Rattle.matching.specs.Lists.{row}
use Rattle.linker.specs.Meanings.{lists_in}
use Rattle.linker.specs.Holders.{ranks, NextKept}
use Rattle.linker.proofs.Asked.{told_door}
use Rattle.linker.proofs.Standing.{tables_count, told_rank}
use Rattle.linker.proofs.Asking.{proposed_none, proposed_held, proposed_taken, marks, held_door, found_accepted}
use Rattle.linker.proofs.marks.Marks.propose.Goals as goal
use Rattle.linker.proofs.marks.Marks.propose.Goals.{After-door-y, After-place}

pub returns-in_default-clause-proposed : goal.returns-in_default-clause-proposed
returns-in_default-clause-proposed c =
    proposed_none (lists_in c.args.self.now.tables) c.args.self.now.tables.sound.legal c.args.self.now.holder.now c.args.self.now.keep.now c.args.self.now.first.now c.args.self.now.marked c.requires.under c.args.x
    (λ y s b. c.in_default.ensures y s (omega (arith, b, c.first_place.ensures)))

-- what is found on the list of x
the_next : (c : After-door-y) → (c.args.x < length (lists_in c.args.self.now.tables))
    × NextKept (lists_in c.args.self.now.tables) c.args.self.now.keep.now c.args.x (get_or c.args.self.now.first.now c.args.x 0) (Some c.in-Some.k)
    × (c.door-y.result ≡ get_or (row (lists_in c.args.self.now.tables) c.args.x) c.in-Some.k 0)
the_next c =
    let t = c.args.self.now.tables in
    let n : NextKept (lists_in t) c.args.self.now.keep.now c.args.x (get_or c.args.self.now.first.now c.args.x 0) (Some c.in-Some.k) =
    subst (λ s. NextKept (lists_in t) c.args.self.now.keep.now c.args.x s (Some c.in-Some.k)) c.first_place.ensures c.in-Some.ensures in
    (omega (arith, c.requires.door, tables_count t), n, c.door-y.ensures ∙ told_door t c.args.x c.in-Some.k n.1)

pub returns-then-held-x-clause-proposed : goal.returns-then-held-x-clause-proposed
returns-then-held-x-clause-proposed c =
    let d = the_next (goal.at.returns-then-held-x-clause-proposed c).After-door-y in
    rw c.put.ensures
    (proposed_held (lists_in c.args.self.now.tables) c.args.self.now.tables.sound.legal c.args.self.now.holder.now c.args.self.now.keep.now c.args.self.now.first.now c.args.self.now.marked c.requires.under c.args.x
    c.in-Some.k c.door-y.result d.0 d.1 d.2 (sym c.last-held.ensures ∙ c.if-held-x.true))

-- the place that is written is the rank of x for the door that takes it
the_rank : (c : After-place) → c.place.result ≡ ranks (lists_in c.args.self.now.tables) c.door-y.result c.args.x
the_rank c =
    let t = c.args.self.now.tables in
    let d = the_next (goal.at.After-place c).After-door-y in
    c.place.ensures
    ∙ told_rank t c.args.x c.door-y.result
    (found_accepted (lists_in t) c.args.self.now.tables.sound.legal c.args.self.now.holder.now c.args.self.now.keep.now c.args.self.now.first.now c.args.self.now.marked c.requires.under c.args.x
    c.in-Some.k c.door-y.result d.0 d.1 d.2)

pub returns-clause-proposed : goal.returns-clause-proposed
returns-clause-proposed c =
    let m = c.args.self.now in
    let ls = lists_in m.tables in
    let d = the_next (goal.at.returns-clause-proposed c).After-door-y in
    rw (c.put.ensures, c.put-2.ensures, c.put-3.ensures, c.then_some.ensures, c.last-held.ensures)
    (proposed_taken ls m.tables.sound.legal m.holder.now m.keep.now m.first.now m.marked c.requires.under c.args.x
    c.in-Some.k c.door-y.result d.0 d.1 d.2 c.place.result (the_rank (goal.at.returns-clause-proposed c).After-place)
    (λ e. c.if-held-x.false (c.last-held.ensures ∙ e)) _ (eqb-true _ _)
    (λ n. held_door ls m.tables.sound.legal m.holder.now c.requires.under c.door-y.result (eqb-false _ _ n)))

pub invariant_of-self : goal.invariant_of-self
invariant_of-self c =
    let ls = lists_in c.args.self.now.tables in
    let d = the_next (goal.at.invariant_of-self c).After-door-y in
    record {
      marked = rw c.put.ensures
          (proposed_held ls c.args.self.now.tables.sound.legal c.args.self.now.holder.now c.args.self.now.keep.now c.args.self.now.first.now c.args.self.now.marked c.requires.under c.args.x
          c.in-Some.k c.door-y.result d.0 d.1 d.2 (sym c.last-held.ensures ∙ c.if-held-x.true)).marked;
    }

pub invariant_of-self-2 : goal.invariant_of-self-2
invariant_of-self-2 c =
    let m = c.args.self.now in
    let d = the_next (goal.at.invariant_of-self-2 c).After-door-y in
    record {
      marked = rw (c.put.ensures, c.put-2.ensures, c.put-3.ensures)
          (marks (lists_in m.tables) m.tables.sound.legal m.holder.now m.keep.now m.first.now m.marked c.requires.under c.args.x
          c.in-Some.k c.door-y.result d.0 d.1 d.2 c.place.result (the_rank (goal.at.invariant_of-self-2 c).After-place) (λ e. c.if-held-x.false (c.last-held.ensures ∙ e)));
    }
