use Rattle.std.proofs.Common.{◌+◌, ◌≤◌, get_or, Some, None, ◌∙◌, subst, arith}
use Rattle.linker.specs.Meanings.{lists_in}
use Rattle.linker.specs.Turns.{NextPlace}
use Rattle.linker.proofs.Written.{row_short}
use Rattle.linker.proofs.Standing.{tables_count}
use Rattle.linker.proofs.Proposed.{going_over, ask_refused, ask_first, ask_better, ask_few}
use Rattle.linker.proofs.exits.Exits.propose.Goals as goal
use Rattle.linker.proofs.exits.Exits.propose.Goals.{After-held_by-held, in-Some-held+else-place, in_default-held}

pub next_place-requires-clause-door : goal.next_place-requires-clause-door
next_place-requires-clause-door c =
    let g = c.requires.going.1 in omega (arith, g.asks.0, g.doors, tables_count c.args.self.now.sided.tables)

pub returns-in_default-clause-going : goal.returns-in_default-clause-going
returns-in_default-clause-going c d g =
    let s = c.args.self.now in
    going_over (lists_in s.sided.tables) s.sided.sides.now s.sided.tables.sound.legal d c.args.x s.made s.next.now s.held.now g
    (subst (λ v. NextPlace (lists_in s.sided.tables) s.sided.sides.now c.args.x v None) c.next.ensures c.in_default.ensures)

-- the door that is asked is the next that may be linked with x
the_place : (c : After-held_by-held) → NextPlace (lists_in c.args.self.now.sided.tables) c.args.self.now.sided.sides.now c.args.x (get_or c.args.self.now.next.now c.args.x 0) (Some c.in-Some.k)
the_place c = subst (λ v. NextPlace (lists_in c.args.self.now.sided.tables) c.args.self.now.sided.sides.now c.args.x v (Some c.in-Some.k)) c.next.ensures c.in-Some.ensures

few : (c : After-held_by-held) → c.args.self.now.made + 1 ≤ 9216
few c =
    let s = c.args.self.now in
    ask_few s.sided.tables s.sided.sides.now c.requires.going.0 c.args.x s.made c.in-Some.k s.next.now s.held.now c.door-y.result c.requires.going.1 (the_place c) c.door-y.ensures c.held_by-held.result c.held_by-held.ensures

pub overflow_add-self : goal.overflow_add-self
overflow_add-self c = omega (arith, few (goal.at.overflow_add-self c).After-held_by-held)

pub overflow_add-k : goal.overflow_add-k
overflow_add-k c =
    let t = c.args.self.now.sided.tables in
    omega (arith, (the_place (goal.at.overflow_add-k c).After-held_by-held).1, row_short (lists_in t) c.args.x t.sound.legal, t.sound.legal.few)

pub returns-then-place-clause-going : goal.returns-then-place-clause-going
returns-then-place-clause-going c d g =
    let s = c.args.self.now in
    rw c.put.ensures
    (ask_refused s.sided.tables s.sided.sides.now d c.args.x s.made c.in-Some.k s.next.now s.held.now c.door-y.result g (the_place (goal.at.returns-then-place-clause-going c).After-held_by-held) c.door-y.ensures
    c.in-Some-held.z c.in-Some-held.ensures (omega (arith, c.place.ensures, c.place-in-Some-held.ensures, c.if-place.true)))

pub returns-clause-going : goal.returns-clause-going
returns-clause-going c d g =
    let s = c.args.self.now in
    let n = the_place (goal.at.returns-clause-going c).After-held_by-held in
    elim c.match-held.branch [
      | in-Some-held+else-place w ↦ rw (w.held-is, c.put.ensures, c.put-2.ensures)
          (ask_better s.sided.tables s.sided.sides.now d c.args.x s.made c.in-Some.k s.next.now s.held.now c.door-y.result g n c.door-y.ensures
          w.in-Some-held.z w.in-Some-held.ensures (omega (arith, w.place.ensures, w.place-in-Some-held.ensures, w.if-place.false)))
      | in_default-held w ↦ rw (w.held-is ∙ w.in_default-held.is, c.put.ensures, c.put-2.ensures)
          (ask_first s.sided.tables s.sided.sides.now d c.args.x s.made c.in-Some.k s.next.now s.held.now c.door-y.result g n c.door-y.ensures w.in_default-held.ensures)
    ]
