use Rattle.std.proofs.Common.{◌≡◌, ◌+◌, ◌*◌, ◌<◌, ◌≤◌, length, get_or, sym, ap, ◌∙◌, subst, ⊎_elim, arith}
use Rattle.std.proofs.lemmas.Bool.{cases_eq}
use Rattle.matching.specs.Lists.{row}
use Rattle.linker.specs.Meanings.{lists_in}
use Rattle.linker.proofs.Written.{row_short}
use Rattle.linker.proofs.Asked.{told_door, told_size}
use Rattle.linker.proofs.Standing.{told_still, still_told, rank_own, marks_short}
use Rattle.linker.proofs.marks.Marks.next_kept.Goals as goal
use Rattle.linker.proofs.marks.Marks.next_kept.Goals.{After-door-y}

pub overflow_add-last_place : goal.overflow_add-last_place
overflow_add-last_place c = omega (arith, (marks_short c.args.self.now) c.args.x, row_short (lists_in c.args.self.now.tables) c.args.x c.args.self.now.tables.sound.legal, c.args.self.now.tables.sound.legal.few)

-- the place is on the kept part of the list, and the door that is asked about stands there
the_door : (c : After-door-y) → (c.loop-k.k < length (row (lists_in c.args.self.now.tables) c.args.x)) × (c.loop-k.k ≤ get_or c.args.self.now.keep.now c.args.x 0)
    × (c.door-y.result ≡ get_or (row (lists_in c.args.self.now.tables) c.args.x) c.loop-k.k 0)
the_door c =
    let t = c.args.self.now.tables in
    let i : c.loop-k.k < length (row (lists_in t) c.args.x) = omega (arith, c.size.ensures, told_size t c.args.x c.requires) in
    (i, omega (arith, c.last_place.ensures), c.door-y.ensures ∙ told_door t c.args.x c.loop-k.k i)

pub returns-then-place-last_place : goal.returns-then-place-last_place
returns-then-place-last_place c =
    let t = c.args.self.now.tables in
    let d = the_door (goal.at.returns-then-place-last_place c).After-door-y in
    let e : get_or t.places.now (c.door-y.result * t.count + c.args.x) 0 ≤ get_or c.args.self.now.keep.now c.door-y.result 0 =
    omega (arith, c.place.ensures, c.last_place-in-loop-k.ensures) in
    let s = told_still t c.args.self.now.keep.now (marks_short c.args.self.now) c.args.x c.requires c.loop-k.k d.0 d.1
    (subst (λ y. get_or t.places.now (y * t.count + c.args.x) 0 ≤ get_or c.args.self.now.keep.now y 0) d.2 e) in
    (omega arith, d.0, s.0, s.1, c.loop-k.invariant)

pub loop-k-preserved : goal.loop-k-preserved
loop-k-preserved c y s b =
    let t = c.args.self.now.tables in
    let d = the_door (goal.at.loop-k-preserved c).After-door-y in
    let told = still_told t c.args.self.now.keep.now (marks_short c.args.self.now) c.args.x c.requires y s in
    ⊎_elim
    (λ e. absurd
    (let same : y ≡ c.door-y.result = sym told.0 ∙ ap (λ k. get_or (row (lists_in t) c.args.x) k 0) (sym e) ∙ sym d.2 in
    omega (
      arith,
      subst (λ z. get_or t.places.now (z * t.count + c.args.x) 0 ≤ get_or c.args.self.now.keep.now z 0) same told.1,
      c.place.ensures,
      c.last_place-in-loop-k.ensures,
      c.if-place-last_place.false,
    )))
    (λ n. omega (arith, c.loop-k.invariant y s b, n))
    (cases_eq c.loop-k.k _)

pub returns : goal.returns
returns c y s b =
    let t = c.args.self.now.tables in
    omega (
      arith,
      c.loop-k.invariant y s b,
      s.0,
      s.1,
      rank_own (lists_in t) c.args.self.now.tables.sound.legal c.args.x,
      c.size.ensures,
      c.last_place.ensures,
      told_size t c.args.x c.requires,
    )
