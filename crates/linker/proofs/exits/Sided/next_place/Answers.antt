use Rattle.std.proofs.Common.{◌≡◌, ◌<◌, true, length, get_or, sym, ap, ◌∙◌, subst, ⊎_elim, arith}
use Rattle.std.proofs.lemmas.Bool.{cases_eq}
use Rattle.matching.specs.Lists.{row}
use Rattle.matching.specs.Linkings.{listed, counts_one_way}
use Rattle.linker.specs.Meanings.{lists_in}
use Rattle.linker.proofs.Asked.{told_door, told_size, row_listed}
use Rattle.linker.proofs.exits.Sided.next_place.Goals as goal
use Rattle.linker.proofs.exits.Sided.next_place.Goals.{After-door}

-- the door that is asked about
the_door : (c : After-door) → (c.loop-k.k < length (row (lists_in c.args.self.tables) c.args.x)) × (c.door.result ≡ get_or (row (lists_in c.args.self.tables) c.args.x) c.loop-k.k 0)
the_door c =
    let t = c.args.self.tables in
    let i : c.loop-k.k < length (row (lists_in t) c.args.x) = omega (arith, c.size-k-end.ensures, told_size t c.args.x c.requires.door) in
    (i, c.door.ensures ∙ told_door t c.args.x c.loop-k.k i)

pub returns-then-takes : goal.returns-then-takes
returns-then-takes c =
    let d = the_door (goal.at.returns-then-takes c).After-door in (
      record { past = omega arith; within = omega (arith, d.0); skipped = c.loop-k.invariant },
      d.0,
      ap (counts_one_way (lists_in c.args.self.tables) c.args.self.sides.now c.args.x) (sym d.1) ∙ sym c.takes.ensures ∙ c.if-takes.true,
    )

pub loop-k-preserved : goal.loop-k-preserved
loop-k-preserved c i a b =
    let d = the_door (goal.at.loop-k-preserved c).After-door in
    ⊎_elim
    (λ (e : i ≡ c.loop-k.k).
    ap (λ k. counts_one_way (lists_in c.args.self.tables) c.args.self.sides.now c.args.x (get_or (row (lists_in c.args.self.tables) c.args.x) k 0)) e
    ∙ ap (counts_one_way (lists_in c.args.self.tables) c.args.self.sides.now c.args.x) (sym d.1) ∙ sym c.takes.ensures ∙ c.if-takes.false)
    (λ n. c.loop-k.invariant i a (omega arith))
    (cases_eq i c.loop-k.k)

pub takes-requires-clause-listed : goal.takes-requires-clause-listed
takes-requires-clause-listed c =
    let d = the_door c in
    subst (λ y. listed (lists_in c.args.self.tables) c.args.x y ≡ true) (sym d.1) (row_listed (lists_in c.args.self.tables) c.args.x c.loop-k.k d.0)
