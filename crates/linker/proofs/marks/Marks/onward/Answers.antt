use Rattle.std.proofs.Common.{ℕ, ◌<◌, ◌≤◌, get_or, Some, ◌∙◌, subst, arith}
use Rattle.matching.specs.Lists.{row}
use Rattle.linker.specs.Meanings.{lists_in}
use Rattle.linker.specs.Holders.{NextKept}
use Rattle.linker.proofs.Written.{row_short}
use Rattle.linker.proofs.Asked.{told_door}
use Rattle.linker.proofs.Standing.{tables_count}
use Rattle.linker.proofs.Stepping.{finds, finds_first, finds_second, stepped}
use Rattle.linker.proofs.marks.Marks.onward.Goals as goal
use Rattle.linker.proofs.marks.Marks.onward.Goals.{After-unwrap-k, After-max-start}

pub unwrap-k-requires : goal.unwrap-k-requires
unwrap-k-requires c =
    let ls = lists_in c.args.self.now.tables in
    finds ls c.args.self.now.keep.now c.args.x c.first_place.result c.next_kept.result c.next_kept.ensures
    (λ n. finds_first ls c.args.self.now.tables.sound.legal c.args.self.now.holder.now c.args.self.now.keep.now c.args.self.now.first.now c.args.self.now.marked c.args.x (omega (arith, c.requires.door, tables_count c.args.self.now.tables))
    c.args.second.now c.requires.ahead c.requires.double (λ y s b. n y s (omega (arith, b, c.first_place.ensures))))

-- what the first search finds
the_first : (c : After-unwrap-k) → NextKept (lists_in c.args.self.now.tables) c.args.self.now.keep.now c.args.x (get_or c.args.self.now.first.now c.args.x 0) (Some c.unwrap-k.result)
the_first c =
    let ls = lists_in c.args.self.now.tables in
    subst (λ s. NextKept ls c.args.self.now.keep.now c.args.x s (Some c.unwrap-k.result)) c.first_place.ensures
    (subst (NextKept ls c.args.self.now.keep.now c.args.x c.first_place.result) c.unwrap-k.ensures c.next_kept.ensures)

pub overflow_add-k : goal.overflow_add-k
overflow_add-k c =
    let ls = lists_in c.args.self.now.tables in
    omega (arith, (the_first (goal.at.overflow_add-k c).After-unwrap-k).1, row_short ls c.args.x c.args.self.now.tables.sound.legal, c.args.self.now.tables.sound.legal.few)

-- where the second search starts
the_start : (c : After-max-start) → (c.unwrap-k.result < c.max-start.result) × ((z : ℕ) → get_or c.args.second.now c.args.x 0 ≤ z → c.unwrap-k.result < z → c.max-start.result ≤ z)
the_start c = (omega (arith, c.max-start.ensures), λ z a b. omega (arith, c.max-start.ensures, c.cell.ensures))

pub unwrap-at-requires : goal.unwrap-at-requires
unwrap-at-requires c =
    let ls = lists_in c.args.self.now.tables in
    let s = the_start (goal.at.unwrap-at-requires c).After-max-start in
    finds ls c.args.self.now.keep.now c.args.x c.max-start.result c.next_kept-2.result c.next_kept-2.ensures
    (finds_second ls c.args.self.now.tables.sound.legal c.args.self.now.holder.now c.args.self.now.keep.now c.args.self.now.first.now c.args.self.now.marked c.args.x (omega (arith, c.requires.door, tables_count c.args.self.now.tables))
    c.args.second.now c.requires.ahead c.requires.double c.unwrap-k.result c.max-start.result (the_first (goal.at.unwrap-at-requires c).After-unwrap-k) s.0 s.1)

pub returns : goal.returns
returns c =
    let t = c.args.self.now.tables in
    let ls = lists_in t in
    let s = the_start (goal.at.returns c).After-max-start in
    let q : NextKept ls c.args.self.now.keep.now c.args.x c.max-start.result (Some c.unwrap-at.result) =
    subst (NextKept ls c.args.self.now.keep.now c.args.x c.max-start.result) c.unwrap-at.ensures c.next_kept-2.ensures in (
      get_or (row ls c.args.x) c.unwrap-k.result 0,
      c.door-y.result,
      c.unwrap-at.result,
      rw c.put.ensures
          (stepped ls c.args.self.now.tables.sound.legal c.args.self.now.holder.now c.args.self.now.keep.now c.args.self.now.first.now c.args.self.now.marked c.args.x (omega (arith, c.requires.door, tables_count t))
          c.args.second.now c.requires.ahead c.requires.double c.unwrap-k.result c.max-start.result (the_first (goal.at.returns c).After-unwrap-k) s.0 s.1
          c.unwrap-at.result c.door-y.result c.last.result (omega (arith, c.requires.room, tables_count t)) q
          (c.door-y.ensures ∙ told_door t c.args.x c.unwrap-at.result q.1) c.last.ensures),
    )
