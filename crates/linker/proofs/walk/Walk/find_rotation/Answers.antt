use Rattle.std.proofs.Common.{◌≡◌, ◌+◌, length, get_or, Some, sym, ap, ◌∙◌, subst, arith}
use Rattle.matching.proofs.Runs.{same_everywhere}
use Rattle.linker.specs.Tables.{Told}
use Rattle.linker.specs.Meanings.{lists_in}
use Rattle.linker.specs.Rounds.{Double, Walked}
use Rattle.linker.proofs.Standing.{tables_count}
use Rattle.linker.proofs.Walking.{lowest_row, walk_double, walk_below, walked_none, walked_few, walked_more, walked_back, walked_round}
use Rattle.linker.proofs.walk.Walk.find_rotation.Goals as goal
use Rattle.linker.proofs.walk.Walk.find_rotation.Goals.{In-Some}

pub loop-start-init : goal.loop-start-init
loop-start-init c =
    let ls = lists_in c.args.marks.now.tables in
    let low = lowest_row ls c.args.marks.now.tables.sound.legal c.args.marks.now.holder.now c.requires.lowered.way c.args.d c.requires.double c.requires.lowered.single in (
      (c.requires.door, c.requires.room),
      c.requires.lowered.ahead,
      (
        c.requires.lowered.way,
        low,
        walked_none ls c.args.marks.now.tables.sound.legal c.args.marks.now.holder.now c.requires.lowered.way c.args.d low c.args.self.now.sequence.now c.fill.new.self c.args.self.now.second.now
            (λ z. ap (λ l. get_or l z 65535) (c.fill.ensures.after (λ y e. e)) ∙ same_everywhere (length c.args.self.now.seen.now) 65535 z),
      ),
    )

pub loop-start-preserved : goal.loop-start-preserved
loop-start-preserved c =
    let ls = lists_in c.args.marks.now.tables in
    let law = c.args.marks.now.tables.sound.legal in
    let h = c.args.marks.now.holder.now in
    let i = c.loop-start.invariant in
    let w = i.2 in
    let s = c.onward-x.ensures in
    let n = tables_count c.args.marks.now.tables in
    let more : Walked ls w.0.1 c.args.d (c.loop-start.len + 1) c.onward-x.result c.put-in-loop-start.new.cells c.put.new.cells c.onward-x.new.second =
    rw (c.put.ensures, c.put-in-loop-start.ensures)
    (walked_more ls law h w.0 c.args.d w.1 c.loop-start.len c.loop-start.x c.loop-start.self.sequence.now c.loop-start.self.seen.now c.loop-start.self.second.now w.2 c.onward-x.new.second
    c.onward-x.result s.0 s.1 s.2 c.in_default.ensures (omega (arith, n, i.0.1, c.loop-start.self.sequence_room))
    (omega (arith, n, i.0.1, c.loop-start.self.seen_room)) s.3) in (
      (omega (arith, more.here, walk_below ls law h w.0 c.args.d w.1 (c.loop-start.len + 1), n), omega (arith, i.0.1)),
      s.3.ahead,
      (w.0, w.1, more),
    )

pub loop-start-smaller : goal.loop-start-smaller
loop-start-smaller c =
    let w = c.loop-start.invariant.2 in
    omega (
      arith,
      tables_count c.args.marks.now.tables,
      walked_few (lists_in c.args.marks.now.tables) c.args.marks.now.tables.sound.legal c.args.marks.now.holder.now w.0 c.args.d w.1 c.loop-start.len c.loop-start.x c.loop-start.self.sequence.now c.loop-start.self.seen.now
          c.loop-start.self.second.now w.2 c.in_default.ensures,
    )

pub onward-x-requires-clause-double : goal.onward-x-requires-clause-double
onward-x-requires-clause-double c =
    let ls = lists_in c.args.marks.now.tables in
    let w = c.loop-start.invariant.2 in
    subst (Double ls c.args.marks.now.holder.now) (sym w.2.here) (walk_double ls c.args.marks.now.tables.sound.legal c.args.marks.now.holder.now w.0 c.args.d w.1 c.loop-start.len)

-- the walk is at a door again
the_door : (c : In-Some) → get_or c.loop-start.self.seen.now c.loop-start.x 65535 ≡ 65535 → ⊥
the_door c i = let told : Told c.loop-start.self.seen.now c.loop-start.x (Some c.in-Some.start) = c.in-Some.ensures in told.1 (told.0 ∙ i)

pub returns-in-Some-clause-rotates : goal.returns-in-Some-clause-rotates
returns-in-Some-clause-rotates c =
    let l = c.loop-start in
    let w = l.invariant.2 in
    let told : Told l.self.seen.now l.x (Some c.in-Some.start) = c.in-Some.ensures in (
      w.0,
      c.args.d,
      c.in-Some.start,
      rw told.0
          (walked_round (lists_in c.args.marks.now.tables) c.args.marks.now.tables.sound.legal c.args.marks.now.holder.now w.0 c.args.d w.1 l.len l.x l.self.sequence.now l.self.seen.now l.self.second.now w.2
          (the_door (goal.at.returns-in-Some-clause-rotates c).In-Some) (omega (arith, tables_count c.args.marks.now.tables, l.invariant.0.1, l.self.sequence_room))),
    )

pub returns-in-Some-clause-ordered : goal.returns-in-Some-clause-ordered
returns-in-Some-clause-ordered c =
    let l = c.loop-start in
    let w = l.invariant.2 in
    let told : Told l.self.seen.now l.x (Some c.in-Some.start) = c.in-Some.ensures in
    omega (
      arith,
      told.0,
      (walked_back (lists_in c.args.marks.now.tables) c.args.marks.now.tables.sound.legal c.args.marks.now.holder.now w.0 c.args.d w.1 l.len l.x l.self.sequence.now l.self.seen.now l.self.second.now w.2
          (the_door (goal.at.returns-in-Some-clause-ordered c).In-Some)).0,
    )

pub returns-in-Some-clause-within : goal.returns-in-Some-clause-within
returns-in-Some-clause-within c =
    let i = c.loop-start.invariant in
    omega (arith, tables_count c.args.marks.now.tables, i.2.2.few, i.0.1, c.loop-start.self.sequence_room)
