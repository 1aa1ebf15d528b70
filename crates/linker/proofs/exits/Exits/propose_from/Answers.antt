use Rattle.std.proofs.Common.{◌+◌, Some, refl, arith}
use Rattle.linker.specs.Meanings.{lists_in}
use Rattle.linker.proofs.Standing.{tables_count}
use Rattle.linker.proofs.Proposed.{going_few, going_begins}
use Rattle.linker.proofs.exits.Exits.propose_from.Goals as goal

pub loop-next-init : goal.loop-next-init
loop-next-init c =
    let s = c.args.self.now in (
      refl,
      going_begins (lists_in s.sided.tables) s.sided.sides.now s.sided.tables.sound.legal c.args.first s.made s.next.now s.held.now c.requires.going
          (omega (arith, c.requires.door, tables_count s.sided.tables)) c.requires.exit,
    )

pub loop-next-smaller : goal.loop-next-smaller
loop-next-smaller c =
    let s = c.propose.new.self in
    omega (
      arith,
      c.in-Some.ensures.counted c.in-Some.next refl,
      going_few (lists_in s.sided.tables) s.sided.sides.now s.sided.tables.sound.legal (c.args.first + 1) (Some c.in-Some.next) s.made s.next.now s.held.now
          (c.in-Some.ensures.going (c.args.first + 1) c.loop-next.invariant.1),
    )
