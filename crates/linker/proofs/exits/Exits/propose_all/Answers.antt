use Rattle.std.proofs.Common.{◌∙◌, sym, ap, arith}
use Rattle.matching.specs.Linkings.{exit}
use Rattle.linker.specs.Meanings.{lists_in}
use Rattle.linker.proofs.Standing.{tables_count}
use Rattle.linker.proofs.Proposed.{going_passes}
use Rattle.linker.proofs.exits.Exits.propose_all.Goals as goal
use Rattle.linker.proofs.exits.Exits.propose_all.Goals.{then-is_exit, else-is_exit}

pub loop-x-preserved : goal.loop-x-preserved
unfolding exit
loop-x-preserved c =
    let s = c.loop-x.self in
    elim c.if-is_exit.branch [
      | then-is_exit w ↦ rw w.self-is (w.propose_from.ensures.sided ∙ c.loop-x.invariant.0, w.propose_from.ensures.going)
      | else-is_exit w ↦ rw w.self-is (
        c.loop-x.invariant.0,
        going_passes (lists_in s.sided.tables) s.sided.sides.now s.sided.tables.sound.legal c.loop-x.x s.made s.next.now s.held.now c.loop-x.invariant.1
            (omega (arith, c.loop-x-test.true, tables_count s.sided.tables, ap (λ v. v.tables.count) c.loop-x.invariant.0)) (λ e. grind (arith, e, c.is_exit.ensures, w.if-is_exit.false)),
      )
    ]

pub propose_from-requires-clause-exit : goal.propose_from-requires-clause-exit
unfolding exit
propose_from-requires-clause-exit c = sym c.is_exit.ensures ∙ c.if-is_exit.true
