use Rattle.std.proofs.Common.{ℕ}
use Rattle.linker.specs.Meanings.{lists_in}
use Rattle.linker.specs.Holders.{ranks, lasts}
use Rattle.linker.specs.Rounds.{InRound, Cutting}
use Rattle.linker.proofs.marks.Marks.eliminate.Given as goal
use Rattle.matching.specs.Holders.{OnTheWay}

abbrev pub invariant-loop-a : goal.invariant-loop-a
invariant-loop-a l =
    (way : OnTheWay (lists_in l.tables) (ranks (lists_in l.tables)) (lasts l.initial.holder)) × (d : ℕ) × (from : ℕ) × InRound (lists_in l.tables) way.1 d from l.rotation.second.now l.rotation.doors.now
    × Cutting (lists_in l.tables) way.1 d from l.a-index l.initial.holder l.initial.first l.holder l.keep l.first
