use Rattle.std.proofs.Common.{◌≡◌, ℕ, ◌<◌}
use Rattle.linker.specs.Meanings.{lists_in}
use Rattle.linker.specs.Holders.{ranks, lasts, Settles}
use Rattle.linker.proofs.marks.Marks.propose_all.Given as goal
use Rattle.matching.specs.Holders.{Underway}

abbrev pub invariant-loop-p : goal.invariant-loop-p
invariant-loop-p l =
    (l.self.tables ≡ l.initial.self.tables) × Underway (lists_in l.self.tables) (ranks (lists_in l.self.tables)) (lasts l.self.holder.now)
    × ((z : ℕ) → z < l.p → Settles (lists_in l.self.tables) l.self.holder.now z)
