use Rattle.std.proofs.Common.{◌≡◌, ℕ, ◌<◌, ◌⊎◌}
use Rattle.linker.specs.Meanings.{lists_in}
use Rattle.linker.specs.Holders.{ranks, lasts, Settles, height}
use Rattle.linker.proofs.marks.Marks.propose_from.Given as goal
use Rattle.matching.specs.Holders.{Underway}

abbrev pub invariant-loop-next : goal.invariant-loop-next
invariant-loop-next l =
    (l.self.tables ≡ l.initial.self.tables) × (l.x < l.initial.self.tables.count)
    × Underway (lists_in l.initial.self.tables) (ranks (lists_in l.initial.self.tables)) (lasts l.self.holder.now)
    × ((z : ℕ) → (z ≡ l.p) ⊎ Settles (lists_in l.initial.self.tables) l.initial.self.holder.now z → (z ≡ l.x) ⊎ Settles (lists_in l.initial.self.tables) l.self.holder.now z)

abbrev pub decreases-loop-next : goal.decreases-loop-next
decreases-loop-next l = height (lists_in l.initial.self.tables) l.self.holder.now
