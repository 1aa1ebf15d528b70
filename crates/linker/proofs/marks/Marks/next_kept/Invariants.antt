use Rattle.std.proofs.Common.{ℕ, ◌≤◌}
use Rattle.linker.specs.Holders.{ranks, Still}
use Rattle.linker.specs.Meanings.{lists_in}
use Rattle.linker.proofs.marks.Marks.next_kept.Given as goal

abbrev pub invariant-loop-k : goal.invariant-loop-k
invariant-loop-k l = (y : ℕ) → Still (lists_in l.self.tables) l.self.keep.now l.x y → l.start ≤ ranks (lists_in l.self.tables) l.x y → l.k ≤ ranks (lists_in l.self.tables) l.x y
