use Rattle.std.proofs.Common.{◌≡◌, ℕ, ◌<◌, ◌≤◌, false, get_or}
use Rattle.matching.specs.Lists.{row}
use Rattle.matching.specs.Linkings.{counts_one_way}
use Rattle.linker.specs.Meanings.{lists_in}
use Rattle.linker.proofs.exits.Sided.next_place.Given as goal

abbrev pub invariant-loop-k : goal.invariant-loop-k
invariant-loop-k l =
    (i : ℕ) → l.start ≤ i → i < l.k → counts_one_way (lists_in l.self.tables) l.self.sides.now l.x (get_or (row (lists_in l.self.tables) l.x) i 0) ≡ false
