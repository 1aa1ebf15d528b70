use Rattle.std.proofs.Common.{◌≡◌, ◌-◌, ◌<◌, length}
use Rattle.matching.specs.TwoWay.{Lowest}
use Rattle.matching.specs.Holders.{OnTheWay}
use Rattle.linker.specs.Meanings.{lists_in}
use Rattle.linker.specs.Holders.{ranks, lasts}
use Rattle.linker.specs.Rounds.{Ahead, Walked}
use Rattle.linker.proofs.walk.Walk.find_rotation.Given as goal

abbrev pub invariant-loop-start : goal.invariant-loop-start
invariant-loop-start l =
    ((l.x < l.marks.tables.count) × (length l.self.second.now ≡ l.marks.tables.count)) × Ahead (lists_in l.marks.tables) l.marks.holder.now l.self.second.now
    × ((way : OnTheWay (lists_in l.marks.tables) (ranks (lists_in l.marks.tables)) (lasts l.marks.holder.now)) × Lowest way.1 l.d
    × Walked (lists_in l.marks.tables) way.1 l.d l.len l.x l.self.sequence.now l.self.seen.now l.self.second.now)

abbrev pub decreases-loop-start : goal.decreases-loop-start
decreases-loop-start l = l.marks.tables.count - l.len
