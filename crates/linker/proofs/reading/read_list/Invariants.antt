use Rattle.std.proofs.Common.{◌≡◌, take}
use Rattle.matching.specs.Lists.{row}
use Rattle.linker.specs.Tables.{ListRead}
use Rattle.linker.proofs.reading.read_list.Given as goal

abbrev pub invariant-loop-y : goal.invariant-loop-y
invariant-loop-y g l =
    ListRead (row (g.S.Source.lists l.source) l.x) l.base l.y l.lists l.places
    × (take l.base l.lists ≡ take l.base l.initial.lists) × (take l.base l.places ≡ take l.base l.initial.places)
