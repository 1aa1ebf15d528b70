use Rattle.std.proofs.Common.{◌≡◌, ◌+◌, ◌*◌, length}
use Rattle.codec.proofs.BakeLoop.{BakedTo}
use Rattle.sources.proofs.baking.bake.Given as goal

abbrev pub invariant-loop-door : goal.invariant-loop-door
invariant-loop-door g l = (length l.out ≡ 512 * (length (g.S.Source.lists l.source) + 1)) × BakedTo l.door (g.S.Source.lists l.source) l.out
