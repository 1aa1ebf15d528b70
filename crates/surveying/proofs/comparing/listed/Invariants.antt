use Rattle.std.proofs.Common.{◌≡◌, ◌*◌, ◌≤◌, length, take, sum_by}
use Rattle.surveying.proofs.comparing.listed.Given as goal

abbrev pub invariant-loop-door : goal.invariant-loop-door
invariant-loop-door g l = record {
  sum : l.all ≡ sum_by length (take l.door (g.S.Source.lists l.source));
  small : l.all ≤ 96 * l.door;
}
