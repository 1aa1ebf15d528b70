use Rattle.std.proofs.Common.{◌≡◌, ◌≤◌, take}
use Rattle.arrayvec.specs.ArrayVec.{array_vec_len}
use Rattle.matching.specs.Lists.{without}
use Rattle.lists.proofs.row.Row.without.Given as goal

abbrev pub invariant-loop-door : goal.invariant-loop-door
invariant-loop-door l = record {
  near : array_vec_len l.rest ≤ l.door-index;
  copied : l.rest.items ≡ without l.other (take l.door-index l.door-items);
}
