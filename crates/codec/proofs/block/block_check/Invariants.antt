use Rattle.std.proofs.Common.{◌≡◌, ◌+◌, ◌*◌, ◌≤◌, length, drop}
use Rattle.codec.specs.Blocks.{weighed}
use Rattle.codec.proofs.block.block_check.Given as goal

-- what is counted and what is still to count make the whole
abbrev pub invariant-loop-i : goal.invariant-loop-i
invariant-loop-i l = record {
  few : length l.byte-items ≤ 510;
  whole : l.sum + weighed (l.i + 1) (drop l.i l.byte-items) ≡ weighed 1 l.byte-items;
  fits : l.sum ≤ l.i * 130050;
}
