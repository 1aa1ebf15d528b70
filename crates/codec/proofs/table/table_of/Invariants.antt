use Rattle.std.proofs.Common.{◌≡◌, ℕ, suc, ◌<◌, length}
use Rattle.lists.specs.Tables.{lists}
use Rattle.matching.specs.Lists.{row}
use Rattle.codec.specs.Blocks.{block_of, list_in}
use Rattle.codec.proofs.table.table_of.Given as goal

-- the lists of the doors so far are read
abbrev pub invariant-loop-i : goal.invariant-loop-i
invariant-loop-i l = record {
  count : length (lists l.table) ≡ l.n;
  read : (e : ℕ) → e < l.i → row (lists l.table) e ≡ list_in (block_of l.bytes (suc e));
}
