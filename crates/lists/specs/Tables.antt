-- What a table of lists means.
use Rattle.std.specs.Prelude.{ℕ, List, map, take}
use Rattle.lists.specs.declared.table.ListTable.{ListTable}
use Rattle.lists.specs.Rows.{row_list}

-- the lists of the doors, in order
abbrev pub lists : ListTable → List (List ℕ)
lists t = take t.count (map row_list t.rows)
