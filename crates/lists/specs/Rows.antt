-- What a row means.
use Rattle.std.specs.Prelude.{ℕ, List}
use Rattle.lists.specs.declared.row.Row.{Row}

-- the list that a row holds
abbrev pub row_list : Row → List ℕ
row_list w = w.items.items
