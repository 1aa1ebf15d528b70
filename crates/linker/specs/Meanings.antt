-- What the tables that a linker works on mean.
use Rattle.std.specs.Prelude.{ℕ, List}
use Rattle.linker.specs.Tables.{tabled}
use Rattle.linker.specs.declared.tables.Tables.{Tables}

-- the lists that tables hold
abbrev pub lists_in : Tables → List (List ℕ)
lists_in t = tabled t.count t.lists.now t.sizes.now
