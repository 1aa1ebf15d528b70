-- How the linkers write lists down in lent memory: in tables of one row for each door, row after row.
use Rattle.std.specs.Prelude.{◌≡◌, ℕ, ◌+◌, ◌*◌, ◌<◌, List, map, length, take, drop, Some, None, Option, ◌≢◌, slice_index, slice_index_or}
use Rattle.std.specs.List.{range_with_len}
use Rattle.matching.specs.Lists.{Lawful, row, place}

-- a place as one number: 65535 stands for a door that is not listed
abbrev pub mark : Option ℕ → ℕ
mark None = 65535
mark (Some p) = p

-- what cell i of lent memory tells: nothing where it has 65535, or where there is no such cell
abbrev pub Told : List ℕ → ℕ → Option ℕ → Type 0
Told cells i (Some v) = (v ≡ slice_index_or cells i 65535) × (v ≢ 65535)
Told cells i None = slice_index_or cells i 65535 ≡ 65535

-- the doors below d are written down: their lists door by door, the place of every door on them, and their sizes
pub record ReadTo (ls : List (List ℕ)) (d : ℕ) (lists places sizes : List ℕ) : Type 0 where
  pub listed : (x k : ℕ) → x < d → k < length (row ls x) → slice_index lists (x * length ls + k) ≡ slice_index (row ls x) k
  pub placed : (x y : ℕ) → x < d → y < length ls → slice_index places (x * length ls + y) ≡ mark (place (row ls x) y)
  pub sized : (x : ℕ) → x < d → slice_index sizes x ≡ length (row ls x)

-- all lists are written down
abbrev pub Holds : List (List ℕ) → List ℕ → List ℕ → List ℕ → Type 0
Holds ls lists places sizes = ReadTo ls (length ls) lists places sizes

-- one list of n doors is written down from the place `base` on, as far as the doors below y go
pub record ListRead (l : List ℕ) (base y : ℕ) (lists places : List ℕ) : Type 0 where
  pub listed : (k : ℕ) → k < length l → slice_index l k < y → slice_index lists (base + k) ≡ slice_index l k
  pub placed : (z : ℕ) → z < y → slice_index places (base + z) ≡ mark (place l z)

-- the list of door x in tables of n doors
abbrev pub table_row : ℕ → List ℕ → List ℕ → ℕ → List ℕ
table_row n lists sizes x = take (slice_index sizes x) (drop (x * n) lists)

-- the lists that tables of n doors hold
unfoldable pub tabled : ℕ → List ℕ → List ℕ → List (List ℕ)
tabled n lists sizes = map (table_row n lists sizes) (range_with_len 0 n)

-- tables of n doors hold lawful lists, with the right places
pub record Sound (n : ℕ) (lists places sizes : List ℕ) : Type 0 where
  pub legal : Lawful (tabled n lists sizes)
  pub holds : Holds (tabled n lists sizes) lists places sizes
