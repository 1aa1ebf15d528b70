-- What the two-way linker keeps of a table: for each door the last door on its list, the place of that door, and places that nothing
-- on the list comes before.
use Rattle.std.specs.Prelude.{◌≡◌, ℕ, ◌<◌, ◌≤◌, ◌⊎◌, List, length, Some, None, Option, ◌≢◌, slice_index, slice_index_or}
use Rattle.matching.specs.Lists.{row}
use Rattle.matching.specs.Linkings.{accept}
use Rattle.matching.specs.Ranks.{On}
use Rattle.matching.specs.Settled.{Empty}
use Rattle.matching.specs.Holders.{row_rank, total, Underway}

-- the rank of one door for another: its place on the list where the two accept each other, otherwise the list's length
abbrev pub ranks : List (List ℕ) → ℕ → ℕ → ℕ
ranks ls = row_rank ls (accept ls)

-- the last doors on the lists as an array has them; a door is its own last while it holds no proposal
abbrev pub lasts : List ℕ → ℕ → ℕ
lasts holder x = slice_index_or holder x x

-- y is still on the list of x, and x on that of y
abbrev pub Remains : List (List ℕ) → List ℕ → ℕ → ℕ → Type 0
Remains ls holder = On (ranks ls) (lasts holder)

-- the same by the places of the last doors
abbrev pub Still : List (List ℕ) → List ℕ → ℕ → ℕ → Type 0
Still ls keep x y = (ranks ls x y < ranks ls x x) × (ranks ls x y ≤ slice_index keep x) × (ranks ls y x ≤ slice_index keep y)

-- the next place, from k on, of a door that is still on the list of x
abbrev pub NextKept : List (List ℕ) → List ℕ → ℕ → ℕ → Option ℕ → Type 0
NextKept ls keep x k (Some j) =
    (k ≤ j) × (j < length (row ls x)) × Still ls keep x (slice_index (row ls x) j) × (ranks ls x (slice_index (row ls x) j) ≡ j)
    × ((y : ℕ) → Still ls keep x y → k ≤ ranks ls x y → j ≤ ranks ls x y)
NextKept ls keep x k None = (y : ℕ) → Still ls keep x y → k ≤ ranks ls x y → ⊥

-- `keep` has the places of the last doors, and nothing on a list comes before its place in `first`
pub record Marked (ls : List (List ℕ)) (holder keep first : List ℕ) : Type 0 where
  pub doors : length holder ≡ length ls
  pub marks : length keep ≡ length ls
  pub begun : length first ≡ length ls
  pub placed : (x : ℕ) → x < length ls → slice_index keep x ≡ ranks ls x (lasts holder x)
  pub behind : (x y : ℕ) → Remains ls holder x y → slice_index first x ≤ ranks ls x y

-- nobody is on the list of z, or somebody holds z
abbrev pub Settles : List (List ℕ) → List ℕ → ℕ → Type 0
Settles ls holder z = Empty (ranks ls) (lasts holder) z ⊎ ((y : ℕ) × (lasts holder y ≡ z) × (y ≢ z))

-- how far there is to go: the ranks of the last doors together
abbrev pub height : List (List ℕ) → List ℕ → ℕ
height ls holder = total (λ z. ranks ls z (lasts holder z)) (length ls)

-- who proposes next, if anybody: a door of the level, and there is less to go
abbrev pub Goes : List (List ℕ) → List ℕ → List ℕ → Option ℕ → Type 0
Goes ls holder holder' (Some w) = (w < length ls) × (height ls holder' < height ls holder)
Goes ls holder holder' None = Unit {0}

-- after a proposal of door x: x and whoever was settled is, but the one that goes next
pub record Proposed (ls : List (List ℕ)) (x : ℕ) (holder holder' keep' first' : List ℕ) (next : Option ℕ) : Type 0 where
  pub marked : Marked ls holder' keep' first'
  pub under : Underway ls (ranks ls) (lasts holder')
  pub settles : (z : ℕ) → (z ≡ x) ⊎ Settles ls holder z → next ≢ Some z → Settles ls holder' z
  pub goes : Goes ls holder holder' next
