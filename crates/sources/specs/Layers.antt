-- What the layers over a source make of its lists.
use Rattle.std.specs.Prelude.{ℕ, List, map, take}

-- the first k doors of each list
abbrev pub reached : ℕ → List (List ℕ) → List (List ℕ)
reached k ls = map (take k) ls
