-- Linkings of doors, blocking pairs and stability. Which pairs of doors may be linked is a test `pairs`: two doors that accept each
-- other, or only an exit and an entrance that do.
use Rattle.std.specs.Prelude.{◌≡◌, ℕ, ◌<◌, Bool, true, ◌&&◌, ◌||◌, ◌⊎◌, List, length, is_some, Some, ◌==◌, slice_index_or}
use Rattle.matching.specs.Lists.{row, place}

-- what stands in place of a partner where there is none
abbrev pub unlinked : ℕ
unlinked = 65535

-- door y is on the list of door x
unfoldable pub listed : List (List ℕ) → ℕ → ℕ → Bool
listed ls x y = is_some (place (row ls x) y)

-- two doors accept each other: each is on the other's list
unfoldable pub accept : List (List ℕ) → ℕ → ℕ → Bool
accept ls x y = listed ls x y && listed ls y x

-- the sides of the doors: 0 is an exit, 1 an entrance
unfoldable pub exit : List ℕ → ℕ → Bool
exit sides x = slice_index_or sides x 2 == 0

unfoldable pub entrance : List ℕ → ℕ → Bool
entrance sides x = slice_index_or sides x 2 == 1

-- the pairs that count one way: an exit and an entrance that accept each other
unfoldable pub counts_one_way : List (List ℕ) → List ℕ → ℕ → ℕ → Bool
counts_one_way ls sides x y = accept ls x y && (exit sides x && entrance sides y || entrance sides x && exit sides y)

-- the partner of door x in a linking written as a list: for each door its partner or `unlinked`
abbrev pub partner : List ℕ → ℕ → ℕ
partner m x = slice_index_or m x unlinked

-- a linking: an entry for each door; a door that has a partner may be linked with it, and is its partner's partner
pub record Linking (ls : List (List ℕ)) (pairs : ℕ → ℕ → Bool) (m : List ℕ) : Type 0 where
  pub size : length m ≡ length ls
  pub allowed : (x : ℕ) → (partner m x ≡ unlinked) ⊎ (pairs x (partner m x) ≡ true)
  pub returned : (x : ℕ) → (partner m x ≡ unlinked) ⊎ (partner m (partner m x) ≡ x)

-- door x prefers y to z: both are on its list, y before z
abbrev pub Prefers : List (List ℕ) → ℕ → ℕ → ℕ → Type 0
Prefers ls x y z = (j : ℕ) × (k : ℕ) × (place (row ls x) y ≡ Some j) × (place (row ls x) z ≡ Some k) × (j < k)

-- door x would leave its place in the linking for y: it has no partner, or prefers y to its partner
abbrev pub Tempted : List (List ℕ) → List ℕ → ℕ → ℕ → Type 0
Tempted ls m x y = (partner m x ≡ unlinked) ⊎ Prefers ls x y (partner m x)

-- a blocking pair of a linking: two doors that may be linked and are not, and each would rather be
pub record BlockingPair (ls : List (List ℕ)) (pairs : ℕ → ℕ → Bool) (m : List ℕ) (x y : ℕ) : Type 0 where
  pub allowed : pairs x y ≡ true
  pub apart : partner m x ≡ y → ⊥
  pub one : Tempted ls m x y
  pub other : Tempted ls m y x

-- a linking is stable when it has no blocking pair
abbrev pub Stable : List (List ℕ) → (ℕ → ℕ → Bool) → List ℕ → Type 0
Stable ls pairs m = (x y : ℕ) → BlockingPair ls pairs m x y → ⊥
