-- Tables by their holders: for each door the last door on its list, while proposals and eliminations are under way.
use Rattle.std.specs.Prelude.{◌≡◌, ℕ, zero, suc, ◌+◌, ◌<◌, ◌≤◌, Bool, true, cond, ◌⊎◌, List, [], ◌∷◌, length, slice_index_or}
use Rattle.matching.specs.Lists.{row, rank}
use Rattle.matching.specs.Linkings.{unlinked, partner}
use Rattle.matching.specs.Ranks.{Links, Unblocked, On, Within}
use Rattle.matching.specs.Settled.{Settled, StableWithin}
use Rattle.matching.specs.TwoWay.{Leads, Reduces}

-- ranks by places on the lists as they are
unfoldable pub row_rank : List (List ℕ) → (ℕ → ℕ → Bool) → ℕ → ℕ → ℕ
row_rank ls pairs x y = cond (pairs x y) (rank (row ls x) y) (length (row ls x))

-- the sum of v over the numbers below n
unfoldable pub total : (ℕ → ℕ) → ℕ → ℕ
total v zero = 0
total v (suc n) = v n + total v n

-- y is the first door on x's list in the table of the holders g
abbrev pub First : (ℕ → ℕ → ℕ) → (ℕ → ℕ) → ℕ → ℕ → Type 0
First r g x y = On r g x y × ((z : ℕ) → On r g x z → r x y ≤ r x z)

-- every door holds nobody, or a door that has it first
abbrev pub Holding : (ℕ → ℕ → ℕ) → (ℕ → ℕ) → Type 0
Holding r g = (y : ℕ) → (g y ≡ y) ⊎ First r g (g y) y

-- proposals of the doors that may propose have ended: such a door with a door on its list is held by somebody
abbrev pub Ended : (ℕ → ℕ → ℕ) → (ℕ → Bool) → (ℕ → ℕ) → Type 0
Ended r p g = (x y : ℕ) → p x ≡ true → On r g x y → (q : ℕ) × (g q ≡ x) × (q ≡ x → ⊥)

-- everybody may propose
abbrev pub anyone : ℕ → Bool
anyone x = true

-- y is on the list
abbrev pub In : ℕ → List ℕ → Type 0
In y [] = ⊥
In y (z ∷ l) = (z ≡ y) ⊎ In y l

-- the values of v rise along the list
abbrev pub Rises : (ℕ → ℕ) → List ℕ → Type 0
Rises v [] = Unit {0}
Rises v (y ∷ l) = ((z : ℕ) → In z l → v y < v z) × Rises v l

-- the row of x in the table of the holders g: the doors on its list, in the order of their ranks
pub record RowOf (r : ℕ → ℕ → ℕ) (g : ℕ → ℕ) (x : ℕ) (l : List ℕ) : Type 0 where
  pub on : (y : ℕ) → In y l → On r g x y
  pub all : (y : ℕ) → On r g x y → In y l
  pub rises : Rises (r x) l

-- the table of the holders g
abbrev pub TableOf : (ℕ → ℕ → ℕ) → (ℕ → ℕ) → List (List ℕ) → Type 0
TableOf r g T = (x : ℕ) → RowOf r g x (row T x)

-- the first door on a row; the door itself where there is none
abbrev pub first : List (List ℕ) → ℕ → ℕ
first T x = slice_index_or (row T x) 0 x

-- the list m writes down the function g: a door's entry is its partner, or `unlinked` where it is its own
abbrev pub Writes : (ℕ → ℕ) → List ℕ → Type 0
Writes g m = (x : ℕ) → ((g x ≡ x) × (partner m x ≡ unlinked)) ⊎ ((g x ≡ x → ⊥) × (partner m x ≡ g x) × (g x ≡ unlinked → ⊥))

-- the holders g of a table T with the proposals held: the rows are those of g, and g has room for every stable linking and for every table in which proposals have ended
pub record Stands (ls : List (List ℕ)) (r : ℕ → ℕ → ℕ) (T : List (List ℕ)) (held : List ℕ) (g : ℕ → ℕ) : Type 0 where
  pub rows : TableOf r g T
  pub size : length T ≡ length ls
  pub writes : Writes g held
  pub long : length held ≡ length ls
  pub holding : Holding r g
  pub room : (m : ℕ → ℕ) → Links r m → Unblocked r m → Within r g m
  pub above : (e : ℕ → ℕ) → Holding r e → Ended r anyone e → (x : ℕ) → r x (e x) ≤ r x (g x)

-- a table on the way, by its holders: it is settled, and if a linking is stable, one within the table is
pub record Reduced (ls : List (List ℕ)) (r : ℕ → ℕ → ℕ) (T : List (List ℕ)) (g : ℕ → ℕ) : Type 0 where
  pub rows : TableOf r g T
  pub size : length T ≡ length ls
  pub settled : Settled r g (first T)
  pub room : (m : ℕ → ℕ) → Links r m → Unblocked r m → (t : ℕ → ℕ) × StableWithin r g t

-- g are the holders after some proposals
abbrev pub Underway : List (List ℕ) → (ℕ → ℕ → ℕ) → (ℕ → ℕ) → Type 0
Underway ls r g = (j : ℕ) × (T : List (List ℕ)) × (held : List ℕ) × Leads ls j T held × Stands ls r T held g

-- g are the last doors of a table after the proposals and some eliminations
abbrev pub OnTheWay : List (List ℕ) → (ℕ → ℕ → ℕ) → (ℕ → ℕ) → Type 0
OnTheWay ls r g = (j : ℕ) × (T : List (List ℕ)) × Reduces ls j T × Reduced ls r T g
