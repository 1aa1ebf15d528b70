-- Linking by proposals of all doors and by rotations, on tables: a table has a row for each door, with the doors that are still on its
-- list, the most wanted first.
use Rattle.std.specs.Prelude.{◌≡◌, ℕ, zero, suc, ◌-◌, ◌<◌, ◌≤◌, true, ◌⊎◌, List, [], ◌∷◌, length, replicate, Some, None, Option, ◌≢◌, slice_index_or, slice_set}
use Rattle.matching.specs.Lists.{row}
use Rattle.matching.specs.Linkings.{unlinked, listed, accept, partner, Prefers, Linking, BlockingPair, Stable}
use Rattle.matching.specs.Proposals.{trimmed}
use Rattle.matching.specs.Rotations.{ComesAgain}

-- l' is the list l without the doors that leave, the others in their order
abbrev pub Without : (ℕ → Type 0) → List ℕ → List ℕ → Type 0
Without Leaves [] l' = l' ≡ []
Without Leaves (y ∷ l) l' = (Leaves y × Without Leaves l l') ⊎ ((Leaves y → ⊥) × ((rest : List ℕ) × (l' ≡ y ∷ rest) × Without Leaves l rest))

-- T' is the table T after the pairs that part have left each other's rows
pub record Parted (Parts : ℕ → ℕ → Type 0) (T T' : List (List ℕ)) : Type 0 where
  pub size : length T' ≡ length T
  pub rows : (x : ℕ) → Without (λ y. Parts x y ⊎ Parts y x) (row T x) (row T' x)

-- the table at the start: the lists of all doors, trimmed to the doors that accept them
pub record Trimmed (ls T : List (List ℕ)) : Type 0 where
  pub size : length T ≡ length ls
  pub rows : (x : ℕ) → row T x ≡ trimmed ls (accept ls) x

-- A proposal: door x, whom nobody holds, proposes to the first door y on its row. Then y holds x, and y and every door that comes
-- after x on y's row are off each other's rows. The proposals held are a list: for each door the one that it holds, or `unlinked`
pub record Proposes (T : List (List ℕ)) (held : List ℕ) (x y : ℕ) (T' : List (List ℕ)) (held' : List ℕ) : Type 0 where
  pub free : (z : ℕ) → partner held z ≢ x
  pub first : (rest : List ℕ) × (row T x ≡ y ∷ rest)
  pub holds : held' ≡ slice_set held y x
  pub parts : Parted (λ u v. (u ≡ y) × Prefers T y x v) T T'

-- k proposals, one after the other by any doors, lead from the trimmed lists of ls to the table T with the proposals held
abbrev pub Leads : List (List ℕ) → ℕ → List (List ℕ) → List ℕ → Type 0
Leads ls zero T held = Trimmed ls T × (held ≡ replicate (length ls) unlinked)
Leads ls (suc k) T' held' = (T : List (List ℕ)) × (held : List ℕ) × (x : ℕ) × (y : ℕ) × Leads ls k T held × Proposes T held x y T' held'

-- proposals have finished in the table T: every door with a door on its row is held by somebody
abbrev pub Finish : List (List ℕ) → List (List ℕ) → Type 0
Finish ls T = (k : ℕ) × (held : List ℕ) × Leads ls k T held × ((x : ℕ) → (row T x ≡ []) ⊎ ((y : ℕ) × (partner held y ≡ x)))

-- the second door on x's row; x itself where there is none
abbrev pub second : List (List ℕ) → ℕ → ℕ
second T x = slice_index_or (row T x) 1 x

-- the last door on x's row; x itself where the row is empty
abbrev pub last : List (List ℕ) → ℕ → ℕ
last T x = slice_index_or (row T x) (length (row T x) - 1) x

-- d is the lowest door with two doors or more on its row
abbrev pub Lowest : List (List ℕ) → ℕ → Type 0
Lowest T d = (2 ≤ length (row T d)) × ((x : ℕ) → x < d → length (row T x) < 2)

-- from door d to the last on the row of its second, and so on
unfoldable pub walk : List (List ℕ) → ℕ → ℕ → ℕ
walk T d zero = d
walk T d (suc i) = last T (second T (walk T d i))

-- The rotation from the lowest door with two or more, eliminated: its doors are those of the walk that come again. For each such door
-- a, whose second is u, the doors after a on u's row and u are off each other's rows, all as read in the table before
abbrev pub Eliminates : List (List ℕ) → List (List ℕ) → Type 0
Eliminates T T' = (d : ℕ) × Lowest T d × Parted (λ u v. (a : ℕ) × ComesAgain (walk T d) a × (second T a ≡ u) × Prefers T u a v) T T'

-- a row that had a door has none
abbrev pub Empties : List (List ℕ) → List (List ℕ) → Type 0
Empties T T' = (x : ℕ) × (row T x ≢ []) × (row T' x ≡ [])

-- k eliminations, none of which empties a row, lead from the table in which proposals have finished to T
abbrev pub Reduces : List (List ℕ) → ℕ → List (List ℕ) → Type 0
Reduces ls zero T = Finish ls T
Reduces ls (suc k) T' = (T : List (List ℕ)) × Reduces ls k T × Eliminates T T' × (Empties T T' → ⊥)

-- m links every door with the one door on its row
pub record LinksRows (T : List (List ℕ)) (m : List ℕ) : Type 0 where
  pub size : length m ≡ length T
  pub single : (x : ℕ) → length (row T x) < 2
  pub partners : (x : ℕ) → partner m x ≡ slice_index_or (row T x) 0 unlinked

-- What comes of it: nothing, when an elimination empties a row; otherwise, when no row has two doors, the linking of the rows
abbrev pub Outcome : List (List ℕ) → Option (List ℕ) → Type 0
Outcome ls None = (k : ℕ) × (T : List (List ℕ)) × (T' : List (List ℕ)) × Reduces ls k T × Eliminates T T' × Empties T T'
Outcome ls (Some m) = (k : ℕ) × (T : List (List ℕ)) × Reduces ls k T × LinksRows T m

-- every partner in the linking m is on its door's row in the table T
abbrev pub Inside : List (List ℕ) → List ℕ → Type 0
Inside T m = (x : ℕ) → (partner m x ≡ unlinked) ⊎ (listed T x (partner m x) ≡ true)

-- Proposals, whoever proposes when, finish in one table. Every stable linking is inside it
pub record ProposalsAgree (ls : List (List ℕ)) : Type 0 where
  pub finish : (T : List (List ℕ)) × Finish ls T
  pub one : (T U : List (List ℕ)) → Finish ls T → Finish ls U → T ≡ U
  pub inside : (T : List (List ℕ)) (m : List ℕ) → Finish ls T → Linking ls (accept ls) m → Stable ls (accept ls) m → Inside T m

-- Some stable linking stays: if any is stable, then after any eliminations one that is stable is inside the table
abbrev pub SomeStays : List (List ℕ) → Type 0
SomeStays ls =
    (k : ℕ) (T : List (List ℕ)) (m : List ℕ) → Reduces ls k T → Linking ls (accept ls) m → Stable ls (accept ls) m →
    (m' : List ℕ) × Linking ls (accept ls) m' × Stable ls (accept ls) m' × Inside T m'

-- The theorem of two-way linking: there is one outcome. It is a stable linking over the lists, or nothing; nothing exactly where every
-- linking over the lists has a blocking pair
pub record TwoWayDecides (ls : List (List ℕ)) : Type 0 where
  pub some : (a : Option (List ℕ)) × Outcome ls a
  pub one : (a b : Option (List ℕ)) → Outcome ls a → Outcome ls b → a ≡ b
  pub linking : (m : List ℕ) → Outcome ls (Some m) → Linking ls (accept ls) m
  pub stable : (m : List ℕ) → Outcome ls (Some m) → Stable ls (accept ls) m
  pub blocked : Outcome ls None → (m : List ℕ) → Linking ls (accept ls) m → (x : ℕ) × (y : ℕ) × BlockingPair ls (accept ls) m x y
  pub nothing : ((m : List ℕ) → Linking ls (accept ls) m → Stable ls (accept ls) m → ⊥) → Outcome ls None
