-- Rotations as the two-way linker finds and eliminates them.
use Rattle.std.specs.Prelude.{◌≡◌, ℕ, ◌+◌, ◌<◌, ◌≤◌, Bool, true, false, ◌⊎◌, List, length, None, Ok, Err, Result, ◌≢◌, slice_index, slice_index_or}
use Rattle.matching.specs.Rotations.{Eliminated, PartMoved}
use Rattle.matching.specs.TwoWay.{Lowest, second, walk, Outcome}
use Rattle.matching.specs.Holders.{First, OnTheWay}
use Rattle.linker.specs.declared.marks.Emptied.{Emptied}
use Rattle.linker.specs.Holders.{ranks, lasts, Remains, Marked, height}

-- one door at most is on the list of x
abbrev pub Single : List (List ℕ) → List ℕ → ℕ → Type 0
Single ls holder x = (y z : ℕ) → Remains ls holder x y → Remains ls holder x z → y ≡ z

-- two doors are on the list of x
abbrev pub Double : List (List ℕ) → List ℕ → ℕ → Type 0
Double ls holder x = (y : ℕ) × (z : ℕ) × Remains ls holder x y × Remains ls holder x z × (ranks ls x y < ranks ls x z)

-- whether two doors or more are on the list of x
abbrev pub HasTwo : List (List ℕ) → List ℕ → ℕ → Bool → Type 0
HasTwo ls holder x true = Double ls holder x
HasTwo ls holder x false = Single ls holder x

-- what comes after the first on a list does not come before its place in `seconds`
abbrev pub Ahead : List (List ℕ) → List ℕ → List ℕ → Type 0
Ahead ls holder seconds = (x y z : ℕ) → Remains ls holder x y → Remains ls holder x z → ranks ls x y < ranks ls x z → slice_index seconds x ≤ ranks ls x z

-- y is the second on the list of x, after the first f
pub record SecondOn (ls : List (List ℕ)) (holder : List ℕ) (x f y : ℕ) : Type 0 where
  pub first : First (ranks ls) (lasts holder) x f
  pub listed : Remains ls holder x y
  pub after : ranks ls x f < ranks ls x y
  pub least : (z : ℕ) → Remains ls holder x z → ranks ls x f < ranks ls x z → ranks ls x y ≤ ranks ls x z

-- a step from door x to the last door on the list of its second: `seconds` learns the second's place
pub record Stepped (ls : List (List ℕ)) (holder : List ℕ) (x : ℕ) (seconds seconds' : List ℕ) (next f y at : ℕ) : Type 0 where
  pub found : SecondOn ls holder x f y
  pub onward : next ≡ lasts holder y
  pub placed : at ≡ ranks ls x y
  pub learnt : slice_index seconds' x ≡ at
  pub others : (z : ℕ) → z ≢ x → slice_index seconds' z ≡ slice_index seconds z
  pub ahead : Ahead ls holder seconds'

-- `len` steps of the walk from d in the table T led to x: the doors passed are in the sequence, `seen` has when each was passed, and
-- `seconds` the place of its second
pub record Walked (ls T : List (List ℕ)) (d len x : ℕ) (sequence seen seconds : List ℕ) : Type 0 where
  pub here : x ≡ walk T d len
  pub few : len ≤ length ls
  pub doors : (i : ℕ) → i < len → slice_index sequence i ≡ walk T d i
  pub noted : (i : ℕ) → i < len → slice_index_or seen (walk T d i) 65535 ≡ i
  pub fresh : (z : ℕ) → (slice_index_or seen z 65535 ≡ 65535) ⊎ ((slice_index_or seen z 65535 < len) × (walk T d (slice_index_or seen z 65535) ≡ z))
  pub places : (i : ℕ) → i < len → slice_index seconds (walk T d i) ≡ ranks ls (walk T d i) (second T (walk T d i))

-- the rotation from the lowest door d with two or more: the doors of the walk from place `from` on, until they come again
pub record InRound (ls T : List (List ℕ)) (d from : ℕ) (seconds rotation : List ℕ) : Type 0 where
  pub low : Lowest T d
  pub some : 0 < length rotation
  pub back : walk T d (from + length rotation) ≡ walk T d from
  pub doors : (i : ℕ) → i < length rotation → slice_index rotation i ≡ walk T d (from + i)
  pub places : (i : ℕ) → i < length rotation → slice_index seconds (walk T d (from + i)) ≡ ranks ls (walk T d (from + i)) (second T (walk T d (from + i)))

-- a rotation of the table with these last doors
abbrev pub Rotates : List (List ℕ) → List ℕ → List ℕ → List ℕ → Type 0
Rotates ls holder seconds rotation = (way : OnTheWay ls (ranks ls) (lasts holder)) × (d : ℕ) × (from : ℕ) × InRound ls way.1 d from seconds rotation

-- the first j doors of the rotation are the last on the lists of their seconds, and their seconds the first on theirs; the rest is as it was
pub record Cutting (ls T : List (List ℕ)) (d from j : ℕ) (holder first holder' keep' first' : List ℕ) : Type 0 where
  pub doors : length holder' ≡ length ls
  pub marks : length keep' ≡ length ls
  pub begun : length first' ≡ length ls
  pub placed : (x : ℕ) → x < length ls → slice_index keep' x ≡ ranks ls x (lasts holder' x)
  pub ends : PartMoved (lasts holder) (λ i. second T (walk T d (from + i))) (λ i. walk T d (from + i)) j (lasts holder')
  pub begins : PartMoved (λ x. slice_index first x) (λ i. walk T d (from + i)) (λ i. ranks ls (walk T d (from + i)) (second T (walk T d (from + i)))) j (λ x. slice_index first' x)

-- and the last doors after its elimination
abbrev pub Cut : List (List ℕ) → List ℕ → List ℕ → List ℕ → List ℕ → Type 0
Cut ls holder holder' seconds rotation =
    (way : OnTheWay ls (ranks ls) (lasts holder)) × (d : ℕ) × (from : ℕ) × InRound ls way.1 d from seconds rotation
    × Eliminated (lasts holder) (second way.1) (λ i. walk way.1 d (from + i)) (lasts holder')

-- whether each door of a rotation has its second on its list
abbrev pub Keeps : List ℕ → List ℕ → List ℕ → Result (Unit {0}) Emptied → Type 0
Keeps rotation seconds keep (Ok _) = (i : ℕ) → i < length rotation → slice_index seconds (slice_index rotation i) ≤ slice_index keep (slice_index rotation i)
Keeps rotation seconds keep (Err _) = (i : ℕ) × (i < length rotation) × (slice_index keep (slice_index rotation i) < slice_index seconds (slice_index rotation i))

-- a table on the way, with one door at most on the lists of the doors below d
pub record Lowered (ls : List (List ℕ)) (d : ℕ) (holder keep first seconds : List ℕ) : Type 0 where
  pub marked : Marked ls holder keep first
  pub way : OnTheWay ls (ranks ls) (lasts holder)
  pub ahead : Ahead ls holder seconds
  pub single : (x : ℕ) → x < d → Single ls holder x

-- either that, or an elimination emptied a list
abbrev pub LoweredTo : List (List ℕ) → ℕ → List ℕ → List ℕ → List ℕ → List ℕ → Result (Unit {0}) Emptied → Type 0
LoweredTo ls d holder keep first seconds (Ok _) = Lowered ls d holder keep first seconds
LoweredTo ls d holder keep first seconds (Err _) = Outcome ls None

-- after the elimination of a rotation there is less to go, or a list was emptied
abbrev pub Rotated : List (List ℕ) → ℕ → List ℕ → List ℕ → List ℕ → List ℕ → List ℕ → Result (Unit {0}) Emptied → Type 0
Rotated ls d holder holder' keep' first' seconds' (Ok _) = Lowered ls d holder' keep' first' seconds' × (height ls holder' < height ls holder)
Rotated ls d holder holder' keep' first' seconds' (Err _) = Outcome ls None
