-- Proposals on their way, as the program keeps them.
use Rattle.std.specs.Prelude.{◌≡◌, ℕ, ◌<◌, ◌≤◌, true, false, List, length, take, Some, None, filter, Option, ◌≢◌, slice_index}
use Rattle.matching.specs.Lists.{row}
use Rattle.matching.specs.Linkings.{exit, counts_one_way}
use Rattle.matching.specs.Proposals.{Asking, Free, Runs, trimmed}

-- how many proposals door x makes on the first k places of its list
unfoldable pub asks_to : List (List ℕ) → List ℕ → ℕ → ℕ → ℕ
asks_to ls sides x k = length (filter (counts_one_way ls sides x) (take k (row ls x)))

-- the doors at the places of x's list from k on, before r, may not be linked with x
pub record PassedOver (ls : List (List ℕ)) (sides : List ℕ) (x k r : ℕ) : Type 0 where
  pub past : k ≤ r
  pub within : r ≤ length (row ls x)
  pub skipped : (j : ℕ) → k ≤ j → j < r → counts_one_way ls sides x (slice_index (row ls x) j) ≡ false

-- the next place, from k on, that x asks: the doors between may not be linked with x, and the door there may
abbrev pub NextPlace : List (List ℕ) → List ℕ → (x k : ℕ) → Option ℕ → Type 0
NextPlace ls sides x k (Some r) = PassedOver ls sides x k r × (r < length (row ls x)) × (counts_one_way ls sides x (slice_index (row ls x) r) ≡ true)
NextPlace ls sides x k None = PassedOver ls sides x k (length (row ls x))

-- the state of a run, by its two lists
abbrev pub state_of : List ℕ → List ℕ → Asking
state_of asked held = record { asked = asked; held = held }

-- an exit is through: somebody holds it, or it has asked its whole list
abbrev pub Through : List (List ℕ) → List ℕ → Asking → ℕ → Type 0
Through ls sides s w = Free s w → length (trimmed ls (counts_one_way ls sides) w) ≤ slice_index s.asked w

-- who asks next, if anybody: an exit below d that nobody holds
abbrev pub AsksNext : List ℕ → ℕ → Asking → Option ℕ → Type 0
AsksNext sides d s (Some x) = (x < d) × (exit sides x ≡ true) × Free s x
AsksNext sides d s None = Unit {0}

-- k proposals led here: `next` is how far each door has come on its list, `held` whom each door holds. The exits below d are through
-- but the one that asks next (none: they all are); the others have not begun.
pub record Going (ls : List (List ℕ)) (sides : List ℕ) (d : ℕ) (asker : Option ℕ) (k : ℕ) (next held : List ℕ) : Type 0 where
  pub asked : List ℕ
  pub run : Runs ls sides k (state_of asked held)
  pub size : length next ≡ length ls
  pub doors : d ≤ length ls
  pub short : (w : ℕ) → slice_index next w ≤ length (row ls w)
  pub places : (w : ℕ) → slice_index asked w ≡ asks_to ls sides w (slice_index next w)
  pub through : (w : ℕ) → w < d → asker ≢ Some w → exit sides w ≡ true → Through ls sides (state_of asked held) w
  pub later : (w : ℕ) → d ≤ w → slice_index asked w ≡ 0
  pub asks : AsksNext sides d (state_of asked held) asker
