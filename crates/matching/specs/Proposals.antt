-- One-way linking by proposals: exits ask the entrances on their lists, each entrance keeps the exit that it prefers.
use Rattle.std.specs.Prelude.{◌≡◌, ℕ, zero, suc, ◌<◌, ◌≤◌, Bool, true, cond, ◌⊎◌, List, length, replicate, Some, None, sum_by, filter, Option, ◌≢◌, slice_index, slice_index_or, slice_set}
use Rattle.std.specs.List.{range_with_len}
use Rattle.matching.specs.Lists.{row, place}
use Rattle.matching.specs.Linkings.{unlinked, exit, counts_one_way, partner, Linking, Prefers, Stable}

-- the list of door x with only the doors that it may be linked with
unfoldable pub trimmed : List (List ℕ) → (ℕ → ℕ → Bool) → ℕ → List ℕ
trimmed ls pairs x = filter (pairs x) (row ls x)

-- how many places a list has up to and with a given one; all of them where none is given
abbrev pub up_to : List ℕ → Option ℕ → ℕ
up_to l (Some p) = suc p
up_to l None = length l

-- how many doors exit x asks if it ends with the partner y, or unlinked
unfoldable pub asks_of : List (List ℕ) → List ℕ → ℕ → ℕ → ℕ
asks_of ls sides x y = let l = trimmed ls (counts_one_way ls sides) x in up_to l (place l y)

-- the number of proposals that lead to a linking, over all exits
unfoldable pub proposals : List (List ℕ) → List ℕ → List ℕ → ℕ
proposals ls sides m = sum_by (λ x. cond (exit sides x) (asks_of ls sides x (partner m x)) 0) (range_with_len 0 (length ls))

-- no exit does better in any stable linking: linked there, it is linked here, and does not prefer its partner there
abbrev pub BestForExits : List (List ℕ) → List ℕ → List ℕ → Type 0
BestForExits ls sides m =
    (m' : List ℕ) → Linking ls (counts_one_way ls sides) m' → Stable ls (counts_one_way ls sides) m' → (x : ℕ) → exit sides x ≡ true → partner m' x ≢ unlinked →
    (partner m x ≢ unlinked) × (Prefers ls x (partner m' x) (partner m x) → ⊥)

-- how many places of its trimmed list each door has asked, and the exit that each door holds, or `unlinked`
pub record Asking : Type 0 where
  pub asked : List ℕ
  pub held : List ℕ

-- nobody has asked, nobody is held
abbrev pub at_first : List (List ℕ) → Asking
at_first ls = record { asked = replicate (length ls) 0; held = replicate (length ls) unlinked }

-- nobody holds x
abbrev pub Free : Asking → ℕ → Type 0
Free s x = (y : ℕ) → slice_index_or s.held y unlinked ≢ x

-- y's answer to x: it takes x in if it holds nobody or prefers x to the one that it holds, and otherwise keeps that one
abbrev pub Answers : List (List ℕ) → Asking → ℕ → ℕ → List ℕ → Type 0
Answers ls s x y held' =
    (((slice_index_or s.held y unlinked ≡ unlinked) ⊎ Prefers ls y x (slice_index_or s.held y unlinked)) × (held' ≡ slice_set s.held y x))
    ⊎ (Prefers ls y (slice_index_or s.held y unlinked) x × (held' ≡ s.held))

-- a proposal: an exit x that nobody holds asks the next entrance y on its trimmed list, and y answers
pub record Proposal (ls : List (List ℕ)) (sides : List ℕ) (s : Asking) (x y : ℕ) (t : Asking) : Type 0 where
  pub asker : exit sides x ≡ true
  pub free : Free s x
  pub more : slice_index s.asked x < length (trimmed ls (counts_one_way ls sides) x)
  pub next : slice_index (trimmed ls (counts_one_way ls sides) x) (slice_index s.asked x) ≡ y
  pub counted : t.asked ≡ slice_set s.asked x (suc (slice_index s.asked x))
  pub answer : Answers ls s x y t.held

-- k proposals, one after the other by any exits, lead from the start to s
abbrev pub Runs : List (List ℕ) → List ℕ → ℕ → Asking → Type 0
Runs ls sides zero t = t ≡ at_first ls
Runs ls sides (suc k) t = (s : Asking) × (x : ℕ) × (y : ℕ) × Runs ls sides k s × Proposal ls sides s x y t

-- every exit that nobody holds has come to its list's end
abbrev pub Finished : List (List ℕ) → List ℕ → Asking → Type 0
Finished ls sides s = (x : ℕ) → exit sides x ≡ true → Free s x → length (trimmed ls (counts_one_way ls sides) x) ≤ slice_index s.asked x

-- a linking that links each door with the exit that it holds, and no others
pub record ResultOf (ls : List (List ℕ)) (s : Asking) (m : List ℕ) : Type 0 where
  pub size : length m ≡ length ls
  pub holder : (y : ℕ) → (slice_index_or s.held y unlinked ≡ unlinked) ⊎ (partner m y ≡ slice_index_or s.held y unlinked)
  pub askers : (y : ℕ) → (slice_index_or s.held y unlinked ≡ unlinked) ⊎ (partner m (slice_index_or s.held y unlinked) ≡ y)
  pub others : (x : ℕ) → (partner m x ≡ unlinked) ⊎ ((slice_index_or s.held x unlinked ≡ partner m x) ⊎ (slice_index_or s.held (partner m x) unlinked ≡ x))

-- a finished run of k proposals that ends in the linking m
abbrev pub EndsIn : List (List ℕ) → List ℕ → ℕ → List ℕ → Type 0
EndsIn ls sides k m = (s : Asking) × Runs ls sides k s × Finished ls sides s × ResultOf ls s m

-- what the one-way linking of lists and sides is: m, after k proposals
pub record OneWayResult (ls : List (List ℕ)) (sides : List ℕ) (m : List ℕ) (k : ℕ) : Type 0 where
  pub linking : Linking ls (counts_one_way ls sides) m
  pub stable : Stable ls (counts_one_way ls sides) m
  pub best : BestForExits ls sides m
  pub count : k ≡ proposals ls sides m
  pub run : EndsIn ls sides k m
  pub only : (m' : List ℕ) (k' : ℕ) → EndsIn ls sides k' m' → (m' ≡ m) × (k' ≡ k)
