-- Preference lists. A level of n doors is a list of n rows: row x is the list of door x, the most wanted door first.
use Rattle.std.specs.Prelude.{◌≡◌, ℕ, suc, ◌<◌, ◌≤◌, Bool, true, cond, not, ◌&&◌, List, [], ◌∷◌, length, Some, None, filter, Option, ◌==◌, ◌≢◌, nat_eq, nat_le, nat_lt, slice_index, slice_index_or}
use Rattle.std.specs.Option.{option_map, unwrap_or}
use Rattle.std.specs.List.{list_all}

-- the list of door x; a number past the last door has the empty list
abbrev pub row : List (List ℕ) → ℕ → List ℕ
row ls x = slice_index_or ls x []

-- the place of door y on a list, counted from 0, or nothing where it is not listed
unfoldable pub place : List ℕ → ℕ → Option ℕ
place [] y = None
place (x ∷ xs) y = cond (x == y) (Some 0) (option_map suc (place xs y))

-- the rank of a door on a list: its place, or the length of the list where it is not listed
unfoldable pub rank : List ℕ → ℕ → ℕ
rank l y = unwrap_or (place l y) (length l)

-- no element equals one after it, by the test eq
abbrev pub is_distinct : {X : Type 0} → (X → X → Bool) → List X → Bool
is_distinct eq [] = true
is_distinct eq (x ∷ xs) = list_all (λ y. not (eq x y)) xs && is_distinct eq xs

-- a lawful list of door d among n doors: different doors of the level, never d itself
unfoldable pub lawful_list : ℕ → ℕ → List ℕ → Bool
lawful_list n d l = list_all (λ y. nat_lt y n && not (y == d)) l && is_distinct nat_eq l

-- the rows of the doors d, d + 1 and on are lawful lists among n doors
unfoldable pub lawful_from : ℕ → ℕ → List (List ℕ) → Bool
lawful_from n d [] = true
lawful_from n d (l ∷ ls) = lawful_list n d l && lawful_from n (suc d) ls

-- lawful lists: at most 96 doors, and each door's list is lawful
unfoldable pub lawful : List (List ℕ) → Bool
lawful ls = nat_le (length ls) 96 && lawful_from (length ls) 0 ls

-- the same said of every door and every place
pub record LawfulList (n d : ℕ) (l : List ℕ) : Type 0 where
  pub known : (k : ℕ) → k < length l → slice_index l k < n
  pub others : (k : ℕ) → k < length l → slice_index l k ≢ d
  pub apart : (j k : ℕ) → j < length l → k < length l → slice_index l j ≡ slice_index l k → j ≡ k

pub record Lawful (ls : List (List ℕ)) : Type 0 where
  pub few : length ls ≤ 96
  pub each : (d : ℕ) → LawfulList (length ls) d (row ls d)

-- what a place says: the door stands there and nowhere before, or it is not on the list
abbrev pub PlaceOf : List ℕ → ℕ → Option ℕ → Type 0
PlaceOf l y (Some p) = (p < length l) × (slice_index l p ≡ y) × ((k : ℕ) → k < p → slice_index l k ≢ y)
PlaceOf l y None = (k : ℕ) → k < length l → slice_index l k ≢ y

-- the list with door v taken off
abbrev pub without : ℕ → List ℕ → List ℕ
without v l = filter (λ y. not (y == v)) l
