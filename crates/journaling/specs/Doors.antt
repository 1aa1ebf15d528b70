-- What a history has done to the doors, and a ledger of it.
use Rattle.std.specs.Prelude.{◌≡◌, ℕ, zero, suc, ◌≤◌, Bool, not, List, ◌++◌, map, length, None, vec_items, Option}
use Rattle.std.specs.List.{range_with_len, slice_get}
use Rattle.journaling.specs.declared.ledger.Ledger.{Ledger}
use Rattle.replay.specs.History.{History, claims, gone, held}
use Rattle.replay.specs.State.{Sound}

-- which of n doors stand after a history
abbrev pub standing : ℕ → History → List Bool
standing n h = map (λ d. not (gone h d)) (range_with_len 0 n)

-- which of n doors are held after a history
abbrev pub holding : ℕ → History → List Bool
holding n h = map (held h) (range_with_len 0 n)

-- a ledger of n doors says what a history has done
pub record Kept (n : ℕ) (h : History) (l : Ledger) : Type 0 where
  pub granted : vec_items l.claimed ≡ claims h
  pub stand : vec_items l.standing ≡ standing n h
  pub hold : vec_items l.held ≡ holding n h

-- the door of the claim of this number, where claims on these doors were granted
abbrev pub claimed_door : List ℕ → ℕ → Option ℕ
claimed_door cs zero = None
claimed_door cs (suc k) = slice_get cs k

-- a ledger takes up these deeds, wherever they passed their checks
unfoldable pub Follows : History → Ledger → Ledger → Type 0
Follows ds l l' = (n : ℕ) (ls : List (List ℕ)) (h : History) → length ls ≤ 96 → Sound ls h → Sound ls (ds ++ h) → Kept n h l → Kept n (ds ++ h) l'
