-- The checks of each call, in order. A call is refused with the first fault that they find, and granted where they find none.
use Rattle.std.specs.Prelude.{ℕ, Bool, cond, not, length, is_some, Some, None, Option, ◌==◌, nat_le}
use Rattle.std.specs.Option.{option_or}
use Rattle.faults.specs.declared.Fault.{Fault}
use Rattle.faults.specs.declared.Layer.TheVariants.{Level as LevelLayer}
use Rattle.faults.specs.declared.Place.TheVariants.{At}
use Rattle.faults.specs.declared.Refusal.{Refusal}
use Rattle.faults.specs.declared.Refusal.TheVariants.{NoSuchDoor, SameDoor, DoorGone, DoorHeld, NotListed, TableFull, NotHolder, ClaimsSpent}
use Rattle.matching.specs.Lists.{row, place}
use Rattle.level.specs.Meant.{joins, in_order}
use Rattle.level.specs.Tables.{full}
use Rattle.level.specs.View.{View, state, is_struck, is_held, is_held_by}

-- where the test holds, the level refuses, at door d
abbrev pub refuses : Bool → Refusal → ℕ → Option Fault
refuses b r d = cond b (Some (record { refusal = r; layer = LevelLayer; place = At d })) None

-- the first fault of two checks
infixl 20 ◌or◌
abbrev pub ◌or◌ : Option Fault → Option Fault → Option Fault
p or q = option_or p q

-- 1: the number is not one of the level's doors
abbrev pub unknown : View → ℕ → Option Fault
unknown v d = refuses (nat_le (length v.lists) d) NoSuchDoor d

-- 2: both doors are one
abbrev pub same : ℕ → ℕ → Option Fault
same a b = refuses (a == b) SameDoor b

-- 3: the door was struck
abbrev pub gone : View → ℕ → Option Fault
gone v d = refuses (is_struck (state v d)) DoorGone d

-- 4: the door is held
abbrev pub held : View → ℕ → Option Fault
held v d = refuses (is_held (state v d)) DoorHeld d

-- 5: b is not on the list of a
abbrev pub unlisted : View → ℕ → ℕ → Option Fault
unlisted v a b = refuses (not (is_some (place (row v.lists a) b))) NotListed b

-- 6: there are 64 live pairs, and a and b are not one of them
abbrev pub no_room_for_pair : View → ℕ → ℕ → Option Fault
no_room_for_pair v a b = refuses (full (λ p. joins a b p.first p.second) v.pairs) TableFull a

-- 6: there are 64 live favours, and that of a for b is not one of them
abbrev pub no_room_for_favour : View → ℕ → ℕ → Option Fault
no_room_for_favour v a b = refuses (full (λ f. in_order a b f.first f.second) v.favours) TableFull a

-- 16: the door is not held by the k-th granted claim
abbrev pub not_holder : View → ℕ → ℕ → Option Fault
not_holder v d k = refuses (not (is_held_by k (state v d))) NotHolder d

-- 16: the door is not held
abbrev pub not_held : View → ℕ → Option Fault
not_held v d = refuses (not (is_held (state v d))) NotHolder d

-- 17: no more claims can be granted
abbrev pub spent : View → ℕ → Option Fault
spent v d = refuses (nat_le 4294967295 v.granted) ClaimsSpent d

abbrev pub claim_fault : View → ℕ → Option Fault
claim_fault v d = unknown v d or gone v d or held v d or spent v d

-- release and strike: the claim on door d that was granted as the k-th is shown
abbrev pub show_fault : View → ℕ → ℕ → Option Fault
show_fault v d k = not_holder v d k

abbrev pub free_fault : View → ℕ → Option Fault
free_fault v d = unknown v d or gone v d or not_held v d

-- what forbid and favour check first, the first door before the second
abbrev pub link_fault : View → ℕ → ℕ → Option Fault
link_fault v a b = unknown v a or unknown v b or same a b or gone v a or gone v b or held v a or held v b

abbrev pub forbid_fault : View → ℕ → ℕ → Option Fault
forbid_fault v a b = link_fault v a b or no_room_for_pair v a b

abbrev pub favour_fault : View → ℕ → ℕ → Option Fault
favour_fault v a b = link_fault v a b or unlisted v a b or no_room_for_favour v a b
