-- What a level means.
use Rattle.std.specs.Prelude.{ℕ, Bool, true, false, List, [], replicate, ◌==◌, slice_index_or}
use Rattle.lists.specs.Tables.{lists as rows}
use Rattle.level.specs.declared.Level.{Level}
use Rattle.level.specs.declared.claims.Claim.{Claim}
use Rattle.level.specs.declared.doors.DoorState.{DoorState}
use Rattle.level.specs.declared.doors.DoorState.TheVariants.{Open, Held, Struck}
use Rattle.level.specs.declared.records.Favour.{Favour}
use Rattle.level.specs.declared.records.Pair.{Pair}

pub record View : Type 0 where
  -- the lists of the moment
  pub lists : List (List ℕ)
  -- the state of each number from 0 to 95
  pub doors : List DoorState
  -- how many claims were granted
  pub granted : ℕ
  -- the live favours, in the order in which they first came
  pub favours : List Favour
  -- the live forbidden pairs, in the order in which they came
  pub pairs : List Pair
  -- the turn of the last granted favour
  pub turn : ℕ

abbrev pub view : Level → View
view l = record { lists = rows l.lists; doors = l.doors.states; granted = l.granted; favours = l.favours; pairs = l.pairs; turn = l.turn }

-- a new level: the source's lists, nothing held or struck, no claim granted, nothing favoured or forbidden
abbrev pub fresh : List (List ℕ) → View
fresh ls = record { lists = ls; doors = replicate 96 Open; granted = 0; favours = []; pairs = []; turn = 0 }

-- the state of a door; a number past the last door is open
abbrev pub state : View → ℕ → DoorState
state v d = slice_index_or v.doors d Open

-- the door was struck
abbrev pub is_struck : DoorState → Bool
is_struck Open = false
is_struck (Held k) = false
is_struck Struck = true

-- a claim holds the door
abbrev pub is_held : DoorState → Bool
is_held Open = false
is_held (Held k) = true
is_held Struck = false

-- the k-th granted claim holds the door
abbrev pub is_held_by : ℕ → DoorState → Bool
is_held_by k Open = false
is_held_by k (Held j) = j == k
is_held_by k Struck = false

-- the door that a claim is on, and which granted claim of its level it was, from 1
abbrev pub claim_door : Claim → ℕ
claim_door c = c.door

abbrev pub claim_serial : Claim → ℕ
claim_serial c = c.serial
