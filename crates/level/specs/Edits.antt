-- What each granted call makes of the level, and what a call answers.
use Rattle.std.specs.Prelude.{◌≡◌, ℕ, ◌+◌, ◌-◌, ◌^◌, min, not, Some, None, Ok, Err, filter, Option, Result, slice_set}
use Rattle.faults.specs.declared.Fault.{Fault}
use Rattle.lists.specs.Edits.{removed, promoted, withdrawn}
use Rattle.level.specs.declared.claims.Claim.{Claim}
use Rattle.level.specs.declared.doors.DoorState.TheVariants.{Open, Held, Struck}
use Rattle.level.specs.Checks.{claim_fault, show_fault, free_fault, forbid_fault, favour_fault}
use Rattle.level.specs.Meant.{names, joins, in_order}
use Rattle.level.specs.Tables.{noted, added}
use Rattle.level.specs.View.{View, claim_door, claim_serial}

-- one more claim is granted, and it holds door d
abbrev pub claimed : View → ℕ → View
claimed v d = record { lists = v.lists; doors = slice_set v.doors d (Held (v.granted + 1)); granted = v.granted + 1; favours = v.favours; pairs = v.pairs; turn = v.turn }

-- the hold of door d ends
abbrev pub released : View → ℕ → View
released v d = record { lists = v.lists; doors = slice_set v.doors d Open; granted = v.granted; favours = v.favours; pairs = v.pairs; turn = v.turn }

-- door d is struck: its list is empty, it is on no list, and what was favoured or forbidden with it is dropped
abbrev pub struck_out : View → ℕ → View
struck_out v d = record {
  lists = withdrawn d v.lists;
  doors = slice_set v.doors d Struck;
  granted = v.granted;
  favours = filter (λ f. not (names d f.first f.second)) v.favours;
  pairs = filter (λ p. not (names d p.first p.second)) v.pairs;
  turn = v.turn;
}

-- a and b are off each other's lists and a live pair, and no favour of one for the other is live
abbrev pub forbade : View → ℕ → ℕ → View
forbade v a b = record {
  lists = removed b a (removed a b v.lists);
  doors = v.doors;
  granted = v.granted;
  favours = filter (λ f. not (joins a b f.first f.second)) v.favours;
  pairs = added (λ p. joins a b p.first p.second) (record { first = a; second = b }) v.pairs;
  turn = v.turn;
}

-- the turns of favours are counted from 1; the last number stands for all that come after it
abbrev pub next_turn : View → ℕ
next_turn v = min (v.turn + 1) (2 ^ 64 - 1)

-- b is at the head of the list of a, and the favour of a for b is live, with a new turn
abbrev pub favoured : View → ℕ → ℕ → View
favoured v a b = record {
  lists = promoted a b v.lists;
  doors = v.doors;
  granted = v.granted;
  favours = noted (λ f. in_order a b f.first f.second) (record { first = a; second = b; turn = next_turn v }) v.favours;
  pairs = v.pairs;
  turn = next_turn v;
}

-- What a call answers. Where its checks find a fault, it is refused with that fault, and the level stays as it was (v); otherwise it is
-- granted, and the level is as the edit makes it (w).
abbrev pub Answers : Option Fault → View → View → Result (Unit {0}) Fault → View → Type 0
Answers fault v w (Ok _) after = (fault ≡ None) × (after ≡ w)
Answers fault v w (Err f) after = (fault ≡ Some f) × (after ≡ v)

-- of a claim of door d: where it is granted, the claim is on d and counts one more than those granted before
abbrev pub ClaimAnswers : View → ℕ → Result Claim Fault → View → Type 0
ClaimAnswers v d (Ok c) after = (claim_fault v d ≡ None) × (claim_door c ≡ d) × (claim_serial c ≡ v.granted + 1) × (after ≡ claimed v d)
ClaimAnswers v d (Err f) after = (claim_fault v d ≡ Some f) × (after ≡ v)

-- of a release and of a strike that show the claim c
abbrev pub ReleaseAnswers : View → Claim → Result (Unit {0}) Fault → View → Type 0
ReleaseAnswers v c = Answers (show_fault v (claim_door c) (claim_serial c)) v (released v (claim_door c))

abbrev pub StrikeAnswers : View → Claim → Result (Unit {0}) Fault → View → Type 0
StrikeAnswers v c = Answers (show_fault v (claim_door c) (claim_serial c)) v (struck_out v (claim_door c))

-- of a free of door d
abbrev pub FreeAnswers : View → ℕ → Result (Unit {0}) Fault → View → Type 0
FreeAnswers v d = Answers (free_fault v d) v (released v d)

-- of a forbid and of a favour of the doors a and b
abbrev pub ForbidAnswers : View → ℕ → ℕ → Result (Unit {0}) Fault → View → Type 0
ForbidAnswers v a b = Answers (forbid_fault v a b) v (forbade v a b)

abbrev pub FavourAnswers : View → ℕ → ℕ → Result (Unit {0}) Fault → View → Type 0
FavourAnswers v a b = Answers (favour_fault v a b) v (favoured v a b)
