-- The law of a run: how each call is answered, said by the history before it.
use Rattle.std.specs.Prelude.{◌≡◌, ℕ, suc, ◌<◌, ◌≤◌, Bool, true, false, cond, not, ◌&&◌, ◌↔◌, List, [], length, replicate, is_some, Some, None, Ok, Err, vec_items, filter, Option, Result, Vec, ◌==◌, nat_le}
use Rattle.std.specs.declared.alloc.Global.{Global}
use Rattle.faults.specs.declared.Fault.{Fault}
use Rattle.faults.specs.declared.Refusal.TheVariants.{NoSuchDoor, SameDoor, DoorGone, DoorHeld, NotListed, TableFull, NotHolder, ClaimsSpent}
use Rattle.level.specs.Checks.{refuses, ◌or◌}
use Rattle.level.specs.Tables.{among, full}
use Rattle.linker.specs.Links.{Linked}
use Rattle.linker.specs.OneWay.{OneWay as LinksOneWay}
use Rattle.matching.specs.Linkings.{unlinked, listed, partner}
use Rattle.matching.specs.Lists.{row, place}
use Rattle.replay.specs.declared.calls.Answer.{Answer}
use Rattle.replay.specs.declared.calls.Answer.TheVariants.{Claimed, Granted, Refused, NotShown, OneWay as OneWayDone, Link as LinkDone}
use Rattle.replay.specs.declared.calls.Call.{Call}
use Rattle.replay.specs.declared.calls.Call.TheVariants.{Claim, Release, Strike, Free, Forbid, Favour, OneWay, Link}
use Rattle.replay.specs.History.{History, Doors, call, said, before, granted, door, latest, ended, held, holds, out, gone, lists, this, either, forbidden, favours, forbade_ever, favoured_ever}

-- how many claims a level grants
abbrev pub most : ℕ
most = 4294967295

-- the checks of a claim on door d, over n doors
abbrev pub fault_of_claim : ℕ → History → ℕ → Option Fault
fault_of_claim n h d =
    refuses (nat_le n d) NoSuchDoor d or refuses (gone h d) DoorGone d or refuses (held h d) DoorHeld d or refuses (nat_le most (granted h)) ClaimsSpent d

-- the check of a release and of a strike that show claim k
abbrev pub fault_of_show : History → ℕ → Option Fault
fault_of_show h k = refuses (not (holds h k)) NotHolder (door h k)

-- the checks of a free of door d
abbrev pub fault_of_free : ℕ → History → ℕ → Option Fault
fault_of_free n h d = refuses (nat_le n d) NoSuchDoor d or refuses (gone h d) DoorGone d or refuses (not (held h d)) NotHolder d

-- the checks that forbid and favour share: the first door before the second
abbrev pub pair_fault : ℕ → History → ℕ → ℕ → Option Fault
pair_fault n h a b =
    refuses (nat_le n a) NoSuchDoor a or refuses (nat_le n b) NoSuchDoor b or refuses (a == b) SameDoor b or refuses (gone h a) DoorGone a or refuses (gone h b) DoorGone b
    or refuses (held h a) DoorHeld a or refuses (held h b) DoorHeld b

-- the checks of a forbid: the shared ones, and then whether the table of live pairs is full
abbrev pub fault_of_forbid : ℕ → History → ℕ → ℕ → Option Fault
fault_of_forbid n h a b = pair_fault n h a b or refuses (full (either a b) (forbidden h)) TableFull a

-- the checks of a favour: the shared ones, whether b is on the list of a, and then whether the table of live favours is full
abbrev pub fault_of_favour : List (List ℕ) → History → ℕ → ℕ → Option Fault
fault_of_favour ls h a b =
    pair_fault (length ls) h a b or refuses (not (is_some (place (row (lists ls h) a) b))) NotListed b or refuses (full (this a b) (favours h)) TableFull a

-- a call is granted if no check applies, and otherwise refused by the first that does
abbrev pub answer : Option Fault → Answer → Answer
answer None grant = grant
answer (Some f) grant = Refused f

-- a claim that is not out cannot be shown
abbrev pub showing : History → ℕ → Answer
showing h k = cond (out h k) (answer (fault_of_show h k) Granted) NotShown

-- the answer to a one-way linking over the lists ls, with working memory of so many numbers: which result or refusal, and what the output
-- holds then, which is what it held where the call is refused
abbrev pub OneWayAnswer : List (List ℕ) → List ℕ → List ℕ → ℕ → Answer → Type 0
OneWayAnswer ls sides output memory (Claimed k) = ⊥
OneWayAnswer ls sides output memory Granted = ⊥
OneWayAnswer ls sides output memory (Refused f) = ⊥
OneWayAnswer ls sides output memory NotShown = ⊥
OneWayAnswer ls sides output memory (OneWayDone r after) = (used : List ℕ) × LinksOneWay ls sides output (vec_items after) (replicate memory 0) used r
OneWayAnswer ls sides output memory (LinkDone r after) = ⊥

-- the answer to a linking of all doors over the lists ls, likewise
abbrev pub LinkAnswer : List (List ℕ) → List ℕ → ℕ → Answer → Type 0
LinkAnswer ls output memory (Claimed k) = ⊥
LinkAnswer ls output memory Granted = ⊥
LinkAnswer ls output memory (Refused f) = ⊥
LinkAnswer ls output memory NotShown = ⊥
LinkAnswer ls output memory (OneWayDone r after) = ⊥
LinkAnswer ls output memory (LinkDone r after) = (used : List ℕ) × Linked ls output (vec_items after) (replicate memory 0) used r

-- the answer to a call after the history h, on a level over the lists ls
abbrev pub Right : List (List ℕ) → History → Call → Answer → Type 0
Right ls h (Claim d) r = r ≡ answer (fault_of_claim (length ls) h d) (Claimed (suc (granted h)))
Right ls h (Release k) r = r ≡ showing h k
Right ls h (Strike k) r = r ≡ showing h k
Right ls h (Free d) r = r ≡ answer (fault_of_free (length ls) h d) Granted
Right ls h (Forbid a b) r = r ≡ answer (fault_of_forbid (length ls) h a b) Granted
Right ls h (Favour a b) r = r ≡ answer (fault_of_favour ls h a b) Granted
Right ls h (OneWay sides output memory) r = OneWayAnswer (lists ls h) (vec_items sides) (vec_items output) memory r
Right ls h (Link output memory) r = LinkAnswer (lists ls h) (vec_items output) memory r

-- every call of the run has an answer, and the right one
pub record Answered (ls : List (List ℕ)) (calls : List Call) (answers : List Answer) : Type 0 where
  pub each : length answers ≡ length calls
  pub right : (i : ℕ) → i < length calls → Right ls (before calls answers i) (call calls i) (said answers i)

-- a table of live ones: each once, and at most 64
pub record Table (same : ℕ → ℕ → Doors → Bool) (live : List Doors) : Type 0 where
  pub once : (a b : ℕ) → length (filter (same a b) live) ≤ 1
  pub room : length live ≤ 64

-- what is so at every moment
pub record Moment (ls : List (List ℕ)) (h : History) : Type 0 where
  -- door b is on the list of a exactly where the source lists it, both doors stand, and the pair was never forbidden
  pub wanted : (a b : ℕ) → listed (lists ls h) a b ≡ (listed ls a b && not (gone h a) && not (gone h b) && not (forbade_ever h a b))
  -- a forbidden pair is live while both doors stand
  pub pairs : (a b : ℕ) → among (either a b) (forbidden h) ≡ (forbade_ever h a b && not (gone h a) && not (gone h b))
  -- a favour is live while both doors stand and the pair is not forbidden
  pub liked : (a b : ℕ) → among (this a b) (favours h) ≡ (favoured_ever h a b && not (gone h a) && not (gone h b) && not (forbade_ever h a b))
  -- each live one is in its table once
  pub pair_table : Table either (forbidden h)
  pub favour_table : Table this (favours h)

-- door d is out of the lists: its own is empty, and it is on no other
pub record Off (ls : List (List ℕ)) (d : ℕ) : Type 0 where
  pub empty : row ls d ≡ []
  pub nowhere : (x : ℕ) → place (row ls x) d ≡ None

-- the same lists, claims granted, struck and held doors and live ones after one history as after another
pub record Same (ls : List (List ℕ)) (h h' : History) : Type 0 where
  pub rows : lists ls h' ≡ lists ls h
  pub grants : granted h' ≡ granted h
  pub struck : (d : ℕ) → gone h' d ≡ gone h d
  pub holders : (d : ℕ) → held h' d ≡ held h d
  pub holding : (k : ℕ) → holds h' k ≡ holds h k
  pub pairs : forbidden h' ≡ forbidden h
  pub liked : favours h' ≡ favours h

-- the linking that an answer gives, if it gives one
abbrev pub linking : Answer → Option (List ℕ)
linking (Claimed k) = None
linking Granted = None
linking (Refused f) = None
linking NotShown = None
linking (OneWayDone (Ok k) output) = Some (vec_items output)
linking (OneWayDone (Err f) output) = None
linking (LinkDone (Ok _) output) = Some (vec_items output)
linking (LinkDone (Err f) output) = None

-- The law of a level over the lists ls: what holds of every run of calls and their answers.
pub record Law (ls : List (List ℕ)) (calls : List Call) (answers : List Answer) : Type 0 where
  -- every call is answered as the checks over the history before it say, and linkings as the linkers promise over the lists of the moment
  pub answered : Answered ls calls answers
  -- a strike that shows a claim is granted exactly when the claim is its door's latest and no granted release, strike or free has ended it
  pub strikes : (i k : ℕ) → i < length calls → call calls i ≡ Strike k
      → (said answers i ≡ Granted)
      ↔ ((out (before calls answers i) k ≡ true) × (latest (before calls answers i) (door (before calls answers i) k) ≡ k) × (ended (before calls answers i) k ≡ false))
  -- a struck door stays out: at every later moment its list is empty and it is on no list
  pub stays : (i j k : ℕ) → i < j → j ≤ length calls → call calls i ≡ Strike k → said answers i ≡ Granted
      → Off (lists ls (before calls answers j)) (door (before calls answers i) k)
  -- and every later linking leaves it unlinked
  pub alone : (i j k : ℕ) (m : List ℕ) → i < j → j < length calls → call calls i ≡ Strike k → said answers i ≡ Granted → linking (said answers j) ≡ Some m
      → partner m (door (before calls answers i) k) ≡ unlinked
  -- lists and live tables at every moment
  pub moments : (i : ℕ) → i ≤ length calls → Moment ls (before calls answers i)
  -- a refused edit leaves everything as it was
  pub refused : (i : ℕ) (f : Fault) → i < length calls → said answers i ≡ Refused f → Same ls (before calls answers i) (before calls answers (suc i))
  -- where a claim cannot be shown, nothing is done
  pub unshown : (i : ℕ) → i < length calls → said answers i ≡ NotShown → before calls answers (suc i) ≡ before calls answers i
  -- a linking of all doors changes nothing, and where it is refused, the output is as it was
  pub linked : (i : ℕ) (r : Result (Unit {0}) Fault) (output : Vec ℕ Global) → i < length calls → said answers i ≡ LinkDone r output
      → before calls answers (suc i) ≡ before calls answers i
  pub kept : (i : ℕ) (output after : Vec ℕ Global) (memory : ℕ) (f : Fault) → i < length calls → call calls i ≡ Link output memory → said answers i ≡ LinkDone (Err f) after
      → vec_items after ≡ vec_items output
  -- and so does a one-way linking
  pub one_way_linked : (i : ℕ) (r : Result ℕ Fault) (output : Vec ℕ Global) → i < length calls → said answers i ≡ OneWayDone r output
      → before calls answers (suc i) ≡ before calls answers i
  pub one_way_kept : (i : ℕ) (sides output after : Vec ℕ Global) (memory : ℕ) (f : Fault) → i < length calls → call calls i ≡ OneWay sides output memory → said answers i ≡ OneWayDone (Err f) after
      → vec_items after ≡ vec_items output
