-- What a level and its claims have to do with the history of the calls made on it.
use Rattle.std.specs.Prelude.{◌≡◌, ℕ, zero, suc, ◌<◌, ◌≤◌, true, false, cond, List, [], ◌∷◌, ◌++◌, map, length, Some, None, Ok, Err, vec_items, Option, Result, slice_index_or, slice_set}
use denote.Param.Members.{Once}
use denote.Ref.{MutBor}
use Rattle.faults.specs.declared.Fault.{Fault}
use Rattle.level.specs.declared.claims.Claim.{Claim}
use Rattle.level.specs.declared.Level.{Level}
use Rattle.level.specs.declared.doors.DoorState.{DoorState}
use Rattle.level.specs.declared.doors.DoorState.TheVariants.{Open, Held, Struck}
use Rattle.level.specs.declared.records.Favour.{Favour as FavourRecord}
use Rattle.level.specs.declared.records.Pair.{Pair}
use Rattle.level.specs.View.{View, view, state, claim_door, claim_serial}
use Rattle.replay.specs.declared.calls.Answer.{Answer}
use Rattle.replay.specs.declared.calls.Answer.TheVariants.{Granted, Refused, NotShown}
use Rattle.replay.specs.declared.calls.Call.{Call}
use Rattle.replay.specs.declared.running.Run.{Run}
use Rattle.replay.specs.History.{History, Doors, claimed, released, struck, wasted, freed, forbade, favoured, deeds, granted, door, latest, ended, holds, shown, out, gone, lists, forbidden, favours}
use Rattle.replay.specs.Law.{Right, fault_of_claim, fault_of_free, fault_of_forbid, fault_of_favour}

-- every deed passed its checks
abbrev pub Sound : List (List ℕ) → History → Type 0
Sound ls [] = Unit {0}
Sound ls (claimed d ∷ h) = (fault_of_claim (length ls) h d ≡ None) × Sound ls h
Sound ls (released k ∷ h) = (out h k ≡ true) × (holds h k ≡ true) × Sound ls h
Sound ls (struck k ∷ h) = (out h k ≡ true) × (holds h k ≡ true) × Sound ls h
Sound ls (wasted k ∷ h) = (out h k ≡ true) × Sound ls h
Sound ls (freed d ∷ h) = (fault_of_free (length ls) h d ≡ None) × Sound ls h
Sound ls (forbade a b ∷ h) = (fault_of_forbid (length ls) h a b ≡ None) × Sound ls h
Sound ls (favoured a b ∷ h) = (fault_of_favour ls h a b ≡ None) × Sound ls h

-- the claim that holds door d, or 0
abbrev pub holder : History → ℕ → ℕ
holder h d = cond (ended h (latest h d)) 0 (latest h d)

-- the state that a holder makes
abbrev pub hold : ℕ → DoorState
hold zero = Open
hold (suc k) = Held (suc k)

-- the state of door d that the history tells
abbrev pub state_of : History → ℕ → DoorState
state_of h d = cond (gone h d) Struck (hold (holder h d))

-- the two doors of a favour
abbrev pub of_favour : FavourRecord → Doors
of_favour f = (f.first, f.second)

-- and of a forbidden pair
abbrev pub of_pair : Pair → Doors
of_pair p = (p.first, p.second)

-- the level is as the history says
pub record Agrees (ls : List (List ℕ)) (h : History) (v : View) : Type 0 where
  pub rows : v.lists ≡ lists ls h
  pub whole : length v.doors ≡ 96
  pub states : (d : ℕ) → state v d ≡ state_of h d
  pub count : v.granted ≡ granted h
  pub live : map of_favour v.favours ≡ favours h
  pub apart : map of_pair v.pairs ≡ forbidden h

-- a claim that was granted and not shown is at hand
abbrev pub AtHand : History → ℕ → Option Claim → Type 0
AtHand h k None = shown h k ≡ true
AtHand h k (Some c) = (shown h k ≡ false) × (claim_door c ≡ door h k) × (claim_serial c ≡ k)

-- the claims at hand, by their number
pub record Tokens (h : History) (ts : List (Option Claim)) : Type 0 where
  pub size : length ts ≡ granted h
  pub each : (j : ℕ) → j < granted h → AtHand h (suc j) (slice_index_or ts j None)

-- the k-th claim, if it is at hand
abbrev pub token : List (Option Claim) → ℕ → Option Claim
token ts zero = None
token ts (suc j) = slice_index_or ts j None

-- what is left when it is taken
abbrev pub spent : List (Option Claim) → ℕ → List (Option Claim)
spent ts zero = ts
spent ts (suc j) = slice_set ts j None

-- the answer to an edit that gives back nothing
abbrev pub edited : Result (Unit {0}) Fault → Answer
edited (Ok _) = Granted
edited (Err f) = Refused f

-- an edit of a level with a claim, called once, may answer r and leave level'
pub record Edits {F : Type 0} (g : Once F (MutBor Level × (Claim × Unit {0})) (Result (Unit {0}) Fault × (MutBor Level × Unit {0}))) (edit : F) (level : Level) (claim : Claim) (r : Result (Unit {0}) Fault) (level' : Level) : Type 0 where
  pub shown : MutBor Level
  pub shows : shown.now ≡ level
  pub left : MutBor Level
  pub met : g.post edit (shown, (claim, tt)) (r, (left, tt))
  pub leaves : left.now ≡ level'

-- claim k is shown: where it is at hand, the level is edited with it, and the answer is what the edit gives
pub record Shows {F : Type 0} (g : Once F (MutBor Level × (Claim × Unit {0})) (Result (Unit {0}) Fault × (MutBor Level × Unit {0}))) (edit : F) (run : Run) (k : ℕ) (a : Answer) (run' : Run) : Type 0 where
  pub left : vec_items run'.claims ≡ spent (vec_items run.claims) k
  pub none : token (vec_items run.claims) k ≡ None → (a ≡ NotShown) × (run'.level ≡ run.level)
  pub some : (c : Claim) → token (vec_items run.claims) k ≡ Some c → (r : Result (Unit {0}) Fault) × Edits g edit run.level c r run'.level × (a ≡ edited r)

-- a run over the lists ls, its level and its claims at hand, after a history in which every deed passed its checks
pub record State (ls : List (List ℕ)) (h : History) (run : Run) : Type 0 where
  pub few : length ls ≤ 96
  pub sound : Sound ls h
  pub agrees : Agrees ls h (view run.level)
  pub tokens : Tokens h (vec_items run.claims)

-- after every history, a call is answered by the law, and level and claims are as the longer history says
unfoldable pub Keeps : Run → Call → Answer → Run → Type 0
Keeps run c r run' = (ls : List (List ℕ)) (h : History) → State ls h run → Right ls h c r × State ls (deeds c r ++ h) run'
