-- The history of a run: what its calls have done so far, the newest deed first, and what is so at a moment because of it.
use Rattle.std.specs.Prelude.{ℕ, zero, suc, Bool, false, cond, not, ◌&&◌, ◌||◌, List, [], ◌∷◌, ◌++◌, length, filter, ◌==◌, nat_le, slice_index_or}
use Rattle.level.specs.Meant.{in_order, joins, names}
use Rattle.level.specs.Tables.{added}
use Rattle.lists.specs.Edits.{removed, promoted, withdrawn}
use Rattle.replay.specs.declared.calls.Answer.{Answer}
use Rattle.replay.specs.declared.calls.Answer.TheVariants.{Claimed, Granted, Refused, NotShown, OneWay as OneWayDone, Link as LinkDone}
use Rattle.replay.specs.declared.calls.Call.{Call}
use Rattle.replay.specs.declared.calls.Call.TheVariants.{Claim, Release, Strike, Free, Forbid, Favour, OneWay, Link}

-- A deed: a claim granted on a door; a claim, by its number, given back by a granted release, used by a granted strike, or shown in a
-- release or strike that was refused; a door freed; two doors forbidden to each other; the second of two doors favoured by the first.
pub data Deed : Type 0 where
  claimed : ℕ → Deed
  released : ℕ → Deed
  struck : ℕ → Deed
  wasted : ℕ → Deed
  freed : ℕ → Deed
  forbade : ℕ → ℕ → Deed
  favoured : ℕ → ℕ → Deed

-- a history: deeds, the newest first
abbrev pub History : Type 0
History = List Deed

-- what a granted call has done
abbrev pub granting : Call → History
granting (Claim d) = claimed d ∷ []
granting (Release k) = released k ∷ []
granting (Strike k) = struck k ∷ []
granting (Free d) = freed d ∷ []
granting (Forbid a b) = forbade a b ∷ []
granting (Favour a b) = favoured a b ∷ []
granting (OneWay s o m) = []
granting (Link o m) = []

-- what a refused call has done: a claim that was shown is spent, and nothing else
abbrev pub refusing : Call → History
refusing (Claim d) = []
refusing (Release k) = wasted k ∷ []
refusing (Strike k) = wasted k ∷ []
refusing (Free d) = []
refusing (Forbid a b) = []
refusing (Favour a b) = []
refusing (OneWay s o m) = []
refusing (Link o m) = []

-- what a call has done that was answered so; linking does nothing to the level
abbrev pub deeds : Call → Answer → History
deeds c (Claimed k) = granting c
deeds c Granted = granting c
deeds c (Refused f) = refusing c
deeds c NotShown = []
deeds c (OneWayDone p o) = []
deeds c (LinkDone r o) = []

-- call i of a run, counted from 0
abbrev pub call : List Call → ℕ → Call
call calls i = slice_index_or calls i (Claim 0)

-- and its answer
abbrev pub said : List Answer → ℕ → Answer
said answers i = slice_index_or answers i NotShown

-- the history before call i
unfoldable pub before : List Call → List Answer → ℕ → History
before calls answers zero = []
before calls answers (suc i) = deeds (call calls i) (said answers i) ++ before calls answers i

-- the doors of the claims granted, the first first
unfoldable pub claims : History → List ℕ
claims [] = []
claims (claimed d ∷ h) = claims h ++ (d ∷ [])
claims (released k ∷ h) = claims h
claims (struck k ∷ h) = claims h
claims (wasted k ∷ h) = claims h
claims (freed d ∷ h) = claims h
claims (forbade a b ∷ h) = claims h
claims (favoured a b ∷ h) = claims h

-- how many claims were granted
abbrev pub granted : History → ℕ
granted h = length (claims h)

-- what stands for a door where there is none
abbrev pub nowhere : ℕ
nowhere = 256

-- the door of the k-th claim granted, counted from 1
abbrev pub door : History → ℕ → ℕ
door h k = slice_index_or (nowhere ∷ claims h) k nowhere

-- the number of the last claim granted on door d; 0 where there was none
unfoldable pub latest : History → ℕ → ℕ
latest [] d = 0
latest (claimed e ∷ h) d = cond (e == d) (suc (granted h)) (latest h d)
latest (released k ∷ h) d = latest h d
latest (struck k ∷ h) d = latest h d
latest (wasted k ∷ h) d = latest h d
latest (freed e ∷ h) d = latest h d
latest (forbade a b ∷ h) d = latest h d
latest (favoured a b ∷ h) d = latest h d

-- claim k has ended: a granted release or strike showed it, or a granted free of its door came after it
unfoldable pub ended : History → ℕ → Bool
ended [] k = false
ended (claimed d ∷ h) k = ended h k
ended (released j ∷ h) k = j == k || ended h k
ended (struck j ∷ h) k = j == k || ended h k
ended (wasted j ∷ h) k = ended h k
ended (freed d ∷ h) k = door h k == d || ended h k
ended (forbade a b ∷ h) k = ended h k
ended (favoured a b ∷ h) k = ended h k

-- door d is held: it has a latest claim, and that has not ended
abbrev pub held : History → ℕ → Bool
held h d = not (latest h d == 0) && not (ended h (latest h d))

-- claim k holds its door: it is the door's latest, and has not ended
abbrev pub holds : History → ℕ → Bool
holds h k = latest h (door h k) == k && not (ended h k)

-- claim k was shown, with or without success
unfoldable pub shown : History → ℕ → Bool
shown [] k = false
shown (claimed d ∷ h) k = shown h k
shown (released j ∷ h) k = j == k || shown h k
shown (struck j ∷ h) k = j == k || shown h k
shown (wasted j ∷ h) k = j == k || shown h k
shown (freed d ∷ h) k = shown h k
shown (forbade a b ∷ h) k = shown h k
shown (favoured a b ∷ h) k = shown h k

-- claim k is out: it was granted and has not been shown
abbrev pub out : History → ℕ → Bool
out h k = nat_le 1 k && nat_le k (granted h) && not (shown h k)

-- door d was struck
unfoldable pub gone : History → ℕ → Bool
gone [] d = false
gone (claimed e ∷ h) d = gone h d
gone (released k ∷ h) d = gone h d
gone (struck k ∷ h) d = door h k == d || gone h d
gone (wasted k ∷ h) d = gone h d
gone (freed e ∷ h) d = gone h d
gone (forbade a b ∷ h) d = gone h d
gone (favoured a b ∷ h) d = gone h d

-- the lists of the moment: those of the source, changed by the granted strikes, forbids and favours in their order
unfoldable pub lists : List (List ℕ) → History → List (List ℕ)
lists ls [] = ls
lists ls (claimed d ∷ h) = lists ls h
lists ls (released k ∷ h) = lists ls h
lists ls (struck k ∷ h) = withdrawn (door h k) (lists ls h)
lists ls (wasted k ∷ h) = lists ls h
lists ls (freed d ∷ h) = lists ls h
lists ls (forbade a b ∷ h) = removed b a (removed a b (lists ls h))
lists ls (favoured a b ∷ h) = promoted a b (lists ls h)

-- a pair of doors, the first door first
abbrev pub Doors : Type 0
Doors = ℕ × ℕ

-- the pair is a and b in this order
abbrev pub this : ℕ → ℕ → Doors → Bool
this a b p = in_order a b p.0 p.1

-- the pair is a and b in either order
abbrev pub either : ℕ → ℕ → Doors → Bool
either a b p = joins a b p.0 p.1

-- the pairs of which door d is none
abbrev pub sparing : ℕ → List Doors → List Doors
sparing d ps = filter (λ p. not (names d p.0 p.1)) ps

-- the live forbidden pairs, each once: a pair is live while both doors stand
unfoldable pub forbidden : History → List Doors
forbidden [] = []
forbidden (claimed d ∷ h) = forbidden h
forbidden (released k ∷ h) = forbidden h
forbidden (struck k ∷ h) = sparing (door h k) (forbidden h)
forbidden (wasted k ∷ h) = forbidden h
forbidden (freed d ∷ h) = forbidden h
forbidden (forbade a b ∷ h) = added (either a b) (a, b) (forbidden h)
forbidden (favoured a b ∷ h) = forbidden h

-- the live favours, each once: a favour is live while both doors stand and the pair is not forbidden
unfoldable pub favours : History → List Doors
favours [] = []
favours (claimed d ∷ h) = favours h
favours (released k ∷ h) = favours h
favours (struck k ∷ h) = sparing (door h k) (favours h)
favours (wasted k ∷ h) = favours h
favours (freed d ∷ h) = favours h
favours (forbade a b ∷ h) = filter (λ p. not (either a b p)) (favours h)
favours (favoured a b ∷ h) = added (this a b) (a, b) (favours h)

-- the pair of a and b was forbidden, in either order, at any time before
unfoldable pub forbade_ever : History → ℕ → ℕ → Bool
forbade_ever [] a b = false
forbade_ever (claimed d ∷ h) a b = forbade_ever h a b
forbade_ever (released k ∷ h) a b = forbade_ever h a b
forbade_ever (struck k ∷ h) a b = forbade_ever h a b
forbade_ever (wasted k ∷ h) a b = forbade_ever h a b
forbade_ever (freed d ∷ h) a b = forbade_ever h a b
forbade_ever (forbade c d ∷ h) a b = joins c d a b || forbade_ever h a b
forbade_ever (favoured c d ∷ h) a b = forbade_ever h a b

-- door a favoured b at any time before
unfoldable pub favoured_ever : History → ℕ → ℕ → Bool
favoured_ever [] a b = false
favoured_ever (claimed d ∷ h) a b = favoured_ever h a b
favoured_ever (released k ∷ h) a b = favoured_ever h a b
favoured_ever (struck k ∷ h) a b = favoured_ever h a b
favoured_ever (wasted k ∷ h) a b = favoured_ever h a b
favoured_ever (freed d ∷ h) a b = favoured_ever h a b
favoured_ever (forbade c d ∷ h) a b = favoured_ever h a b
favoured_ever (favoured c d ∷ h) a b = in_order c d a b || favoured_ever h a b
