-- What `link` answers.
use Rattle.std.specs.Prelude.{◌≡◌, ℕ, ◌+◌, ◌*◌, ◌<◌, ◌≤◌, ◌⊎◌, List, length, Some, None, Ok, Err, Option, Result, ◌≢◌}
use Rattle.faults.specs.declared.Fault.{Fault}
use Rattle.faults.specs.declared.Refusal.TheVariants.{WrongSize, NoStableLinking}
use Rattle.matching.specs.Linkings.{unlinked, accept, partner, Linking, BlockingPair, Stable}
use Rattle.matching.specs.TwoWay.{Outcome}
use Rattle.linker.specs.declared.marks.Emptied.{Emptied}
use Rattle.linker.specs.Holders.{lasts}
use Rattle.linker.specs.OneWay.{linker_fault}

-- the sizes that n doors ask for: an entry of the output for each, and enough memory
pub record Space (n : ℕ) (out memory : List ℕ) : Type 0 where
  pub written : length out ≡ n
  pub worked : 3 * n * n + 8 * n ≤ length memory

-- m is what proposals and rotations come to, and they come to nothing else; it is a linking over the lists, and stable
pub record LinkingFound (ls : List (List ℕ)) (m : List ℕ) : Type 0 where
  pub outcome : Outcome ls (Some m)
  pub only : (a : Option (List ℕ)) → Outcome ls a → a ≡ Some m
  pub linking : Linking ls (accept ls) m
  pub stable : Stable ls (accept ls) m

-- proposals and rotations come to nothing; and every linking over the lists has a blocking pair
pub record NoneFound (ls : List (List ℕ)) : Type 0 where
  pub outcome : Outcome ls None
  pub only : (a : Option (List ℕ)) → Outcome ls a → a ≡ None
  pub blocked : (m : List ℕ) → Linking ls (accept ls) m → (x : ℕ) × (y : ℕ) × BlockingPair ls (accept ls) m x y

-- With sizes that fit, the output is the linking; where there is none that is stable, the output stays as it was and the fault says so.
-- With other sizes output and memory stay as they were.
abbrev pub Linked : List (List ℕ) → (out out' memory memory' : List ℕ) → Result (Unit {0}) Fault → Type 0
Linked ls out out' memory memory' (Ok _) = Space (length ls) out memory × LinkingFound ls out'
Linked ls out out' memory memory' (Err f) =
    (out' ≡ out)
    × (((Space (length ls) out memory → ⊥) × (memory' ≡ memory) × (f ≡ linker_fault WrongSize 0)) ⊎ (Space (length ls) out memory × NoneFound ls × (f ≡ linker_fault NoStableLinking 0)))

-- whether the doors were linked, and the output then
abbrev pub DoorsLinked : List (List ℕ) → List ℕ → List ℕ → Result (Unit {0}) Emptied → Type 0
DoorsLinked ls out out' (Ok _) = LinkingFound ls out'
DoorsLinked ls out out' (Err _) = NoneFound ls × (out' ≡ out)

-- the output has the last door on each of the first n lists; nobody where a door is its own
abbrev pub WritesTo : ℕ → List ℕ → List ℕ → Type 0
WritesTo n holder out =
    (x : ℕ) → x < n → ((lasts holder x ≡ x) × (partner out x ≡ unlinked)) ⊎ ((lasts holder x ≢ x) × (partner out x ≡ lasts holder x))
