-- What `one_way_link` answers.
use Rattle.std.specs.Prelude.{◌≡◌, ℕ, ◌+◌, ◌*◌, ◌<◌, ◌≤◌, ◌⊎◌, List, length, Ok, Err, Result, slice_index}
use Rattle.faults.specs.declared.Fault.{Fault}
use Rattle.faults.specs.declared.Layer.TheVariants.{Linker}
use Rattle.faults.specs.declared.Place.TheVariants.{At}
use Rattle.faults.specs.declared.Refusal.{Refusal}
use Rattle.faults.specs.declared.Refusal.TheVariants.{WrongSize, BadSide}
use Rattle.matching.specs.Proposals.{OneWayResult}

-- a refusal of the linker, at a number
abbrev pub linker_fault : Refusal → ℕ → Fault
linker_fault r i = record { refusal = r; layer = Linker; place = At i }

-- the sizes that n doors ask for: a side and an entry of the output for each, and enough memory
pub record Room (n : ℕ) (sides out memory : List ℕ) : Type 0 where
  pub sided : length sides ≡ n
  pub written : length out ≡ n
  pub worked : 3 * n * n + 8 * n ≤ length memory

-- i is the index of the first side byte that is neither 0 nor 1
pub record FirstBad (sides : List ℕ) (i : ℕ) : Type 0 where
  pub within : i < length sides
  pub bad : 1 < slice_index sides i
  pub before : (j : ℕ) → j < i → slice_index sides j ≤ 1

-- every side byte is 0 or 1
abbrev pub SidesFit : List ℕ → Type 0
SidesFit sides = (j : ℕ) → slice_index sides j ≤ 1

-- With sizes and sides that fit, the output is the one-way linking and the answer its number of proposals. Otherwise output and memory
-- stay as they were, and the fault says what does not fit: the sizes, or else the first bad side byte, at its index.
abbrev pub OneWay : List (List ℕ) → (sides out out' memory memory' : List ℕ) → Result ℕ Fault → Type 0
OneWay ls sides out out' memory memory' (Ok k) = Room (length ls) sides out memory × SidesFit sides × OneWayResult ls sides out' k
OneWay ls sides out out' memory memory' (Err f) =
    (out' ≡ out) × (memory' ≡ memory)
    × (((Room (length ls) sides out memory → ⊥) × (f ≡ linker_fault WrongSize 0))
    ⊎ (Room (length ls) sides out memory × ((i : ℕ) × FirstBad sides i × (f ≡ linker_fault BadSide i))))
