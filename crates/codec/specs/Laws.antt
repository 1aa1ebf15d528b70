-- Laws of level files.
use Rattle.std.specs.Prelude.{◌≡◌, ℕ, true, List}
use Rattle.faults.specs.declared.Fault.{Fault}
use Rattle.matching.specs.Lists.{lawful}
use Rattle.codec.specs.Blocks.{baking}
use Rattle.codec.specs.Findings.{FirstFault}

-- bytes without a first fault are the file of some lawful lists
abbrev pub FaultlessAreFiles : Type 0
FaultlessAreFiles = (bytes : List ℕ) → ((f : Fault) → FirstFault bytes f → ⊥) → (ls : List (List ℕ)) × (lawful ls ≡ true) × (bytes ≡ baking ls)

-- and the file of lawful lists has no first fault
abbrev pub FilesAreFaultless : Type 0
FilesAreFaultless = (ls : List (List ℕ)) → lawful ls ≡ true → (f : Fault) → FirstFault (baking ls) f → ⊥

-- no bytes have two first faults
abbrev pub OneFirstFault : Type 0
OneFirstFault = (bytes : List ℕ) (f g : Fault) → FirstFault bytes f → FirstFault bytes g → f ≡ g

-- different lawful lists have different files
abbrev pub FilesDiffer : Type 0
FilesDiffer = (ks ls : List (List ℕ)) → lawful ks ≡ true → lawful ls ≡ true → baking ks ≡ baking ls → ks ≡ ls
