-- The verdict on a block, and on a whole file.
use Rattle.std.specs.Prelude.{◌≡◌, ℕ, true, List, length, Ok, Err, Option, Result, ◌≢◌, slice_index}
use Rattle.faults.specs.declared.Refusal.{Refusal}
use Rattle.faults.specs.declared.Refusal.TheVariants.{WrongSize}
use Rattle.faults.specs.declared.Place.TheVariants.{At}
use Rattle.faults.specs.declared.Fault.{Fault}
use Rattle.lists.specs.declared.table.ListTable.{ListTable}
use Rattle.lists.specs.Tables.{lists}
use Rattle.matching.specs.Lists.{lawful}
use Rattle.codec.specs.Blocks.{baking}
use Rattle.codec.specs.Findings.{header_fault, block_finding, Clean, First, FirstFault, in_file}

-- the verdict on block b, whose byte i is wrong as `wrong i` says: nothing found, or the first finding
abbrev pub Verdict : ℕ → (ℕ → Option Refusal) → List ℕ → Result (Unit {0}) Fault → Type 0
Verdict b wrong block (Ok _) = Clean (block_finding b block wrong)
Verdict b wrong block (Err f) = First (block_finding b block wrong) f

-- the verdict on the header: with nothing found, the number of doors
abbrev pub HeaderVerdict : List ℕ → Result ℕ Fault → Type 0
HeaderVerdict block (Ok n) = Clean (block_finding 0 block (header_fault block)) × (n ≡ slice_index block 5)
HeaderVerdict block (Err f) = First (block_finding 0 block (header_fault block)) f

-- the bytes are the file of lawful lists of n doors
abbrev pub FileOf : ℕ → List ℕ → Type 0
FileOf n bytes = (ls : List (List ℕ)) × (lawful ls ≡ true) × (length ls ≡ n) × (bytes ≡ baking ls)

-- the bytes are refused for f, their first fault, and no lawful lists have this file
abbrev pub RefusedFor : Fault → List ℕ → Type 0
RefusedFor f bytes = FirstFault bytes f × ((ls : List (List ℕ)) → lawful ls ≡ true → bytes ≢ baking ls)

-- accepted with the number of doors, or refused for the first fault
abbrev pub Judged : List ℕ → Result ℕ Fault → Type 0
Judged bytes (Ok n) = FileOf n bytes
Judged bytes (Err f) = RefusedFor f bytes

-- the lists whose file the bytes are, or refused for the first fault
abbrev pub Opened : List ℕ → Result ListTable Fault → Type 0
Opened bytes (Ok t) = bytes ≡ baking (lists t)
Opened bytes (Err f) = RefusedFor f bytes

-- a block written in place: where it fits it holds what was to be written, and otherwise it is refused and as it was
abbrev pub Written : Type 0 → List ℕ → List ℕ → List ℕ → Result (Unit {0}) Fault → Type 0
Written Fits made old new (Ok _) = Fits × (new ≡ made)
Written Fits made old new (Err f) = (Fits → ⊥) × (f ≡ in_file WrongSize (At 0)) × (new ≡ old)
