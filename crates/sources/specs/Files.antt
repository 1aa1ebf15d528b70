-- What a file source means, and what baking writes.
use Rattle.std.specs.Prelude.{◌≡◌, ℕ, ◌+◌, ◌*◌, true, ◌⊎◌, List, [], length, Ok, Err, Result, ◌≢◌}
use Rattle.faults.specs.declared.Fault.{Fault}
use Rattle.faults.specs.declared.Place.TheVariants.{At}
use Rattle.faults.specs.declared.Refusal.TheVariants.{WrongSize}
use Rattle.codec.specs.Blocks.{baking}
use Rattle.codec.specs.Findings.{in_file}
use Rattle.codec.specs.Verdicts.{RefusedFor}
use Rattle.matching.specs.Lists.{lawful}

-- the lists that the bytes are the baking of, and no doors for bytes that the check refuses
abbrev pub FileMeans : List ℕ → List (List ℕ) → Type 0
FileMeans bytes ls = (bytes ≡ baking ls) ⊎ ((f : Fault) × RefusedFor f bytes × (ls ≡ []))

-- the file of the lists in memory of exactly its size, and the number of its blocks; memory of another size is refused and as it was
abbrev pub Baked : List (List ℕ) → List ℕ → List ℕ → Result ℕ Fault → Type 0
Baked ls old new (Ok blocks) = (new ≡ baking ls) × (blocks ≡ length ls + 1)
Baked ls old new (Err f) = (length old ≢ 512 * (length ls + 1)) × (f ≡ in_file WrongSize (At 0)) × (new ≡ old)

-- what was baked from lawful lists is read back as those lists
abbrev pub ReadsBack : Type 0
ReadsBack = (baked read : List (List ℕ)) (bytes : List ℕ) → lawful baked ≡ true → lawful read ≡ true → bytes ≡ baking baked → FileMeans bytes read → read ≡ baked
