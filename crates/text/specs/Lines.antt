-- Lines that programs print.
use Rattle.std.specs.Prelude.{ℕ, suc, Bool, true, false, cond, List, [], ◌∷◌, ◌++◌, Some, None, codes, decimal, Option, ◌==◌, nat_lt}
use Rattle.faults.specs.Number.{number}
use Rattle.faults.specs.declared.Fault.{Fault}
use Rattle.faults.specs.declared.Place.{Place}
use Rattle.faults.specs.declared.Place.TheVariants.{At, Byte}
use Rattle.faults.specs.declared.Refusal.{Refusal}
use Rattle.std.specs.List.{flat_map}

-- words with single spaces between them
abbrev pub spaced : List (List ℕ) → List ℕ
spaced [] = []
spaced (w ∷ ws) = w ++ flat_map (λ v. 32 ∷ v) ws

-- the partner that a linking holds for a door: none where it holds 65535
abbrev pub partner : ℕ → Option ℕ
partner held = cond (held == 65535) None (Some held)

-- what a linking says at a standing door: the door alone where it is unlinked, `door-partner` where the partner is the higher
-- door, and nothing at the higher door of a pair
abbrev pub entry : ℕ → Option ℕ → List (List ℕ)
entry door None = decimal door ∷ []
entry door (Some other) = cond (nat_lt door other) ((decimal door ++ (45 ∷ decimal other)) ∷ []) []

-- what it says at any door: its entry where it stands
abbrev pub entry_at : Bool → ℕ → Option ℕ → List (List ℕ)
entry_at stands door other = cond stands (entry door other) []

-- the entries of the standing doors from `door` on, in rising order
abbrev pub entries : ℕ → List Bool → List ℕ → List (List ℕ)
entries door [] ps = []
entries door (s ∷ ss) [] = []
entries door (s ∷ ss) (p ∷ ps) = entry_at s door (partner p) ++ entries (suc door) ss ps

-- a head, where there is one, and the entries of a linking
abbrev pub linking_line : List ℕ → List Bool → List ℕ → List ℕ
linking_line [] standing partners = spaced (entries 0 standing partners)
linking_line (c ∷ cs) standing partners = spaced ((c ∷ cs) ∷ entries 0 standing partners)

-- what a refused call is answered with
abbrev pub refused_line : Refusal → List ℕ
refused_line refusal = codes "no " ++ decimal (number refusal)

-- the block and byte that a line names: 0 and 0 where the place is one number
abbrev pub block_byte : Place → ℕ × ℕ
block_byte (At n) = (0, 0)
block_byte (Byte block byte) = (block, byte)

-- what a refused file is answered with: number, block and byte
abbrev pub refused_file_line : Fault → List ℕ
refused_file_line fault = codes "file " ++ (decimal (number fault.refusal) ++ (32 ∷ (decimal (block_byte fault.place).0 ++ (32 ∷ decimal (block_byte fault.place).1))))

-- there is an entry
abbrev pub is_said : List (List ℕ) → Bool
is_said [] = false
is_said (w ∷ ws) = true

-- what an entry adds to a line: its word, after a space where the line is begun
abbrev pub added : Bool → List (List ℕ) → List ℕ
added begun [] = []
added begun (w ∷ ws) = cond begun (32 ∷ []) [] ++ w

-- words that begin a line, or come after what stands in it
abbrev pub joined : Bool → List (List ℕ) → List ℕ
joined false ws = spaced ws
joined true ws = flat_map (λ v. 32 ∷ v) ws

-- what entries add to a line: each its word, after a space where something stands before it
abbrev pub all_added : Bool → List (List ℕ) → List ℕ
all_added begun [] = []
all_added begun (w ∷ ws) = (cond begun (32 ∷ []) [] ++ w) ++ all_added true ws
