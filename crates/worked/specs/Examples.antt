-- Small levels, files and surveys, and what the rules make of them.
use Rattle.std.specs.Prelude.{◌≡◌, ℕ, List, [], ◌∷◌, drop, Some, None}
use Rattle.codec.specs.Blocks.{block_check, low_high, baking, block_of}
use Rattle.lists.specs.Edits.{promoted}
use Rattle.matching.specs.Linkings.{unlinked}
use Rattle.matching.specs.Proposals.{OneWayResult}
use Rattle.matching.specs.TwoWay.{Outcome}
use Rattle.sources.specs.Layers.{reached}
use Rattle.survey.specs.Ground.{ArchLaw}

-- doors 0, 1 and 2 want each other in a ring, and all want door 3 last
abbrev pub ring : List (List ℕ)
ring = (1 ∷ 2 ∷ 3 ∷ []) ∷ (2 ∷ 0 ∷ 3 ∷ []) ∷ (0 ∷ 1 ∷ 3 ∷ []) ∷ (0 ∷ 1 ∷ 2 ∷ []) ∷ []

-- four doors with two stable linkings; one way, doors 0 and 1 are exits
abbrev pub four_doors : List (List ℕ)
four_doors = (2 ∷ 3 ∷ 1 ∷ []) ∷ (3 ∷ 2 ∷ 0 ∷ []) ∷ (1 ∷ 0 ∷ 3 ∷ []) ∷ (0 ∷ 1 ∷ 2 ∷ []) ∷ []

-- six doors, of which 0, 1 and 2 are exits
abbrev pub six_doors : List (List ℕ)
six_doors = (3 ∷ 5 ∷ 4 ∷ []) ∷ (5 ∷ 3 ∷ 4 ∷ []) ∷ (5 ∷ 3 ∷ 4 ∷ []) ∷ (2 ∷ 0 ∷ 1 ∷ []) ∷ (0 ∷ 1 ∷ 2 ∷ []) ∷ (1 ∷ 2 ∷ 0 ∷ []) ∷ []

-- two doors that list each other
abbrev pub two_doors : List (List ℕ)
two_doors = (1 ∷ []) ∷ (0 ∷ []) ∷ []

-- the check of a block is n, and its last two bytes say so
abbrev pub HasCheck : List ℕ → ℕ → Type 0
HasCheck block n = (block_check block ≡ n) × (drop 510 block ≡ low_high n)

pub record WorkedExamples : Type 0 where
  -- no linking of the ring is stable
  pub none_stable : Outcome ring None
  -- after door 1 has favoured door 0: 0-1 and 2-3
  pub favoured : Outcome (promoted 1 0 ring) (Some (1 ∷ 0 ∷ 3 ∷ 2 ∷ []))
  -- a reach of 1 leaves all unlinked
  pub near : Outcome (reached 1 ring) (Some (unlinked ∷ unlinked ∷ unlinked ∷ unlinked ∷ []))
  -- no doors have an empty linking
  pub nobody : Outcome [] (Some [])
  -- 0-3 and 1-2
  pub turned : Outcome four_doors (Some (3 ∷ 2 ∷ 1 ∷ 0 ∷ []))
  -- one way, with the exits 0 and 1: 0-2 and 1-3 after 2 proposals
  pub four : OneWayResult four_doors (0 ∷ 0 ∷ 1 ∷ 1 ∷ []) (2 ∷ 3 ∷ 0 ∷ 1 ∷ []) 2
  -- one way, with the exits 0, 1 and 2: 0-4, 1-5 and 2-3 after 6 proposals
  pub six : OneWayResult six_doors (0 ∷ 0 ∷ 0 ∷ 1 ∷ 1 ∷ 1 ∷ []) (4 ∷ 5 ∷ 3 ∷ 2 ∷ 0 ∷ 1 ∷ []) 6
  -- arches at east 0, 48 and −33: door 0 lists 1 and then 2
  pub arches : ArchLaw
  -- the checks of the file of two doors, and of the file of none
  pub checks : HasCheck (block_of (baking two_doors) 0) 808 × HasCheck (block_of (baking two_doors) 1) 89 × HasCheck (block_of (baking two_doors) 2) 87
  pub no_doors : HasCheck (block_of (baking []) 0) 796
