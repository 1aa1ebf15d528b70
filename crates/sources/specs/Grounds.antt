-- What a ground source means.
use Rattle.std.specs.Prelude.{◌≡◌, ℕ, ◌⊎◌, List, []}
use Rattle.faults.specs.declared.Fault.{Fault}
use Rattle.survey.specs.declared.Record.{Record}
use Rattle.survey.specs.Ground.{Sound, GroundLists, SurveyFault}

-- the lists of the ground rule for records that can be ranked, and no doors for refused ones
abbrev pub GroundMeans : List Record → List (List ℕ) → Type 0
GroundMeans rs ls = (Sound rs × GroundLists rs ls) ⊎ ((f : Fault) × SurveyFault rs f × (ls ≡ []))
