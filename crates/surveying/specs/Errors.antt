-- What reading a survey answers.
use Rattle.std.specs.Prelude.{ℕ, List, Ok, Err, vec_items, Result, Vec}
use Rattle.std.specs.declared.alloc.Global.{Global}
use Rattle.lists.specs.Tables.{lists}
use Rattle.lists.specs.declared.table.ListTable.{ListTable}
use Rattle.survey.specs.Ground.{Sound, GroundLists, SurveyFault}
use Rattle.survey.specs.declared.Record.{Record}
use Rattle.surveying.specs.Survey.{Says, MalformedAt}
use Rattle.text.specs.Texts.{lines}
use Rattle.surveying.specs.declared.failures.SurveyError.{SurveyError}
use Rattle.surveying.specs.declared.failures.SurveyError.TheVariants.{Malformed, NoMemory, Refused}

-- the records that the lines say, or the number of the first malformed line; memory may run out at any text
abbrev pub Surveyed : List ℕ → Result (Vec Record Global) SurveyError → Type 0
Surveyed text (Ok records) = Says (lines text) (vec_items records)
Surveyed text (Err (Malformed n)) = MalformedAt (lines text) n
Surveyed text (Err (Refused f)) = ⊥
Surveyed text (Err NoMemory) = Unit {0}

-- the lists of the ground rule for the records that the lines say, or why there are none
abbrev pub RankedSurvey : List ℕ → Result ListTable SurveyError → Type 0
RankedSurvey text (Ok table) = (rs : List Record) × Says (lines text) rs × Sound rs × GroundLists rs (lists table)
RankedSurvey text (Err (Malformed n)) = MalformedAt (lines text) n
RankedSurvey text (Err (Refused f)) = (rs : List Record) × Says (lines text) rs × SurveyFault rs f
RankedSurvey text (Err NoMemory) = Unit {0}
