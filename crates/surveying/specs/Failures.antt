-- What is said where a survey gives no lists.
use Rattle.std.specs.Prelude.{ℕ, List, ◌++◌, codes, decimal}
use Rattle.faults.specs.Words.{refused_text}
use Rattle.surveying.specs.declared.failures.SurveyError.{SurveyError}
use Rattle.surveying.specs.declared.failures.SurveyError.TheVariants.{Malformed, Refused, NoMemory}

-- the line for each failure
abbrev pub failure_text : SurveyError → List ℕ
failure_text (Malformed n) = codes "malformed line " ++ decimal n
failure_text (Refused f) = refused_text f
failure_text NoMemory = codes "no memory"
