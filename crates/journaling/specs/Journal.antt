-- What a journal prints.
use Rattle.std.specs.Prelude.{◌≡◌, ℕ, ◌<◌, ◌≤◌, true, ◌⊎◌, List, [], ◌++◌, length, None, codes, slice_index_or}
use Rattle.std.specs.List.{range_with_len, flat_map}
use Rattle.codec.specs.Blocks.{baking}
use Rattle.codec.specs.Verdicts.{RefusedFor}
use Rattle.faults.specs.declared.Fault.{Fault}
use Rattle.matching.specs.Lists.{lawful}
use Rattle.replay.specs.declared.calls.Answer.{Answer}
use Rattle.replay.specs.declared.calls.Answer.TheVariants.{NotShown}
use Rattle.replay.specs.declared.calls.Call.{Call}
use Rattle.replay.specs.History.{History, before, said}
use Rattle.replay.specs.Law.{Answered, Law}
use Rattle.text.specs.Texts.{lines}
use Rattle.text.specs.Lines.{refused_file_line}
use Rattle.journaling.specs.Answers.{answer_text}
use Rattle.journaling.specs.Calls.{LineCalls, ReadsCall}
use Rattle.journaling.specs.Doors.{standing, holding}
use Rattle.journaling.specs.Summary.{summary_text}

-- the line of answer i, over n doors: a linking shows the doors that stood before its call
abbrev pub answer_line : ℕ → List Call → List Answer → ℕ → List ℕ
answer_line n calls answers i = answer_text (standing n (before calls answers i)) (said answers i) ++ codes "\n"

-- the lines of all answers, in their order
unfoldable pub answer_lines : ℕ → List Call → List Answer → List ℕ
answer_lines n calls answers = flat_map (answer_line n calls answers) (range_with_len 0 (length answers))

-- the history of a whole run
abbrev pub ending : List Call → List Answer → History
ending calls answers = before calls answers (length answers)

-- the answers, an empty line, and the summary
abbrev pub journal_text : ℕ → List Call → List Answer → List ℕ
journal_text n calls answers =
    (answer_lines n calls answers ++ codes "\n") ++ summary_text (standing n (ending calls answers)) (holding n (ending calls answers)) answers

-- the answers are right for the calls, over some lists of a level
abbrev pub Ran : List Call → List Answer → Type 0
Ran calls answers = (ls : List (List ℕ)) × (length ls ≤ 96) × Answered ls calls answers

-- the text of a journal over a level's lists
pub record Journal (ls : List (List ℕ)) (input text : List ℕ) : Type 0 where
  pub calls : List Call
  pub answers : List Answer
  -- each line makes its call
  pub made : LineCalls (length ls) (lines input) calls
  -- the calls are answered by the law of the level
  pub law : Law ls calls answers
  -- a line that is not read is answered so, and no call is made for it
  pub unread : (i : ℕ) → i < length (lines input) → ReadsCall (length ls) (slice_index_or (lines input) i []) None → said answers i ≡ NotShown
  -- the text tells the answers
  pub told : text ≡ journal_text (length ls) calls answers

-- the text for a level file: its first fault and nothing else, or the journal over the lists in it
abbrev pub FileJournal : List ℕ → List ℕ → List ℕ → Type 0
FileJournal file input text =
    ((f : Fault) × RefusedFor f file × (text ≡ refused_file_line f ++ codes "\n"))
    ⊎ ((ls : List (List ℕ)) × (lawful ls ≡ true) × (file ≡ baking ls) × Journal ls input text)
