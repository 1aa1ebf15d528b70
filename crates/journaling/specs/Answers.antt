-- Answers as lines, and how they are counted.
use Rattle.std.specs.Prelude.{ℕ, Bool, false, List, [], ◌++◌, Some, None, Ok, Err, vec_items, codes, decimal, fold, count_by, Option, nat_eq, nat_lt}
use Rattle.std.specs.List.{enumerate_from}
use Rattle.faults.specs.Number.{number}
use Rattle.faults.specs.declared.Refusal.{Refusal}
use Rattle.faults.specs.declared.Refusal.TheVariants.{UnreadLine}
use Rattle.replay.specs.declared.calls.Answer.{Answer}
use Rattle.replay.specs.declared.calls.Answer.TheVariants.{Claimed, Granted, Refused, NotShown, OneWay as OneWayDone, Link as LinkDone}
use Rattle.text.specs.Lines.{linking_line, partner, refused_line}

-- the line of a one-way linking: the number of proposals, and the entries of the standing doors
abbrev pub linked_text : List Bool → ℕ → List ℕ → List ℕ
linked_text standing proposals output = linking_line (decimal proposals ++ codes " proposals:") standing output

-- the line of an answer, where these doors stand: a claim's number, `ok`, `no` and a refusal's number, or the number of proposals and the
-- linking of the standing doors; a claim that cannot be shown is answered like a line that is not read
abbrev pub answer_text : List Bool → Answer → List ℕ
answer_text standing (Claimed k) = codes "claim " ++ decimal k
answer_text standing Granted = codes "ok"
answer_text standing (Refused f) = refused_line f.refusal
answer_text standing NotShown = refused_line UnreadLine
answer_text standing (OneWayDone (Ok k) output) = linked_text standing k (vec_items output)
answer_text standing (OneWayDone (Err f) output) = refused_line f.refusal
answer_text standing (LinkDone (Ok _) output) = linking_line [] standing (vec_items output)
answer_text standing (LinkDone (Err f) output) = refused_line f.refusal

-- the refusal that an answer gives, if it gives one
abbrev pub refusal : Answer → Option Refusal
refusal (Claimed k) = None
refusal Granted = None
refusal (Refused f) = Some f.refusal
refusal NotShown = Some UnreadLine
refusal (OneWayDone (Ok k) output) = None
refusal (OneWayDone (Err f) output) = Some f.refusal
refusal (LinkDone (Ok _) output) = None
refusal (LinkDone (Err f) output) = Some f.refusal

-- its number, or 0
abbrev pub counted : Option Refusal → ℕ
counted None = 0
counted (Some r) = number r

-- what is counted of an answer: 0 for a grant, the refusal's number for a refusal, 18 where no call was made
abbrev pub verdict : Answer → ℕ
verdict a = counted (refusal a)

-- how many answers have a verdict
abbrev pub tally : List Answer → ℕ → ℕ
tally answers v = count_by (λ a. nat_eq (verdict a) v) answers

-- a door is the lower door of a pair with this partner
abbrev pub below : ℕ → Option ℕ → Bool
below door None = false
below door (Some other) = nat_lt door other

-- and where a linking holds this for it
abbrev pub lower : ℕ → ℕ → Bool
lower door held = below door (partner held)

-- the pairs of a linking
abbrev pub pairs : List ℕ → ℕ
pairs m = count_by (λ p. lower p.0 p.1) (enumerate_from 0 m)

-- the pairs of the last linking, after one more answer
abbrev pub pairs_after : ℕ → Answer → ℕ
pairs_after n (Claimed k) = n
pairs_after n Granted = n
pairs_after n (Refused f) = n
pairs_after n NotShown = n
pairs_after n (OneWayDone (Ok k) output) = pairs (vec_items output)
pairs_after n (OneWayDone (Err f) output) = n
pairs_after n (LinkDone (Ok _) output) = pairs (vec_items output)
pairs_after n (LinkDone (Err f) output) = n

-- the pairs of the last linking answered; 0 where there is none
abbrev pub last_pairs : List Answer → ℕ
last_pairs answers = fold pairs_after 0 answers
