-- The line of a one-way linking, by its head.
use Rattle.std.proofs.Common.{◌≡◌, ℕ, Bool, true, List, ◌++◌, codes, decimal, ◌∙◌, arith}
use Rattle.std.proofs.lemmas.List.{append_assoc, length-append}
use Rattle.text.specs.Lines.{entries, joined}
use Rattle.text.proofs.Written.{linking_line-some}
use Rattle.journaling.specs.Answers.{linked_text}

pub linked_text_head : (standing : List Bool) (k : ℕ) (output : List ℕ) → linked_text standing k output ≡ decimal k ++ (codes " proposals:" ++ joined true (entries 0 standing output))
linked_text_head standing k output =
    linking_line-some (decimal k ++ codes " proposals:") standing output (simp length-append (omega arith)) ∙ append_assoc (decimal k) (codes " proposals:") (joined true (entries 0 standing output))
