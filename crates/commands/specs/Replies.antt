-- What a line is answered with, and what it makes of the level.
use Rattle.std.specs.Prelude.{◌≡◌, ℕ, Bool, not, ◌⊎◌, List, [], map, length, IfOk, vec_items, Some, None, Ok, Err, string_bytes, codes, Option, Result, String}
use Rattle.std.specs.List.{range_with_len}
use Rattle.std.specs.declared.alloc.AllocError.{AllocError}
use Rattle.std.specs.declared.alloc.Global.{Global}
use Rattle.faults.specs.declared.Fault.{Fault}
use Rattle.faults.specs.declared.Refusal.TheVariants.{NoStableLinking, UnreadLine}
use Rattle.level.specs.Checks.{claim_fault, forbid_fault, favour_fault}
use Rattle.level.specs.Edits.{claimed, struck_out, forbade, favoured}
use Rattle.level.specs.View.{View, state, is_struck}
use Rattle.linker.specs.Links.{LinkingFound, NoneFound}
use Rattle.text.specs.Lines.{linking_line, refused_line}
use Rattle.commands.specs.Written.{ReadsCommand}
use Rattle.commands.specs.declared.replies.Reply.{Reply}
use Rattle.commands.specs.declared.replies.Reply.TheVariants.{Done, Refused, Linked}
use Rattle.commands.specs.declared.reading.Command.{Command}
use Rattle.commands.specs.declared.reading.Command.TheVariants.{Strike, Forbid, Favour, Link}

-- what an edit came to
abbrev pub edit_line : Result (Unit {0}) Fault → List ℕ
edit_line (Ok _) = codes "ok"
edit_line (Err f) = refused_line f.refusal

-- the text of a reply
abbrev pub reply_text : Reply → List ℕ
reply_text Done = codes "ok"
reply_text (Refused refusal) = refused_line refusal
reply_text (Linked standing partners) = linking_line [] (vec_items standing) (vec_items partners)

-- the same from what the edit's checks find
abbrev pub check_line : Option Fault → List ℕ
check_line None = codes "ok"
check_line (Some f) = refused_line f.refusal

-- the level after an edit: made where its checks find nothing (w), and otherwise as it was (v)
abbrev pub edited : Option Fault → View → View → View
edited None v w = w
edited (Some f) v w = v

-- a door stands: it was not struck
abbrev pub stands : View → ℕ → Bool
stands v d = not (is_struck (state v d))

-- the same of each door in turn
abbrev pub standing : View → List Bool
standing v = map (stands v) (range_with_len 0 (length v.lists))

-- the linking over the lists of the moment, said of the doors that stand; or that none is stable
abbrev pub LinkLine : View → List ℕ → Type 0
LinkLine v text =
    ((m : List ℕ) × LinkingFound v.lists m × (text ≡ linking_line [] (standing v) m))
    ⊎ (NoneFound v.lists × (text ≡ refused_line NoStableLinking))

-- what a command makes of the level; a door is claimed and then struck
abbrev pub after : View → Command → View
after v (Strike d) = edited (claim_fault v d) v (struck_out (claimed v d) d)
after v (Forbid a b) = edited (forbid_fault v a b) v (forbade v a b)
after v (Favour a b) = edited (favour_fault v a b) v (favoured v a b)
after v Link = v

-- and what it is answered with
abbrev pub Says : View → Command → List ℕ → Type 0
Says v (Strike d) text = text ≡ check_line (claim_fault v d)
Says v (Forbid a b) text = text ≡ check_line (forbid_fault v a b)
Says v (Favour a b) text = text ≡ check_line (favour_fault v a b)
Says v Link text = LinkLine v text

-- the command that a line says; a line that is too long says none
abbrev pub Heard : Option (List ℕ) → Option Command → Type 0
Heard None c = c ≡ None
Heard (Some line) c = ReadsCommand line c

-- a line that says no command leaves the level as it is, and is refused with 18
abbrev pub after_line : View → Option Command → View
after_line v None = v
after_line v (Some c) = after v c

abbrev pub SaysLine : View → Option Command → List ℕ → Type 0
SaysLine v None text = text ≡ refused_line UnreadLine
SaysLine v (Some c) text = Says v c text

-- the answer to a line: what it makes of the level, also where no memory is left for the text, and the text
pub record AnswersLine (v : View) (line : Option (List ℕ)) (w : View) (r : Result (String Global) AllocError) : Type 0 where
  pub command : Option Command
  pub heard : Heard line command
  pub level : w ≡ after_line v command
  pub says : IfOk r (λ s. SaysLine v command (string_bytes s))

-- the same, where the answer is a reply
pub record Replies (v : View) (line : Option (List ℕ)) (w : View) (r : Result Reply AllocError) : Type 0 where
  pub command : Option Command
  pub heard : Heard line command
  pub level : w ≡ after_line v command
  pub says : IfOk r (λ reply. SaysLine v command (reply_text reply))
