-- What the program for one-way linking prints.
use Rattle.std.specs.Prelude.{◌≡◌, ℕ, true, ◌⊎◌, List, [], ◌∷◌, ◌++◌, length, replicate, codes, decimal, ◌≢◌}
use Rattle.faults.specs.declared.Fault.{Fault}
use Rattle.faults.specs.declared.Refusal.{Refusal}
use Rattle.faults.specs.declared.Refusal.TheVariants.{WrongSize, BadSide, UnreadLine}
use Rattle.codec.specs.Blocks.{baking}
use Rattle.codec.specs.Verdicts.{RefusedFor}
use Rattle.linker.specs.OneWay.{SidesFit}
use Rattle.matching.specs.Lists.{lawful}
use Rattle.matching.specs.Proposals.{OneWayResult}
use Rattle.text.specs.Digits.{Digits, numbers_of}
use Rattle.text.specs.Lines.{linking_line, refused_line, refused_file_line}

-- a linking in which every door stands, and under it the number of its proposals
abbrev pub linked_text : List ℕ → ℕ → List ℕ
linked_text partners proposals = linking_line [] (replicate (length partners) true) partners ++ (10 ∷ (decimal proposals ++ codes " proposals"))

-- The first thing that is wrong with a line of sides for n doors: 7 for another number of characters, then 18 for a character that is
-- no digit, then 8 for a digit above 1.
abbrev pub Wrong : ℕ → List ℕ → Refusal → Type 0
Wrong n line r =
    ((length line ≢ n) × (r ≡ WrongSize))
    ⊎ (((length line ≡ n) × (Digits line → ⊥) × (r ≡ UnreadLine))
    ⊎ ((length line ≡ n) × Digits line × (SidesFit (numbers_of line) → ⊥) × (r ≡ BadSide)))

-- for lists and a line of sides: the refusal, or the one-way linking
abbrev pub OneWayText : List (List ℕ) → List ℕ → List ℕ → Type 0
OneWayText ls line text =
    ((r : Refusal) × Wrong (length ls) line r × (text ≡ refused_line r))
    ⊎ ((m : List ℕ) × (k : ℕ) × (length line ≡ length ls) × Digits line × SidesFit (numbers_of line) × OneWayResult ls (numbers_of line) m k × (text ≡ linked_text m k))

-- for a file and a line of sides: the file's first fault, or what is printed for the lists in it
abbrev pub FileText : List ℕ → List ℕ → List ℕ → Type 0
FileText file line text =
    ((f : Fault) × RefusedFor f file × (text ≡ refused_file_line f))
    ⊎ ((ls : List (List ℕ)) × (lawful ls ≡ true) × (file ≡ baking ls) × OneWayText ls line text)
