-- A line on its way in.
use Rattle.std.specs.Prelude.{◌≡◌, ℕ, Bool, true, false, cond, List, [], ◌∷◌, ◌++◌, length, Some, None, Option, ◌≢◌, nat_le}

-- a line as it is kept: as it is with at most 64 bytes, and nothing with more
abbrev pub kept : List ℕ → Option (List ℕ)
kept line = cond (nat_le (length line) 64) (Some line) None

-- a line with no bytes
abbrev pub is_blank : Option (List ℕ) → Bool
is_blank None = false
is_blank (Some []) = true
is_blank (Some (b ∷ bs)) = false

-- One more byte. It ends the line where it is 10, and the line stays as it is; otherwise it comes behind those that came before.
abbrev pub Fed : Option (List ℕ) → ℕ → Bool → Option (List ℕ) → Type 0
Fed before byte true after = (byte ≡ 10) × (after ≡ before)
Fed before byte false after = (byte ≢ 10) × ((line : List ℕ) → before ≡ kept line → after ≡ kept (line ++ (byte ∷ [])))
