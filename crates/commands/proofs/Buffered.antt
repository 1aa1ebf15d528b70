-- One more byte in a line's buffer.
use Rattle.std.proofs.Common.{◌≡◌, ℕ, ◌<◌, ◌≤◌, leb, List, [], ◌∷◌, ◌++◌, length, Some, None, sym, ap, ◌∙◌, ⊎_elim, arith}
use Rattle.std.proofs.lemmas.List.{length_push}
use Rattle.std.proofs.lemmas.Bool.{cond-true, cond-false, le-leb, lt-leb, cases_lt}
use Rattle.commands.specs.Buffers.{kept}

kept_short : (line : List ℕ) → length line ≤ 64 → kept line ≡ Some line
kept_short line h = cond-true (leb (length line) 64) (Some line) None (le-leb (length line) 64 h)

kept_long : (line : List ℕ) → 64 < length line → kept line ≡ None
kept_long line h = cond-false (leb (length line) 64) (Some line) None (lt-leb (length line) 64 h)

long_from_none : (line : List ℕ) → None ≡ kept line → 64 < length line
long_from_none line e = ⊎_elim (λ l. l) (λ l. absurd (grind (arith, e, kept_short line l))) (cases_lt 64 (length line))

line_from_some : (l line : List ℕ) → Some l ≡ kept line → l ≡ line
line_from_some l line e = ⊎_elim (λ g. absurd (grind (arith, e, kept_long line g))) (λ s. grind (arith, e, kept_short line s)) (cases_lt 64 (length line))

long_more : (line : List ℕ) (byte : ℕ) → 64 ≤ length line → None ≡ kept (line ++ (byte ∷ []))
long_more line byte h = sym (kept_long (line ++ (byte ∷ [])) (omega (arith, length_push line byte)))

-- a byte for which there is a place, one for which there is none, and one behind a line that is too long
pub fed_more : (l line : List ℕ) (byte : ℕ) → length l < 64 → Some l ≡ kept line → Some (l ++ (byte ∷ [])) ≡ kept (line ++ (byte ∷ []))
fed_more l line byte h e =
    let same : l ≡ line = line_from_some l line e in
    ap Some (ap (λ k. k ++ (byte ∷ [])) same) ∙ sym (kept_short (line ++ (byte ∷ [])) (omega (arith, length_push line byte, ap length same)))

pub fed_over : (l line : List ℕ) (byte : ℕ) → 64 ≤ length l → Some l ≡ kept line → None ≡ kept (line ++ (byte ∷ []))
fed_over l line byte h e = long_more line byte (omega (arith, ap length (line_from_some l line e)))

pub fed_long : (line : List ℕ) (byte : ℕ) → None ≡ kept line → None ≡ kept (line ++ (byte ∷ []))
fed_long line byte e = long_more line byte (omega (arith, long_from_none line e))
