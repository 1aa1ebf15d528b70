-- The lines of a text, one after another.
use Rattle.std.proofs.Common.{◌≡◌, ℕ, ◌<◌, eqb, List, [], ◌∷◌, ◌++◌, length, Some, None, Option, sym, refl, ap, ◌∙◌, arith}
use Rattle.std.specs.Borrow.{Bor}
use Rattle.std.specs.Option.{unwrap_or}
use Rattle.std.proofs.lemmas.List.{length-append}
use Rattle.std.proofs.lemmas.Bool.{cond-false, ne_eqb}
use Rattle.text.specs.Reads.{Lacks, SplitsAt}
use Rattle.text.specs.Texts.{FirstLine, lines, onto}
use Rattle.text.proofs.Cuts.{lacks_rest}

-- a byte that ends no line belongs to the first
lines_byte : (c : ℕ) (cs : List ℕ) → Lacks 10 (c ∷ cs) → (bs : List ℕ) → lines (c ∷ bs) ≡ onto c (lines bs)
lines_byte c cs h bs = cond-false (eqb c 10) ([] ∷ lines bs) (onto c (lines bs)) (ne_eqb c 10 (h 0 (omega arith)))

pub lines_cut : (l rest : List ℕ) → Lacks 10 l → lines (l ++ (10 ∷ rest)) ≡ l ∷ lines rest
lines_cut [] rest h = refl
lines_cut (c ∷ l) rest h = lines_byte c l h (l ++ (10 ∷ rest)) ∙ ap (onto c) (lines_cut l rest (lacks_rest 10 c l h))

pub lines_last : (l : List ℕ) → Lacks 10 l → 0 < length l → lines l ≡ l ∷ []
lines_last [] h s = absurd (omega arith)
lines_last (c ∷ []) h s = lines_byte c [] h []
lines_last (c ∷ d ∷ l) h s = lines_byte c (d ∷ l) h (d ∷ l) ∙ ap (onto c) (lines_last (d ∷ l) (lacks_rest 10 c (d ∷ l) h) (omega arith))

pub rest_less : (text l rest : List ℕ) → text ≡ l ++ (10 ∷ rest) → length rest < length text
rest_less text l rest e = omega (arith, ap length e ∙ length-append l (10 ∷ rest))

-- the first line ends at the first line feed, or with the text
pub first_line_is : (text : List ℕ) (cut : Option (Bor (List ℕ) × Bor (List ℕ))) (whole : Bor (List ℕ) × Bor (List ℕ)) → SplitsAt 10 text cut → 0 < length text → whole.0.now ≡ text → whole.1.now ≡ []
    → FirstLine text (Some (unwrap_or cut whole))
first_line_is text (Some p) whole h some e f = (ap lines h.0 ∙ lines_cut p.0.now p.1.now h.1, rest_less text p.0.now p.1.now h.0)
first_line_is text None whole h some e f =
    (lines_last text h some ∙ ap (λ l. l ∷ []) (sym e) ∙ ap (λ l. whole.0.now ∷ lines l) (sym f), omega (arith, ap length f))
