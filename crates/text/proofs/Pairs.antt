-- Two numbers in a line are read as what is written of them.
use Rattle.std.proofs.Common.{◌≡◌, ℕ, ◌^◌, ◌<◌, List, ◌∷◌, ◌++◌, None, decimal, sym, ◌∙◌, subst, arith}
use Rattle.text.specs.Reads.{Lacks, ReadsBelow, ReadsPair}
use Rattle.text.proofs.Cuts.{one_cut, has_mark, decimal_lacks}

-- two numbers have a space between them
pub no_space : (bytes : List ℕ) → Lacks 32 bytes → ReadsPair bytes None
no_space bytes h a b i j e = has_mark 32 (decimal a) (decimal b) (subst (Lacks 32) e h)

module _ (bytes first second : List ℕ) (cut : bytes ≡ first ++ (32 ∷ second)) (free : Lacks 32 first) where
  parts : (a b : ℕ) → a < 2 ^ 8 → bytes ≡ decimal a ++ (32 ∷ decimal b) → (first ≡ decimal a) × (second ≡ decimal b)
  parts a b i e = one_cut 32 first second (decimal a) (decimal b) (sym cut ∙ e) free (decimal_lacks 32 a (omega arith) (omega arith))

  -- the part before the first space is no number, or the part behind it
  pub no_first : ReadsBelow (2 ^ 8) first None → ReadsPair bytes None
  no_first n a b i j e = n a i (parts a b i e).0

  pub no_second : ReadsBelow (2 ^ 8) second None → ReadsPair bytes None
  no_second n a b i j e = n b j (parts a b i e).1
