-- The questions about one block.
use Rattle.std.proofs.Common.{◌≡◌, ℕ, zero, suc, ◌<◌, true, false, ltb, List, Some, None, Option, sym, refl, ap, ◌∙◌, ⊎_elim, arith}
use Rattle.std.specs.Option.{option_map}
use Rattle.std.proofs.lemmas.Bool.{cond-true, lt-ltb, le-ltb, cases_Bool, cases_lt}
use Rattle.faults.specs.declared.Refusal.{Refusal}
use Rattle.faults.specs.declared.Refusal.TheVariants.{BlockCheck}
use Rattle.faults.specs.declared.Place.TheVariants.{Byte}
use Rattle.faults.specs.declared.Fault.{Fault}
use Rattle.codec.specs.Findings.{checked, block_finding, in_file, Clean, First}

none_from_mapped : {T U : Type 0} (f : T → U) (o : Option T) → option_map f o ≡ None → o ≡ None
none_from_mapped f None h = refl
none_from_mapped f (Some x) h = absurd (grind arith)

module _ (b : ℕ) (block : List ℕ) (wrong : ℕ → Option Refusal) where
  -- a wrong check is found first
  pub check_first : (f : Fault) → f ≡ in_file BlockCheck (Byte b 510) → false ≡ checked block → First (block_finding b block wrong) f
  unfolding block_finding
  check_first f e h = record { question = 0; found = grind (arith, e, h); before = λ q i. absurd (omega arith) }

  clean_below : true ≡ checked block → (i : ℕ) → ((k : ℕ) → k < i → wrong k ≡ None) → (q : ℕ) → q < suc i → block_finding b block wrong q ≡ None
  unfolding block_finding
  clean_below h i clean zero l = grind (arith, h)
  clean_below h i clean (suc q) l = grind (arith, clean q)

  -- the first wrong byte after clean ones
  pub byte_first : (i : ℕ) (r : Refusal) (f : Fault) → f ≡ in_file r (Byte b i) → true ≡ checked block → i < 510 → ((k : ℕ) → k < i → wrong k ≡ None) → wrong i ≡ Some r → First (block_finding b block wrong) f
  unfolding block_finding
  byte_first i r f e h l clean g =
      record {
        question = suc i;
        found = cond-true (ltb i 510) (option_map (λ s. in_file s (Byte b i)) (wrong i)) None (lt-ltb i 510 l) ∙ ap (option_map (λ s. in_file s (Byte b i))) g ∙ ap Some (sym e);
        before = clean_below h i clean;
      }

  -- every byte is clean
  pub all_clean : true ≡ checked block → ((k : ℕ) → k < 510 → wrong k ≡ None) → Clean (block_finding b block wrong)
  unfolding block_finding
  all_clean h clean zero = grind (arith, h)
  all_clean h clean (suc q) = grind (arith, clean q)

  -- what a clean question says
  pub checked_from_clean : block_finding b block wrong 0 ≡ None → checked block ≡ true
  unfolding block_finding
  checked_from_clean h = grind (arith, h, cases_Bool (checked block))

  pub byte_from_clean : (i : ℕ) → i < 510 → block_finding b block wrong (suc i) ≡ None → wrong i ≡ None
  unfolding block_finding
  byte_from_clean i l h =
      none_from_mapped (λ s. in_file s (Byte b i)) (wrong i) (sym (cond-true (ltb i 510) (option_map (λ s. in_file s (Byte b i)) (wrong i)) None (lt-ltb i 510 l)) ∙ h)

  -- there are 511 questions
  pub question_below : (q : ℕ) (f : Fault) → block_finding b block wrong q ≡ Some f → q < 511
  unfolding block_finding
  question_below zero f h = omega arith
  question_below (suc i) f h = ⊎_elim (λ l. omega arith) (λ l. absurd (grind (arith, h, le-ltb i 510 l))) (cases_lt i 510)
