-- Lines joined, one more, and the lines of numbers that no refusal has.
use Rattle.std.proofs.Common.{◌≡◌, ◌≢◌, ℕ, zero, suc, ◌+◌, ◌<◌, cond, eqb, false, List, [], ◌∷◌, ◌++◌, Option, Some, None, refl, sym, ap, ◌∙◌, arith}
use Rattle.std.specs.List.{range_with_len, flat_map}
use Rattle.std.proofs.lemmas.Bool.{ne_eqb}
use Rattle.std.proofs.lemmas.List.{append_assoc, append-nil}
use Rattle.std.proofs.lemmas.List.Sums.{sum_by-cons}
use Rattle.faults.specs.Number.{number}
use Rattle.faults.specs.declared.Refusal.{Refusal}
use Rattle.replay.specs.declared.calls.Answer.{Answer}
use Rattle.journaling.specs.Answers.{counted, refusal, verdict, tally}
use Rattle.journaling.specs.Summary.{refusal_line}

-- lines joined over the numbers from a on, one more
pub joined_more : (f : ℕ → List ℕ) (a n j : ℕ) → a + n ≡ j → flat_map f (range_with_len a (suc n)) ≡ flat_map f (range_with_len a n) ++ f j
joined_more f a zero j e = append-nil (f a) ∙ ap f (omega arith)
joined_more f a (suc n) j e = ap (λ l. f a ++ l) (joined_more f (a + 1) n j (omega arith)) ∙ sym (append_assoc (f a) (flat_map f (range_with_len (a + 1) n)) (f j))

-- a text that ends with joined lines gets the next
pub lines_more : (f : ℕ → List ℕ) (a n n' j : ℕ) (start old new : List ℕ) → n' ≡ suc n → a + n ≡ j → old ≡ start ++ flat_map f (range_with_len a n) → new ≡ old ++ f j → new ≡ start ++ flat_map f (range_with_len a n')
lines_more f a n n' j start old new s h e e' =
    e' ∙ ap (λ l. l ++ f j) e ∙ append_assoc start (flat_map f (range_with_len a n)) (f j) ∙ ap (λ l. start ++ l) (sym (joined_more f a n j h) ∙ ap (λ k. flat_map f (range_with_len a k)) (sym s))

-- an answer does not count for a number that no refusal has
uncounted : (n : ℕ) (r : Option Refusal) → 0 < n → ((x : Refusal) → number x ≢ n) → eqb (counted r) n ≡ false
uncounted n None h w = ne_eqb 0 n (λ e. omega (arith, h, e))
uncounted n (Some r) h w = ne_eqb (number r) n (w r)

-- so no answer has it
no_tally : (n : ℕ) (answers : List Answer) → 0 < n → ((x : Refusal) → number x ≢ n) → tally answers n ≡ 0
no_tally n [] h w = refl
no_tally n (a ∷ l) h w = omega (arith, sum_by-cons (λ x. cond (eqb (verdict x) n) 1 0) a l, ap (λ b. cond {A = ℕ} b 1 0) (uncounted n (refusal a) h w), no_tally n l h w)

-- and its line is empty
pub no_line : (n : ℕ) (answers : List Answer) → 0 < n → ((x : Refusal) → number x ≢ n) → refusal_line n (tally answers n) ≡ []
no_line n answers h w = ap (refusal_line n) (no_tally n answers h w)
