-- Proposals end: every run can be carried on until it is finished, and then it has a result.
use Rattle.std.proofs.Common.{◌≡◌, ℕ, zero, suc, ◌+◌, ◌<◌, ◌≤◌, true, cond, eqb, ◌⊎◌, List, length, get_or, set, replicate, sym, refl, ◌∙◌, inl, inr, ⊎_elim, arith}
use Rattle.std.proofs.ByRecursion.{All-from_get_or, sum_by_le}
use Rattle.std.proofs.lemmas.List.{length-replicate, length-set}
use Rattle.std.proofs.lemmas.Bool.{cases_eq, cases_lt, cases_Bool, both_ways, cond_both, eqb-true, eqb-false}
use Rattle.matching.specs.Lists.{Lawful}
use Rattle.matching.specs.Linkings.{unlinked, exit, counts_one_way}
use Rattle.matching.specs.Proposals.{trimmed, Asking, at_first, Runs, Finished, ResultOf, EndsIn}
use Rattle.matching.proofs.Bridge.{trim_end, trim_short}
use Rattle.matching.proofs.Search.{all_or_some}
use Rattle.matching.proofs.Pointers.{Loose}
use Rattle.matching.proofs.Runs.{ranks, asks, holds, Under, fits, follows, counts_door, held_pair, same_everywhere, run_under}
use Rattle.matching.proofs.Turns.{Ready, Over, taken, refused, run_takes, run_refuses, over_finished, Spread, spread_none, spread_skip, spread_more, spread_all}

-- a run has few proposals
pub run_bound : (ls : List (List ℕ)) (sides : List ℕ) → Lawful ls → (k : ℕ) (s : Asking) → Runs ls sides k s → k ≤ 9216
run_bound ls sides f k s c =
    let u = run_under ls sides f k s c in
    let each : (x : ℕ) → x < length s.asked → asks s x ≤ 96 = λ x _.
    omega (arith, u.progress.within x, trim_end ls (counts_one_way ls sides) f (fits ls sides f) x, trim_short ls (counts_one_way ls sides) f (fits ls sides f) x, f.few) in
    omega (arith, u.total, sum_by_le (λ v. v) 96 s.asked (All-from_get_or (λ v. v ≤ 96) s.asked 0 each), u.wide, f.few)

-- the linking of the doors below i with those that they hold
unfoldable pub result_upto : List (List ℕ) → Asking → ℕ → List ℕ
result_upto ls s zero = replicate (length ls) unlinked
result_upto ls s (suc i) = let m = result_upto ls s i in cond (eqb (holds s i) i) m (set (set m i (holds s i)) (holds s i) i)

module _ (ls : List (List ℕ)) (sides : List ℕ) (f : Lawful ls) where
  -- nobody holds x, or somebody does
  loose_or_held : (k : ℕ) (s : Asking) → Under ls sides k s → (x : ℕ) → Loose (holds s) x ⊎ ((w : ℕ) × (holds s w ≡ x) × (w ≡ x → ⊥))
  loose_or_held k s u x =
      ⊎_elim
      (λ all. inl (λ w e. ⊎_elim (λ b. all w b e) (λ b. ⊎_elim (λ i. sym i ∙ e) (λ n. absurd (omega (arith, b, counts_door ls sides f (holds s w) w ((fits ls sides f).both w (holds s w) (held_pair ls sides f k s u w n))))) (cases_eq (holds s w) w)) (cases_lt w (length ls))))
      (λ one. inr (one.0, one.2.0, one.2.1))
      (all_or_some (λ w. holds s w ≡ x → w ≡ x) (λ w. (holds s w ≡ x) × (w ≡ x → ⊥))
      (λ w. ⊎_elim (λ e. ⊎_elim (λ i. inl (λ _. i)) (λ n. inr (e, n)) (cases_eq w x)) (λ n. inl (λ e. absurd (n e))) (cases_eq (holds s w) x)) (length ls))

  -- an exit is through or can ask
  pub over_or_ready : (k : ℕ) (s : Asking) → Under ls sides k s → (x : ℕ) → (exit sides x ≡ true → Over ls sides s x) ⊎ ((y : ℕ) × Ready ls sides s x y)
  over_or_ready k s u x =
      ⊎_elim
      (λ t. ⊎_elim
      (λ b. ⊎_elim
      (λ l. inr (get_or (trimmed ls (counts_one_way ls sides) x) (asks s x) 0, record { asker = t; loose = l; more = b; next = refl }))
      (λ h. inl (λ _ l. absurd (h.2 (l h.0 h.1))))
      (loose_or_held k s u x))
      (λ b. inl (λ _ _. b))
      (cases_lt (asks s x) (length (trimmed ls (counts_one_way ls sides) x))))
      (λ t. inl (λ i. absurd (both_ways (exit sides x) t i)))
      (cases_Bool (exit sides x))

  -- a run goes on until it is finished
  carry_on : (d k : ℕ) (s : Asking) → Runs ls sides k s → 9216 < k + d → (k' : ℕ) × (s' : Asking) × Runs ls sides k' s' × Finished ls sides s'
  carry_on zero k s c b = absurd (omega (arith, run_bound ls sides f k s c))
  carry_on (suc d) k s c b =
      let u = run_under ls sides f k s c in
      ⊎_elim
      (λ all. (k, s, c, over_finished ls sides f k s u all))
      (λ one.
      let x = one.0 in
      let y = one.2.0 in
      ⊎_elim
      (λ h. carry_on d (suc k) (taken s x y) (run_takes ls sides f k s x y c one.2.1 (ranks ls sides) (follows ls sides f) h) (omega arith))
      (λ h. carry_on d (suc k) (refused s x) (run_refuses ls sides f k s x y c one.2.1 (ranks ls sides) (follows ls sides f) h) (omega arith))
      (cases_lt (ranks ls sides y x) (ranks ls sides y (holds s y))))
      (all_or_some (λ x. exit sides x ≡ true → Over ls sides s x) (λ x. (y : ℕ) × Ready ls sides s x y) (over_or_ready k s u) (length ls))

  result_spread : (k : ℕ) (s : Asking) → Under ls sides k s → (i : ℕ) → (length (result_upto ls s i) ≡ length ls) × Spread s i (result_upto ls s i)
  unfolding result_upto
  result_spread k s u zero = (length-replicate (length ls) unlinked, spread_none s (replicate (length ls) unlinked) (same_everywhere (length ls) unlinked))
  result_spread k s u (suc i) =
      let m = result_upto ls s i in
      let p = result_spread k s u i in
      cond_both (eqb (holds s i) i) m (set (set m i (holds s i)) (holds s i) i) (λ v. (length v ≡ length ls) × Spread s (suc i) v)
      (λ e. (p.0, spread_skip s i m p.1 (eqb-true (holds s i) i e)))
      (λ e. (length-set (set m i (holds s i)) (holds s i) i ∙ length-set m i (holds s i) ∙ p.0, spread_more ls sides f k s u i m p.0 p.1 (eqb-false (holds s i) i e)))

  pub result_is : (k : ℕ) (s : Asking) → Under ls sides k s → ResultOf ls s (result_upto ls s (length ls))
  result_is k s u = let p = result_spread k s u (length ls) in spread_all ls sides f k s u (result_upto ls s (length ls)) p.0 p.1

  pub run_ends : (k : ℕ) × (m : List ℕ) × EndsIn ls sides k m
  run_ends =
      let e = carry_on 9217 0 (at_first ls) refl (omega arith) in
      (e.0, result_upto ls e.1 (length ls), (e.1, e.2, e.3, result_is e.0 e.1 (run_under ls sides f e.0 e.1 e.2)))
