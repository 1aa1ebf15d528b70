-- Runs worked out: given who asks, one after the other, a run is computed and shown to be one.
use Rattle.std.proofs.Common.{◌≡◌, ℕ, suc, ◌+◌, ◌<◌, Bool, true, cond, not, ◌&&◌, eqb, ltb, List, [], ◌∷◌, length, get_or, sym, refl, ◌∙◌, subst, ⊎_elim, arith}
use Rattle.std.specs.List.{range_with_len, list_all}
use Rattle.std.proofs.lemmas.List.FromFn.{get_or-range_with_len, length-range_with_len}
use Rattle.std.proofs.lemmas.List.{get_or_default, get_or_past}
use Rattle.std.proofs.lemmas.Bool.{and_parts, and_from, cases_lt, ltb-true, ltb-false, lt-ltb, not-true, eqb-false, not_from_false, ne_eqb, both_ways, cond_both}
use Rattle.matching.specs.Lists.{place, lawful_list, lawful_from, lawful, Lawful, rank}
use Rattle.matching.specs.Linkings.{unlinked, listed, accept, exit, entrance, counts_one_way}
use Rattle.matching.specs.Proposals.{trimmed, Asking, at_first, Runs, Finished, ResultOf, OneWayResult}
use Rattle.matching.proofs.Rows.{all_pass_at, all_pass_from, lawful_facts}
use Rattle.matching.proofs.Bridge.{trim_rank, link_of}
use Rattle.matching.proofs.Runs.{ranks, asks, holds, Under, follows, run_under}
use Rattle.matching.proofs.Turns.{Ready, taken, refused, ready_free, run_takes, run_refuses, over_finished}
use Rattle.matching.proofs.Endings.{one_way_result}
use Rattle.matching.proofs.Existence.{over_or_ready, result_upto, result_is}

-- x can ask: an exit, held by nobody, with a door left on its trimmed list
unfoldable pub able : List (List ℕ) → List ℕ → Asking → ℕ → Bool
able ls sides s x = exit sides x && (list_all (λ h. not (eqb h x)) s.held && ltb (asks s x) (length (trimmed ls (counts_one_way ls sides) x)))

unfoldable pub next : List (List ℕ) → List ℕ → Asking → ℕ → ℕ
next ls sides s x = get_or (trimmed ls (counts_one_way ls sides) x) (asks s x) 0

-- the state after x has asked
unfoldable pub after : List (List ℕ) → List ℕ → Asking → ℕ → Asking
after ls sides s x =
    let y = next ls sides s x in cond (ltb (ranks ls sides y x) (ranks ls sides y (holds s y))) (taken s x y) (refused s x)

-- the state after all of them have asked, and whether they could
unfoldable pub ran : List (List ℕ) → List ℕ → Asking → List ℕ → Asking
ran ls sides s [] = s
ran ls sides s (x ∷ xs) = ran ls sides (after ls sides s x) xs

unfoldable pub all_are_able : List (List ℕ) → List ℕ → Asking → List ℕ → Bool
all_are_able ls sides s [] = true
all_are_able ls sides s (x ∷ xs) = able ls sides s x && all_are_able ls sides (after ls sides s x) xs

-- nobody can ask any more
unfoldable pub none_able : List (List ℕ) → List ℕ → Asking → Bool
none_able ls sides s = list_all (λ x. not (able ls sides s x)) (range_with_len 0 (length ls))

-- the lists are lawful, these exits can ask one after the other, and then nobody can
unfoldable pub works_out : List (List ℕ) → List ℕ → List ℕ → Bool
unfolding lawful lawful_from lawful_list place listed accept exit entrance counts_one_way trimmed rank trim_rank link_of result_upto able next after ran all_are_able none_able
works_out ls sides xs = lawful ls && (all_are_able ls sides (at_first ls) xs && none_able ls sides (ran ls sides (at_first ls) xs))

module _ (ls : List (List ℕ)) (sides : List ℕ) (f : Lawful ls) where
  able_ready : (k : ℕ) (s : Asking) (x : ℕ) → Under ls sides k s → able ls sides s x ≡ true → Ready ls sides s x (next ls sides s x)
  unfolding able next
  able_ready k s x u h =
      let a = and_parts (exit sides x) _ h in
      let b = and_parts (list_all (λ h. not (eqb h x)) s.held) _ a.1 in
      record {
        asker = a.0;
        loose = λ w e.
            ⊎_elim
            (λ v. sym v.0 ∙ e)
            (λ v. absurd
            (⊎_elim
            (λ c. eqb-false (get_or s.held w 0) x (not-true (eqb (get_or s.held w 0) x) (all_pass_at (λ h. not (eqb h x)) s.held b.0 w c)) (get_or_default s.held w 0 unlinked c ∙ v.1 ∙ e))
            (λ c. v.2 (sym v.1 ∙ get_or_past s.held w unlinked c))
            (cases_lt w (length s.held))))
            (u.written w);
        more = ltb-true (asks s x) (length (trimmed ls (counts_one_way ls sides) x)) b.1;
        next = refl;
      }

  ready_able : (k : ℕ) (s : Asking) (x y : ℕ) → Runs ls sides k s → Ready ls sides s x y → able ls sides s x ≡ true
  unfolding able
  ready_able k s x y c b =
      and_from (exit sides x) _ b.asker
      (and_from (list_all (λ h. not (eqb h x)) s.held) _
      (all_pass_from (λ h. not (eqb h x)) s.held
      (λ i d. not_from_false (eqb (get_or s.held i 0) x) (ne_eqb (get_or s.held i 0) x (λ e. ready_free ls sides f k s x y c b i (get_or_default s.held i unlinked 0 d ∙ e)))))
      (lt-ltb (asks s x) (length (trimmed ls (counts_one_way ls sides) x)) b.more))

  after_runs : (k : ℕ) (s : Asking) (x : ℕ) → Runs ls sides k s → able ls sides s x ≡ true → Runs ls sides (suc k) (after ls sides s x)
  unfolding after
  after_runs k s x c h =
      let y = next ls sides s x in
      let b = able_ready k s x (run_under ls sides f k s c) h in
      cond_both (ltb (ranks ls sides y x) (ranks ls sides y (holds s y))) (taken s x y) (refused s x) (Runs ls sides (suc k))
      (λ e. run_takes ls sides f k s x y c b (ranks ls sides) (follows ls sides f) (ltb-true (ranks ls sides y x) (ranks ls sides y (holds s y)) e))
      (λ e. run_refuses ls sides f k s x y c b (ranks ls sides) (follows ls sides f) (ltb-false (ranks ls sides y x) (ranks ls sides y (holds s y)) e))

  ran_runs : (xs : List ℕ) (k : ℕ) (s : Asking) → Runs ls sides k s → all_are_able ls sides s xs ≡ true → (n : ℕ) → n ≡ length xs + k → Runs ls sides n (ran ls sides s xs)
  unfolding ran all_are_able
  ran_runs [] k s c h n e = subst (λ v. Runs ls sides v s) (omega (arith, e)) c
  ran_runs (x ∷ xs) k s c h n e =
      let t = and_parts (able ls sides s x) (all_are_able ls sides (after ls sides s x) xs) h in
      ran_runs xs (suc k) (after ls sides s x) (after_runs k s x c t.0) t.1 n (omega (arith, e))

  none_finished : (k : ℕ) (s : Asking) → Runs ls sides k s → none_able ls sides s ≡ true → Finished ls sides s
  unfolding none_able
  none_finished k s c h =
      let u = run_under ls sides f k s c in
      over_finished ls sides f k s u
      (λ z b t. ⊎_elim (λ o. o t) (λ q. absurd (stuck z b (ready_able k s z q.0 c q.1))) (over_or_ready ls sides f k s u z))
    where
      stuck : (z : ℕ) → z < length ls → able ls sides s z ≡ true → ⊥
      stuck z b t =
          let g : not (able ls sides s (get_or (range_with_len 0 (length ls)) z 0)) ≡ true =
          all_pass_at (λ x. not (able ls sides s x)) (range_with_len 0 (length ls)) h z (omega (arith, length-range_with_len 0 (length ls))) in
          let e : get_or (range_with_len 0 (length ls)) z 0 ≡ z = omega (arith, get_or-range_with_len 0 (length ls) z 0 b) in
          both_ways (able ls sides s z) (not-true (able ls sides s z) (subst (λ v. not (able ls sides s v) ≡ true) e g)) t

works_parts : (ls : List (List ℕ)) (sides xs : List ℕ) → works_out ls sides xs ≡ true →
    (lawful ls ≡ true) × (all_are_able ls sides (at_first ls) xs ≡ true) × (none_able ls sides (ran ls sides (at_first ls) xs) ≡ true)
works_parts ls sides xs h =
    let a = and_parts (lawful ls) (all_are_able ls sides (at_first ls) xs && none_able ls sides (ran ls sides (at_first ls) xs)) (unfold works_out in h) in
    let b = and_parts (all_are_able ls sides (at_first ls) xs) (none_able ls sides (ran ls sides (at_first ls) xs)) a.1 in
    (a.0, b.0, b.1)

-- the run of these askers is finished, and this is its result
pub worked : (ls : List (List ℕ)) (sides xs m : List ℕ) → works_out ls sides xs ≡ true → result_upto ls (ran ls sides (at_first ls) xs) (length ls) ≡ m → OneWayResult ls sides m (length xs)
worked ls sides xs m h e =
    let s = ran ls sides (at_first ls) xs in
    let t = works_parts ls sides xs h in
    let f = lawful_facts ls t.0 in
    let c = ran_runs ls sides f xs 0 (at_first ls) refl t.1 (length xs) (omega arith) in
    one_way_result ls sides f (length xs) m
    (s, c, none_finished ls sides f (length xs) s c t.2, subst (ResultOf ls s) e (result_is ls sides f (length xs) s (run_under ls sides f (length xs) s c)))
