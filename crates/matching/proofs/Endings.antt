-- What a finished run of proposals gives: the one-way linking, and only one.
use Rattle.std.proofs.Common.{◌≡◌, ℕ, suc, ◌<◌, ◌≤◌, true, cond, List, length, get_or, sum, sym, ap, ◌∙◌, subst, inl, inr, ⊎_elim, arith}
use Rattle.std.specs.List.{range_with_len}
use Rattle.std.proofs.lemmas.List.FromFn.{fill_by_all}
use Rattle.std.proofs.lemmas.List.{get_or_past, ext_get_or}
use Rattle.std.proofs.lemmas.List.Sums.{sum-map}
use Rattle.std.proofs.lemmas.Bool.{cases_eq, cases_lt, cases_Bool, cond-true, cond-false}
use Rattle.matching.specs.Lists.{Lawful, rank}
use Rattle.matching.specs.Ranks.{Links, Unblocked}
use Rattle.matching.specs.Linkings.{unlinked, exit, counts_one_way, partner, Linking, Prefers, Stable}
use Rattle.matching.specs.Proposals.{trimmed, up_to, asks_of, proposals, BestForExits, Asking, Finished, ResultOf, EndsIn, OneWayResult}
use Rattle.matching.specs.Holders.{Writes}
use Rattle.matching.proofs.Positions.{rank_cases, rank_place}
use Rattle.matching.proofs.Bridge.{trim_rank, trim_end, less_prefers, link_of, link_none, link_some, linking_writes, linking_links, stable_unblocked, links_writes, writes_stable}
use Rattle.matching.proofs.Proposing.{at_most}
use Rattle.matching.proofs.Pointers.{Loose, Outcome, outcome_links, outcome_count, outcome_unblocked, outcome_best, best_same}
use Rattle.matching.proofs.Runs.{ranks, asks, holds, Under, fits, follows, lawful_ranks, lawful_sided, near_counts, counts_door, no_list, run_under}

-- the proposals of an exit that is linked, and of one that is not
asks_linked : (ls : List (List ℕ)) (sides : List ℕ) → Lawful ls → (x y : ℕ) → ranks ls sides x y < ranks ls sides x x → asks_of ls sides x y ≡ suc (ranks ls sides x y)
unfolding asks_of trim_rank
asks_linked ls sides f x y h =
    ap (up_to (trimmed ls (counts_one_way ls sides) x))
    (rank_place (trimmed ls (counts_one_way ls sides) x) y (omega (arith, trim_end ls (counts_one_way ls sides) f (fits ls sides f) x)))

asks_unlinked : (ls : List (List ℕ)) (sides : List ℕ) → Lawful ls → (x : ℕ) → asks_of ls sides x unlinked ≡ ranks ls sides x x
unfolding asks_of trim_rank
asks_unlinked ls sides f x =
    let l : List ℕ = trimmed ls (counts_one_way ls sides) x in
    let end : rank l x ≡ length l = trim_end ls (counts_one_way ls sides) f (fits ls sides f) x in
    ⊎_elim
    (λ c. absurd (omega (arith, counts_door ls sides f x unlinked (near_counts ls sides f x unlinked (omega (arith, c.0, end))), f.few)))
    (λ c. ap (up_to l) c.1 ∙ sym end)
    (rank_cases l unlinked)

module _ (ls : List (List ℕ)) (sides : List ℕ) (f : Lawful ls) (k : ℕ) (s : Asking) (m : List ℕ) (u : Under ls sides k s) (z : ResultOf ls s m) where
  -- no door is its own partner
  not_own : (x : ℕ) → partner m x ≡ x → partner m x ≡ unlinked
  not_own x e =
      ⊎_elim
      (λ c. c)
      (λ c. let own : get_or s.held x unlinked ≡ x = ⊎_elim (λ h. h ∙ e) (λ h. ap (partner s.held) (sym e) ∙ h) c in
      ⊎_elim (λ w. e ∙ sym own ∙ w.1) (λ w. absurd (w.0 (sym w.1 ∙ own))) (u.written x))
      (z.others x)

  result_writes : Writes (link_of m) m
  result_writes x =
      ⊎_elim
      (λ e. inl (link_none m x e, e))
      (λ n. let i = link_some m x n in inr (λ e. n (not_own x (sym i ∙ e)), sym i, λ e. n (sym i ∙ e)))
      (cases_eq (partner m x) unlinked)

  -- the number past the doors has no partner
  past_none : (x : ℕ) → x ≡ unlinked → partner m x ≡ unlinked
  past_none x e = get_or_past m x unlinked (omega (arith, z.size, f.few))

  -- a holder is a door
  holder_door : (y : ℕ) → (holds s y ≡ y → ⊥) → y ≡ unlinked → ⊥
  holder_door y n e =
      ⊎_elim (λ h. n h) (λ h. omega (arith, counts_door ls sides f (holds s y) y (near_counts ls sides f (holds s y) y h.1), f.few)) (u.progress.held y)

  result_outcome : Outcome (holds s) (link_of m)
  result_outcome =
      record {
        holder = λ y.
            ⊎_elim
            (λ w. inl w.0)
            (λ w. let e : partner m y ≡ holds s y = ⊎_elim (λ i. absurd (w.2 (sym w.1 ∙ i))) (λ i. i ∙ w.1) (z.holder y) in
            inr (link_some m y (λ i. w.2 (sym e ∙ i)) ∙ e))
            (u.written y);
        askers = λ y.
            ⊎_elim
            (λ w. inl w.0)
            (λ w. let e : partner m (holds s y) ≡ y = ⊎_elim (λ i. absurd (w.2 (sym w.1 ∙ i))) (λ i. ap (partner m) (sym w.1) ∙ i) (z.askers y) in
            inr (link_some m (holds s y) (λ i. holder_door y w.0 (sym e ∙ i)) ∙ e))
            (u.written y);
        others = λ x.
            ⊎_elim
            (λ e. inl (link_none m x e))
            (λ n. let i = link_some m x n in
            ⊎_elim
            (λ e. absurd (n e))
            (λ c. inr
            (⊎_elim
            (λ h. ⊎_elim (λ w. absurd (n (sym h ∙ w.1))) (λ w. inl (sym w.1 ∙ h ∙ sym i)) (u.written x))
            (λ h. ⊎_elim (λ w. absurd (n (past_none x (sym h ∙ w.1)))) (λ w. inr (ap (holds s) i ∙ sym w.1 ∙ h)) (u.written (partner m x)))
            c))
            (z.others x))
            (cases_eq (partner m x) unlinked);
      }

  result_links : Links (ranks ls sides) (link_of m)
  result_links = outcome_links (ranks ls sides) (exit sides) (lawful_ranks ls sides f) (lawful_sided ls sides f) (asks s) (holds s) (link_of m) u.progress result_outcome

  pub result_linking : Linking ls (counts_one_way ls sides) m
  result_linking = links_writes ls (counts_one_way ls sides) (ranks ls sides) f (fits ls sides f) (follows ls sides f) (link_of m) m result_writes z.size result_links

  module _ (d : Finished ls sides s) where
    -- an exit that nobody holds has asked its whole list
    all_asked : (x : ℕ) → exit sides x ≡ true → Loose (holds s) x → ranks ls sides x x ≤ asks s x
    all_asked x t o =
        let end : ranks ls sides x x ≡ length (trimmed ls (counts_one_way ls sides) x) = trim_end ls (counts_one_way ls sides) f (fits ls sides f) x in
        ⊎_elim
        (λ b. omega (
          arith,
          d x t (λ y e.
              ⊎_elim
              (λ w. omega (arith, e, w.1, f.few))
              (λ w. w.0 (sym w.1 ∙ e ∙ sym (o y (sym w.1 ∙ e))))
              (u.written y)),
        ))
        (λ b. omega (arith, no_list ls sides x b))
        (cases_lt x (length ls))

    result_unblocked : Unblocked (ranks ls sides) (link_of m)
    result_unblocked =
        outcome_unblocked (ranks ls sides) (exit sides) (lawful_ranks ls sides f) (lawful_sided ls sides f) (asks s) (holds s) (link_of m) u.progress result_outcome all_asked

    pub result_stable : Stable ls (counts_one_way ls sides) m
    result_stable =
        writes_stable ls (counts_one_way ls sides) (ranks ls sides) f (fits ls sides f) (follows ls sides f) (link_of m) m result_writes result_links result_unblocked

    -- no exit has a better rank in another stable linking
    pub result_least : (m' : List ℕ) → Linking ls (counts_one_way ls sides) m' → Stable ls (counts_one_way ls sides) m' → (x : ℕ) → exit sides x ≡ true →
        ranks ls sides x (link_of m x) ≤ ranks ls sides x (link_of m' x)
    result_least m' l b x t =
        let l' : Links (ranks ls sides) (link_of m') = linking_links ls (counts_one_way ls sides) (ranks ls sides) f (fits ls sides f) (follows ls sides f) m' l in
        let b' : Unblocked (ranks ls sides) (link_of m') = stable_unblocked ls (counts_one_way ls sides) (ranks ls sides) f (fits ls sides f) (follows ls sides f) m' l b in
        outcome_best (ranks ls sides) (exit sides) (lawful_ranks ls sides f) (lawful_sided ls sides f) (asks s) (holds s) (link_of m) u.progress result_outcome all_asked
        (link_of m') l' (u.room (link_of m') l' b') x t

    pub result_best : BestForExits ls sides m
    result_best m' l b x t n =
        let i : link_of m' x ≡ partner m' x = link_some m' x n in
        let h' : counts_one_way ls sides x (link_of m' x) ≡ true = ⊎_elim (λ e. absurd (n e)) (λ h. subst (λ v. counts_one_way ls sides x v ≡ true) (sym i) h) (l.allowed x) in
        let near : ranks ls sides x (link_of m x) < ranks ls sides x x = omega (arith, result_least m' l b x t, (follows ls sides f).near x (link_of m' x) h') in
        let linked : partner m x ≡ unlinked → ⊥ = λ e. omega (arith, near, ap (ranks ls sides x) (link_none m x e)) in (
          linked,
          λ c. omega (
            arith,
            result_least m' l b x t,
            (follows ls sides f).order x (link_of m' x) (link_of m x) h' (near_counts ls sides f x (link_of m x) near)
                (subst (λ v. Prefers ls x v (link_of m x)) (sym i) (subst (Prefers ls x (partner m' x)) (sym (link_some m x linked)) c)),
          ),
        )

    -- each exit has made the proposals that its partner's place tells
    exit_asked : (x : ℕ) → exit sides x ≡ true → asks s x ≡ asks_of ls sides x (partner m x)
    exit_asked x t =
        ⊎_elim
        (λ c. ⊎_elim
        (λ w. c.1 ∙ sym (asks_unlinked ls sides f x) ∙ ap (asks_of ls sides x) (sym w.1))
        (λ w. absurd (w.0 c.0))
        (result_writes x))
        (λ c. ⊎_elim
        (λ w. absurd (omega (arith, c.0, ap (ranks ls sides x) w.0)))
        (λ w. c.1 ∙ sym (asks_linked ls sides f x (link_of m x) c.0) ∙ ap (asks_of ls sides x) (sym w.1))
        (result_writes x))
        (outcome_count (ranks ls sides) (exit sides) (lawful_ranks ls sides f) (lawful_sided ls sides f) (asks s) (holds s) (link_of m) u.progress result_outcome all_asked x t)

    asked_as : (x : ℕ) → asks s x ≡ cond (exit sides x) (asks_of ls sides x (partner m x)) 0
    asked_as x =
        ⊎_elim
        (λ t. exit_asked x t ∙ sym (cond-true (exit sides x) (asks_of ls sides x (partner m x)) 0 t))
        (λ t. u.progress.idle x t ∙ sym (cond-false (exit sides x) (asks_of ls sides x (partner m x)) 0 t))
        (cases_Bool (exit sides x))

    pub result_count : k ≡ proposals ls sides m
    unfolding proposals
    result_count =
        let F : ℕ → ℕ = λ x. cond (exit sides x) (asks_of ls sides x (partner m x)) 0 in
        u.total ∙ ap sum (fill_by_all F s.asked (length ls) 0 u.wide (λ x _. asked_as x)) ∙ sum-map F (range_with_len 0 (length ls))

-- lists that write down the same function agree
writes_same : (g g' : ℕ → ℕ) (m m' : List ℕ) → Writes g m → Writes g' m' → (x : ℕ) → g x ≡ g' x → partner m x ≡ partner m' x
writes_same g g' m m' w w' x e =
    ⊎_elim
    (λ c. ⊎_elim (λ c'. c.1 ∙ sym c'.1) (λ c'. absurd (c'.0 (sym e ∙ c.0))) (w' x))
    (λ c. ⊎_elim (λ c'. absurd (c.0 (e ∙ c'.0))) (λ c'. c.1 ∙ e ∙ sym c'.1) (w' x))
    (w x)

-- only one stable linking is best for the exits
module _ (ls : List (List ℕ)) (sides : List ℕ) (f : Lawful ls) where
  -- an exit that is linked in the other does no worse here
  best_least : (m m' : List ℕ) → Linking ls (counts_one_way ls sides) m → Linking ls (counts_one_way ls sides) m' → Stable ls (counts_one_way ls sides) m' → BestForExits ls sides m →
      (x : ℕ) → exit sides x ≡ true → ranks ls sides x (link_of m x) ≤ ranks ls sides x (link_of m' x)
  best_least m m' l l' s' b x t =
      ⊎_elim
      (λ e. omega (arith, at_most (ranks ls sides) (link_of m) (linking_links ls (counts_one_way ls sides) (ranks ls sides) f (fits ls sides f) (follows ls sides f) m l) x, ap (ranks ls sides x) (link_none m' x e)))
      (λ n. let c = b m' l' s' x t n in
      ⊎_elim
      (λ h. absurd
      (c.1
      (less_prefers ls (counts_one_way ls sides) f (fits ls sides f) (ranks ls sides) (follows ls sides f) x (partner m' x) (partner m x) (counts m' l' n) (counts m l c.0)
      (omega (arith, h, ap (ranks ls sides x) (link_some m' x n), ap (ranks ls sides x) (link_some m x c.0))))))
      (λ h. h)
      (cases_lt (ranks ls sides x (link_of m' x)) (ranks ls sides x (link_of m x))))
      (cases_eq (partner m' x) unlinked)
    where
      counts : (w : List ℕ) → Linking ls (counts_one_way ls sides) w → (partner w x ≡ unlinked → ⊥) → counts_one_way ls sides x (partner w x) ≡ true
      counts w k n = ⊎_elim (λ e. absurd (n e)) (λ h. h) (k.allowed x)

  pub best_only : (m m' : List ℕ) → Linking ls (counts_one_way ls sides) m → Stable ls (counts_one_way ls sides) m → BestForExits ls sides m →
      Linking ls (counts_one_way ls sides) m' → Stable ls (counts_one_way ls sides) m' → BestForExits ls sides m' → m ≡ m'
  best_only m m' l s b l' s' b' =
      ext_get_or unlinked m m' (l.size ∙ sym l'.size)
      (λ x _.
      writes_same (link_of m) (link_of m') m m'
      (linking_writes ls (counts_one_way ls sides) (ranks ls sides) f (fits ls sides f) (follows ls sides f) m l)
      (linking_writes ls (counts_one_way ls sides) (ranks ls sides) f (fits ls sides f) (follows ls sides f) m' l') x
      (best_same (ranks ls sides) (exit sides) (lawful_ranks ls sides f) (lawful_sided ls sides f) (link_of m) (link_of m')
      (linking_links ls (counts_one_way ls sides) (ranks ls sides) f (fits ls sides f) (follows ls sides f) m l)
      (linking_links ls (counts_one_way ls sides) (ranks ls sides) f (fits ls sides f) (follows ls sides f) m' l')
      (λ y t. omega (arith, best_least m m' l l' s' b y t, best_least m' m l' l s b' y t)) x))

-- so two finished runs end in the same linking
pub ends_same : (ls : List (List ℕ)) (sides : List ℕ) → Lawful ls → (k k' : ℕ) (m m' : List ℕ) → EndsIn ls sides k m → EndsIn ls sides k' m' → m ≡ m'
ends_same ls sides f k k' m m' a b =
    let u = run_under ls sides f k a.0 a.1 in
    let u' = run_under ls sides f k' b.0 b.1 in
    best_only ls sides f m m'
    (result_linking ls sides f k a.0 m u a.3) (result_stable ls sides f k a.0 m u a.3 a.2) (result_best ls sides f k a.0 m u a.3 a.2)
    (result_linking ls sides f k' b.0 m' u' b.3) (result_stable ls sides f k' b.0 m' u' b.3 b.2) (result_best ls sides f k' b.0 m' u' b.3 b.2)

-- and after as many proposals as the linking tells
pub ends_count : (ls : List (List ℕ)) (sides : List ℕ) → Lawful ls → (k : ℕ) (m : List ℕ) → EndsIn ls sides k m → k ≡ proposals ls sides m
ends_count ls sides f k m a = result_count ls sides f k a.0 m (run_under ls sides f k a.0 a.1) a.3 a.2

-- so a finished run gives the one-way linking
pub one_way_result : (ls : List (List ℕ)) (sides : List ℕ) → Lawful ls → (k : ℕ) (m : List ℕ) → EndsIn ls sides k m → OneWayResult ls sides m k
one_way_result ls sides f k m a =
    let u = run_under ls sides f k a.0 a.1 in
    record {
      linking = result_linking ls sides f k a.0 m u a.3;
      stable = result_stable ls sides f k a.0 m u a.3 a.2;
      best = result_best ls sides f k a.0 m u a.3 a.2;
      count = ends_count ls sides f k m a;
      run = a;
      only = λ m' k' b.
          let e : m' ≡ m = ends_same ls sides f k' k m' m b a in
          (e, ends_count ls sides f k' m' b ∙ ap (proposals ls sides) e ∙ sym (ends_count ls sides f k m a));
    }
