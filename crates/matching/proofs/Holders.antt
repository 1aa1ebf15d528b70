-- Two-way linking by the holders alone: what a program shows that keeps, for each door, the last door on its list.
use Rattle.std.proofs.Common.{◌≡◌, ℕ, zero, suc, ◌+◌, ◌<◌, ◌≤◌, ◌⊎◌, List, length, set, replicate, Some, None, sym, refl, ap, ◌∙◌, subst, inl, inr, ⊎_elim, arith}
use mathlib.Core.Path.{fun_ext}
use Rattle.std.proofs.lemmas.List.{get_or_default, get_or_past}
use Rattle.std.proofs.lemmas.Bool.{cases_lt}
use Rattle.matching.specs.Lists.{row, Lawful}
use Rattle.matching.specs.Linkings.{unlinked, accept}
use Rattle.matching.specs.Ranks.{Ranks}
use Rattle.matching.specs.Rotations.{Rotation, Eliminated, Walk}
use Rattle.matching.specs.Settled.{Firsts, Settled, Second}
use Rattle.matching.specs.TwoWay.{Leads, Reduces, Lowest, second, walk, Outcome}
use Rattle.matching.specs.Holders.{Writes, Holding, Ended, total, anyone, first, Stands, Reduced, Underway, OnTheWay}
use Rattle.matching.proofs.Bridge.{Ranking}
use Rattle.matching.proofs.Proposing.{Asked}
use Rattle.matching.proofs.Settled.{ended_from, loose_from, firsts_same, second_one, second_two}
use Rattle.matching.proofs.Rotating.{walk_rotation}
use Rattle.matching.proofs.Tables.{row_second, row_last, row_first, one_same, two_apart, row_unlisted}
use Rattle.matching.proofs.Finishing.{two_way_ranks, start, start_trimmed, stands_start, stands_next, proposal_made, proposal_falls, finish_settled, nil_from}
use Rattle.matching.proofs.Reducing.{eliminated_made, reduced_next, empties_none, empties_some}

module _ (ls : List (List ℕ)) (h : Lawful ls) (r : ℕ → ℕ → ℕ) (o : Ranking ls (accept ls) r) where
  k : Ranks r
  k = two_way_ranks ls h r o

  -- at the start every door holds itself
  pub underway_start : (g : ℕ → ℕ) → ((x : ℕ) → g x ≡ x) → Underway ls r g
  underway_start g own =
      let held : List ℕ = replicate (length ls) unlinked in
      subst (Underway ls r) (sym (fun_ext own)) (0, start ls, held, (start_trimmed ls, refl), stands_start ls h r o (start ls) held (start_trimmed ls) refl)

  pub underway_holding : (g : ℕ → ℕ) → Underway ls r g → Holding r g
  underway_holding g u = u.4.holding

  -- x proposes to its first y, who does not hold it
  pub underway_next : (g g' : ℕ → ℕ) (x y : ℕ) → Underway ls r g → Asked r g x y g' → (g y ≡ x → ⊥) → Underway ls r g'
  underway_next g g' x y (j, T, held, l, s) a n =
      let p = proposal_made ls h r o T held g s x y g' a (loose_from r g x y k s.holding a.first n) in
      (suc j, p.0, set held y x, (T, held, x, y, l, p.1), stands_next ls h r o T held g s x y g' a p.0 p.1.parts)

  pub underway_falls : (g g' : ℕ → ℕ) (x y : ℕ) → Underway ls r g → Asked r g x y g' → (g y ≡ x → ⊥) → total (λ z. r z (g' z)) (length ls) < total (λ z. r z (g z)) (length ls)
  underway_falls g g' x y u a n = proposal_falls ls h r o g g' x y a (loose_from r g x y k u.4.holding a.first n)

  -- the first of every door holds it: proposals have finished
  pub underway_ends : (g f : ℕ → ℕ) → Underway ls r g → Firsts r g f → ((x : ℕ) → (f x ≡ x) ⊎ (g (f x) ≡ x)) → OnTheWay ls r g
  underway_ends g f (j, T, held, l, s) F ends =
      let end : Ended r anyone g = ended_from r g f F ends in (
        0,
        T,
        (
          j,
          held,
          l,
          λ x. ⊎_elim
              (λ b. let q = end x (first T x) refl (row_first r g x (row T x) x (s.rows x) b).0 in
              inr (q.0, ⊎_elim (λ c. absurd (q.2 (sym c.0 ∙ q.1))) (λ c. c.1 ∙ q.1) (s.writes q.0)))
              (λ b. inl (nil_from (row T x) b))
              (cases_lt 0 (length (row T x))),
        ),
        record {
          rows = s.rows;
          size = s.size;
          settled = finish_settled ls h r o T held g s end;
          room = λ m l u. (m, record { links = l; unblocked = u; within = s.room m l u });
        },
      )

  -- a table on the way, with its firsts
  module _ (g f : ℕ → ℕ) (way : OnTheWay ls r g) (F : Firsts r g f) where
    same : first way.1 ≡ f
    same = fun_ext (firsts_same r g (first way.1) f k way.3.settled F)

    pub way_settled : Settled r g f
    way_settled = subst (Settled r g) same way.3.settled

    -- every list has one door at most: the linking of the lasts is the outcome
    pub way_links : ((x : ℕ) → f x ≡ g x) → (m : List ℕ) → length m ≡ length ls → Writes g m → Outcome ls (Some m)
    way_links single m n w =
        let T : List (List ℕ) = way.1 in
        let s : Reduced ls r T g = way.3 in (
          way.0,
          T,
          way.2,
          record {
            size = n ∙ sym s.size;
            single = λ x. ⊎_elim (λ b. b) (λ b. absurd (two_apart r g T s.rows k s.settled x b (ap (λ v. v x) same ∙ single x))) (cases_lt (length (row T x)) 2);
            partners = λ x. ⊎_elim
                (λ b. let e : first T x ≡ g x = ap (λ v. v x) same ∙ single x in
                ⊎_elim
                (λ c. absurd (omega (arith, (row_first r g x (row T x) x (s.rows x) b).0.0, ap (r x) (e ∙ c.0))))
                (λ c. c.1 ∙ (sym e ∙ sym (get_or_default (row T x) 0 unlinked x b)))
                (w x))
                (λ b. ⊎_elim
                (λ c. c.1 ∙ sym (get_or_past (row T x) 0 unlinked b))
                (λ c. absurd (c.0 (row_unlisted r g T s.rows k s.settled x b)))
                (w x))
                (cases_lt 0 (length (row T x)));
          },
        )

    -- the walk from the lowest door d with two or more, by the seconds met on it, and a round of it
    module _ (s p : ℕ → ℕ) (d : ℕ) (two : f d ≡ g d → ⊥) (low : (x : ℕ) → x < d → f x ≡ g x) (start : p 0 ≡ d) (w : Walk g s p) (sec : (i : ℕ) → Second r g f (p i) (s (p i)))
        (from period : ℕ) (some : 0 < period) (e : p (from + period) ≡ p from) where
      pub way_rotation : Rotation r g f s (λ i. p (from + i)) period
      way_rotation = walk_rotation r g f s k way_settled p w sec from period some e

      lowest_row : Lowest way.1 d
      lowest_row =
          let T : List (List ℕ) = way.1 in
          let R : Reduced ls r T g = way.3 in (
            ⊎_elim
                (λ b. absurd (two (sym (ap (λ v. v d) same) ∙ one_same r g T R.rows k R.settled d b)))
                (λ b. b)
                (cases_lt (length (row T d)) 2),
            λ x b. ⊎_elim (λ c. c) (λ c. absurd (two_apart r g T R.rows k R.settled x c (ap (λ v. v x) same ∙ low x b))) (cases_lt (length (row T x)) 2),
          )

      second_row : (i : ℕ) → second way.1 (p i) ≡ s (p i)
      second_row i =
          let T : List (List ℕ) = way.1 in
          let R : Reduced ls r T g = way.3 in
          let x : ℕ = p i in
          ⊎_elim
          (λ b. absurd (second_two r g f x (s x) (sec i) (sym (ap (λ v. v x) same) ∙ one_same r g T R.rows k R.settled x b)))
          (λ b. second_one r g f x (second T x) (s x) k (subst (λ v. Second r g v x (second T x)) same (row_second r g T R.rows k R.settled x b)) (sec i))
          (cases_lt (length (row T x)) 2)

      walk_row : (i : ℕ) → walk way.1 d i ≡ p i
      unfolding walk
      walk_row zero = sym start
      walk_row (suc i) =
          row_last r g way.1 way.3.rows k way.3.settled (second way.1 (walk way.1 d i))
          ∙ (ap g (ap (second way.1) (walk_row i) ∙ second_row i) ∙ sym (w i))

      -- the elimination of that round
      module _ (g' : ℕ → ℕ) (E : Eliminated g s (λ i. p (from + i)) g') where
        eliminated_row : Eliminated g (second way.1) (λ i. walk way.1 d (from + i)) g'
        eliminated_row =
            let there : (i : ℕ) → second way.1 (walk way.1 d (from + i)) ≡ s (p (from + i)) = λ i. ap (second way.1) (walk_row (from + i)) ∙ second_row (from + i) in
            record {
              moves = λ i. ap g' (there i) ∙ (E.moves i ∙ sym (walk_row (from + i)));
              stays = λ x. ⊎_elim inl (λ q. inr (q.0, q.1 ∙ sym (there q.0))) (E.stays x);
            }

        round_row : walk way.1 d (from + period) ≡ walk way.1 d from
        round_row = walk_row (from + period) ∙ (e ∙ sym (walk_row from))

        -- compared by ranks, at a door of the walk and at the same door of the table's walk
        at_row : (C : ℕ → ℕ → Type 0) (i : ℕ) → C (p (from + i)) (s (p (from + i))) → C (walk way.1 d (from + i)) (second way.1 (walk way.1 d (from + i)))
        at_row C i c = subst (λ x. C x (second way.1 x)) (sym (walk_row (from + i))) (subst (C (p (from + i))) (sym (second_row (from + i))) c)

        pub way_next : ((i : ℕ) → r (p (from + i)) (s (p (from + i))) ≤ r (p (from + i)) (g' (p (from + i)))) → OnTheWay ls r g'
        way_next keeps =
            let T : List (List ℕ) = way.1 in
            let R : Reduced ls r T g = way.3 in
            let (T', q) = eliminated_made ls h r o T g R d lowest_row from period some round_row g' eliminated_row in
            let none = empties_none ls h r o T g R d lowest_row from period some round_row g' eliminated_row T' q (λ i. at_row (λ x y. r x y ≤ r x (g' x)) i (keeps i)) in
            (suc way.0, T', (T, way.2, (d, lowest_row, q), none), reduced_next ls h r o T g R d lowest_row from period some round_row g' eliminated_row T' q none)

        pub way_none : (i : ℕ) → r (p (from + i)) (g' (p (from + i))) < r (p (from + i)) (s (p (from + i))) → Outcome ls None
        way_none i less =
            let T : List (List ℕ) = way.1 in
            let R : Reduced ls r T g = way.3 in
            let (T', q) = eliminated_made ls h r o T g R d lowest_row from period some round_row g' eliminated_row in
            (way.0, T, T', way.2, (d, lowest_row, q), empties_some ls h r o T g R d lowest_row from period some round_row g' eliminated_row T' q i (at_row (λ x y. r x (g' x) < r x y) i less))
