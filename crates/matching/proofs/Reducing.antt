-- Eliminations on tables, in the theory's form: they lead to one outcome, a stable linking or the proof that there is none.
use Rattle.std.proofs.Common.{◌≡◌, ℕ, zero, suc, ◌+◌, ◌-◌, ◌<◌, ◌≤◌, ◌⊎◌, List, [], map, length, get_or, Some, None, Option, sym, refl, ap, ◌∙◌, subst, inl, inr, ⊎_elim, arith}
use mathlib.Core.Path.{fun_ext}
use Rattle.std.specs.List.{range_with_len}
use Rattle.std.proofs.lemmas.List.FromFn.{length-map-range_with_len, get_or-map-range_with_len}
use Rattle.std.proofs.lemmas.List.{get_or_past, get_or_default, ext_get_or}
use Rattle.std.proofs.lemmas.Bool.{cases_eq, cases_lt, cases_order}
use Rattle.matching.specs.Lists.{row, Lawful}
use Rattle.matching.specs.Linkings.{unlinked, accept, Prefers}
use Rattle.matching.specs.Ranks.{Ranks, Links, Unblocked, On}
use Rattle.matching.specs.Rotations.{Rotation, Eliminated, Walk, ComesAgain}
use Rattle.matching.specs.Settled.{Settled, Second, StableWithin}
use Rattle.matching.specs.TwoWay.{Parted, Finish, second, Lowest, walk, Eliminates, Empties, Reduces, LinksRows, Outcome}
use Rattle.matching.specs.Holders.{Writes, total, TableOf, first, Reduced}
use Rattle.matching.proofs.Bridge.{Ranking}
use Rattle.matching.proofs.Proposing.{on_sym}
use Rattle.matching.proofs.Search.{Repeat, all_or_some, none_or_least}
use Rattle.matching.proofs.Settled.{first_on, firsts_same, single_links, single_stable}
use Rattle.matching.proofs.Rotating.{round_again, again_round, walk_seconds, walk_returns, walk_rotation, advanced, eliminated, shorter, some_stays, none_if_emptied, emptied, settled_again, listed_again, elimination_falls}
use Rattle.matching.proofs.Tables.{row_first, row_empty, empty_row, prefers_less, less_prefers, rows_firsts, rows_seconds, row_last, row_listed, row_unlisted, two_apart, one_same, parted_table, parted_made, parted_one}
use Rattle.matching.proofs.Finishing.{two_way_ranks, near_small, past_first, finish_stands, finish_settled, finish_one, finishes, nil_from}

-- u and v part when the rotation from d is eliminated
abbrev pub Parts : List (List ℕ) → ℕ → ℕ → ℕ → Type 0
Parts T d u v = (a : ℕ) × ComesAgain (walk T d) a × (second T a ≡ u) × Prefers T u a v

-- a row whose first is its own door is empty
unlisted_nil : (r : ℕ → ℕ → ℕ) (g : ℕ → ℕ) (x : ℕ) (T : List (List ℕ)) → TableOf r g T → first T x ≡ x → row T x ≡ []
unlisted_nil r g x T t e =
    nil_from (row T x)
    (⊎_elim (λ b. absurd (omega (arith, (row_first r g x (row T x) x (t x) b).0.0, ap (r x) e))) (λ b. b) (cases_lt 0 (length (row T x))))

module _ (ls : List (List ℕ)) (h : Lawful ls) (r : ℕ → ℕ → ℕ) (o : Ranking ls (accept ls) r) where
  k : Ranks r
  k = two_way_ranks ls h r o

  pub finish_reduced : (T : List (List ℕ)) → Finish ls T → (g : ℕ → ℕ) × Reduced ls r T g
  finish_reduced T f =
      let s = finish_stands ls h r o T f in (
        s.1,
        record {
          rows = s.2.rows;
          size = s.2.size;
          settled = finish_settled ls h r o T s.0 s.1 s.2 s.3;
          room = λ m l u. (m, record { links = l; unblocked = u; within = s.2.room m l u });
        },
      )

  -- the walk from the lowest door with two or more
  module _ (T : List (List ℕ)) (g : ℕ → ℕ) (s : Reduced ls r T g) (d : ℕ) (low : Lowest T d) where
    pub walk_goes : Walk g (second T) (walk T d)
    unfolding walk
    walk_goes i = row_last r g T s.rows k s.settled (second T (walk T d i))

    walk_starts : first T (walk T d 0) ≡ g (walk T d 0) → ⊥
    unfolding walk
    walk_starts = two_apart r g T s.rows k s.settled d low.0

    seconds : (i : ℕ) → Second r g (first T) (walk T d i) (second T (walk T d i))
    seconds = walk_seconds r g (first T) (second T) k s.settled (walk T d) walk_goes (rows_seconds r g T s.rows k s.settled) walk_starts

    pub turn : (from : ℕ) × (period : ℕ) × (0 < period) × (walk T d (from + period) ≡ walk T d from)
    turn =
        let w : Repeat (walk T d) (length ls) =
        walk_returns r g (first T) (second T) k s.settled (walk T d) walk_goes seconds (length ls) (past_first ls h r o T s.size) in
        (w.0, w.1 - w.0, omega (arith, w.2), ap (walk T d) (omega (arith, w.2)) ∙ sym w.4)

    -- its round is a rotation, and the table after it is the one that the pairs which part leave
    module _ (from period : ℕ) (some : 0 < period) (e : walk T d (from + period) ≡ walk T d from) where
      pub rotation : Rotation r g (first T) (second T) (λ i. walk T d (from + i)) period
      rotation = walk_rotation r g (first T) (second T) k s.settled (walk T d) walk_goes seconds from period some e

      module _ (g' : ℕ → ℕ) (E : Eliminated g (second T) (λ i. walk T d (from + i)) g') where
        lower : (x : ℕ) → r x (g' x) ≤ r x (g x)
        lower = shorter r g (first T) (second T) (λ i. walk T d (from + i)) period k s.settled rotation g' E

        far : (u v : ℕ) → Parts T d u v → r u (g' u) < r u v
        far u v p =
            let i = again_round g (second T) (walk T d) walk_goes from p.0 p.1 in
            let there : g' u ≡ p.0 = ap g' (sym p.2 ∙ ap (second T) i.1) ∙ (E.moves i.0 ∙ sym i.1) in
            omega (arith, (prefers_less r g T s.rows u p.0 v p.3).2, ap (r u) there)

        near : (u v : ℕ) → On r g u v → r u (g' u) < r u v → Parts T d u v
        near u v on b =
            ⊎_elim
            (λ c. absurd (omega (arith, b, on.1, ap (r u) c)))
            (λ i. let a : ℕ = walk T d (from + i.0) in
            let there : g' u ≡ a = ap g' i.1 ∙ E.moves i.0 in
            let back : On r g u a = subst (λ w. On r g w a) (sym i.1) (on_sym r g a (second T a) k (rotation.second i.0).0) in (
              a,
              round_again g (second T) (walk T d) walk_goes from period some e i.0,
              sym i.1,
              less_prefers r g T s.rows u a v back on (omega (arith, b, ap (r u) there)),
            ))
            (E.stays u)

        pub eliminated_rows : (T' : List (List ℕ)) → Parted (Parts T d) T T' → TableOf r g' T'
        eliminated_rows = parted_table r g g' T (Parts T d) k s.rows lower far near

        pub eliminated_made : (T' : List (List ℕ)) × Parted (Parts T d) T T'
        eliminated_made = parted_made r g g' T (Parts T d) k s.rows lower far near

        pub reduction_falls : total (λ x. r x (g' x)) (length ls) < total (λ x. r x (g x)) (length ls)
        reduction_falls =
            elimination_falls r g (first T) (second T) (λ j. walk T d (from + j)) period k s.settled rotation g' E (length ls) (past_first ls h r o T s.size)

        module _ (T' : List (List ℕ)) (p : Parted (Parts T d) T T') where
          -- where the second of a door of the rotation is off its list, the list is empty
          pub empties_some : (i : ℕ) → r (walk T d (from + i)) (g' (walk T d (from + i))) < r (walk T d (from + i)) (second T (walk T d (from + i))) → Empties T T'
          empties_some i b =
              let a : ℕ = walk T d (from + i) in (
                a,
                λ q. row_empty r g a (row T a) (s.rows a) q (second T a) (rotation.second i).0,
                empty_row r g' a (row T' a) (eliminated_rows T' p a)
                    (emptied r g (first T) (second T) (λ j. walk T d (from + j)) period k s.settled rotation g' E i b),
              )

          keeps : (Empties T T' → ⊥) → (i : ℕ) → r (walk T d (from + i)) (second T (walk T d (from + i))) ≤ r (walk T d (from + i)) (g' (walk T d (from + i)))
          keeps n i =
              let a : ℕ = walk T d (from + i) in
              ⊎_elim (λ b. absurd (n (empties_some i b))) (λ b. b) (cases_lt (r a (g' a)) (r a (second T a)))

          -- otherwise no list is
          pub empties_none : ((i : ℕ) → r (walk T d (from + i)) (second T (walk T d (from + i))) ≤ r (walk T d (from + i)) (g' (walk T d (from + i)))) → Empties T T' → ⊥
          empties_none keep q =
              let f = advanced r g (first T) (second T) (λ j. walk T d (from + j)) period k s.settled rotation in
              let again : Settled r g' f.0 =
              settled_again r g (first T) (second T) (λ j. walk T d (from + j)) period k s.settled rotation g' E f.0 f.1 keep in
              let x : ℕ = q.0 in
              let own : f.0 x ≡ x =
              ⊎_elim (λ c. c) (λ on. absurd (row_empty r g' x (row T' x) (eliminated_rows T' p x) q.2 (f.0 x) on)) (first_on r g' f.0 k again x) in
              let was : first T x ≡ x =
              listed_again r g (first T) (second T) (λ j. walk T d (from + j)) period k s.settled rotation g' E f.0 f.1 keep x own in
              q.1 (unlisted_nil r g x T s.rows was)

          pub reduced_next : (Empties T T' → ⊥) → Reduced ls r T' g'
          reduced_next n =
              let f = advanced r g (first T) (second T) (λ j. walk T d (from + j)) period k s.settled rotation in
              let again : Settled r g' f.0 = settled_again r g (first T) (second T) (λ j. walk T d (from + j)) period k s.settled rotation g' E f.0 f.1 (keeps n) in
              let rows : TableOf r g' T' = eliminated_rows T' p in
              record {
                rows = rows;
                size = p.size ∙ s.size;
                settled = subst (Settled r g') (fun_ext (firsts_same r g' f.0 (first T') k again (rows_firsts r g' T' rows))) again;
                room = λ m l u. let t = s.room m l u in some_stays r g (first T) (second T) (λ j. walk T d (from + j)) period k s.settled rotation g' E t.0 t.1;
              }

          -- an emptied list leaves no stable linking
          pub none_stable : Empties T T' → (m : ℕ → ℕ) → Links r m → Unblocked r m → ⊥
          none_stable q m l u =
              let t = s.room m l u in
              let x : ℕ = q.0 in
              none_if_emptied r g (first T) (second T) (λ j. walk T d (from + j)) period k s.settled rotation g' E x
              (λ c. q.1 (nil_from (row T x)
              (⊎_elim (λ b. absurd (omega (arith, (row_listed r g T s.rows k s.settled x b).0, ap (r x) c))) (λ b. b) (cases_lt 0 (length (row T x))))))
              (row_empty r g' x (row T' x) (eliminated_rows T' p x) q.2) t.0 t.1

  -- every elimination of a table on the way has its holders
  eliminates_holders : (T T' : List (List ℕ)) (g : ℕ → ℕ) → Reduced ls r T g → Eliminates T T' → (g' : ℕ → ℕ) × ((Empties T T' → ⊥) → Reduced ls r T' g') × (Empties T T' → (m : ℕ → ℕ) → Links r m → Unblocked r m → ⊥)
  eliminates_holders T T' g s (d, low, p) =
      let w = turn T g s d low in
      let E = eliminated r g (first T) (second T) (λ i. walk T d (w.0 + i)) w.1 k s.settled (rotation T g s d low w.0 w.1 w.2 w.3) in
      (E.0, reduced_next T g s d low w.0 w.1 w.2 w.3 E.0 E.1 T' p, none_stable T g s d low w.0 w.1 w.2 w.3 E.0 E.1 T' p)

  pub reduces_reduced : (j : ℕ) (T : List (List ℕ)) → Reduces ls j T → (g : ℕ → ℕ) × Reduced ls r T g
  reduces_reduced zero T f = finish_reduced T f
  reduces_reduced (suc j) T' (T, f, e, n) =
      let s = reduces_reduced j T f in
      let E = eliminates_holders T T' s.0 s.1 e in
      (E.0, E.1 n)

  -- an emptied row: no linking is stable
  pub outcome_none : Outcome ls None → (m : ℕ → ℕ) → Links r m → Unblocked r m → ⊥
  outcome_none (j, T, T', f, e, q) = let s = reduces_reduced j T f in (eliminates_holders T T' s.0 s.1 e).2 q

  -- rows of one door at most: their linking is stable
  rows_write : (T : List (List ℕ)) (g : ℕ → ℕ) (m : List ℕ) → Reduced ls r T g → LinksRows T m → Writes g m
  rows_write T g m s l x =
      ⊎_elim
      (λ b. let on : On r g x (g x) = row_listed r g T s.rows k s.settled x b in
      let same : first T x ≡ g x = one_same r g T s.rows k s.settled x (l.single x) in
      inr (
        λ c. omega (arith, on.0, ap (r x) c),
        l.partners x ∙ (get_or_default (row T x) 0 unlinked x b ∙ same),
        near_small ls h r o (g x) x (k.both x (g x) on.0),
      ))
      (λ b. inl (row_unlisted r g T s.rows k s.settled x b, l.partners x ∙ get_or_past (row T x) 0 unlinked b))
      (cases_lt 0 (length (row T x)))

  pub outcome_links : (m : List ℕ) → Outcome ls (Some m) → (g : ℕ → ℕ) × Writes g m × Links r g × Unblocked r g × (length m ≡ length ls)
  outcome_links m (j, T, f, l) =
      let s = reduces_reduced j T f in
      let single : (x : ℕ) → first T x ≡ s.0 x = λ x. one_same r s.0 T s.1.rows k s.1.settled x (l.single x) in
      (s.0, rows_write T s.0 m s.1 l, single_links r s.0 (first T) s.1.settled single, single_stable r s.0 (first T) s.1.settled single, l.size ∙ s.1.size)

  -- the way is one
  lowest_one : (T : List (List ℕ)) (d e : ℕ) → Lowest T d → Lowest T e → d ≡ e
  lowest_one T d e a b =
      ⊎_elim
      (λ c. c)
      (λ c. absurd (⊎_elim (λ i. omega (arith, a.0, b.1 d i)) (λ i. omega (arith, b.0, a.1 e i)) c))
      (cases_order d e)

  eliminates_one : (T U V : List (List ℕ)) → Eliminates T U → Eliminates T V → U ≡ V
  eliminates_one T U V (d, low, p) (e, low', q) =
      parted_one (Parts T d) T U V p (subst (λ c. Parted (Parts T c) T V) (lowest_one T e d low' low) q)

  reduces_one : (j : ℕ) (T U : List (List ℕ)) → Reduces ls j T → Reduces ls j U → T ≡ U
  reduces_one zero T U a b = finish_one ls h r o T U a b
  reduces_one (suc j) T' U' (T, f, e, n) (U, f', e', n') =
      eliminates_one T T' U' e (subst (λ V. Eliminates V U') (sym (reduces_one j T U f f')) e')

  -- a longer way has a rotation where a shorter one ends
  reduces_through : (j : ℕ) (U : List (List ℕ)) → Reduces ls j U → (i : ℕ) → i < j → (T : List (List ℕ)) × (d : ℕ) × Reduces ls i T × Lowest T d
  reduces_through zero U f i b = absurd (omega arith)
  reduces_through (suc j) U (T, f, e, n) i b =
      ⊎_elim
      (λ c. (T, e.0, subst (λ w. Reduces ls w T) (sym c) f, e.1))
      (λ c. reduces_through j T f i (omega (arith, b, c)))
      (cases_eq i j)

  ends_first : (i j : ℕ) (T U : List (List ℕ)) → Reduces ls i T → ((x : ℕ) → length (row T x) < 2) → Reduces ls j U → j ≤ i
  ends_first i j T U a single b =
      ⊎_elim
      (λ c. let w = reduces_through j U b i c in
      absurd (omega (arith, w.3.0, single w.1, ap (λ V. length (row V w.1)) (reduces_one i T w.0 a w.2))))
      (λ c. c)
      (cases_lt i j)

  linking_one : (m m' : List ℕ) → Outcome ls (Some m) → Outcome ls (Some m') → m ≡ m'
  linking_one m m' (i, T, f, l) (j, U, f', l') =
      let a : j ≤ i = ends_first i j T U f l.single f' in
      let b : i ≤ j = ends_first j i U T f' l'.single f in
      let e : T ≡ U = reduces_one i T U f (subst (λ w. Reduces ls w U) (omega arith) f') in
      ext_get_or unlinked m m' (l.size ∙ (ap length e ∙ sym l'.size))
      (λ x _. l.partners x ∙ (ap (λ V. get_or (row V x) 0 unlinked) e ∙ sym (l'.partners x)))

  pub outcome_one : (a b : Option (List ℕ)) → Outcome ls a → Outcome ls b → a ≡ b
  outcome_one None None p q = refl
  outcome_one None (Some m) p q = absurd (let w = outcome_links m q in outcome_none p w.0 w.2 w.3)
  outcome_one (Some m) None p q = absurd (let w = outcome_links m p in outcome_none q w.0 w.2 w.3)
  outcome_one (Some m) (Some m') p q = ap Some (linking_one m m' p q)

  -- and comes to an end
  rows_linked : (T : List (List ℕ)) → ((x : ℕ) → length (row T x) < 2) → (m : List ℕ) × LinksRows T m
  rows_linked T single =
      let entry : ℕ → ℕ = λ x. get_or (row T x) 0 unlinked in
      let n : ℕ = length T in
      let m : List ℕ = map entry (range_with_len 0 n) in (
        m,
        record {
          size = length-map-range_with_len entry 0 n;
          single = single;
          partners = λ x. ⊎_elim
              (λ b. get_or-map-range_with_len entry 0 n x x unlinked b (omega arith))
              (λ b. get_or_past m x unlinked (omega (arith, b, length-map-range_with_len entry 0 n)) ∙ sym (ap (λ l. get_or l 0 unlinked) (get_or_past T x [] b)))
              (cases_lt x n);
        },
      )

  lowest : (T : List (List ℕ)) → ((x : ℕ) → length (row T x) < 2) ⊎ ((d : ℕ) × Lowest T d)
  lowest T =
      let low : (x : ℕ) → (2 ≤ length (row T x) → ⊥) → length (row T x) < 2 = λ x n. ⊎_elim (λ b. b) (λ b. absurd (n b)) (cases_lt (length (row T x)) 2) in
      ⊎_elim
      (λ none. inl (λ x. ⊎_elim (λ b. low x (none x b)) (λ b. omega (arith, ap length (get_or_past T x [] b))) (cases_lt x (length T))))
      (λ d. inr (d.0, (d.2, λ x b. low x (λ c. omega (arith, b, d.3 x (omega (arith, b, d.1)) c)))))
      (none_or_least (λ x. 2 ≤ length (row T x)) (λ x. x) (λ x. ⊎_elim (λ b. inl (λ c. omega (arith, b, c))) inr (cases_lt (length (row T x)) 2)) (length T))

  empties_or : (T T' : List (List ℕ)) → Empties T T' ⊎ (Empties T T' → ⊥)
  empties_or T T' =
      ⊎_elim
      (λ none. inr (λ q. ⊎_elim (λ b. none q.0 b (q.1, q.2)) (λ b. q.1 (get_or_past T q.0 [] b)) (cases_lt q.0 (length T))))
      (λ q. inl (q.0, q.2.0, q.2.1))
      (all_or_some (λ x. (row T x ≡ [] → ⊥) × (row T' x ≡ []) → ⊥) (λ x. (row T x ≡ [] → ⊥) × (row T' x ≡ []))
      (λ x. ⊎_elim
      (λ b. ⊎_elim
      (λ c. inl (λ q. omega (arith, c, ap length q.1)))
      (λ c. inr (λ e. omega (arith, b, ap length e), nil_from (row T' x) c))
      (cases_lt 0 (length (row T' x))))
      (λ b. inl (λ q. q.0 (nil_from (row T x) b)))
      (cases_lt 0 (length (row T x))))
      (length T))

  -- one more elimination
  elimination_made : (T : List (List ℕ)) (g : ℕ → ℕ) (s : Reduced ls r T g) (d : ℕ) → Lowest T d →
      (T' : List (List ℕ)) × (g' : ℕ → ℕ) × Eliminates T T' × ((Empties T T' → ⊥) → Reduced ls r T' g') × (total (λ x. r x (g' x)) (length ls) < total (λ x. r x (g x)) (length ls))
  elimination_made T g s d low =
      let w = turn T g s d low in
      let E = eliminated r g (first T) (second T) (λ i. walk T d (w.0 + i)) w.1 k s.settled (rotation T g s d low w.0 w.1 w.2 w.3) in
      let p = eliminated_made T g s d low w.0 w.1 w.2 w.3 E.0 E.1 in (
        p.0,
        E.0,
        (d, low, p.1),
        reduced_next T g s d low w.0 w.1 w.2 w.3 E.0 E.1 p.0 p.1,
        reduction_falls T g s d low w.0 w.1 w.2 w.3 E.0 E.1,
      )

  outcome_from : (fuel j : ℕ) (T : List (List ℕ)) (g : ℕ → ℕ) → Reduces ls j T → Reduced ls r T g → total (λ x. r x (g x)) (length ls) < fuel → (a : Option (List ℕ)) × Outcome ls a
  outcome_from zero j T g f s b = absurd (omega arith)
  outcome_from (suc fuel) j T g f s b =
      ⊎_elim
      (λ single. let l = rows_linked T single in (Some l.0, (j, T, f, l.1)))
      (λ q. let (T', g', e, next, falls) = elimination_made T g s q.0 q.1 in
      ⊎_elim
      (λ c. (None, (j, T, T', f, e, c)))
      (λ c. outcome_from fuel (suc j) T' g' (T, f, e, c) (next c) (omega (arith, b, falls)))
      (empties_or T T'))
      (lowest T)

  pub outcome_exists : (a : Option (List ℕ)) × Outcome ls a
  outcome_exists =
      let f = finishes ls h r o in
      let s = finish_reduced f.0 f.1 in
      outcome_from (suc (total (λ x. r x (s.0 x)) (length ls))) 0 f.0 s.0 f.1 s.1 (omega arith)
