-- Two-way linking worked out: given who proposes and which rounds are eliminated, the tables are computed and shown to be the run.
use Rattle.std.proofs.Common.{◌≡◌, ℕ, suc, ◌+◌, ◌<◌, Bool, true, false, not, ◌&&◌, ◌||◌, eqb, ltb, leb, ◌⊎◌, List, [], ◌∷◌, map, length, get_or, set, replicate, Some, None, filter, Option, sym, refl, ap, ◌∙◌, subst, inl, inr, ⊎_elim, arith}
use Rattle.std.specs.List.{range_with_len, list_all}
use Rattle.std.proofs.lemmas.List.FromFn.{length-map-range_with_len, get_or-map-range_with_len, length-range_with_len, get_or-range_with_len}
use Rattle.std.proofs.lemmas.List.{get_or_past, get_or_default}
use Rattle.std.proofs.lemmas.Bool.{and_parts, and_from, or_cases, cases_Bool, cases_lt, both_ways, eqb-true, eqb-false, eq-eqb, ltb-true, ltb-false, lt-ltb, leb-true, not-true, not-false, or_parts, cond_both}
use Rattle.matching.specs.Lists.{row, place}
use Rattle.matching.specs.Linkings.{unlinked, listed, accept, partner, Prefers}
use Rattle.matching.specs.Proposals.{trimmed}
use Rattle.matching.specs.Rotations.{Walk}
use Rattle.matching.specs.TwoWay.{Without, Parted, Proposes, Leads, second, last, walk, Eliminates, Empties, Reduces, Outcome}
use Rattle.matching.proofs.Rows.{all_pass_at}
use Rattle.matching.proofs.Rotating.{round_again, again_within}
use Rattle.matching.proofs.Finishing.{start, start_trimmed, nil_from}
use Rattle.matching.proofs.Reducing.{Parts}

-- two places, the one before the other
unfoldable pub in_order : Option ℕ → Option ℕ → Bool
in_order None q = false
in_order (Some j) None = false
in_order (Some j) (Some k) = ltb j k

in_order_true : (p q : Option ℕ) → in_order p q ≡ true → (j : ℕ) × (k : ℕ) × (p ≡ Some j) × (q ≡ Some k) × (j < k)
unfolding in_order
in_order_true None q e = absurd (both_ways false refl e)
in_order_true (Some j) None e = absurd (both_ways false refl e)
in_order_true (Some j) (Some k) e = (j, k, refl, refl, ltb-true j k e)

in_order_from : (p q : Option ℕ) (j k : ℕ) → p ≡ Some j → q ≡ Some k → j < k → in_order p q ≡ true
unfolding in_order
in_order_from p q j k a b c = subst (λ v. in_order v q ≡ true) (sym a) (subst (λ v. in_order (Some j) v ≡ true) (sym b) (lt-ltb j k c))

-- door u prefers a to v in the table T
unfoldable pub prefers : List (List ℕ) → ℕ → ℕ → ℕ → Bool
prefers T u a v = in_order (place (row T u) a) (place (row T u) v)

prefers_true : (T : List (List ℕ)) (u a v : ℕ) → prefers T u a v ≡ true → Prefers T u a v
unfolding prefers
prefers_true T u a v e = in_order_true (place (row T u) a) (place (row T u) v) e

prefers_from : (T : List (List ℕ)) (u a v : ℕ) → Prefers T u a v → prefers T u a v ≡ true
unfolding prefers
prefers_from T u a v p = in_order_from (place (row T u) a) (place (row T u) v) p.0 p.1 p.2 p.3 p.4

-- a test that some element fails
some_fails : (p : ℕ → Bool) (l : List ℕ) → list_all p l ≡ false → (k : ℕ) × (k < length l) × (p (get_or l k 0) ≡ false)
some_fails p [] e = absurd (both_ways true e refl)
some_fails p (x ∷ l) e =
    ⊎_elim
    (λ t. let deeper = some_fails p l (subst (λ b. (b && list_all p l) ≡ false) t e) in (suc deeper.0, omega (arith, deeper.1), deeper.2))
    (λ t. (0, omega arith, t))
    (cases_Bool (p x))

-- what all doors below n pass
below_all : (p : ℕ → Bool) (n : ℕ) → list_all p (range_with_len 0 n) ≡ true → (x : ℕ) → x < n → p x ≡ true
below_all p n e x b =
    subst (λ v. p v ≡ true) (omega (arith, get_or-range_with_len 0 n x 0 b)) (all_pass_at p (range_with_len 0 n) e x (omega (arith, b, length-range_with_len 0 n)))

-- the table after the pairs that a test picks have parted
unfoldable pub parted : (ℕ → ℕ → Bool) → List (List ℕ) → List (List ℕ)
parted test T = map (λ x. filter (λ y. not (test x y || test y x)) (row T x)) (range_with_len 0 (length T))

kept_without : (Leaves : ℕ → Type 0) (keep : ℕ → Bool) → ((y : ℕ) → keep y ≡ false → Leaves y) → ((y : ℕ) → keep y ≡ true → Leaves y → ⊥) → (l : List ℕ) → Without Leaves l (filter keep l)
kept_without Leaves keep off on [] = refl
kept_without Leaves keep off on (y ∷ l) =
    cond_both (keep y) (y ∷ filter keep l) (filter keep l) (Without Leaves (y ∷ l))
    (λ t. inr (on y t, (filter keep l, refl, kept_without Leaves keep off on l)))
    (λ t. inl (off y t, kept_without Leaves keep off on l))

parted_is : (P : ℕ → ℕ → Type 0) (test : ℕ → ℕ → Bool) (T : List (List ℕ)) → ((u v : ℕ) → test u v ≡ true → P u v) → ((u v : ℕ) → test u v ≡ false → P u v → ⊥) → Parted P T (parted test T)
unfolding parted
parted_is P test T picks spared =
    let rows : ℕ → List ℕ = λ x. filter (λ y. not (test x y || test y x)) (row T x) in
    let n : ℕ = length T in
    let here : (x : ℕ) → Without (λ y. P x y ⊎ P y x) (row T x) (rows x) =
    λ x. kept_without (λ y. P x y ⊎ P y x) (λ y. not (test x y || test y x))
    (λ y e. ⊎_elim (λ t. inl (picks x y t)) (λ t. inr (picks y x t)) (or_cases (test x y) (test y x) (not-false (test x y || test y x) e)))
    (λ y e q. let f = or_parts (test x y) (test y x) (not-true (test x y || test y x) e) in ⊎_elim (spared x y f.0) (spared y x f.1) q)
    (row T x) in
    record {
      size = length-map-range_with_len rows 0 n;
      rows = λ x.
          ⊎_elim
          (λ b. subst (Without (λ y. P x y ⊎ P y x) (row T x)) (sym (get_or-map-range_with_len rows 0 n x x [] b (omega arith))) (here x))
          (λ b. subst (λ l. Without (λ y. P x y ⊎ P y x) l (row (map rows (range_with_len 0 n)) x)) (sym (get_or_past T x [] b))
          (get_or_past (map rows (range_with_len 0 n)) x [] (omega (arith, b, length-map-range_with_len rows 0 n))))
          (cases_lt x n);
    }

-- Proposals: x proposes to the first on its row
unfoldable pub foremost : List (List ℕ) → ℕ → ℕ
foremost T x = get_or (row T x) 0 0

unfoldable pub able : List (List ℕ) → List ℕ → ℕ → Bool
able T held x = list_all (λ w. not (eqb w x)) held && (not (eqb x unlinked) && ltb 0 (length (row T x)))

unfoldable pub asked : List (List ℕ) → ℕ → List (List ℕ)
asked T x = parted (λ u v. eqb u (foremost T x) && prefers T (foremost T x) x v) T

-- the table and the proposals held after these have proposed, and whether they could
unfoldable pub asked_all : List (List ℕ) → List ℕ → List ℕ → List (List ℕ) × List ℕ
asked_all T held [] = (T, held)
asked_all T held (x ∷ xs) = asked_all (asked T x) (set held (foremost T x) x) xs

unfoldable pub all_able : List (List ℕ) → List ℕ → List ℕ → Bool
all_able T held [] = true
all_able T held (x ∷ xs) = able T held x && all_able (asked T x) (set held (foremost T x) x) xs

-- every door with a door on its row is held
unfoldable pub all_held : List (List ℕ) → List ℕ → Bool
all_held T held = list_all (λ x. not (ltb 0 (length (row T x))) || not (list_all (λ w. not (eqb w x)) held)) (range_with_len 0 (length T))

head_cons : (l : List ℕ) → 0 < length l → (rest : List ℕ) × (l ≡ get_or l 0 0 ∷ rest)
head_cons [] b = absurd (omega arith)
head_cons (y ∷ l) b = (l, refl)

able_proposes : (T : List (List ℕ)) (held : List ℕ) (x : ℕ) → able T held x ≡ true → Proposes T held x (foremost T x) (asked T x) (set held (foremost T x) x)
unfolding able asked foremost
able_proposes T held x e =
    let a = and_parts (list_all (λ w. not (eqb w x)) held) _ e in
    let b = and_parts (not (eqb x unlinked)) (ltb 0 (length (row T x))) a.1 in
    let y : ℕ = get_or (row T x) 0 0 in
    record {
      free = λ z d.
          ⊎_elim
          (λ c. eqb-false (get_or held z 0) x (not-true (eqb (get_or held z 0) x) (all_pass_at (λ w. not (eqb w x)) held a.0 z c)) (get_or_default held z 0 unlinked c ∙ d))
          (λ c. eqb-false x unlinked (not-true (eqb x unlinked) b.0) (sym d ∙ get_or_past held z unlinked c))
          (cases_lt z (length held));
      first = head_cons (row T x) (ltb-true 0 (length (row T x)) b.1);
      holds = refl;
      parts =
          parted_is (λ u v. (u ≡ y) × Prefers T y x v) (λ u v. eqb u y && prefers T y x v) T
          (λ u v t. let c = and_parts (eqb u y) (prefers T y x v) t in (eqb-true u y c.0, prefers_true T y x v c.1))
          (λ u v t p. both_ways (eqb u y && prefers T y x v) t (and_from (eqb u y) (prefers T y x v) (eq-eqb u y p.0) (prefers_from T y x v p.1)));
    }

asked_leads : (ls : List (List ℕ)) (xs : List ℕ) (k : ℕ) (T : List (List ℕ)) (held : List ℕ) → Leads ls k T held → all_able T held xs ≡ true →
    (j : ℕ) × Leads ls j (asked_all T held xs).0 (asked_all T held xs).1
unfolding asked_all all_able
asked_leads ls [] k T held l e = (k, l)
asked_leads ls (x ∷ xs) k T held l e =
    let a = and_parts (able T held x) _ e in
    asked_leads ls xs (suc k) (asked T x) (set held (foremost T x) x) (T, held, x, foremost T x, l, able_proposes T held x a.0) a.1

held_finished : (T : List (List ℕ)) (held : List ℕ) → all_held T held ≡ true → (x : ℕ) → (row T x ≡ []) ⊎ ((y : ℕ) × (partner held y ≡ x))
unfolding all_held
held_finished T held e x =
    ⊎_elim
    (λ b. ⊎_elim
    (λ t. inl (nil_from (row T x) (ltb-false 0 (length (row T x)) (not-true (ltb 0 (length (row T x))) t))))
    (λ t. let k = some_fails (λ w. not (eqb w x)) held (not-true (list_all (λ w. not (eqb w x)) held) t) in
    inr (k.0, get_or_default held k.0 unlinked 0 k.1 ∙ eqb-true (get_or held k.0 0) x (not-false (eqb (get_or held k.0 0) x) k.2)))
    (or_cases (not (ltb 0 (length (row T x)))) _ (below_all (λ x. not (ltb 0 (length (row T x))) || not (list_all (λ w. not (eqb w x)) held)) (length T) e x b)))
    (λ b. inl (get_or_past T x [] b))
    (cases_lt x (length T))

-- Eliminations: of the round of the walk from d that begins after some steps and has some period
pub record Round : Type 0 where
  pub door : ℕ
  pub after : ℕ
  pub period : ℕ

-- the doors of the round
unfoldable pub doors_of : List (List ℕ) → Round → List ℕ
doors_of T t = map (λ i. walk T t.door (t.after + i)) (range_with_len 0 t.period)

-- door a of the round does not part u from v
unfoldable pub spares : List (List ℕ) → ℕ → ℕ → ℕ → Bool
spares T u v a = not (eqb (second T a) u && prefers T u a v)

unfoldable pub turned : List (List ℕ) → Round → List (List ℕ)
turned T t = parted (λ u v. not (list_all (spares T u v) (doors_of T t))) T

-- it is a round, from the lowest door with two or more
unfoldable pub is_round : List (List ℕ) → Round → Bool
is_round T t =
    ltb 0 t.period && (eqb (walk T t.door (t.after + t.period)) (walk T t.door t.after)
    && (leb 2 (length (row T t.door)) && list_all (λ x. ltb (length (row T x)) 2) (range_with_len 0 t.door)))

round_walk : (T : List (List ℕ)) (d : ℕ) → Walk (last T) (second T) (walk T d)
unfolding walk
round_walk T d i = refl

doors_at : (T : List (List ℕ)) (t : Round) (i : ℕ) → i < t.period → get_or (doors_of T t) i 0 ≡ walk T t.door (t.after + i)
unfolding doors_of
doors_at T t i b = get_or-map-range_with_len (λ i. walk T t.door (t.after + i)) 0 t.period i i 0 b (omega arith)

doors_many : (T : List (List ℕ)) (t : Round) → length (doors_of T t) ≡ t.period
unfolding doors_of
doors_many T t = length-map-range_with_len (λ i. walk T t.door (t.after + i)) 0 t.period

spares_false : (T : List (List ℕ)) (u v a : ℕ) → spares T u v a ≡ false → (second T a ≡ u) × Prefers T u a v
unfolding spares
spares_false T u v a e =
    let c = and_parts (eqb (second T a) u) (prefers T u a v) (not-false (eqb (second T a) u && prefers T u a v) e) in
    (eqb-true (second T a) u c.0, prefers_true T u a v c.1)

spares_true : (T : List (List ℕ)) (u v a : ℕ) → spares T u v a ≡ true → second T a ≡ u → Prefers T u a v → ⊥
unfolding spares
spares_true T u v a e s p =
    both_ways (eqb (second T a) u && prefers T u a v) (not-true (eqb (second T a) u && prefers T u a v) e)
    (and_from (eqb (second T a) u) (prefers T u a v) (eq-eqb (second T a) u s) (prefers_from T u a v p))

round_eliminates : (T : List (List ℕ)) (t : Round) → is_round T t ≡ true → Eliminates T (turned T t)
unfolding is_round turned
round_eliminates T t e =
    let d : ℕ = t.door in
    let a = and_parts (ltb 0 t.period) _ e in
    let b = and_parts (eqb (walk T d (t.after + t.period)) (walk T d t.after)) _ a.1 in
    let c = and_parts (leb 2 (length (row T d))) _ b.1 in
    let some : 0 < t.period = ltb-true 0 t.period a.0 in
    let back : walk T d (t.after + t.period) ≡ walk T d t.after = eqb-true (walk T d (t.after + t.period)) (walk T d t.after) b.0 in (
      d,
      (leb-true 2 (length (row T d)) c.0, λ x i. ltb-true (length (row T x)) 2 (below_all (λ x. ltb (length (row T x)) 2) d c.1 x i)),
      parted_is (Parts T d) (λ u v. not (list_all (spares T u v) (doors_of T t))) T
          (λ u v q.
          let k = some_fails (spares T u v) (doors_of T t) (not-true (list_all (spares T u v) (doors_of T t)) q) in
          let door : get_or (doors_of T t) k.0 0 ≡ walk T d (t.after + k.0) = doors_at T t k.0 (omega (arith, k.1, doors_many T t)) in
          let s = spares_false T u v (walk T d (t.after + k.0)) (subst (λ w. spares T u v w ≡ false) door k.2) in
          (walk T d (t.after + k.0), round_again (last T) (second T) (walk T d) (round_walk T d) t.after t.period some back k.0, s.0, s.1))
          (λ u v q p.
          let i = again_within (last T) (second T) (walk T d) (round_walk T d) t.after t.period some back p.0 p.1 in
          let door : get_or (doors_of T t) i.0 0 ≡ p.0 = doors_at T t i.0 i.1 ∙ sym i.2 in
          spares_true T u v p.0
          (subst (λ w. spares T u v w ≡ true) door
          (all_pass_at (spares T u v) (doors_of T t) (not-false (list_all (spares T u v) (doors_of T t)) q) i.0 (omega (arith, i.1, doors_many T t))))
          p.2 p.3),
    )

-- no row is emptied
unfoldable pub none_emptied : List (List ℕ) → List (List ℕ) → Bool
none_emptied T T' = list_all (λ x. not (ltb 0 (length (row T x))) || ltb 0 (length (row T' x))) (range_with_len 0 (length T))

none_is_emptied : (T T' : List (List ℕ)) → none_emptied T T' ≡ true → Empties T T' → ⊥
unfolding none_emptied
none_is_emptied T T' e (x, had, has) =
    ⊎_elim
    (λ b. ⊎_elim
    (λ t. had (nil_from (row T x) (ltb-false 0 (length (row T x)) (not-true (ltb 0 (length (row T x))) t))))
    (λ t. omega (arith, ltb-true 0 (length (row T' x)) t, ap length has))
    (or_cases (not (ltb 0 (length (row T x)))) _ (below_all (λ x. not (ltb 0 (length (row T x))) || ltb 0 (length (row T' x))) (length T) e x b)))
    (λ b. had (get_or_past T x [] b))
    (cases_lt x (length T))

-- the table after these rounds, and whether they were rounds that empty no row
unfoldable pub turned_all : List (List ℕ) → List Round → List (List ℕ)
turned_all T [] = T
turned_all T (t ∷ ts) = turned_all (turned T t) ts

unfoldable pub all_rounds : List (List ℕ) → List Round → Bool
all_rounds T [] = true
all_rounds T (t ∷ ts) = is_round T t && (none_emptied T (turned T t) && all_rounds (turned T t) ts)

turned_reduces : (ls : List (List ℕ)) (ts : List Round) (k : ℕ) (T : List (List ℕ)) → Reduces ls k T → all_rounds T ts ≡ true → (j : ℕ) × Reduces ls j (turned_all T ts)
unfolding turned_all all_rounds
turned_reduces ls [] k T f e = (k, f)
turned_reduces ls (t ∷ ts) k T f e =
    let a = and_parts (is_round T t) _ e in
    let b = and_parts (none_emptied T (turned T t)) _ a.1 in
    turned_reduces ls ts (suc k) (turned T t) (T, f, round_eliminates T t a.0, none_is_emptied T (turned T t) b.0) b.1

-- the table after the proposals of xs and the eliminations of ts
unfoldable pub at_last : List (List ℕ) → List ℕ → List Round → List (List ℕ)
at_last ls xs ts = turned_all (asked_all (start ls) (replicate (length ls) unlinked) xs).0 ts

unfoldable pub workable : List (List ℕ) → List ℕ → List Round → Bool
workable ls xs ts =
    let s = asked_all (start ls) (replicate (length ls) unlinked) xs in
    all_able (start ls) (replicate (length ls) unlinked) xs && (all_held s.0 s.1 && all_rounds s.0 ts)

workable_reduces : (ls : List (List ℕ)) (xs : List ℕ) (ts : List Round) → workable ls xs ts ≡ true → (j : ℕ) × Reduces ls j (at_last ls xs ts)
unfolding workable at_last
workable_reduces ls xs ts e =
    let held : List ℕ = replicate (length ls) unlinked in
    let s = asked_all (start ls) held xs in
    let a = and_parts (all_able (start ls) held xs) _ e in
    let b = and_parts (all_held s.0 s.1) (all_rounds s.0 ts) a.1 in
    let l = asked_leads ls xs 0 (start ls) held (start_trimmed ls, refl) a.0 in
    turned_reduces ls ts 0 s.0 (l.0, s.1, l.1, held_finished s.0 s.1 b.0) b.1

-- the linking of rows of one door at most
unfoldable pub linked : List (List ℕ) → List ℕ
linked T = map (λ x. get_or (row T x) 0 unlinked) (range_with_len 0 (length T))

-- these proposals and eliminations end in a linking
unfoldable pub links : List (List ℕ) → List ℕ → List Round → Bool
unfolding listed accept trimmed place start in_order prefers parted foremost able asked asked_all all_able all_held walk doors_of spares turned is_round none_emptied turned_all all_rounds at_last workable linked
links ls xs ts = let T = at_last ls xs ts in workable ls xs ts && list_all (λ x. ltb (length (row T x)) 2) (range_with_len 0 (length T))

pub links_outcome : (ls : List (List ℕ)) (xs : List ℕ) (ts : List Round) → links ls xs ts ≡ true → Outcome ls (Some (linked (at_last ls xs ts)))
unfolding links linked
links_outcome ls xs ts e =
    let T : List (List ℕ) = at_last ls xs ts in
    let a = and_parts (workable ls xs ts) _ e in
    let f = workable_reduces ls xs ts a.0 in
    let entry : ℕ → ℕ = λ x. get_or (row T x) 0 unlinked in
    let n : ℕ = length T in (
      f.0,
      T,
      f.1,
      record {
        size = length-map-range_with_len entry 0 n;
        single = λ x.
            ⊎_elim
            (λ b. ltb-true (length (row T x)) 2 (below_all (λ x. ltb (length (row T x)) 2) n a.1 x b))
            (λ b. omega (arith, ap length (get_or_past T x [] b)))
            (cases_lt x n);
        partners = λ x.
            ⊎_elim
            (λ b. get_or-map-range_with_len entry 0 n x x unlinked b (omega arith))
            (λ b. get_or_past (linked T) x unlinked (omega (arith, b, length-map-range_with_len entry 0 n)) ∙ sym (ap (λ l. get_or l 0 unlinked) (get_or_past T x [] b)))
            (cases_lt x n);
      },
    )

-- these proposals and eliminations are followed by one that empties the row of x
unfoldable pub empties : List (List ℕ) → List ℕ → List Round → Round → ℕ → Bool
unfolding links
empties ls xs ts t x = let T = at_last ls xs ts in workable ls xs ts && (is_round T t && (ltb 0 (length (row T x)) && not (ltb 0 (length (row (turned T t) x)))))

pub empties_outcome : (ls : List (List ℕ)) (xs : List ℕ) (ts : List Round) (t : Round) (x : ℕ) → empties ls xs ts t x ≡ true → Outcome ls None
unfolding empties
empties_outcome ls xs ts t x e =
    let T : List (List ℕ) = at_last ls xs ts in
    let a = and_parts (workable ls xs ts) _ e in
    let b = and_parts (is_round T t) _ a.1 in
    let c = and_parts (ltb 0 (length (row T x))) _ b.1 in
    let f = workable_reduces ls xs ts a.0 in (
      f.0,
      T,
      turned T t,
      f.1,
      round_eliminates T t b.0,
      (
        x,
        λ q. omega (arith, ltb-true 0 (length (row T x)) c.0, ap length q),
        nil_from (row (turned T t) x) (ltb-false 0 (length (row (turned T t) x)) (not-true (ltb 0 (length (row (turned T t) x))) c.1)),
      ),
    )
