-- Rotations: eliminating one keeps some stable linking, and leaves a settled table or empties a list, and then there is no stable linking.
use Rattle.std.proofs.Common.{◌≡◌, ℕ, zero, suc, ◌+◌, ◌-◌, ◌*◌, ◌<◌, ◌≤◌, ◌⊎◌, sym, refl, ap, ◌∙◌, subst, inl, inr, ⊎_elim, arith}
use Rattle.std.proofs.lemmas.Bool.{cases_eq, cases_lt}
use Rattle.matching.specs.Ranks.{Ranks, Links, Unblocked, On, Within}
use Rattle.matching.specs.Settled.{Settled, Second, StableWithin, Empty}
use Rattle.matching.specs.Rotations.{Moved, Rotation, Eliminated, Advanced, Walk, ComesAgain, Seconds, PartMoved}
use Rattle.matching.specs.Holders.{total}
use Rattle.matching.proofs.Proposing.{on_sym, on_kept}
use Rattle.matching.proofs.Search.{all_or_some, Repeat, walk_repeats, total_falls}
use Rattle.matching.proofs.Settled.{partner_on, linked_if_listed}

-- what comes again after a period comes again after any number of them
pub again_often : (a : ℕ → ℕ) (period : ℕ) → ((i : ℕ) → a (i + period) ≡ a i) → (q i : ℕ) → a (i + q * period) ≡ a i
again_often a period again zero i = ap a (omega arith)
again_often a period again (suc q) i = ap a (omega arith) ∙ (again (i + q * period) ∙ again_often a period again q i)

-- every number is one below the period and some periods more
pub within_period : (period : ℕ) → 0 < period → (i : ℕ) → (k : ℕ) × (q : ℕ) × (k < period) × (i ≡ k + q * period)
within_period period some zero = (0, 0, some, omega arith)
within_period period some (suc i) =
    let w = within_period period some i in
    ⊎_elim
    (λ l. (suc w.0, w.1, l, omega (arith, w.3)))
    (λ m. (0, suc w.1, some, omega (arith, w.2, w.3)))
    (cases_lt (suc w.0) period)

-- what holds of the doors of one period holds of all
pub in_period : (a : ℕ → ℕ) (period : ℕ) → 0 < period → ((i : ℕ) → a (i + period) ≡ a i) → (P : ℕ → Type 0) → ((i : ℕ) → i < period → P (a i)) → (i : ℕ) → P (a i)
in_period a period some again P here i =
    let w = within_period period some i in
    subst P (sym (ap a w.3 ∙ again_often a period again w.1 w.0)) (here w.0 w.2)

-- the last step of a round leads to every door, so every door of a rotation has one before it
pub before : (r : ℕ → ℕ → ℕ) (g f s a : ℕ → ℕ) (period : ℕ) → Rotation r g f s a period → (i : ℕ) → (j : ℕ) × (a (suc j) ≡ a i)
before r g f s a period T i = (i + (period - 1), ap a (omega (arith, T.some)) ∙ T.again i)

-- a door is one of the doors of a sequence that comes again, or it is not
pub one_of : (a : ℕ → ℕ) (period : ℕ) → 0 < period → ((i : ℕ) → a (i + period) ≡ a i) → (x : ℕ) → ((i : ℕ) → x ≡ a i → ⊥) ⊎ ((i : ℕ) × (x ≡ a i))
one_of a period some again x =
    ⊎_elim
    (λ none. inl (in_period a period some again (λ y. x ≡ y → ⊥) none))
    (λ k. inr (k.0, k.2))
    (all_or_some (λ k. x ≡ a k → ⊥) (λ k. x ≡ a k) (λ k. ⊎_elim inr inl (cases_eq x (a k))) period)

-- a map can be moved at the doors of a sequence that comes again
moved_at : (h to : ℕ → ℕ) (at : ℕ → ℕ) (x : ℕ) → ((i : ℕ) → x ≡ at i → ⊥) ⊎ ((i : ℕ) × (x ≡ at i)) → ℕ
moved_at h to at x (inl none) = h x
moved_at h to at x (inr k) = to k.0

moved_moves : (h to at : ℕ → ℕ) → ((i j : ℕ) → at i ≡ at j → to i ≡ to j) → (i : ℕ) (d : ((j : ℕ) → at i ≡ at j → ⊥) ⊎ ((j : ℕ) × (at i ≡ at j))) → moved_at h to at (at i) d ≡ to i
unfolding moved_at
moved_moves h to at one i (inl none) = absurd (none i refl)
moved_moves h to at one i (inr k) = sym (one i k.0 k.1)

moved_stays : (h to at : ℕ → ℕ) (x : ℕ) (d : ((j : ℕ) → x ≡ at j → ⊥) ⊎ ((j : ℕ) × (x ≡ at j))) → (moved_at h to at x d ≡ h x) ⊎ ((i : ℕ) × (x ≡ at i))
unfolding moved_at
moved_stays h to at x (inl none) = inl refl
moved_stays h to at x (inr k) = inr k

pub moved : (h at to : ℕ → ℕ) (period : ℕ) → 0 < period → ((i : ℕ) → at (i + period) ≡ at i) → ((i j : ℕ) → at i ≡ at j → to i ≡ to j) → (h' : ℕ → ℕ) × Moved h at to h'
moved h at to period some again one =
    let which : (x : ℕ) → ((i : ℕ) → x ≡ at i → ⊥) ⊎ ((i : ℕ) × (x ≡ at i)) = one_of at period some again in
    (λ x. moved_at h to at x (which x), record { moves = λ i. moved_moves h to at one i (which (at i)); stays = λ x. moved_stays h to at x (which x) })

pub part_none : (h at to : ℕ → ℕ) → PartMoved h at to 0 h
part_none h at to = record { moves = λ i b. absurd (omega arith); stays = λ x. inl refl }

pub part_more : (h at to : ℕ → ℕ) (j : ℕ) (h' h'' : ℕ → ℕ) → ((i k : ℕ) → at i ≡ at k → to i ≡ to k) → PartMoved h at to j h' → h'' (at j) ≡ to j →
    ((x : ℕ) → (x ≡ at j → ⊥) → h'' x ≡ h' x) → PartMoved h at to (suc j) h''
part_more h at to j h' h'' one m here rest =
    record {
      moves = λ i b.
          ⊎_elim
          (λ e. ap h'' e ∙ (here ∙ sym (one i j e)))
          (λ n. rest (at i) n ∙ m.moves i (⊎_elim (λ c. absurd (n (ap at c))) (λ c. omega (arith, b, c)) (cases_eq i j)))
          (cases_eq (at i) (at j));
      stays = λ x.
          ⊎_elim
          (λ e. inr (j, omega arith, e))
          (λ n. ⊎_elim (λ e. inl (rest x n ∙ e)) (λ k. inr (k.0, omega (arith, k.1), k.2)) (m.stays x))
          (cases_eq x (at j));
    }

pub part_all : (h at to : ℕ → ℕ) (period : ℕ) (h' : ℕ → ℕ) → 0 < period → ((i : ℕ) → at (i + period) ≡ at i) → ((i : ℕ) → to (i + period) ≡ to i) → PartMoved h at to period h' → Moved h at to h'
part_all h at to period h' some again again' m =
    record {
      moves = λ i.
          let w = within_period period some i in
          ap h' (ap at w.3 ∙ again_often at period again w.1 w.0)
          ∙ (m.moves w.0 w.2 ∙ sym (ap to w.3 ∙ again_often to period again' w.1 w.0));
      stays = λ x. ⊎_elim inl (λ k. inr (k.0, k.2)) (m.stays x);
    }

-- One rotation of a settled table
module _ (r : ℕ → ℕ → ℕ) (g f s a : ℕ → ℕ) (period : ℕ) (R : Ranks r) (S : Settled r g f) (T : Rotation r g f s a period) where
  -- the second of a door is the first of the next
  pub next_first : (i : ℕ) → f (a (suc i)) ≡ s (a i)
  next_first i = ap f (sym (T.onward i)) ∙ S.first_of_last (s (a i))

  -- the first of each door is the second of one before it
  pub first_second : (i : ℕ) → (j : ℕ) × (a (suc j) ≡ a i) × (f (a i) ≡ s (a j))
  first_second i = let b = before r g f s a period T i in (b.0, b.1, sym (ap f b.1) ∙ next_first b.0)

  -- the second of a door rather has that door than the next, which is last on its list
  pub rather : (i : ℕ) → r (s (a i)) (a i) < r (s (a i)) (a (suc i))
  rather i =
      let y : ℕ = s (a i) in
      let second : Second r g f (a i) y = T.second i in
      let le : r y (a i) ≤ r y (a (suc i)) = omega (arith, second.0.2, ap (r y) (T.onward i)) in
      ⊎_elim
      (λ l. l)
      (λ m. absurd
      (let same : a i ≡ a (suc i) = R.apart y (a i) (a (suc i)) (R.both (a i) y second.0.0) (omega (arith, le, m)) in
      omega (arith, second.1, ap (r (a i)) (ap f same ∙ next_first i))))
      (cases_lt (r y (a i)) (r y (a (suc i))))

  -- only its first comes before the second on a door's list
  pub before_second : (i z : ℕ) → On r g (a i) z → r (a i) z < r (a i) (s (a i)) → z ≡ f (a i)
  before_second i z o l =
      ⊎_elim
      (λ m. absurd (omega (arith, l, (T.second i).2 z o m)))
      (λ m. R.apart (a i) z (f (a i)) o.0 (omega (arith, m, S.least (a i) z o)))
      (cases_lt (r (a i) (f (a i))) (r (a i) z))

  -- after k steps from equal doors the doors are equal
  pub steps_alike : (i j : ℕ) → a i ≡ a j → (k : ℕ) → a (i + k) ≡ a (j + k)
  steps_alike i j e zero = ap a (omega arith) ∙ (e ∙ ap a (omega arith))
  steps_alike i j e (suc k) =
      ap a (omega arith) ∙ (sym (T.onward (i + k)) ∙ (ap (λ x. g (s x)) (steps_alike i j e k) ∙ (T.onward (j + k) ∙ ap a (omega arith))))

  -- different doors of a rotation have different seconds
  pub seconds_apart : (i j : ℕ) → s (a i) ≡ s (a j) → a i ≡ a j
  seconds_apart i j e =
      let next : a (suc i) ≡ a (suc j) = sym (T.onward i) ∙ (ap g e ∙ T.onward j) in
      sym (T.again i) ∙ (ap a (omega (arith, T.some)) ∙ (steps_alike (suc i) (suc j) next (period - 1) ∙ (ap a (omega (arith, T.some)) ∙ T.again j)))

  -- the table after the elimination, and its firsts
  pub eliminated : (g' : ℕ → ℕ) × Eliminated g s a g'
  eliminated = moved g (λ i. s (a i)) a period T.some (λ i. ap s (T.again i)) seconds_apart

  pub advanced : (f' : ℕ → ℕ) × Advanced f s a f'
  advanced = moved f a (λ i. s (a i)) period T.some T.again (λ i j e. ap s e)

i≤i*p : (i p : ℕ) → 0 < p → i ≤ i * p
i≤i*p zero p h = omega arith
i≤i*p (suc i) p h = omega (arith, i≤i*p i p h)

-- A stable linking within a settled table, and a rotation of the table
module _ (r : ℕ → ℕ → ℕ) (g f s a : ℕ → ℕ) (period : ℕ) (R : Ranks r) (S : Settled r g f) (T : Rotation r g f s a period)
    (m : ℕ → ℕ) (L : Links r m) (U : Unblocked r m) (W : Within r g m) where
  -- a door whose second would rather have it is linked with its first
  takes_first : (i : ℕ) → r (s (a i)) (a i) < r (s (a i)) (m (s (a i))) → m (a i) ≡ f (a i)
  takes_first i want =
      let y : ℕ = s (a i) in
      let on : On r g (a i) y = (T.second i).0 in
      let le : r (a i) (m (a i)) ≤ r (a i) y = ⊎_elim (λ l. absurd (U (a i) y l want)) (λ h. h) (cases_lt (r (a i) y) (r (a i) (m (a i)))) in
      ⊎_elim
      (λ e. absurd (omega (arith, on.0, le, ap (r (a i)) e)))
      (λ o. ⊎_elim
      (λ l. before_second r g f s a period R S T i (m (a i)) o l)
      (λ h. absurd
      (let e : m (a i) ≡ y = R.apart (a i) (m (a i)) y o.0 (omega (arith, le, h)) in
      omega (arith, want, ap (r y) (sym (ap m e) ∙ L.mutual' (a i)))))
      (cases_lt (r (a i) (m (a i))) (r (a i) y)))
      (partner_on r g m L W (a i))

  -- where no door of the rotation is linked with its first, the linking stays within the table
  unturned : ((i : ℕ) → m (a i) ≡ f (a i) → ⊥) → (g' : ℕ → ℕ) → Eliminated g s a g' → Within r g' m
  unturned none g' E x =
      ⊎_elim
      (λ e. omega (arith, W x, ap (r x) e))
      (λ k. ⊎_elim
      (λ l. absurd (none k.0 (takes_first k.0 (subst (λ y. r y (a k.0) < r y (m y)) k.1
      (omega (arith, l, ap (r x) (ap g' k.1 ∙ E.moves k.0)))))))
      (λ h. h)
      (cases_lt (r x (g' x)) (r x (m x))))
      (E.stays x)

  -- if the next door is linked with its first, so is a door
  first_before : (i : ℕ) → m (a (suc i)) ≡ f (a (suc i)) → m (a i) ≡ f (a i)
  first_before i e =
      let y : ℕ = s (a i) in
      let partner : m y ≡ a (suc i) = sym (ap m (e ∙ next_first r g f s a period R S T i)) ∙ L.mutual' (a (suc i)) in
      takes_first i (omega (arith, rather r g f s a period R S T i, ap (r y) partner))

  first_long_before : (d i : ℕ) → m (a (i + d)) ≡ f (a (i + d)) → m (a i) ≡ f (a i)
  first_long_before zero i e = subst (λ k. m (a k) ≡ f (a k)) (omega arith) e
  first_long_before (suc d) i e = first_long_before d i (first_before (i + d) (subst (λ k. m (a k) ≡ f (a k)) (omega arith) e))

  -- if one is, all are
  all_first : (j : ℕ) → m (a j) ≡ f (a j) → (i : ℕ) → m (a i) ≡ f (a i)
  all_first j e i =
      first_long_before ((j + i * period) - i) i
      (subst (λ x. m x ≡ f x) (sym (again_often a period T.again i j) ∙ ap a (omega (arith, i≤i*p i period T.some))) e)

  -- A linking in which every door of the rotation has its first, turned: each has its second
  module _ (all : (i : ℕ) → m (a i) ≡ f (a i)) where
    second_partner : (i : ℕ) → m (s (a i)) ≡ a (suc i)
    second_partner i = sym (ap m (all (suc i) ∙ next_first r g f s a period R S T i)) ∙ L.mutual' (a (suc i))

    -- no door of the rotation is a second of one
    no_second : (i j : ℕ) → a i ≡ s (a j) → ⊥
    no_second i j e =
        let alone : f (a i) ≡ g (a i) = sym (all i) ∙ (ap m e ∙ (second_partner j ∙ (sym (T.onward j) ∙ sym (ap g e)))) in
        omega (arith, (T.second i).1, (T.second i).0.1, ap (r (a i)) alone)

    -- what the turned linking does with a door: one of the rotation, a second, or neither
    abbrev Turned : (ℕ → ℕ) → ℕ → Type 0
    Turned t x =
        ((i : ℕ) × (x ≡ a i) × (t x ≡ s (a i)))
        ⊎ (((i : ℕ) × (x ≡ s (a i)) × (t x ≡ a i)) ⊎ ((t x ≡ m x) × ((i : ℕ) → x ≡ a i → ⊥) × ((i : ℕ) → x ≡ s (a i) → ⊥)))

    turned : (t : ℕ → ℕ) × ((x : ℕ) → Turned t x)
    turned =
        let u = moved m a (λ i. s (a i)) period T.some T.again (λ i j e. ap s e) in
        let t = moved u.0 (λ i. s (a i)) a period T.some (λ i. ap s (T.again i)) (seconds_apart r g f s a period R S T) in
        let on-a : (i : ℕ) → t.0 (a i) ≡ s (a i) = λ i. ⊎_elim (λ e. e ∙ u.1.moves i) (λ k. absurd (no_second i k.0 k.1)) (t.1.stays (a i)) in (
          t.0,
          λ x. ⊎_elim
              (λ no-a. ⊎_elim
              (λ no-b. inr (inr (
                ⊎_elim (λ e. e ∙ ⊎_elim (λ d. d) (λ k. absurd (no-a k.0 k.1)) (u.1.stays x)) (λ k. absurd (no-b k.0 k.1)) (t.1.stays x),
                no-a,
                no-b,
              )))
              (λ k. inr (inl (k.0, k.1, ap t.0 k.1 ∙ t.1.moves k.0)))
              (one_of (λ i. s (a i)) period T.some (λ i. ap s (T.again i)) x))
              (λ k. inl (k.0, k.1, ap t.0 k.1 ∙ on-a k.0))
              (one_of a period T.some T.again x),
        )

    module _ (t : ℕ → ℕ) (view : (x : ℕ) → Turned t x) where
      turned_a : (i : ℕ) → t (a i) ≡ s (a i)
      turned_a i =
          ⊎_elim (λ k. k.2 ∙ ap s (sym k.1)) (λ w. ⊎_elim (λ k. absurd (no_second i k.0 k.1)) (λ k. absurd (k.1 i refl)) w) (view (a i))

      turned_b : (i : ℕ) → t (s (a i)) ≡ a i
      turned_b i =
          ⊎_elim
          (λ k. absurd (no_second k.0 i (sym k.1)))
          (λ w. ⊎_elim (λ k. k.2 ∙ sym (seconds_apart r g f s a period R S T i k.0 k.1)) (λ k. absurd (k.2 i refl)) w)
          (view (s (a i)))

      -- the partner of a door that is neither is neither
      turned_rest : (x : ℕ) → t x ≡ m x → ((i : ℕ) → x ≡ a i → ⊥) → ((i : ℕ) → x ≡ s (a i) → ⊥) → t (t x) ≡ x
      turned_rest x e no-a no-b =
          ap t e
          ∙ ⊎_elim
          (λ k. absurd (let b = first_second r g f s a period R S T k.0 in no-b b.0 (sym (L.mutual' x) ∙ (ap m k.1 ∙ (all k.0 ∙ b.2)))))
          (λ w. ⊎_elim
          (λ k. absurd (no-a (suc k.0) (sym (L.mutual' x) ∙ (ap m k.1 ∙ second_partner k.0))))
          (λ k. k.0 ∙ L.mutual' x)
          w)
          (view (m x))

      turned_links : Links r t
      turned_links = record {
        mutual' = λ x. ⊎_elim
            (λ k. ap t k.2 ∙ (turned_b k.0 ∙ sym k.1))
            (λ w. ⊎_elim (λ k. ap t k.2 ∙ (turned_a k.0 ∙ sym k.1)) (λ k. turned_rest x k.0 k.1 k.2) w)
            (view x);
        accepts = λ x. ⊎_elim
            (λ k. inr (subst (λ z. r z (t z) < r z z) (sym k.1) (omega (arith, (T.second k.0).0.0, ap (r (a k.0)) (turned_a k.0)))))
            (λ w. ⊎_elim
            (λ k. inr (subst (λ z. r z (t z) < r z z) (sym k.1)
            (omega (arith, R.both (a k.0) (s (a k.0)) (T.second k.0).0.0, ap (r (s (a k.0))) (turned_b k.0)))))
            (λ k. ⊎_elim (λ e. inl (k.0 ∙ e)) (λ l. inr (omega (arith, l, ap (r x) k.0))) (L.accepts x))
            w)
            (view x);
      }

      turned_within : Within r g t
      turned_within x =
          ⊎_elim
          (λ k. subst (λ z. r z (t z) ≤ r z (g z)) (sym k.1) (omega (arith, (T.second k.0).0.1, ap (r (a k.0)) (turned_a k.0))))
          (λ w. ⊎_elim
          (λ k. subst (λ z. r z (t z) ≤ r z (g z)) (sym k.1) (omega (arith, (T.second k.0).0.2, ap (r (s (a k.0))) (turned_b k.0))))
          (λ k. omega (arith, W x, ap (r x) k.0))
          w)
          (view x)

      -- only the doors of the rotation lose
      loses : (x : ℕ) → (r x (t x) ≤ r x (m x)) ⊎ ((i : ℕ) × (x ≡ a i))
      loses x =
          ⊎_elim
          (λ k. inr (k.0, k.1))
          (λ w. inl (⊎_elim
          (λ k. subst (λ z. r z (t z) ≤ r z (m z)) (sym k.1)
          (omega (arith, rather r g f s a period R S T k.0, ap (r (s (a k.0))) (turned_b k.0), ap (r (s (a k.0))) (second_partner k.0))))
          (λ k. omega (arith, ap (r x) k.0))
          w))
          (view x)

      -- and what they would rather have would not rather have them
      lost : (i y : ℕ) → r (a i) y < r (a i) (t (a i)) → r y (a i) < r y (t y) → ⊥
      lost i y p q =
          let less : r (a i) y < r (a i) (s (a i)) = omega (arith, p, ap (r (a i)) (turned_a i)) in
          let on : On r g (a i) y = (omega (arith, less, (T.second i).0.0), omega (arith, less, (T.second i).0.1), omega (arith, q, turned_within y)) in
          let b = first_second r g f s a period R S T i in
          let e : y ≡ s (a b.0) = before_second r g f s a period R S T i y on less ∙ b.2 in
          omega (arith, q, ap (r y) (ap t e ∙ turned_b b.0), subst (λ z. r z (a b.0) < r z (a i)) (sym e) (subst (λ z. r (s (a b.0)) (a b.0) < r (s (a b.0)) z) b.1 (rather r g f s a period R S T b.0)))

      turned_stable : Unblocked r t
      turned_stable x y p q =
          ⊎_elim
          (λ lx. ⊎_elim
          (λ ly. U x y (omega (arith, p, lx)) (omega (arith, q, ly)))
          (λ k. lost k.0 x (subst (λ z. r z x < r z (t z)) k.1 q) (subst (λ z. r x z < r x (t x)) k.1 p))
          (loses y))
          (λ k. lost k.0 y (subst (λ z. r z y < r z (t z)) k.1 p) (subst (λ z. r y z < r y (t y)) k.1 q))
          (loses x)

      turned_stays : (g' : ℕ → ℕ) → Eliminated g s a g' → Within r g' t
      turned_stays g' E x =
          ⊎_elim
          (λ e. omega (arith, turned_within x, ap (r x) e))
          (λ k. subst (λ z. r z (t z) ≤ r z (g' z)) (sym k.1) (omega (arith, ap (r (s (a k.0))) (turned_b k.0), ap (r (s (a k.0))) (E.moves k.0))))
          (E.stays x)

-- The elimination of a rotation
module _ (r : ℕ → ℕ → ℕ) (g f s a : ℕ → ℕ) (period : ℕ) (R : Ranks r) (S : Settled r g f) (T : Rotation r g f s a period) (g' : ℕ → ℕ) (E : Eliminated g s a g') where
  -- lists only get shorter
  pub shorter : (x : ℕ) → r x (g' x) ≤ r x (g x)
  shorter x =
      ⊎_elim
      (λ e. omega (arith, ap (r x) e))
      (λ k. subst (λ z. r z (g' z) ≤ r z (g z)) (sym k.1) (omega (arith, (T.second k.0).0.2, ap (r (s (a k.0))) (E.moves k.0))))
      (E.stays x)

  pub on_before : (x y : ℕ) → On r g' x y → On r g x y
  on_before = on_kept r g g' shorter

  -- and the second of each door of the rotation has a shorter one
  pub second_shorter : (i : ℕ) → r (s (a i)) (g' (s (a i))) < r (s (a i)) (g (s (a i)))
  second_shorter i = omega (arith, rather r g f s a period R S T i, ap (r (s (a i))) (E.moves i), ap (r (s (a i))) (T.onward i))

  -- a door of the rotation and its first leave each other's lists
  pub first_leaves : (i : ℕ) → On r g' (a i) (f (a i)) → ⊥
  first_leaves i o =
      let b = first_second r g f s a period R S T i in
      let le : r (s (a b.0)) (a i) ≤ r (s (a b.0)) (g' (s (a b.0))) = subst (λ z. r z (a i) ≤ r z (g' z)) b.2 o.2 in
      omega (arith, le, ap (r (s (a b.0))) (E.moves b.0), rather r g f s a period R S T b.0, ap (r (s (a b.0))) b.1)

  -- **Some stable linking stays.**
  pub some_stays : (m : ℕ → ℕ) → StableWithin r g m → (t : ℕ → ℕ) × StableWithin r g' t
  some_stays m M =
      let L = M.links in
      let U = M.unblocked in
      let W = M.within in
      ⊎_elim
      (λ none. (
        m,
        record {
          links = L;
          unblocked = U;
          within = unturned r g f s a period R S T m L U W (in_period a period T.some T.again (λ x. m x ≡ f x → ⊥) none) g' E;
        },
      ))
      (λ k.
      let all = all_first r g f s a period R S T m L U W k.0 k.2 in
      let t = turned r g f s a period R S T m L U W all in (
        t.0,
        record {
          links = turned_links r g f s a period R S T m L U W all t.0 t.1;
          unblocked = turned_stable r g f s a period R S T m L U W all t.0 t.1;
          within = turned_stays r g f s a period R S T m L U W all t.0 t.1 g' E;
        },
      ))
      (all_or_some (λ i. m (a i) ≡ f (a i) → ⊥) (λ i. m (a i) ≡ f (a i)) (λ i. ⊎_elim inr inl (cases_eq (m (a i)) (f (a i)))) period)

  -- a linking that stays was there before
  pub stayed : (m : ℕ → ℕ) → StableWithin r g' m → StableWithin r g m
  stayed m M = record { links = M.links; unblocked = M.unblocked; within = λ x. omega (arith, M.within x, shorter x) }

  -- **If a list that had a door is empty afterwards, no stable linking is within the table.**
  pub none_if_emptied : (x : ℕ) → (g x ≡ x → ⊥) → Empty r g' x → (m : ℕ → ℕ) → StableWithin r g m → ⊥
  none_if_emptied x had empty m M =
      let t = some_stays m M in
      ⊎_elim
      (λ e. had (linked_if_listed r g f t.0 S (stayed t.0 t.1).within x e))
      (λ o. empty (t.0 x) o)
      (partner_on r g' t.0 t.1.links t.1.within x)

  -- a door of the rotation has a door on its list before
  pub rotation_listed : (i : ℕ) → g (a i) ≡ a i → ⊥
  rotation_listed i e =
      omega (arith, (T.second i).1, (T.second i).0.0, ap (r (a i)) (sym (ap f e) ∙ S.first_of_last (a i)))

  -- its list is empty afterwards if its second is no more on it
  pub emptied : (i : ℕ) → r (a i) (g' (a i)) < r (a i) (s (a i)) → Empty r g' (a i)
  emptied i l y o =
      let e : y ≡ f (a i) = before_second r g f s a period R S T i y (on_before (a i) y o) (omega (arith, o.1, l)) in
      first_leaves i (subst (On r g' (a i)) e o)

  -- **Otherwise the table is settled again**, and a list that had a door has one.
  module _ (f' : ℕ → ℕ) (A : Advanced f s a f') (keeps : (i : ℕ) → r (a i) (s (a i)) ≤ r (a i) (g' (a i))) where
    again_ordered : (x : ℕ) → r x (f' x) ≤ r x (g' x)
    again_ordered x =
        ⊎_elim
        (λ e. ⊎_elim
        (λ d. omega (arith, S.ordered x, ap (r x) e, ap (r x) d))
        (λ k. let on : On r g x (a k.0) = subst (λ z. On r g z (a k.0)) (sym k.1) (on_sym r g (a k.0) (s (a k.0)) R (T.second k.0).0) in
        omega (arith, S.least x (a k.0) on, ap (r x) e, ap (r x) (ap g' k.1 ∙ E.moves k.0)))
        (E.stays x))
        (λ k. subst (λ z. r z (f' z) ≤ r z (g' z)) (sym k.1) (omega (arith, keeps k.0, ap (r (a k.0)) (A.moves k.0))))
        (A.stays x)

    again_least : (x y : ℕ) → On r g' x y → r x (f' x) ≤ r x y
    again_least x y o =
        ⊎_elim
        (λ e. omega (arith, S.least x y (on_before x y o), ap (r x) e))
        (λ k. ⊎_elim
        (λ l. absurd
        (let on : On r g' (a k.0) y = subst (λ z. On r g' z y) k.1 o in
        let l' : r (a k.0) y < r (a k.0) (s (a k.0)) = subst (λ z. r z y < r z (s (a k.0))) k.1 (omega (arith, l, ap (r x) (ap f' k.1 ∙ A.moves k.0))) in
        first_leaves k.0 (subst (On r g' (a k.0)) (before_second r g f s a period R S T k.0 y (on_before (a k.0) y on) l') on)))
        (λ h. h)
        (cases_lt (r x y) (r x (f' x))))
        (A.stays x)

    pub settled_again : Settled r g' f'
    settled_again = record {
      held = λ x. ⊎_elim
          (λ e. ⊎_elim (λ h. inl (e ∙ h)) (λ h. inr (omega (arith, h, ap (r x) e))) (S.held x))
          (λ k. inr (subst (λ z. r z (g' z) < r z z) (sym k.1)
          (omega (arith, R.both (a k.0) (s (a k.0)) (T.second k.0).0.0, ap (r (s (a k.0))) (E.moves k.0)))))
          (E.stays x);
      last_of_first = λ x.
          let there : (i : ℕ) → x ≡ a i → g' (f' x) ≡ x = λ i e. ap g' (ap f' e ∙ A.moves i) ∙ (E.moves i ∙ sym e) in
          ⊎_elim
          (λ e. ⊎_elim
          (λ d. ap g' e ∙ (d ∙ S.last_of_first x))
          (λ k. there (suc k.0) (sym (S.last_of_first x) ∙ (ap g k.1 ∙ T.onward k.0)))
          (E.stays (f x)))
          (λ k. there k.0 k.1)
          (A.stays x);
      first_of_last = λ y.
          let there : (i : ℕ) → y ≡ s (a i) → f' (g' y) ≡ y = λ i e. ap f' (ap g' e ∙ E.moves i) ∙ (A.moves i ∙ sym e) in
          ⊎_elim
          (λ e. ⊎_elim
          (λ d. ap f' e ∙ (d ∙ S.first_of_last y))
          (λ k. let b = first_second r g f s a period R S T k.0 in there b.0 (sym (S.first_of_last y) ∙ (ap f k.1 ∙ b.2)))
          (A.stays (g y)))
          (λ k. there k.0 k.1)
          (E.stays y);
      ordered = again_ordered;
      least = again_least;
    }

    pub listed_again : (x : ℕ) → f' x ≡ x → f x ≡ x
    listed_again x e =
        ⊎_elim
        (λ d. sym d ∙ e)
        (λ k. absurd (omega (arith, (T.second k.0).0.0, ap (r (a k.0)) (sym (A.moves k.0) ∙ (sym (ap f' k.1) ∙ (e ∙ k.1))))))
        (A.stays x)

-- A walk from door to door, by a rule, that has come to a door again goes round from then on.
walk_round : (g s p : ℕ → ℕ) → Walk g s p → (i period : ℕ) → p (i + period) ≡ p i → (k : ℕ) → p (i + (k + period)) ≡ p (i + k)
walk_round g s p w i period e zero = ap p (omega arith) ∙ (e ∙ ap p (omega arith))
walk_round g s p w i period e (suc k) =
    ap p (omega arith) ∙ (w (i + (k + period)) ∙ (ap (λ x. g (s x)) (walk_round g s p w i period e k) ∙ (sym (w (i + k)) ∙ ap p (omega arith))))

-- The doors of a round are those that come again, whichever repeat was found first.
pub round_again : (g s p : ℕ → ℕ) → Walk g s p → (from period : ℕ) → 0 < period → p (from + period) ≡ p from → (i : ℕ) → ComesAgain p (p (from + i))
round_again g s p w from period some e i = (from + i, period - 1, refl, ap p (omega arith) ∙ walk_round g s p w from period e i)

pub again_round : (g s p : ℕ → ℕ) → Walk g s p → (from x : ℕ) → ComesAgain p x → (i : ℕ) × (x ≡ p (from + i))
again_round g s p w from x c =
    let i : ℕ = c.0 in
    let period : ℕ = suc c.1 in
    let late : p (i + from * period) ≡ p (i + 0) =
    ap p (omega arith) ∙ again_often (λ k. p (i + k)) period (walk_round g s p w i period (c.3 ∙ sym c.2)) from 0 in
    (i + from * period - from, sym (ap p (omega (arith, i≤i*p from period (omega arith))) ∙ (late ∙ (ap p (omega arith) ∙ c.2))))

-- a door that comes again is one of the first round
pub again_within : (g s p : ℕ → ℕ) → Walk g s p → (from period : ℕ) → 0 < period → p (from + period) ≡ p from → (x : ℕ) → ComesAgain p x → (i : ℕ) × (i < period) × (x ≡ p (from + i))
again_within g s p w from period some e x c =
    let i = again_round g s p w from x c in
    let k = within_period period some i.0 in
    (k.0, k.2, i.1 ∙ (ap (λ j. p (from + j)) k.3 ∙ again_often (λ j. p (from + j)) period (walk_round g s p w from period e) k.1 k.0))

-- What holds of the doors up to the end of the first round holds of all that come.
pub around : (g s p : ℕ → ℕ) → Walk g s p → (from period : ℕ) → 0 < period → p (from + period) ≡ p from → (P : ℕ → Type 0) → ((i : ℕ) → i < from + period → P (p i)) → (i : ℕ) → P (p i)
around g s p w from period some e P here i =
    ⊎_elim
    (λ b. here i b)
    (λ b. subst (λ j. P (p j)) (omega (arith, b))
    (in_period (λ j. p (from + j)) period some (walk_round g s p w from period e) P (λ j c. here (from + j) (omega (arith, c))) (i - from)))
    (cases_lt i (from + period))

-- The search in a settled table
module _ (r : ℕ → ℕ → ℕ) (g f s : ℕ → ℕ) (R : Ranks r) (S : Settled r g f) where
  -- from a door with a second on its list it comes to a door with two or more
  pub next_two : (x y : ℕ) → Second r g f x y → f (g y) ≡ g (g y) → ⊥
  next_two x y sec e =
      let back : On r g y x = on_sym r g x y R sec.0 in
      let single : f y ≡ g y = ap f (sym (S.first_of_last y) ∙ e) ∙ S.first_of_last (g y) in
      let same : x ≡ g y = R.apart y x (g y) back.0 (omega (arith, back.1, S.least y x back, ap (r y) single)) in
      omega (arith, sec.1, ap (r x) (ap f same ∙ S.first_of_last y))

  -- only doors below n have a list
  pub two_below : (n : ℕ) → ((x : ℕ) → n ≤ x → f x ≡ x) → (x : ℕ) → (f x ≡ g x → ⊥) → x < n
  two_below n past x two =
      ⊎_elim (λ l. l) (λ h. absurd (two (past x h ∙ (sym (S.last_of_first x) ∙ ap g (past x h))))) (cases_lt x n)

  module _ (p : ℕ → ℕ) (w : Walk g s p) where
    -- every door of the walk has a second
    pub walk_seconds : Seconds r g f s → (f (p 0) ≡ g (p 0) → ⊥) → (i : ℕ) → Second r g f (p i) (s (p i))
    walk_seconds q two i = ⊎_elim (λ e. absurd (walk_two i e)) (λ h. h) (q (p i))
      where
        walk_two : (i : ℕ) → f (p i) ≡ g (p i) → ⊥
        walk_two zero e = two e
        walk_two (suc i) e =
            ⊎_elim (λ c. walk_two i c) (λ c. next_two (p i) (s (p i)) c (subst (λ x. f x ≡ g x) (w i) e)) (q (p i))

    module _ (sec : (i : ℕ) → Second r g f (p i) (s (p i))) where
      -- the walk comes to a door again
      pub walk_returns : (n : ℕ) → ((x : ℕ) → n ≤ x → f x ≡ x) → Repeat p n
      walk_returns n past =
          walk_repeats n p (λ k i. two_below n past (p k) (λ e. omega (arith, (sec k).1, (sec k).0.1, ap (r (p k)) e)))

      -- and the doors from there to there are a rotation
      pub walk_rotation : (from period : ℕ) → 0 < period → p (from + period) ≡ p from → Rotation r g f s (λ i. p (from + i)) period
      walk_rotation from period some e =
          record {
            second = λ i. sec (from + i);
            onward = λ i. sym (w (from + i)) ∙ ap p (omega arith);
            again = walk_round g s p w from period e;
            some = some;
          }

-- the sum of the ranks of the last doors falls
pub elimination_falls : (r : ℕ → ℕ → ℕ) (g f s a : ℕ → ℕ) (period : ℕ) (R : Ranks r) (S : Settled r g f) (T : Rotation r g f s a period) (g' : ℕ → ℕ) → Eliminated g s a g'
    → (n : ℕ) → ((x : ℕ) → n ≤ x → f x ≡ x) → total (λ x. r x (g' x)) n < total (λ x. r x (g x)) n
elimination_falls r g f s a period R S T g' E n past =
    let less : r (s (a 0)) (g' (s (a 0))) < r (s (a 0)) (g (s (a 0))) = second_shorter r g f s a period R S T g' E 0 in
    let small : s (a 0) < n = ⊎_elim (λ l. l)
    (λ h. absurd (let y : ℕ = s (a 0) in
    let e : f y ≡ y = past y h in
    let back : On r g y (a 0) = on_sym r g (a 0) y R (T.second 0).0 in
    omega (arith, back.0, S.least y (a 0) back, ap (r y) e)))
    (cases_lt (s (a 0)) n) in
    total_falls (λ x. r x (g x)) (λ x. r x (g' x)) n (s (a 0)) (λ k _. shorter r g f s a period R S T g' E k) small less
