-- One-way proposals, in the theory's form: each exit x has asked the first a x places of its list, and each door y holds g y.
use Rattle.std.proofs.Common.{◌≡◌, ℕ, suc, ◌<◌, ◌≤◌, Bool, true, false, ◌⊎◌, sym, ap, ◌∙◌, subst, inl, inr, ⊎_elim, arith}
use Rattle.std.proofs.lemmas.Bool.{cases_eq, cases_lt, cases_Bool, both_ways}
use Rattle.matching.specs.Ranks.{Ranks, Links, Unblocked, On, Within}
use Rattle.matching.proofs.Proposing.{Asked, at_most, asked_within}

-- every pair has one exit
pub record Sided (r : ℕ → ℕ → ℕ) (e : ℕ → Bool) : Type 0 where
  pub some : (x y : ℕ) → r x y < r x x → (e x ≡ true) ⊎ (e y ≡ true)
  pub one : (x y : ℕ) → r x y < r x x → e x ≡ true → e y ≡ true → ⊥

-- what holds all along: who is held was asked last by the one held, and who was asked holds nobody worse
pub record Progress (r : ℕ → ℕ → ℕ) (e : ℕ → Bool) (a g : ℕ → ℕ) : Type 0 where
  pub held : (y : ℕ) → (g y ≡ y) ⊎ ((e (g y) ≡ true) × (r (g y) y < r (g y) (g y)) × (a (g y) ≡ suc (r (g y) y)))
  pub passed : (x y : ℕ) → e x ≡ true → r x y < r x x → r x y < a x → r y (g y) ≤ r y x
  pub within : (x : ℕ) → a x ≤ r x x
  pub idle : (x : ℕ) → e x ≡ false → a x ≡ 0

-- nobody holds x
abbrev pub Loose : (ℕ → ℕ) → ℕ → Type 0
Loose g x = (w : ℕ) → g w ≡ x → w ≡ x

-- y takes x in and lets its holder go, or keeps the holder
abbrev pub Chooses : (ℕ → ℕ → ℕ) → (ℕ → ℕ) → ℕ → ℕ → (ℕ → ℕ) → Type 0
Chooses r g x y g' = ((r y x < r y (g y)) × (g' y ≡ x) × ((w : ℕ) → (w ≡ y → ⊥) → g' w ≡ g w)) ⊎ ((r y (g y) < r y x) × ((w : ℕ) → g' w ≡ g w))

-- the exit x asks the next door y on its list
pub record Turn (r : ℕ → ℕ → ℕ) (e : ℕ → Bool) (a g : ℕ → ℕ) (x y : ℕ) (a' g' : ℕ → ℕ) : Type 0 where
  pub asker : e x ≡ true
  pub loose : Loose g x
  pub near : r x y < r x x
  pub next : r x y ≡ a x
  pub more : a' x ≡ suc (a x)
  pub rest : (w : ℕ) → (w ≡ x → ⊥) → a' w ≡ a w
  pub answer : Chooses r g x y g'

-- m links each door with the one that it holds, and no others
pub record Outcome (g m : ℕ → ℕ) : Type 0 where
  pub holder : (y : ℕ) → (g y ≡ y) ⊎ (m y ≡ g y)
  pub askers : (y : ℕ) → (g y ≡ y) ⊎ (m (g y) ≡ y)
  pub others : (x : ℕ) → (m x ≡ x) ⊎ ((g x ≡ m x) ⊎ (g (m x) ≡ x))

-- whoever holds its partner or is held by it is its partner's partner
back : (g m : ℕ → ℕ) (x : ℕ) → (g x ≡ x) ⊎ (m (g x) ≡ x) → (g (m x) ≡ m x) ⊎ (m (m x) ≡ g (m x)) → (g x ≡ m x) ⊎ (g (m x) ≡ x) → m (m x) ≡ x
back g m x a h i = grind arith

module _ (r : ℕ → ℕ → ℕ) (e : ℕ → Bool) (k : Ranks r) (d : Sided r e) where
  -- an exit holds nobody
  pub exit_holds : (a g : ℕ → ℕ) (x : ℕ) → Progress r e a g → e x ≡ true → g x ≡ x
  exit_holds a g x p t = ⊎_elim (λ i. i) (λ h. absurd (d.one (g x) x h.1 h.0 t)) (p.held x)

  -- a door that was asked in vain is off the list, so the next to be asked is the first
  turn_asked : (a g a' g' : ℕ → ℕ) (x y : ℕ) → Progress r e a g → Turn r e a g x y a' g' → r y x < r y (g y) → g' y ≡ x → ((w : ℕ) → (w ≡ y → ⊥) → g' w ≡ g w) → Asked r g x y g'
  turn_asked a g a' g' x y p t b i o =
      record { first = ((t.near, omega (arith, t.near, ap (r x) (exit_holds a g x p t.asker)), omega arith), λ z on. later z on); taken = i; rest = o }
    where
      later : (z : ℕ) → On r g x z → r x y ≤ r x z
      later z on =
          ⊎_elim
          (λ c. let same : z ≡ x = t.loose z (sym (k.apart z x (g z) (k.both x z on.0) (omega (arith, p.passed x z t.asker on.0 c, on.2)))) in
          absurd (grind (arith, on.0)))
          (λ c. omega (arith, t.next))
          (cases_lt (r x z) (a x))

  -- each proposal leaves room for every stable linking
  pub turn_within : (a g a' g' m : ℕ → ℕ) (x y : ℕ) → Progress r e a g → Turn r e a g x y a' g' → Links r m → Unblocked r m → Within r g m → Within r g' m
  turn_within a g a' g' m x y p t l u w =
      ⊎_elim
      (λ c. asked_within r g g' m x y k l u w (turn_asked a g a' g' x y p t c.0 c.1 c.2))
      (λ c z. subst (λ v. r z (m z) ≤ r z v) (sym (c.1 z)) (w z))
      t.answer

  -- a door's holder only gets better
  better : (g g' : ℕ → ℕ) (x y : ℕ) → Chooses r g x y g' → (w : ℕ) → r w (g' w) ≤ r w (g w)
  better g g' x y c w =
      ⊎_elim
      (λ h. ⊎_elim (λ i. grind (arith, h.0, h.1)) (λ n. grind (arith, h.2 w n)) (cases_eq w y))
      (λ h. grind (arith, h.1 w))
      c

  -- the one asked holds nobody worse than the asker
  answered : (g g' : ℕ → ℕ) (x y : ℕ) → Chooses r g x y g' → r y (g' y) ≤ r y x
  answered g g' x y c = ⊎_elim (λ h. grind (arith, h.1)) (λ h. grind (arith, h.0, h.1 y)) c

  -- the one held by y after a proposal asked y last
  turn_held : (a g a' g' : ℕ → ℕ) (x y : ℕ) → Progress r e a g → Turn r e a g x y a' g' → (w : ℕ) → (g' w ≡ g w) ⊎ ((w ≡ y) × (g' w ≡ x)) →
      (g' w ≡ w) ⊎ ((e (g' w) ≡ true) × (r (g' w) w < r (g' w) (g' w)) × (a' (g' w) ≡ suc (r (g' w) w)))
  turn_held a g a' g' x y p t w =
      ⊎_elim
      (λ i. ⊎_elim
      (λ h. inl (i ∙ h))
      (λ h. ⊎_elim
      (λ q. inl (i ∙ q ∙ sym (t.loose w q)))
      (λ n. inr (subst (λ v. (e v ≡ true) × (r v w < r v v) × (a' v ≡ suc (r v w))) (sym i) (h.0, h.1, t.rest (g w) n ∙ h.2)))
      (cases_eq (g w) x))
      (p.held w))
      (λ i. inr (subst (λ v. (e v ≡ true) × (r v w < r v v) × (a' v ≡ suc (r v w))) (sym i.1)
      (subst (λ v. (e x ≡ true) × (r x v < r x x) × (a' x ≡ suc (r x v))) (sym i.0) (t.asker, t.near, omega (arith, t.more, t.next)))))

  -- where g' differs from g
  changed : (g g' : ℕ → ℕ) (x y : ℕ) → Chooses r g x y g' → (w : ℕ) → (g' w ≡ g w) ⊎ ((w ≡ y) × (g' w ≡ x))
  changed g g' x y c w =
      ⊎_elim (λ h. ⊎_elim (λ q. inr (q, ap g' q ∙ h.1)) (λ n. inl (h.2 w n)) (cases_eq w y)) (λ h. inl (h.1 w)) c

  -- whoever was asked holds nobody worse
  turn_passed : (a g a' g' : ℕ → ℕ) (x y : ℕ) → Progress r e a g → Turn r e a g x y a' g' → (z w : ℕ) → e z ≡ true → r z w < r z z → r z w < a' z → r w (g' w) ≤ r w z
  turn_passed a g a' g' x y p t z w i n h =
      ⊎_elim
      (λ b. omega (arith, better g g' x y t.answer w, p.passed z w i n b))
      (λ b. ⊎_elim
      (λ q. let same : y ≡ w = k.apart x y w t.near (grind (arith, t.more, t.next)) in
      grind (arith, answered g g' x y t.answer))
      (λ q. absurd (omega (arith, t.rest z q)))
      (cases_eq z x))
      (cases_lt (r z w) (a z))

  pub turn_progress : (a g a' g' : ℕ → ℕ) (x y : ℕ) → Progress r e a g → Turn r e a g x y a' g' → Progress r e a' g'
  turn_progress a g a' g' x y p t =
      record {
        held = λ w. turn_held a g a' g' x y p t w (changed g g' x y t.answer w);
        passed = turn_passed a g a' g' x y p t;
        within = λ z. ⊎_elim (λ q. grind (arith, t.more, t.next, t.near)) (λ n. omega (arith, t.rest z n, p.within z)) (cases_eq z x);
        idle = λ z i. ⊎_elim (λ q. grind (arith, t.asker)) (λ n. t.rest z n ∙ p.idle z i) (cases_eq z x);
      }

  -- one door at most holds an exit
  pub held_once : (a g : ℕ → ℕ) (y w : ℕ) → Progress r e a g → (g y ≡ y → ⊥) → g w ≡ g y → (w ≡ g w → ⊥) → w ≡ y
  held_once a g y w p n i o =
      let h = ⊎_elim (λ c. absurd (n c)) (λ c. c) (p.held y) in
      let b : (e (g w) ≡ true) × (r (g w) w < r (g w) (g w)) × (a (g w) ≡ suc (r (g w) w)) = ⊎_elim (λ c. absurd (o (sym c))) (λ c. c) (p.held w) in
      k.apart (g w) w y b.1 (grind (arith, b.2, h.2))

  -- at the end
  module _ (a g m : ℕ → ℕ) (p : Progress r e a g) (o : Outcome g m) where
    -- a door has no partner, or holds its partner, or is held by it
    outcome_view : (x : ℕ) →
        (m x ≡ x)
        ⊎ (((g x ≡ m x) × (e (m x) ≡ true) × (r (m x) x < r (m x) (m x))) ⊎ ((g (m x) ≡ x) × (e x ≡ true) × (r x (m x) < r x x) × (a x ≡ suc (r x (m x)))))
    outcome_view x =
        ⊎_elim
        (λ i. inl i)
        (λ i. ⊎_elim
        (λ q. ⊎_elim
        (λ h. inl (sym q ∙ h))
        (λ h. inr (inl (q, subst (λ v. e v ≡ true) q h.0, subst (λ v. r v x < r v v) q h.1)))
        (p.held x))
        (λ q. ⊎_elim
        (λ h. inl (sym h ∙ q))
        (λ h. inr (inr (q, subst (λ v. e v ≡ true) q h.0, subst (λ v. r v (m x) < r v v) q h.1, subst (λ v. a v ≡ suc (r v (m x))) q h.2)))
        (p.held (m x)))
        i)
        (o.others x)

    pub outcome_links : Links r m
    outcome_links =
        record {
          mutual' = λ x. ⊎_elim (λ i. ap m i ∙ i) (λ i. back g m x (o.askers x) (o.holder (m x)) i) (o.others x);
          accepts = λ x. ⊎_elim (λ i. inl i) (λ i. inr (⊎_elim (λ h. k.both (m x) x h.2) (λ h. h.2) i)) (outcome_view x);
        }

    -- nobody holds a door that has no partner
    pub outcome_loose : (x : ℕ) → m x ≡ x → Loose g x
    outcome_loose x i w q = ⊎_elim (λ h. sym h ∙ q) (λ h. sym h ∙ ap m q ∙ i) (o.askers w)

    module _ (f : (x : ℕ) → e x ≡ true → Loose g x → r x x ≤ a x) where
      -- an exit has asked up to its partner, or its whole list
      pub outcome_count : (x : ℕ) → e x ≡ true → ((m x ≡ x) × (a x ≡ r x x)) ⊎ ((r x (m x) < r x x) × (a x ≡ suc (r x (m x))))
      outcome_count x t =
          ⊎_elim
          (λ i. inl (i, omega (arith, f x t (outcome_loose x i), p.within x)))
          (λ i. ⊎_elim (λ h. absurd (d.one (m x) x h.2 h.1 t)) (λ h. inr (h.2, h.3)) i)
          (outcome_view x)

      -- so whoever it would rather have was asked
      reached : (x y : ℕ) → e x ≡ true → r x y < r x (m x) → r x y < a x
      reached x y t b = grind (arith, outcome_count x t)

      -- a door that was asked holds somebody no worse
      not_blocked : (x y : ℕ) → e x ≡ true → r x y < r x (m x) → r y x < r y (m y) → ⊥
      not_blocked x y t b c =
          let near : r x y < r x x = omega (arith, at_most r m outcome_links x) in
          let past : r y (g y) ≤ r y x = p.passed x y t near (reached x y t b) in
          grind (arith, o.holder y, k.both x y near)

      pub outcome_unblocked : Unblocked r m
      outcome_unblocked x y b c =
          ⊎_elim (λ t. not_blocked x y t b c) (λ t. not_blocked y x t c b) (d.some x y (omega (arith, at_most r m outcome_links x)))

      -- no stable linking has a better partner for an exit
      pub outcome_best : (m' : ℕ → ℕ) → Links r m' → Within r g m' → (x : ℕ) → e x ≡ true → r x (m x) ≤ r x (m' x)
      outcome_best m' l w x t =
          ⊎_elim
          (λ b. let near : r x (m' x) < r x x = omega (arith, at_most r m outcome_links x) in
          let past : r (m' x) (g (m' x)) ≤ r (m' x) x = p.passed x (m' x) t near (reached x (m' x) t b) in
          let same : x ≡ g (m' x) = k.apart (m' x) x (g (m' x)) (k.both x (m' x) near) (grind (arith, w (m' x), l.mutual' x)) in
          ⊎_elim (λ i. absurd (omega (arith, near, ap (r x) (same ∙ i)))) (λ i. absurd (omega (arith, b, ap (r x) (ap m same ∙ i)))) (o.askers (m' x)))
          (λ b. b)
          (cases_lt (r x (m' x)) (r x (m x)))

  -- two linkings that are best for the exits are one
  same_exit : (m m' : ℕ → ℕ) → Links r m → Links r m' → (x : ℕ) → r x (m x) ≡ r x (m' x) → m x ≡ m' x
  same_exit m m' l l' x i =
      ⊎_elim
      (λ h. ⊎_elim (λ h'. h ∙ sym h') (λ b. absurd (omega (arith, ap (r x) h))) (l'.accepts x))
      (λ b. k.apart x (m x) (m' x) b i)
      (l.accepts x)

  same_other : (m m' : ℕ → ℕ) → Links r m → Links r m' → ((x : ℕ) → e x ≡ true → m x ≡ m' x) → (y : ℕ) → e y ≡ false → r y (m y) < r y y → m y ≡ m' y
  same_other m m' l l' s y n b =
      let t : e (m y) ≡ true = ⊎_elim (λ t. absurd (both_ways (e y) n t)) (λ t. t) (d.some y (m y) b) in
      sym (l'.mutual' (m y)) ∙ ap m' (sym (s (m y) t) ∙ l.mutual' y)

  pub best_same : (m m' : ℕ → ℕ) → Links r m → Links r m' → ((x : ℕ) → e x ≡ true → r x (m x) ≡ r x (m' x)) → (x : ℕ) → m x ≡ m' x
  best_same m m' l l' s x =
      let exits : (z : ℕ) → e z ≡ true → m z ≡ m' z = λ z t. same_exit m m' l l' z (s z t) in
      ⊎_elim
      (λ t. exits x t)
      (λ t. ⊎_elim
      (λ h. ⊎_elim (λ h'. h ∙ sym h') (λ b. sym (same_other m' m l' l (λ z i. sym (exits z i)) x t b)) (l'.accepts x))
      (λ b. same_other m m' l l' exits x t b)
      (l.accepts x))
      (cases_Bool (e x))
