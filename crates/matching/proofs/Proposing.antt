-- Proposals, in the theory's form: doors propose in any order, and each table leaves room for every stable linking.
use Rattle.std.proofs.Common.{◌≡◌, ℕ, ◌<◌, ◌≤◌, Bool, true, ◌⊎◌, sym, ap, ◌∙◌, subst, inl, inr, ⊎_elim, arith}
use Rattle.std.proofs.lemmas.Bool.{cases_eq, cases_lt}
use Rattle.matching.specs.Ranks.{Ranks, Links, Unblocked, On, Within}
use Rattle.matching.specs.Holders.{First, Holding, Ended}

-- z proposes to the first door q on its list: q holds z, all else stays
pub record Asked (r : ℕ → ℕ → ℕ) (g : ℕ → ℕ) (z q : ℕ) (g' : ℕ → ℕ) : Type 0 where
  pub first : First r g z q
  pub taken : g' q ≡ z
  pub rest : (y : ℕ) → (y ≡ q → ⊥) → g' y ≡ g y

-- what a linking gives a door it accepts, or it is the door itself
pub at_most : (r : ℕ → ℕ → ℕ) (m : ℕ → ℕ) → Links r m → (x : ℕ) → r x (m x) ≤ r x x
at_most r m l x = grind (arith, l.accepts x)

-- a table only shrinks
pub asked_less : (r : ℕ → ℕ → ℕ) (g g' : ℕ → ℕ) (z q : ℕ) → Asked r g z q g' → (x : ℕ) → r x (g' x) ≤ r x (g x)
asked_less r g g' z q s x =
    ⊎_elim (λ e. grind (arith, s.first.0, s.taken)) (λ n. grind (arith, s.rest x n)) (cases_eq x q)

pub on_kept : (r : ℕ → ℕ → ℕ) (g g' : ℕ → ℕ) → ((x : ℕ) → r x (g' x) ≤ r x (g x)) → (x y : ℕ) → On r g' x y → On r g x y
on_kept r g g' le x y o = (o.0, omega (arith, le x, o.1), omega (arith, le y, o.2))

-- a partner is on the list
pub partner_on : (r : ℕ → ℕ → ℕ) (g m : ℕ → ℕ) → Links r m → Within r g m → (x : ℕ) → r x (m x) < r x x → On r g x (m x)
partner_on r g m l w x a = (a, w x, subst (λ v. r (m x) v ≤ r (m x) (g (m x))) (l.mutual' x) (w (m x)))

-- every stable linking within the table stays within it
pub asked_within : (r : ℕ → ℕ → ℕ) (g g' m : ℕ → ℕ) (z q : ℕ) → Ranks r → Links r m → Unblocked r m → Within r g m → Asked r g z q g' → Within r g' m
asked_within r g g' m z q k l u w s x =
    ⊎_elim
    (λ e. ⊎_elim
    (λ h. let better : r z (m z) ≤ r z q = ⊎_elim (λ b. absurd (u z q b h)) (λ b. b) (cases_lt (r z q) (r z (m z))) in
    let on : On r g z (m z) = partner_on r g m l w z (omega (arith, s.first.0.0)) in
    let same : q ≡ m z = k.apart z q (m z) s.first.0.0 (omega (arith, s.first.1 (m z) on)) in
    grind (arith, ap m same, l.mutual' z))
    (λ h. grind (arith, s.taken))
    (cases_lt (r q z) (r q (m q))))
    (λ n. grind (arith, s.rest x n, w x))
    (cases_eq x q)

-- the two doors of a pair on the table stand on each other's lists
pub on_sym : (r : ℕ → ℕ → ℕ) (g : ℕ → ℕ) (x y : ℕ) → Ranks r → On r g x y → On r g y x
on_sym r g x y k o = (k.both x y o.0, o.2, o.1)

-- a first that stays on the list stays first
first_kept : (r : ℕ → ℕ → ℕ) (g g' : ℕ → ℕ) (z q x y : ℕ) → Asked r g z q g' → First r g x y → r x y ≤ r x (g' x) → r y x ≤ r y (g' y) → First r g' x y
first_kept r g g' z q x y s f a b = ((f.0.0, a, b), λ w o. f.1 w (on_kept r g g' (asked_less r g g' z q s) x w o))

asker_first : (r : ℕ → ℕ → ℕ) (g g' : ℕ → ℕ) (z q : ℕ) → Asked r g z q g' → First r g' z q
asker_first r g g' z q s =
    first_kept r g g' z q z q s s.first
    (⊎_elim (λ e. grind (arith, s.first.0)) (λ n. grind (arith, s.rest z n, s.first.0)) (cases_eq z q))
    (grind (arith, s.taken))

other_first : (r : ℕ → ℕ → ℕ) (g g' : ℕ → ℕ) (z q y : ℕ) → Ranks r → Asked r g z q g' → First r g (g y) y → (y ≡ q → ⊥) → First r g' (g y) y
other_first r g g' z q y k s f n =
    first_kept r g g' z q (g y) y s f
    (⊎_elim
    (λ e. let on : On r g (g y) z = subst (λ v. On r g v z) (sym e) (on_sym r g z q k s.first.0) in
    grind (arith, f.1 z on, ap g' e, s.taken))
    (λ o. grind (arith, s.rest (g y) o, f.0))
    (cases_eq (g y) q))
    (grind (arith, s.rest y n))

-- holding goes on
pub asked_holding : (r : ℕ → ℕ → ℕ) (g g' : ℕ → ℕ) (z q : ℕ) → Ranks r → Holding r g → Asked r g z q g' → Holding r g'
asked_holding r g g' z q k h s y =
    ⊎_elim
    (λ e. inr (subst (λ v. First r g' (g' v) v) (sym e) (subst (λ v. First r g' v q) (sym s.taken) (asker_first r g g' z q s))))
    (λ n. ⊎_elim
    (λ e. inl (s.rest y n ∙ e))
    (λ f. inr (subst (λ v. First r g' v y) (sym (s.rest y n)) (other_first r g g' z q y k s f n)))
    (h y))
    (cases_eq y q)

-- what a door holds is accepted, or it is the door itself
pub holding_most : (r : ℕ → ℕ → ℕ) (g : ℕ → ℕ) → Ranks r → Holding r g → (y : ℕ) → r y (g y) ≤ r y y
holding_most r g k h y = ⊎_elim (λ e. grind arith) (λ f. grind (arith, k.both (g y) y f.0.0)) (h y)

-- a pair that is not on the table is dominated by what one of the two holds
pub dominated : (r : ℕ → ℕ → ℕ) (g : ℕ → ℕ) (x y : ℕ) → r x y < r x x → On r g x y ⊎ ((r x (g x) < r x y) ⊎ (r y (g y) < r y x))
dominated r g x y a =
    ⊎_elim
    (λ b. inr (inl b))
    (λ b. ⊎_elim (λ c. inr (inr c)) (λ c. inl (a, b, c)) (cases_lt (r y (g y)) (r y x)))
    (cases_lt (r x (g x)) (r x y))

-- a pair with what a door holds is on the table
holder_on : (r : ℕ → ℕ → ℕ) (g : ℕ → ℕ) (y : ℕ) → Ranks r → Holding r g → r y (g y) < r y y → On r g y (g y)
holder_on r g y k h a = ⊎_elim (λ e. absurd (grind arith)) (λ f. on_sym r g (g y) y k f.0) (h y)

-- The order of proposals does not matter: a table e where they have ended lies within the table of any run, whoever proposes next.
pub ended_within : (r : ℕ → ℕ → ℕ) (p : ℕ → Bool) (e g g' : ℕ → ℕ) (z q : ℕ) → Ranks r → Holding r e → Ended r p e → p z ≡ true →
    ((x : ℕ) → r x (e x) ≤ r x (g x)) → Asked r g z q g' → (x : ℕ) → r x (e x) ≤ r x (g' x)
ended_within r p e g g' z q k h d t le s x =
    ⊎_elim
    (λ i. ⊎_elim (λ b. absurd (behind b)) (λ b. grind (arith, s.taken)) (cases_lt (r q z) (r q (e q))))
    (λ n. grind (arith, s.rest x n, le x))
    (cases_eq x q)
  where
    near : r z q ≤ r z (e z)
    near =
        ⊎_elim
        (λ b. absurd (omega (arith, b, s.first.1 (e z) (on_kept r g e le z (e z) (holder_on r e z k h (omega (arith, b, s.first.0.0)))))))
        (λ b. b)
        (cases_lt (r z (e z)) (r z q))

    behind : r q z < r q (e q) → ⊥
    behind b =
        let o : On r e z q = (s.first.0.0, near, omega (arith, b)) in
        let held = d z q t o in
        let f : First r e z held.0 = ⊎_elim (λ i. absurd (held.2 (sym i ∙ held.1))) (λ f. subst (λ v. First r e v held.0) held.1 f) (h held.0) in
        let same : q ≡ held.0 = k.apart z q held.0 s.first.0.0 (omega (arith, f.1 q o, s.first.1 held.0 (on_kept r g e le z held.0 f.0))) in
        grind (arith, ap e same, held.1)

-- so two tables where they have ended, each within the other, are one
pub ended_same : (r : ℕ → ℕ → ℕ) (e g : ℕ → ℕ) → Ranks r → Holding r e → Holding r g → ((x : ℕ) → r x (e x) ≤ r x (g x)) → ((x : ℕ) → r x (g x) ≤ r x (e x)) → (x : ℕ) → e x ≡ g x
ended_same r e g k h i a b x =
    ⊎_elim
    (λ c. ⊎_elim (λ d. c ∙ sym d) (λ f. absurd (grind (arith, k.both (g x) x f.0.0, b x))) (i x))
    (λ f. k.apart x (e x) (g x) (k.both (e x) x f.0.0) (omega (arith, a x, b x)))
    (h x)
