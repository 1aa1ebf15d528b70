-- Settled tables: how proposals come to one, which doors a stable linking in one links, and when its lists are a linking.
use Rattle.std.proofs.Common.{◌≡◌, ℕ, ◌<◌, ◌≤◌, Bool, true, ◌⊎◌, sym, refl, ap, ◌∙◌, subst, inl, inr, ⊎_elim, arith}
use Rattle.std.proofs.lemmas.Bool.{cases_lt}
use Rattle.matching.specs.Ranks.{Ranks, Links, Unblocked, On, Within}
use Rattle.matching.specs.Settled.{Firsts, Settled, Second}
use Rattle.matching.specs.Holders.{First, Holding, Ended, anyone}
use Rattle.matching.proofs.Proposing.{on_sym}
use Rattle.matching.proofs.Search.{injection_onto}

-- where proposals have ended each door is last on the list of its first, unlisted doors included
pub ended_back : (r : ℕ → ℕ → ℕ) (g f : ℕ → ℕ) → Ranks r → Firsts r g f → Holding r g → Ended r anyone g → (x : ℕ) → g (f x) ≡ x
ended_back r g f k F h d x =
    ⊎_elim
    (λ e. ⊎_elim
    (λ i. ap g e ∙ i)
    (λ i. absurd (omega (arith, F.least x (g x) (on_sym r g (g x) x k i.0), ap (r x) e, k.both (g x) x i.0.0)))
    (h x))
    (λ o. let q = d x (f x) refl o in
    ⊎_elim
    (λ i. absurd (q.2 (sym i ∙ q.1)))
    (λ i. let first : First r g x q.0 = subst (λ v. First r g v q.0) q.1 i in
    ap g (k.apart x (f x) q.0 o.0 (omega (arith, F.least x q.0 first.0, first.1 (f x) o))) ∙ q.1)
    (h q.0))
    (F.first x)

-- proposals have ended where the first of every door holds it
pub ended_from : (r : ℕ → ℕ → ℕ) (g f : ℕ → ℕ) → Firsts r g f → ((x : ℕ) → (f x ≡ x) ⊎ (g (f x) ≡ x)) → Ended r anyone g
ended_from r g f F held x y t o =
    let listed : f x ≡ x → ⊥ = λ e. omega (arith, o.0, F.least x y o, ap (r x) e) in
    ⊎_elim (λ e. absurd (listed e)) (λ e. (f x, e, listed)) (held x)

-- nobody holds a door that its first does not hold
pub loose_from : (r : ℕ → ℕ → ℕ) (g : ℕ → ℕ) (x y : ℕ) → Ranks r → Holding r g → First r g x y → (g y ≡ x → ⊥) → (w : ℕ) → g w ≡ x → w ≡ x
loose_from r g x y k h f n w e =
    ⊎_elim
    (λ i. sym i ∙ e)
    (λ i. let first : First r g x w = subst (λ v. First r g v w) e i in
    absurd (n (ap g (k.apart x y w f.0.0 (omega (arith, f.1 w first.0, first.1 y f.0))) ∙ e)))
    (h w)

-- The end of the proposals is a settled table: the firsts are an injection of the doors below n, so each door is somebody's first.
pub settled_at_end : (r : ℕ → ℕ → ℕ) (g f : ℕ → ℕ) (n : ℕ) → Ranks r → Firsts r g f → Holding r g → Ended r anyone g → ((x : ℕ) → n ≤ x → f x ≡ x) → Settled r g f
settled_at_end r g f n k F h d past =
    let back : (x : ℕ) → g (f x) ≡ x = ended_back r g f k F h d in
    let inj : (x y : ℕ) → f x ≡ f y → x ≡ y = λ x y e. sym (back x) ∙ (ap g e ∙ back y) in
    let below : (x : ℕ) → x < n → f x < n = λ x i. ⊎_elim (λ l. l) (λ m. absurd (omega (arith, i, m, inj (f x) x (past (f x) m)))) (cases_lt (f x) n) in
    let onto : (y : ℕ) → f (g y) ≡ y =
    λ y. ⊎_elim
    (λ i. let x = injection_onto n f below (λ j k _ _ e. inj j k e) y i in ap f (sym (ap g x.2) ∙ back x.0) ∙ x.2)
    (λ m. ap f (sym (ap g (past y m)) ∙ back y) ∙ past y m)
    (cases_lt y n) in
    record {
      held = λ x. ⊎_elim inl (λ i. inr (k.both (g x) x i.0.0)) (h x);
      last_of_first = back;
      first_of_last = onto;
      ordered = λ x. ⊎_elim
          (λ i. omega (arith, ap (r x) (sym (ap f i) ∙ onto x), ap (r x) i))
          (λ i. F.least x (g x) (on_sym r g (g x) x k i.0))
          (h x);
      least = F.least;
    }

-- the first of a door is on its list, or the door itself
pub first_on : (r : ℕ → ℕ → ℕ) (g f : ℕ → ℕ) → Ranks r → Settled r g f → (x : ℕ) → (f x ≡ x) ⊎ On r g x (f x)
first_on r g f R S x =
    ⊎_elim
    (λ h. inl (sym h ∙ S.last_of_first x))
    (λ h. inr (let a : r (f x) x < r (f x) (f x) = omega (arith, h, ap (r (f x)) (S.last_of_first x)) in
    (R.both (f x) x a, S.ordered x, omega (arith, ap (r (f x)) (S.last_of_first x)))))
    (S.held (f x))

-- the last of a door is on its list, or the door itself
pub last_on : (r : ℕ → ℕ → ℕ) (g f : ℕ → ℕ) → Ranks r → Settled r g f → (x : ℕ) → (g x ≡ x) ⊎ On r g x (g x)
last_on r g f R S x =
    ⊎_elim
    (λ h. inl (sym h ∙ S.first_of_last x))
    (λ h. inr (on_sym r g (g x) x R (subst (On r g (g x)) (S.first_of_last x) h)))
    (first_on r g f R S (g x))

-- a door with two or more on its list has its last after its first
pub last_later : (r : ℕ → ℕ → ℕ) (g f : ℕ → ℕ) → Ranks r → Settled r g f → (x : ℕ) → (f x ≡ g x → ⊥) → On r g x (g x) × (r x (f x) < r x (g x))
last_later r g f R S x two =
    ⊎_elim
    (λ e. absurd (two (sym (ap f e) ∙ (S.first_of_last x ∙ sym e))))
    (λ o. (o, ⊎_elim (λ b. b) (λ b. absurd (two (sym (R.apart x (g x) (f x) o.0 (omega (arith, b, S.ordered x)))))) (cases_lt (r x (f x)) (r x (g x)))))
    (last_on r g f R S x)

-- its firsts are firsts
pub settled_firsts : (r : ℕ → ℕ → ℕ) (g f : ℕ → ℕ) → Ranks r → Settled r g f → Firsts r g f
settled_firsts r g f R S = record { first = first_on r g f R S; least = S.least }

-- a partner within the table is on its door's list
pub partner_on : (r : ℕ → ℕ → ℕ) (g m : ℕ → ℕ) → Links r m → Within r g m → (x : ℕ) → (m x ≡ x) ⊎ On r g x (m x)
partner_on r g m L W x =
    ⊎_elim inl (λ a. inr (a, W x, omega (arith, W (m x), ap (r (m x)) (L.mutual' x)))) (L.accepts x)

-- a linking within a settled table links every door whose list has a door, and no other
pub linked_if_listed : (r : ℕ → ℕ → ℕ) (g f m : ℕ → ℕ) → Settled r g f → Within r g m → (x : ℕ) → m x ≡ x → g x ≡ x
linked_if_listed r g f m S W x e = ⊎_elim (λ h. h) (λ h. absurd (omega (arith, h, W x, ap (r x) e))) (S.held x)

pub listed_if_linked : (r : ℕ → ℕ → ℕ) (g f m : ℕ → ℕ) → Settled r g f → Links r m → Within r g m → (x : ℕ) → g x ≡ x → m x ≡ x
listed_if_linked r g f m S L W x e =
    ⊎_elim
    (λ h. h)
    (λ o. absurd (omega (arith, S.least x (m x) o, o.0, ap (r x) (sym (ap f e) ∙ S.first_of_last x))))
    (partner_on r g m L W x)

-- a settled table whose lists have one door at most is a stable linking
pub single_links : (r : ℕ → ℕ → ℕ) (g f : ℕ → ℕ) → Settled r g f → ((x : ℕ) → f x ≡ g x) → Links r g
single_links r g f S single = record { mutual' = λ x. ap g (sym (single x)) ∙ S.last_of_first x; accepts = S.held }

pub single_stable : (r : ℕ → ℕ → ℕ) (g f : ℕ → ℕ) → Settled r g f → ((x : ℕ) → f x ≡ g x) → Unblocked r g
single_stable r g f S single x y a b =
    let low : r x (g x) ≤ r x x = ⊎_elim (λ e. omega (arith, ap (r x) e)) (λ h. omega arith) (S.held x) in
    omega (arith, a, S.least x y (omega arith, omega arith, omega arith), ap (r x) (single x))

-- a settled table has one function of firsts
pub firsts_same : (r : ℕ → ℕ → ℕ) (g f f' : ℕ → ℕ) → Ranks r → Settled r g f → Firsts r g f' → (x : ℕ) → f x ≡ f' x
firsts_same r g f f' R S F x =
    ⊎_elim
    (λ e. ⊎_elim (λ d. e ∙ sym d) (λ o. absurd (omega (arith, o.0, S.least x (f' x) o, ap (r x) e))) (F.first x))
    (λ o. ⊎_elim
    (λ d. absurd (omega (arith, o.0, F.least x (f x) o, ap (r x) d)))
    (λ q. R.apart x (f x) (f' x) o.0 (omega (arith, S.least x (f' x) q, F.least x (f x) o)))
    (F.first x))
    (first_on r g f R S x)

-- a door has one second
pub second_one : (r : ℕ → ℕ → ℕ) (g f : ℕ → ℕ) (x y z : ℕ) → Ranks r → Second r g f x y → Second r g f x z → y ≡ z
second_one r g f x y z R a b = R.apart x y z a.0.0 (omega (arith, a.2 z b.0 b.1, b.2 y a.0 a.1))

-- a door with a second has two or more on its list
pub second_two : (r : ℕ → ℕ → ℕ) (g f : ℕ → ℕ) (x y : ℕ) → Second r g f x y → f x ≡ g x → ⊥
second_two r g f x y a e = omega (arith, a.1, a.0.1, ap (r x) e)
