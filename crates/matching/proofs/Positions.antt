-- The rank of a door on a list: its place, or the list's length where it is not listed. What trimming does to ranks.
use Rattle.std.proofs.Common.{◌≡◌, ℕ, zero, suc, ◌<◌, ◌≤◌, Bool, true, false, cond, not, eqb, ◌⊎◌, List, [], ◌∷◌, length, get_or, Some, None, filter, Option, unwrap_or, sym, refl, ap, ◌∙◌, subst, inl, inr, ⊎_elim, arith}
use Rattle.std.specs.Option.{option_map}
use Rattle.std.specs.List.{list_all, AllByRecursion}
use Rattle.std.proofs.ByRecursion.{All-get_or, All-from_get_or, all_kept_by, kept_by_passes}
use Rattle.std.proofs.lemmas.Bool.{and_parts, and_from, eqb-false, ne_eqb, eq-eqb, cases_eq, cases_lt, cases_Bool, not_from_true, not_from_false, not-true}
use Rattle.matching.specs.Lists.{place, PlaceOf, is_distinct, rank}
use Rattle.matching.proofs.Rows.{place_view, distinct_at}

-- a rank by cases of the place
abbrev pub RankOf : List ℕ → ℕ → Option ℕ → Type 0
RankOf l y (Some p) = (rank l y ≡ p) × (p < length l)
RankOf l y None = rank l y ≡ length l

pub rank_view : (l : List ℕ) (y : ℕ) → RankOf l y (place l y)
unfolding rank
rank_view l y = go (place l y) refl (place_view l y)
  where
    go : (o : Option ℕ) → place l y ≡ o → PlaceOf l y o → RankOf l y o
    go (Some p) e v = (ap (λ q. unwrap_or q (length l)) e, v.0)
    go None e v = ap (λ q. unwrap_or q (length l)) e

pub rank_some : (l : List ℕ) (y p : ℕ) → place l y ≡ Some p → (rank l y ≡ p) × (p < length l)
rank_some l y p e = subst (RankOf l y) e (rank_view l y)

pub rank_none : (l : List ℕ) (y : ℕ) → place l y ≡ None → rank l y ≡ length l
rank_none l y e = subst (RankOf l y) e (rank_view l y)

-- a door is listed at its rank, or its rank is the length
pub rank_cases : (l : List ℕ) (y : ℕ) → ((rank l y < length l) × (place l y ≡ Some (rank l y))) ⊎ ((rank l y ≡ length l) × (place l y ≡ None))
rank_cases l y = go (place l y) refl
  where
    go : (o : Option ℕ) → place l y ≡ o → ((rank l y < length l) × (place l y ≡ Some (rank l y))) ⊎ ((rank l y ≡ length l) × (place l y ≡ None))
    go (Some p) e = let v = rank_some l y p e in inl (omega (arith, v.0, v.1), e ∙ ap Some (sym v.0))
    go None e = inr (rank_none l y e, e)

pub rank_place : (l : List ℕ) (y : ℕ) → rank l y < length l → place l y ≡ Some (rank l y)
rank_place l y h = ⊎_elim (λ c. c.1) (λ c. absurd (omega (arith, c.0))) (rank_cases l y)

pub rank_most : (l : List ℕ) (y : ℕ) → rank l y ≤ length l
rank_most l y = omega (arith, rank_cases l y)

-- what stands at a listed door's rank is the door, and nowhere before it
pub rank_here : (l : List ℕ) (y : ℕ) → rank l y < length l → (get_or l (rank l y) 0 ≡ y) × ((k : ℕ) → k < rank l y → get_or l k 0 ≡ y → ⊥)
rank_here l y h =
    ⊎_elim (λ c. let v = subst (PlaceOf l y) c.1 (place_view l y) in (v.1, v.2)) (λ c. absurd (omega (arith, c.0))) (rank_cases l y)

-- a door whose rank is the length stands nowhere
pub rank_absent : (l : List ℕ) (y : ℕ) → rank l y ≡ length l → (k : ℕ) → k < length l → get_or l k 0 ≡ y → ⊥
rank_absent l y h k i e =
    ⊎_elim
    (λ c. omega (arith, c.0))
    (λ c. let v : PlaceOf l y None = subst (PlaceOf l y) c.1 (place_view l y) in v k i e)
    (rank_cases l y)

-- the rank on a longer list
rank_same : (x : ℕ) (xs : List ℕ) (y : ℕ) → x ≡ y → rank (x ∷ xs) y ≡ 0
unfolding rank place
rank_same x xs y e = ap (λ b. unwrap_or (cond b (Some 0) (option_map suc (place xs y))) (length (x ∷ xs))) (eq-eqb x y e)

rank_other : (x : ℕ) (xs : List ℕ) (y : ℕ) → (x ≡ y → ⊥) → rank (x ∷ xs) y ≡ suc (rank xs y)
unfolding rank place
rank_other x xs y n = ap (λ b. unwrap_or (cond b (Some 0) (option_map suc (place xs y))) (length (x ∷ xs))) (ne_eqb x y n) ∙ go (place xs y)
  where
    go : (o : Option ℕ) → unwrap_or (option_map suc o) (suc (length xs)) ≡ suc (unwrap_or o (length xs))
    go (Some p) = refl
    go None = refl

-- the head of a list stays or goes
kept_yes : (p : ℕ → Bool) (x : ℕ) (xs : List ℕ) → p x ≡ true → filter p (x ∷ xs) ≡ x ∷ filter p xs
kept_yes p x xs e = ap (λ b. cond b (x ∷ filter p xs) (filter p xs)) e

kept_no : (p : ℕ → Bool) (x : ℕ) (xs : List ℕ) → p x ≡ false → filter p (x ∷ xs) ≡ filter p xs
kept_no p x xs e = ap (λ b. cond b (x ∷ filter p xs) (filter p xs)) e

-- a door that passes differs from one that does not
differ : (p : ℕ → Bool) (x y : ℕ) → p x ≡ false → p y ≡ true → x ≡ y → ⊥
differ p x y a b e = let z : true ≡ false = sym b ∙ sym (ap p e) ∙ a in grind arith

-- trimming keeps the order of the doors that stay
pub kept_order : (p : ℕ → Bool) (l : List ℕ) (y z : ℕ) → p y ≡ true → p z ≡ true → rank l y < rank l z → rank (filter p l) y < rank (filter p l) z
kept_order p [] y z a b h = h
kept_order p (x ∷ xs) y z a b h =
    let deeper : rank xs y < rank xs z → rank (filter p xs) y < rank (filter p xs) z = kept_order p xs y z a b in
    let last : x ≡ z → ⊥ = λ f. omega (arith, rank_same x xs z f) in
    ⊎_elim
    (λ t. subst (λ v. rank v y < rank v z) (sym (kept_yes p x xs t))
    (⊎_elim
    (λ e. omega (arith, rank_same x (filter p xs) y e, rank_other x (filter p xs) z last))
    (λ e. omega (arith, deeper (omega (arith, rank_other x xs y e, rank_other x xs z last)), rank_other x (filter p xs) y e, rank_other x (filter p xs) z last))
    (cases_eq x y)))
    (λ t. subst (λ v. rank v y < rank v z) (sym (kept_no p x xs t))
    (deeper (omega (arith, rank_other x xs y (differ p x y t a), rank_other x xs z last))))
    (cases_Bool (p x))

-- a listed door that passes stays listed
pub kept_in : (p : ℕ → Bool) (l : List ℕ) (y : ℕ) → p y ≡ true → rank l y < length l → rank (filter p l) y < length (filter p l)
kept_in p [] y a h = h
kept_in p (x ∷ xs) y a h =
    let deeper : rank xs y < length xs → rank (filter p xs) y < length (filter p xs) = kept_in p xs y a in
    ⊎_elim
    (λ t. subst (λ v. rank v y < length v) (sym (kept_yes p x xs t))
    (⊎_elim
    (λ e. omega (arith, rank_same x (filter p xs) y e))
    (λ e. omega (arith, deeper (omega (arith, rank_other x xs y e)), rank_other x (filter p xs) y e))
    (cases_eq x y)))
    (λ t. subst (λ v. rank v y < length v) (sym (kept_no p x xs t)) (deeper (omega (arith, rank_other x xs y (differ p x y t a)))))
    (cases_Bool (p x))

-- a door that does not pass goes
pub kept_out : (p : ℕ → Bool) (l : List ℕ) (y : ℕ) → p y ≡ false → rank (filter p l) y ≡ length (filter p l)
unfolding rank place
kept_out p [] y a = refl
kept_out p (x ∷ xs) y a =
    let deeper : rank (filter p xs) y ≡ length (filter p xs) = kept_out p xs y a in
    ⊎_elim
    (λ t. subst (λ v. rank v y ≡ length v) (sym (kept_yes p x xs t))
    (omega (arith, deeper, rank_other x (filter p xs) y (λ e. differ p y x a t (sym e)))))
    (λ t. subst (λ v. rank v y ≡ length v) (sym (kept_no p x xs t)) deeper)
    (cases_Bool (p x))

-- trimming keeps different doors different
kept_all_pass : (p q : ℕ → Bool) (l : List ℕ) → list_all q l ≡ true → list_all q (filter p l) ≡ true
kept_all_pass p q [] h = refl
kept_all_pass p q (x ∷ xs) h =
    let parts = and_parts (q x) (list_all q xs) h in
    let deeper : list_all q (filter p xs) ≡ true = kept_all_pass p q xs parts.1 in
    ⊎_elim
    (λ t. subst (λ v. list_all q v ≡ true) (sym (kept_yes p x xs t)) (and_from (q x) (list_all q (filter p xs)) parts.0 deeper))
    (λ t. subst (λ v. list_all q v ≡ true) (sym (kept_no p x xs t)) deeper)
    (cases_Bool (p x))

pub kept_distinct : (p : ℕ → Bool) (l : List ℕ) → is_distinct eqb l ≡ true → is_distinct eqb (filter p l) ≡ true
kept_distinct p [] h = refl
kept_distinct p (x ∷ xs) h =
    let q : ℕ → Bool = λ y. not (eqb x y) in
    let parts = and_parts (list_all q xs) (is_distinct eqb xs) h in
    let deeper : is_distinct eqb (filter p xs) ≡ true = kept_distinct p xs parts.1 in
    ⊎_elim
    (λ t. subst (λ v. is_distinct eqb v ≡ true) (sym (kept_yes p x xs t))
    (and_from (list_all q (filter p xs)) (is_distinct eqb (filter p xs)) (kept_all_pass p q xs parts.0) deeper))
    (λ t. subst (λ v. is_distinct eqb v ≡ true) (sym (kept_no p x xs t)) deeper)
    (cases_Bool (p x))

-- among different doors, the rank of the door at a place is the place
pub rank_at : (l : List ℕ) (j : ℕ) → is_distinct eqb l ≡ true → j < length l → rank l (get_or l j 0) ≡ j
rank_at l j h i =
    ⊎_elim
    (λ c. let here = rank_here l (get_or l j 0) c.0 in
    ⊎_elim
    (λ b. absurd (distinct_at l h (rank l (get_or l j 0)) j b i here.0))
    (λ b. ⊎_elim (λ e. e) (λ n. absurd (here.1 j (omega arith) refl)) (cases_eq (rank l (get_or l j 0)) j))
    (cases_lt (rank l (get_or l j 0)) j))
    (λ c. absurd (rank_absent l (get_or l j 0) c.0 j i refl))
    (rank_cases l (get_or l j 0))

-- different doors below n are at most n
kept_all : (p : ℕ → Bool) (l : List ℕ) → list_all p l ≡ true → filter p l ≡ l
kept_all p [] h = refl
kept_all p (x ∷ xs) h = let t = and_parts (p x) (list_all p xs) h in kept_yes p x xs t.0 ∙ ap (λ v. x ∷ v) (kept_all p xs t.1)

kept_others : (v : ℕ) (l : List ℕ) → is_distinct eqb l ≡ true → length l ≤ suc (length (filter (λ y. not (eqb v y)) l))
kept_others v [] h = omega arith
kept_others v (x ∷ xs) h =
    let p : ℕ → Bool = λ y. not (eqb v y) in
    let t = and_parts (list_all (λ y. not (eqb x y)) xs) (is_distinct eqb xs) h in
    let deeper : length xs ≤ suc (length (filter p xs)) = kept_others v xs t.1 in
    ⊎_elim
    (λ e. let rest : list_all p xs ≡ true = subst (λ w. list_all (λ y. not (eqb w y)) xs ≡ true) (sym e) t.0 in
    omega (arith, ap length (kept_all p xs rest), ap length (kept_no p x xs (not_from_true (eqb v x) (eq-eqb v x e)))))
    (λ n. omega (arith, deeper, ap length (kept_yes p x xs (not_from_false (eqb v x) (ne_eqb v x n)))))
    (cases_eq v x)

pub short_distinct : (n : ℕ) (l : List ℕ) → is_distinct eqb l ≡ true → AllByRecursion (λ y. y < n) l → length l ≤ n
short_distinct zero [] h b = omega arith
short_distinct zero (x ∷ xs) h b = absurd (omega (arith, b.0))
short_distinct (suc n) l h b =
    let p : ℕ → Bool = λ y. not (eqb n y) in
    let below : AllByRecursion (λ y. y < n) (filter p l) =
    All-from_get_or (λ y. y < n) (filter p l) 0
    (λ i c. let small : get_or (filter p l) i 0 < suc n = All-get_or (λ y. y < suc n) (filter p l) i 0 c (all_kept_by p (λ y. y < suc n) l b) in
    let other : n ≡ get_or (filter p l) i 0 → ⊥ = eqb-false n (get_or (filter p l) i 0) (not-true (eqb n (get_or (filter p l) i 0)) (All-get_or (λ y. p y ≡ true) (filter p l) i 0 c (kept_by_passes p l))) in
    omega (arith, small, other))
    in
    omega (arith, short_distinct n (filter p l) (kept_distinct p l h) below, kept_others n l h)
