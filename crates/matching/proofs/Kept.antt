-- What a filter of a list keeps, and how long a list of different doors can be.
use Rattle.std.proofs.Common.{◌≡◌, ℕ, zero, suc, ◌<◌, ◌≤◌, Bool, true, false, cond, not, ◌&&◌, eqb, ltb, List, [], ◌∷◌, length, get_or, filter, refl, ap, subst, arith}
use Rattle.std.specs.List.{list_all}
use Rattle.std.proofs.lemmas.Bool.{and_parts, and_from, eqb-true, ltb-true, lt-ltb}
use Rattle.std.proofs.lemmas.Bool.Decides.{nat_tests}
use Rattle.matching.specs.Lists.{lawful_list, without, is_distinct}
use Rattle.matching.proofs.Rows.{all_pass_at, all_pass_from}

-- a filter keeps what each element passed
pub all_kept : (p q : ℕ → Bool) (l : List ℕ) → list_all q l ≡ true → list_all q (filter p l) ≡ true
all_kept p q [] h = refl
all_kept p q (x ∷ xs) h =
    let both = and_parts (q x) (list_all q xs) h in
    elim (p x) as (λ b. list_all q (cond b (x ∷ filter p xs) (filter p xs)) ≡ true)
    [ true ↦ and_from (q x) (list_all q (filter p xs)) both.0 (all_kept p q xs both.1) | false ↦ all_kept p q xs both.1 ]

all_passed_cons : (p : ℕ → Bool) (x : ℕ) (xs : List ℕ) (b : Bool) → p x ≡ b → list_all p xs ≡ true → list_all p (cond b (x ∷ xs) xs) ≡ true
all_passed_cons p x xs true e h = and_from (p x) (list_all p xs) e h
all_passed_cons p x xs false e h = h

-- and each element kept passed the filter
pub all_passed : (p : ℕ → Bool) (l : List ℕ) → list_all p (filter p l) ≡ true
all_passed p [] = refl
all_passed p (x ∷ xs) = all_passed_cons p x (filter p xs) (p x) refl (all_passed p xs)

pub distinct_kept : (p : ℕ → Bool) (l : List ℕ) → is_distinct eqb l ≡ true → is_distinct eqb (filter p l) ≡ true
distinct_kept p [] h = refl
distinct_kept p (x ∷ xs) h =
    let both = and_parts (list_all (λ y. not (eqb x y)) xs) (is_distinct eqb xs) h in
    elim (p x) as (λ b. is_distinct eqb (cond b (x ∷ filter p xs) (filter p xs)) ≡ true) [
      | true ↦ and_from (list_all (λ y. not (eqb x y)) (filter p xs)) (is_distinct eqb (filter p xs)) (all_kept p (λ y. not (eqb x y)) xs both.0) (distinct_kept p xs both.1)
      | false ↦ distinct_kept p xs both.1
    ]

-- a lawful list stays lawful under a filter
pub lawful_kept : (n d : ℕ) (p : ℕ → Bool) (l : List ℕ) → lawful_list n d l ≡ true → lawful_list n d (filter p l) ≡ true
unfolding lawful_list
lawful_kept n d p l h =
    let q : ℕ → Bool = λ y. ltb y n && not (eqb y d) in
    let both = and_parts (list_all q l) (is_distinct eqb l) h in
    and_from (list_all q (filter p l)) (is_distinct eqb (filter p l)) (all_kept p q l both.0) (distinct_kept p l both.1)

-- taking a door off a list on which it is not changes nothing
pub without_none : (v : ℕ) (l : List ℕ) → list_all (λ y. not (eqb v y)) l ≡ true → without v l ≡ l
without_none v [] h = refl
without_none v (x ∷ xs) h =
    let both = and_parts (not (eqb v x)) (list_all (λ y. not (eqb v y)) xs) h in
    let e : not (eqb x v) ≡ true = grind (arith, nat_tests, both.0) in
    rw e (ap (λ l. x ∷ l) (without_none v xs both.1))

-- a list of different doors loses at most one place
without_cons : (v x : ℕ) (xs : List ℕ) (b : Bool) → eqb x v ≡ b → list_all (λ y. not (eqb x y)) xs ≡ true → length xs ≤ suc (length (without v xs)) → length (x ∷ xs) ≤ suc (length (cond (not b) (x ∷ without v xs) (without v xs)))
without_cons v x xs false e h i = omega arith
without_cons v x xs true e h i =
    let w = without_none v xs (subst (λ z. list_all (λ y. not (eqb z y)) xs ≡ true) (eqb-true x v e) h) in omega (arith, ap length w)

pub without_length : (v : ℕ) (l : List ℕ) → is_distinct eqb l ≡ true → length l ≤ suc (length (without v l))
without_length v [] h = omega arith
without_length v (x ∷ xs) h =
    let both = and_parts (list_all (λ y. not (eqb x y)) xs) (is_distinct eqb xs) h in
    without_cons v x xs (eqb x v) refl both.0 (without_length v xs both.1)

-- at most n different numbers are below n
pub at_most : (n : ℕ) (l : List ℕ) → list_all (λ y. ltb y n) l ≡ true → is_distinct eqb l ≡ true → length l ≤ n
at_most zero [] a h = omega arith
at_most zero (x ∷ xs) a h = absurd (omega (arith, ltb-true x 0 (and_parts (ltb x 0) (list_all (λ y. ltb y 0) xs) a).0))
at_most (suc n) l a h =
    let p : ℕ → Bool = λ y. not (eqb y n) in
    let below = all_kept p (λ y. ltb y (suc n)) l a in
    let differ = all_passed p l in
    let less = at_most n (filter p l)
    (all_pass_from (λ y. ltb y n) (filter p l) (λ k i. lt-ltb (get_or (filter p l) k 0) n
    (grind (arith, nat_tests, ltb-true (get_or (filter p l) k 0) (suc n) (all_pass_at (λ y. ltb y (suc n)) (filter p l) below k i), all_pass_at p (filter p l) differ k i))))
    (distinct_kept p l h) in
    omega (arith, without_length n l h, less)

all_weaker : (p q : ℕ → Bool) (l : List ℕ) → ((y : ℕ) → p y ≡ true → q y ≡ true) → list_all p l ≡ true → list_all q l ≡ true
all_weaker p q l w h = all_pass_from q l (λ k i. w (get_or l k 0) (all_pass_at p l h k i))

-- so a lawful list of one of n doors is shorter than n
pub lawful_short : (n d : ℕ) (l : List ℕ) → lawful_list n d l ≡ true → d < n → length l < n
unfolding lawful_list
lawful_short n d l h i =
    let q : ℕ → Bool = λ y. ltb y n && not (eqb y d) in
    let both = and_parts (list_all q l) (is_distinct eqb l) h in
    let below = all_weaker q (λ y. ltb y n) l (λ y e. (and_parts (ltb y n) (not (eqb y d)) e).0) both.0 in
    let differ = all_weaker q (λ y. not (eqb d y)) l (λ y e. grind (arith, nat_tests, (and_parts (ltb y n) (not (eqb y d)) e).1)) both.0 in
    at_most n (d ∷ l) (and_from (ltb d n) (list_all (λ y. ltb y n) l) (lt-ltb d n i) below) (and_from (list_all (λ y. not (eqb d y)) l) (is_distinct eqb l) differ both.1)

pub lawful_at_most : (n d : ℕ) (l : List ℕ) → lawful_list n d l ≡ true → length l ≤ n
unfolding lawful_list
lawful_at_most n d l h =
    let q : ℕ → Bool = λ y. ltb y n && not (eqb y d) in
    let both = and_parts (list_all q l) (is_distinct eqb l) h in
    at_most n l (all_weaker q (λ y. ltb y n) l (λ y e. (and_parts (ltb y n) (not (eqb y d)) e).0) both.0) both.1
