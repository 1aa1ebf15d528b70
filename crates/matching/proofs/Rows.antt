-- The tests of specs/Lists as facts about doors and places, and back.
use Rattle.std.proofs.Common.{◌≡◌, ℕ, zero, suc, ◌+◌, ◌<◌, Bool, true, false, cond, not, ◌&&◌, eqb, ltb, leb, List, [], ◌∷◌, length, get_or, Some, None, Option, refl, ap, subst, ⊎_elim, arith}
use Rattle.std.specs.Option.{option_map}
use Rattle.std.specs.List.{list_all}
use Rattle.std.proofs.lemmas.Bool.{and_parts, and_from, eqb-true, eqb-false, ltb-true, lt-ltb, leb-true, le-leb, ne_eqb, not-true, not_from_false, cases_eq}
use Rattle.matching.specs.Lists.{row, place, lawful_list, lawful_from, lawful, LawfulList, Lawful, PlaceOf, is_distinct}

-- a test that every element passes
pub all_pass_at : (p : ℕ → Bool) (l : List ℕ) → list_all p l ≡ true → (k : ℕ) → k < length l → p (get_or l k 0) ≡ true
all_pass_at p [] h k i = absurd (omega arith)
all_pass_at p (x ∷ xs) h zero i = (and_parts (p x) (list_all p xs) h).0
all_pass_at p (x ∷ xs) h (suc k) i = all_pass_at p xs (and_parts (p x) (list_all p xs) h).1 k (omega arith)

pub all_pass_from : (p : ℕ → Bool) (l : List ℕ) → ((k : ℕ) → k < length l → p (get_or l k 0) ≡ true) → list_all p l ≡ true
all_pass_from p [] h = refl
all_pass_from p (x ∷ xs) h = and_from (p x) (list_all p xs) (h 0 (omega arith)) (all_pass_from p xs (λ k i. h (suc k) (omega arith)))

-- a list whose places hold different doors
pub distinct_at : (l : List ℕ) → is_distinct eqb l ≡ true → (j k : ℕ) → j < k → k < length l → get_or l j 0 ≡ get_or l k 0 → ⊥
distinct_at [] h j k i b e = omega arith
distinct_at (x ∷ xs) h j zero i b e = omega arith
distinct_at (x ∷ xs) h zero (suc k) i b e =
    eqb-false x (get_or xs k 0) (not-true (eqb x (get_or xs k 0)) (all_pass_at (λ y. not (eqb x y)) xs (and_parts (list_all (λ y. not (eqb x y)) xs) (is_distinct eqb xs) h).0 k (omega arith))) e
distinct_at (x ∷ xs) h (suc j) (suc k) i b e =
    distinct_at xs (and_parts (list_all (λ y. not (eqb x y)) xs) (is_distinct eqb xs) h).1 j k (omega arith) (omega arith) e

pub distinct_from : (l : List ℕ) → ((j k : ℕ) → j < k → k < length l → get_or l j 0 ≡ get_or l k 0 → ⊥) → is_distinct eqb l ≡ true
distinct_from [] h = refl
distinct_from (x ∷ xs) h =
    and_from (list_all (λ y. not (eqb x y)) xs) (is_distinct eqb xs)
    (all_pass_from (λ y. not (eqb x y)) xs (λ k i. not_from_false (eqb x (get_or xs k 0)) (ne_eqb x (get_or xs k 0) (λ e. h 0 (suc k) (omega arith) (omega arith) e))))
    (distinct_from xs (λ j k i b e. h (suc j) (suc k) (omega arith) (omega arith) e))

-- one list
pub list_facts : (n d : ℕ) (l : List ℕ) → lawful_list n d l ≡ true → LawfulList n d l
unfolding lawful_list
list_facts n d l h =
    let p : ℕ → Bool = λ y. ltb y n && not (eqb y d) in
    let both = and_parts (list_all p l) (is_distinct eqb l) h in
    record {
      known = λ k i. let here = and_parts (ltb (get_or l k 0) n) (not (eqb (get_or l k 0) d)) (all_pass_at p l both.0 k i) in ltb-true (get_or l k 0) n here.0;
      others = λ k i e. let here = and_parts (ltb (get_or l k 0) n) (not (eqb (get_or l k 0) d)) (all_pass_at p l both.0 k i) in eqb-false (get_or l k 0) d (not-true (eqb (get_or l k 0) d) here.1) e;
      apart = λ j k i b e. grind (arith, distinct_at l both.1 j k, distinct_at l both.1 k j);
    }

pub list_from_facts : (n d : ℕ) (l : List ℕ) → LawfulList n d l → lawful_list n d l ≡ true
unfolding lawful_list
list_from_facts n d l f =
    and_from (list_all (λ y. ltb y n && not (eqb y d)) l) (is_distinct eqb l)
    (all_pass_from (λ y. ltb y n && not (eqb y d)) l
    (λ k i. and_from (ltb (get_or l k 0) n) (not (eqb (get_or l k 0) d)) (lt-ltb (get_or l k 0) n (f.known k i)) (not_from_false (eqb (get_or l k 0) d) (ne_eqb (get_or l k 0) d (f.others k i)))))
    (distinct_from l (λ j k i b e. omega (arith, f.apart j k (omega arith) b e)))

pub nil_lawful : (n d : ℕ) → LawfulList n d []
nil_lawful n d = record { known = λ k i. absurd (omega arith); others = λ k i e. omega arith; apart = λ j k i b e. absurd (omega arith) }

-- all rows
pub rows_at : (n d : ℕ) (ls : List (List ℕ)) → lawful_from n d ls ≡ true → (k : ℕ) → LawfulList n (d + k) (get_or ls k [])
unfolding lawful_from
rows_at n d [] h k = nil_lawful n (d + k)
rows_at n d (l ∷ ls) h zero = subst (λ e. LawfulList n e l) (omega arith) (list_facts n d l (and_parts (lawful_list n d l) (lawful_from n (suc d) ls) h).0)
rows_at n d (l ∷ ls) h (suc k) =
    subst (λ e. LawfulList n e (get_or ls k [])) (omega arith) (rows_at n (suc d) ls (and_parts (lawful_list n d l) (lawful_from n (suc d) ls) h).1 k)

pub rows_from : (n d : ℕ) (ls : List (List ℕ)) → ((k : ℕ) → k < length ls → LawfulList n (d + k) (get_or ls k [])) → lawful_from n d ls ≡ true
unfolding lawful_from
rows_from n d [] h = refl
rows_from n d (l ∷ ls) h =
    and_from (lawful_list n d l) (lawful_from n (suc d) ls)
    (list_from_facts n d l (subst (λ e. LawfulList n e l) (omega arith) (h 0 (omega arith))))
    (rows_from n (suc d) ls (λ k i. subst (λ e. LawfulList n e (get_or ls k [])) (omega arith) (h (suc k) (omega arith))))

pub lawful_facts : (ls : List (List ℕ)) → lawful ls ≡ true → Lawful ls
unfolding lawful
lawful_facts ls h =
    let both = and_parts (leb (length ls) 96) (lawful_from (length ls) 0 ls) h in
    record {
      few = leb-true (length ls) 96 both.0;
      each = λ d. subst (λ e. LawfulList (length ls) e (row ls d)) (omega arith) (rows_at (length ls) 0 ls both.1 d);
    }

pub lawful_from_facts : (ls : List (List ℕ)) → Lawful ls → lawful ls ≡ true
unfolding lawful
lawful_from_facts ls f =
    and_from (leb (length ls) 96) (lawful_from (length ls) 0 ls) (le-leb (length ls) 96 f.few)
    (rows_from (length ls) 0 ls (λ k i. subst (λ e. LawfulList (length ls) e (row ls k)) (omega arith) (f.each k)))

-- places
place_cons : (x : ℕ) (xs : List ℕ) (y : ℕ) (o : Option ℕ) → (x ≡ y → ⊥) → PlaceOf xs y o → PlaceOf (x ∷ xs) y (option_map suc o)
place_cons x xs y None n v = λ k. elim k as (λ k. k < suc (length xs) → get_or (x ∷ xs) k 0 ≡ y → ⊥) [ zero ↦ λ i e. n e | suc j ↦ λ i e. v j (omega arith) e ]
place_cons x xs y (Some p) n v =
    (omega (arith, v.0), v.1, λ k. elim k as (λ k. k < suc p → get_or (x ∷ xs) k 0 ≡ y → ⊥) [ zero ↦ λ i e. n e | suc j ↦ λ i e. v.2 j (omega arith) e ])

place_step : (x : ℕ) (xs : List ℕ) (y : ℕ) (o : Option ℕ) → (b : Bool) → eqb x y ≡ b → PlaceOf xs y o → PlaceOf (x ∷ xs) y (cond b (Some 0) (option_map suc o))
place_step x xs y o true e v = (omega arith, eqb-true x y e, λ k i _. omega arith)
place_step x xs y o false e v = place_cons x xs y o (eqb-false x y e) v

pub place_view : (l : List ℕ) (y : ℕ) → PlaceOf l y (place l y)
unfolding place
place_view [] y = λ k i e. omega arith
place_view (x ∷ xs) y = place_step x xs y (place xs y) (eqb x y) refl (place_view xs y)

-- what PlaceOf says has one answer
pub place_one : (l : List ℕ) (y : ℕ) (o q : Option ℕ) → PlaceOf l y o → PlaceOf l y q → o ≡ q
place_one l y None None a b = refl
place_one l y None (Some q) a b = absurd (a q b.0 b.1)
place_one l y (Some p) None a b = absurd (b p a.0 a.1)
place_one l y (Some p) (Some q) a b =
    ap Some (⊎_elim (λ e. e) (λ n. absurd (grind (arith, a.2 q, b.2 p, a.1, b.1))) (cases_eq p q))

pub place_from : (l : List ℕ) (y : ℕ) (o : Option ℕ) → PlaceOf l y o → o ≡ place l y
place_from l y o v = place_one l y o (place l y) v (place_view l y)
