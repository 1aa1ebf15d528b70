-- The lists of a table: one door's list, and the table after one list is replaced.
use Rattle.std.proofs.Common.{◌≡◌, ℕ, zero, suc, ◌<◌, ◌≤◌, true, List, [], ◌∷◌, map, length, get_or, take, set, replicate, None, sym, refl, ap, ◌∙◌, subst, ⊎_elim, arith}
use Rattle.std.proofs.lemmas.List.{length-map, length-take, length-take-le, get_or-take, get_or-map, get_or_past, get_or-set_same, get_or-set_other, length-set, map-set, get_or-replicate, length-replicate, same_lists}
use Rattle.std.proofs.lemmas.Bool.{cases_eq, cases_lt}
use Rattle.matching.specs.Lists.{place, row, lawful, lawful_list, LawfulList}
use Rattle.matching.proofs.Rows.{list_facts, lawful_facts, lawful_from_facts, place_from, nil_lawful}

-- the lawful lists after one list is replaced by a lawful one
lawful_set : (ls : List (List ℕ)) (d : ℕ) (l : List ℕ) → lawful ls ≡ true → d < length ls → lawful_list (length ls) d l ≡ true → lawful (set ls d l) ≡ true
lawful_set ls d l h i g =
    let f = lawful_facts ls h in
    let n : length (set ls d l) ≡ length ls = length-set ls d l in
    lawful_from_facts (set ls d l) (record {
      few = omega (arith, f.few, n);
      each = λ x. subst (λ m. LawfulList m x (row (set ls d l) x)) (sym n)
          (⊎_elim (λ (e : x ≡ d). subst (λ z. LawfulList (length ls) z (row (set ls d l) z)) (sym e)
          (subst (LawfulList (length ls) d) (sym (get_or-set_same ls d l [] i)) (list_facts (length ls) d l g)))
          (λ e. subst (LawfulList (length ls) x) (sym (get_or-set_other ls d x l [] e)) (f.each x))
          (cases_eq x d));
    })

pub lawful_empty : (n : ℕ) → n ≤ 96 → lawful (replicate n []) ≡ true
lawful_empty n h = lawful_from_facts (replicate n []) (record {
  few = omega (arith, length-replicate {A = List ℕ} n []);
  each = λ d. subst (LawfulList (length (replicate n [])) d)
      (⊎_elim (λ (i : d < n). sym (get_or-replicate n d [] [] i)) (λ (i : n ≤ d). sym (get_or_past (replicate n []) d [] (omega (arith, length-replicate {A = List ℕ} n [])))) (cases_lt d n))
      (nil_lawful (length (replicate n [])) d);
})

-- no list has a number past the last door
pub place_unknown : (ls : List (List ℕ)) (x y : ℕ) → lawful ls ≡ true → length ls ≤ y → place (row ls x) y ≡ None
place_unknown ls x y h i =
    sym (place_from (row ls x) y None (λ k b e. omega (arith, ((lawful_facts ls h).each x).known k b)))

pub place_nil : (y : ℕ) → place [] y ≡ None
unfolding place
place_nil y = refl

-- the first n rows, read through a function
module _ {X : Type 0} (f : X → List ℕ) (xs : List X) (n : ℕ) (long : n ≤ length xs) where
  pub rows_length : length (take n (map f xs)) ≡ n
  rows_length = length-take-le n (map f xs) (omega (arith, length-map xs f))

  pub rows_at : (d : ℕ) (x : X) → d < n → row (take n (map f xs)) d ≡ f (get_or xs d x)
  rows_at d x h = get_or-take n (map f xs) d [] h ∙ get_or-map f xs d x [] (omega arith)

  pub rows_set : (d : ℕ) (x : X) → d < n → take n (map f (set xs d x)) ≡ set (take n (map f xs)) d (f x)
  rows_set d x h =
      ap (take n) (map-set f xs d x) ∙ same_lists (take n (set (map f xs) d (f x))) (set (take n (map f xs)) d (f x))
      (length-take-le n (set (map f xs) d (f x)) (omega (arith, length-map xs f, length-set (map f xs) d (f x))) ∙ sym (length-set (take n (map f xs)) d (f x) ∙ rows_length))
      (λ k e b.
      let short : k < n = omega (arith, length-take n (set (map f xs) d (f x))) in
      get_or-take n (set (map f xs) d (f x)) k e short
      ∙ ⊎_elim (λ (q : k ≡ d). subst (λ z. get_or (set (map f xs) d (f x)) z e ≡ get_or (set (take n (map f xs)) d (f x)) z e) (sym q)
      (get_or-set_same (map f xs) d (f x) e (omega (arith, length-map xs f)) ∙ sym (get_or-set_same (take n (map f xs)) d (f x) e (omega (arith, rows_length)))))
      (λ q. get_or-set_other (map f xs) d k (f x) e q ∙ sym (get_or-set_other (take n (map f xs)) d k (f x) e q ∙ get_or-take n (map f xs) k e short))
      (cases_eq k d))

  pub rows_lawful : (d : ℕ) (x : X) → lawful (take n (map f xs)) ≡ true → d < n → lawful_list n d (f x) ≡ true → lawful (take n (map f (set xs d x))) ≡ true
  rows_lawful d x h i g =
      rw (rows_set d x i) (lawful_set (take n (map f xs)) d (f x) h (omega (arith, rows_length)) (rw rows_length g))

-- rows that are all empty
pub rows_empty : {X : Type 0} (f : X → List ℕ) (xs : List X) (n : ℕ) → n ≤ length xs → ((i : ℕ) (e : X) → i < length xs → f (get_or xs i e) ≡ []) → take n (map f xs) ≡ replicate n []
rows_empty f xs zero h each = refl
rows_empty f [] (suc n) h each = absurd (omega arith)
rows_empty f (x ∷ xs) (suc n) h each =
    ap (λ l. l ∷ take n (map f xs)) (each 0 x (omega arith)) ∙ ap (λ l. [] ∷ l) (rows_empty f xs n (omega arith) (λ i e b. each (suc i) e (omega arith)))

-- a number past the last door has the empty list
pub row_past : (ls : List (List ℕ)) (x : ℕ) → length ls ≤ x → row ls x ≡ []
row_past ls x h = get_or_past ls x [] h
