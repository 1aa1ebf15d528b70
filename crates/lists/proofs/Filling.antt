-- A row is filled door by door: what the list so far, its places and its lawfulness are after one door more.
use Rattle.std.proofs.Common.{◌≡◌, ℕ, ◌+◌, ◌<◌, ◌≤◌, true, false, List, [], ◌∷◌, ◌++◌, length, get_or, take, set, replicate, is_some, Some, None, Option, sym, refl, ap, ◌∙◌, subst, true≢false, ⊎_elim, arith}
use Rattle.std.proofs.lemmas.List.{take_more, length_push, get_or_push, get_or_append_left, get_or-take, length-take-le, get_or-set_same, get_or-set_other, length-set, get_or-replicate}
use Rattle.std.proofs.lemmas.Bool.{false_from_ne_true, cases_eq, cases_lt}
use Rattle.matching.specs.Lists.{place, lawful_list, PlaceOf}
use Rattle.matching.proofs.Kept.{lawful_at_most}
use Rattle.matching.proofs.Rows.{list_facts, list_from_facts, place_view, place_from, nil_lawful}

-- what the test for a place says
absent : (o : Option ℕ) → is_some o ≡ false → o ≡ None
absent None e = refl
absent (Some p) e = absurd (true≢false e)

present : (o : Option ℕ) → is_some o ≡ true → (p : ℕ) × (o ≡ Some p)
present None e = absurd (true≢false (sym e))
present (Some p) e = (p, refl)

-- one door more at the end
pub place_push_same : (l : List ℕ) (y : ℕ) → place l y ≡ None → place (l ++ (y ∷ [])) y ≡ Some (length l)
place_push_same l y e =
    let v : PlaceOf l y None = subst (PlaceOf l y) e (place_view l y) in
    sym (place_from (l ++ (y ∷ [])) y (Some (length l)) (
      omega (arith, length_push l y),
      get_or_push l y 0 (length l) refl,
      λ k i h. v k i (sym (get_or_append_left l (y ∷ []) 0 k i) ∙ h),
    ))

push_other : (l : List ℕ) (y z : ℕ) (o : Option ℕ) → (z ≡ y → ⊥) → PlaceOf l z o → PlaceOf (l ++ (y ∷ [])) z o
push_other l y z None n v = λ k i e.
    ⊎_elim (λ (b : k < length l). v k b (sym (get_or_append_left l (y ∷ []) 0 k b) ∙ e))
    (λ (b : length l ≤ k). n (sym e ∙ get_or_push l y 0 k (omega (arith, length_push l y))))
    (cases_lt k (length l))
push_other l y z (Some p) n v = (
  omega (arith, v.0, length_push l y),
  get_or_append_left l (y ∷ []) 0 p v.0 ∙ v.1,
  λ k i e. v.2 k i (sym (get_or_append_left l (y ∷ []) 0 k (omega (arith, v.0))) ∙ e),
)

pub place_push_other : (l : List ℕ) (y z : ℕ) → (z ≡ y → ⊥) → place (l ++ (y ∷ [])) z ≡ place l z
place_push_other l y z n = sym (place_from (l ++ (y ∷ [])) z (place l z) (push_other l y z (place l z) n (place_view l z)))

pub lawful_push : (n d : ℕ) (l : List ℕ) (y : ℕ) → lawful_list n d l ≡ true → y < n → (y ≡ d → ⊥) → place l y ≡ None → lawful_list n d (l ++ (y ∷ [])) ≡ true
lawful_push n d l y h below other e =
    let f = list_facts n d l h in
    let v : PlaceOf l y None = subst (PlaceOf l y) e (place_view l y) in
    let at-end : get_or (l ++ (y ∷ [])) (length l) 0 ≡ y = get_or_push l y 0 (length l) refl in
    let long : length (l ++ (y ∷ [])) ≡ length l + 1 = length_push l y in
    let before : (k : ℕ) → k < length l → get_or (l ++ (y ∷ [])) k 0 ≡ get_or l k 0 = λ k i. get_or_append_left l (y ∷ []) 0 k i in
    list_from_facts n d (l ++ (y ∷ [])) (record {
      known = λ k i. ⊎_elim (λ (b : k < length l). omega (arith, before k b, f.known k b)) (λ (b : length l ≤ k). let e : k ≡ length l = omega arith in omega (arith, at-end, ap (λ j. get_or (l ++ (y ∷ [])) j 0) e)) (cases_lt k (length l));
      others = λ k i q. ⊎_elim (λ (b : k < length l). f.others k b (omega (arith, before k b, q))) (λ (b : length l ≤ k). let e : k ≡ length l = omega arith in other (omega (arith, at-end, q, ap (λ j. get_or (l ++ (y ∷ [])) j 0) e))) (cases_lt k (length l));
      apart = λ j k i b q.
          ⊎_elim
          (λ (p : j < length l). ⊎_elim (λ (r : k < length l). f.apart j k p r (omega (arith, before j p, before k r, q)))
          (λ (r : length l ≤ k). let e : k ≡ length l = omega arith in absurd (v j p (omega (arith, before j p, at-end, q, ap (λ i. get_or (l ++ (y ∷ [])) i 0) e)))) (cases_lt k (length l)))
          (λ (p : length l ≤ j). ⊎_elim (λ (r : k < length l). let e : j ≡ length l = omega arith in absurd (v k r (omega (arith, before k r, at-end, q, ap (λ i. get_or (l ++ (y ∷ [])) i 0) e))))
          (λ (r : length l ≤ k). omega arith) (cases_lt k (length l)))
          (cases_lt j (length l));
    })

-- a list of more than 96 doors is not lawful
pub too_long : (n d : ℕ) (list : List ℕ) → 96 < length list → n ≤ 96 → lawful_list n d list ≡ false
too_long n d list long few = false_from_ne_true (lawful_list n d list) (λ h. omega (arith, lawful_at_most n d list h))

-- the first i doors of the list are lawful, and stand at their places
pub record Filled (n d : ℕ) (list : List ℕ) (places : List (Option ℕ)) (i : ℕ) : Type 0 where
  pub all : length places ≡ 96
  pub legal : lawful_list n d (take i list) ≡ true
  pub right : (y : ℕ) → y < 96 → get_or places y None ≡ place (take i list) y

pub empty_right : (y : ℕ) → y < 96 → get_or (replicate 96 None) y None ≡ place [] y
unfolding place
empty_right y h = get_or-replicate 96 y None None h

pub filled_none : (n d : ℕ) (list : List ℕ) → Filled n d list (replicate 96 None) 0
filled_none n d list = record { all = refl; legal = list_from_facts n d [] (nil_lawful n d); right = empty_right }

module _ (n d : ℕ) (list : List ℕ) (places : List (Option ℕ)) (i : ℕ) (f : Filled n d list places i) (inside : i < length list) (short : length list ≤ 96) where
  so_far : length (take i list) ≡ i
  so_far = length-take-le i list (omega arith)

  pub more : get_or list i 0 < n → n ≤ 96 → (get_or list i 0 ≡ d → ⊥) → is_some (get_or places (get_or list i 0) None) ≡ false
      → Filled n d list (set places (get_or list i 0) (Some i)) (i + 1)
  more below few other free =
      let y : ℕ = get_or list i 0 in
      let none : place (take i list) y ≡ None = sym (f.right y (omega arith)) ∙ absent (get_or places y None) free in
      let step : take (i + 1) list ≡ take i list ++ (y ∷ []) = take_more list i 0 inside in
      record {
        all = length-set places y (Some i) ∙ f.all;
        legal = subst (λ l. lawful_list n d l ≡ true) (sym step) (lawful_push n d (take i list) y f.legal below other none);
        right = λ z h. subst (λ l. get_or (set places y (Some i)) z None ≡ place l z) (sym step)
            (⊎_elim
            (λ (e : z ≡ y). subst (λ w. get_or (set places y (Some i)) w None ≡ place (take i list ++ (y ∷ [])) w) (sym e)
            (get_or-set_same places y (Some i) None (omega (arith, f.all)) ∙ sym (place_push_same (take i list) y none ∙ ap Some so_far)))
            (λ e. get_or-set_other places y z (Some i) None e ∙ f.right z h ∙ sym (place_push_other (take i list) y z e))
            (cases_eq z y));
      }

  -- a door that is listed already spoils the list
  pub repeated : get_or list i 0 < 96 → is_some (get_or places (get_or list i 0) None) ≡ true → lawful_list n d list ≡ false
  repeated small taken =
      let y : ℕ = get_or list i 0 in
      let there = present (get_or places y None) taken in
      let v : PlaceOf (take i list) y (Some there.0) = subst (PlaceOf (take i list) y) (sym (f.right y small) ∙ there.1) (place_view (take i list) y) in
      let early : there.0 < i = omega (arith, v.0, so_far) in
      false_from_ne_true (lawful_list n d list) (λ h. omega (arith, (list_facts n d list h).apart there.0 i (omega arith) inside (sym (get_or-take i list there.0 0 early) ∙ v.1)))

-- so does a door that is not one of the level, or the owner
pub unknown : (n d : ℕ) (list : List ℕ) (i : ℕ) → i < length list → n ≤ get_or list i 0 → lawful_list n d list ≡ false
unknown n d list i h e = false_from_ne_true (lawful_list n d list) (λ t. omega (arith, (list_facts n d list t).known i h))

pub owner : (n d : ℕ) (list : List ℕ) (i : ℕ) → i < length list → get_or list i 0 ≡ d → lawful_list n d list ≡ false
owner n d list i h e = false_from_ne_true (lawful_list n d list) (λ t. (list_facts n d list t).others i h e)
