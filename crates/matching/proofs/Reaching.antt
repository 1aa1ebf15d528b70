-- Lists of which only the first k doors are kept: their rows, places and lawfulness.
use Rattle.std.specs.Prelude.{◌≡◌, ℕ, zero, suc, ◌<◌, ◌≤◌, true, List, [], length, map, take, Some, None, Option, slice_index, refl}
use Rattle.std.proofs.Common.{⊎_elim, sym, ap, subst, ◌∙◌, arith}
use Rattle.std.proofs.lemmas.List.{length-map, length-take, get_or-take, get_or-map, get_or_past}
use Rattle.std.proofs.lemmas.Bool.{cases_lt}
use Rattle.matching.specs.Lists.{row, place, lawful, LawfulList, PlaceOf}
use Rattle.matching.proofs.Rows.{lawful_facts, lawful_from_facts, place_view, place_from}

take_nil : (k : ℕ) → take {A = ℕ} k [] ≡ []
take_nil zero = refl
take_nil (suc k) = refl

pub row_reached : (k : ℕ) (ls : List (List ℕ)) (x : ℕ) → row (map (take k) ls) x ≡ take k (row ls x)
row_reached k ls x =
    ⊎_elim (λ (h : x < length ls). get_or-map (take k) ls x [] [] h)
    (λ (h : length ls ≤ x). get_or_past (map (take k) ls) x [] (omega (arith, length-map ls (take k))) ∙ sym (ap (take k) (get_or_past ls x [] h) ∙ take_nil k))
    (cases_lt x (length ls))

take_place : (k : ℕ) (l : List ℕ) (y : ℕ) (o : Option ℕ) → PlaceOf l y o → (p : ℕ) → o ≡ Some p → p < k → PlaceOf (take k l) y (Some p)
take_place k l y None v p e h = let z : ◌≡◌ {A = ℕ} 0 1 = cc in absurd (omega arith)
take_place k l y (Some q) v p e h =
    let same : q ≡ p = cc in (
      omega (arith, v.0, length-take k l),
      get_or-take k l p 0 h ∙ ap (λ i. slice_index l i) (sym same) ∙ v.1,
      λ i b t. v.2 i (omega arith) (sym (get_or-take k l i 0 (omega arith)) ∙ t),
    )

-- a place among the first k stays
pub place_near : (k : ℕ) (ls : List (List ℕ)) (x y p : ℕ) → place (row ls x) y ≡ Some p → p < k → Some p ≡ place (row (map (take k) ls) x) y
place_near k ls x y p e h =
    place_from (row (map (take k) ls) x) y (Some p)
    (subst (λ l. PlaceOf l y (Some p)) (sym (row_reached k ls x)) (take_place k (row ls x) y (place (row ls x) y) (place_view (row ls x) y) p e h))

not_place : (k : ℕ) (l : List ℕ) (y : ℕ) (o : Option ℕ) → PlaceOf l y o → ((p : ℕ) → o ≡ Some p → k ≤ p) → PlaceOf (take k l) y None
not_place k l y None v h = λ i b t. v i (omega (arith, length-take k l)) (sym (get_or-take k l i 0 (omega (arith, length-take k l))) ∙ t)
not_place k l y (Some q) v h = λ i b t.
    v.2 i (omega (arith, h q refl, length-take k l)) (sym (get_or-take k l i 0 (omega (arith, length-take k l))) ∙ t)

-- and one past them is gone
pub place_far : (k : ℕ) (ls : List (List ℕ)) (x y : ℕ) → ((p : ℕ) → place (row ls x) y ≡ Some p → k ≤ p) → None ≡ place (row (map (take k) ls) x) y
place_far k ls x y h =
    place_from (row (map (take k) ls) x) y None
    (subst (λ l. PlaceOf l y None) (sym (row_reached k ls x)) (not_place k (row ls x) y (place (row ls x) y) (place_view (row ls x) y) h))

take_lawful : (n d k : ℕ) (l : List ℕ) → LawfulList n d l → LawfulList n d (take k l)
take_lawful n d k l f =
    let inside : (i : ℕ) → i < length (take k l) → (i < k) × (i < length l) = λ i b. (omega (arith, length-take k l), omega (arith, length-take k l)) in
    let same : (i : ℕ) → i < length (take k l) → slice_index (take k l) i ≡ slice_index l i = λ i b. get_or-take k l i 0 (inside i b).0 in
    record {
      known = λ i b. omega (arith, same i b, f.known i (inside i b).1);
      others = λ i b e. f.others i (inside i b).1 (sym (same i b) ∙ e);
      apart = λ i j b c e. f.apart i j (inside i b).1 (inside j c).1 (sym (same i b) ∙ e ∙ same j c);
    }

-- lawful lists are lawful shortened
pub reached_lawful : (k : ℕ) (ls : List (List ℕ)) → lawful ls ≡ true → lawful (map (take k) ls) ≡ true
reached_lawful k ls h =
    let f = lawful_facts ls h in
    let n : length (map (take k) ls) ≡ length ls = length-map ls (take k) in
    lawful_from_facts (map (take k) ls) (record {
      few = omega (arith, n, f.few);
      each = λ d. subst (λ m. LawfulList m d (row (map (take k) ls) d)) (sym n) (subst (LawfulList (length ls) d) (sym (row_reached k ls d)) (take_lawful (length ls) d k (row ls d) (f.each d)));
    })
