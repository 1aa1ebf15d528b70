-- The lists after an edit: a list copied without one door, a list replaced, a door taken off every list.
use Rattle.std.proofs.Common.{◌≡◌, ℕ, ◌+◌, ◌<◌, ◌≤◌, Bool, true, cond, not, ◌&&◌, eqb, ltb, List, [], ◌∷◌, map, length, get_or, set, is_some, Some, None, Option, sym, refl, ap, ◌∙◌, subst, ⊎_elim, arith}
use Rattle.std.specs.List.{list_all}
use Rattle.std.proofs.lemmas.List.{length-set, length-map, ext_get_or, get_or-map, get_or-set_same, get_or-set_other, set_past}
use Rattle.std.proofs.lemmas.Bool.{true≢false, and_parts, and_from, and_left, lt-ltb, le-ltb, ne_eqb, eqb-false, not-true, not_from_false, cond-true, cond-false, cases_eq, cases_lt}
use Rattle.matching.specs.Lists.{row, place, lawful, lawful_list, without, PlaceOf, is_distinct}
use Rattle.matching.proofs.Rows.{all_pass_at, all_pass_from, lawful_facts, list_from_facts, place_view}
use Rattle.matching.proofs.Kept.{lawful_kept, lawful_short, all_kept, all_passed, distinct_kept}
use Rattle.lists.specs.Edits.{promoted}

lawful_row : (ls : List (List ℕ)) (d : ℕ) → lawful ls ≡ true → lawful_list (length ls) d (row ls d) ≡ true
lawful_row ls d h = list_from_facts (length ls) d (row ls d) ((lawful_facts ls h).each d)

-- a lawful list replaces a door's list; past the last door nothing changes
pub put_lawful : (ls ls' : List (List ℕ)) (d : ℕ) (l : List ℕ) (r : Bool) → lawful_list (length ls) d l ≡ true
    → r ≡ (ltb d (length ls) && lawful_list (length ls) d l) → ls' ≡ cond r (set ls d l) ls → ls' ≡ set ls d l
put_lawful ls ls' d l r law answer after =
    ⊎_elim
    (λ (h : d < length ls). after ∙ cond-true r (set ls d l) ls (answer ∙ and_from (ltb d (length ls)) (lawful_list (length ls) d l) (lt-ltb d (length ls) h) law))
    (λ (h : length ls ≤ d). after ∙ cond-false r (set ls d l) ls (answer ∙ and_left (ltb d (length ls)) (lawful_list (length ls) d l) (le-ltb d (length ls) h)) ∙ sym (set_past ls d l h))
    (cases_lt d (length ls))

-- a list of a lawful table, without one door
pub lawful_without : (ls : List (List ℕ)) (d v : ℕ) (l : List ℕ) → lawful ls ≡ true → l ≡ without v (row ls d) → lawful_list (length ls) d l ≡ true
lawful_without ls d v l h e =
    subst (λ k. lawful_list (length ls) d k ≡ true) (sym e) (lawful_kept (length ls) d (λ y. not (eqb y v)) (row ls d) (lawful_row ls d h))

-- such a list has room for one door more
pub room_without : (ls : List (List ℕ)) (d v : ℕ) (l : List ℕ) → lawful ls ≡ true → d < length ls → l ≡ without v (row ls d) → length l < 96
room_without ls d v l h i e = omega (arith, lawful_short (length ls) d l (lawful_without ls d v l h e) i, (lawful_facts ls h).few)

-- a listed door moved to the head leaves a lawful list
lawful_headed : (n d y p : ℕ) (l : List ℕ) → lawful_list n d l ≡ true → place l y ≡ Some p → lawful_list n d (y ∷ without y l) ≡ true
unfolding lawful_list
lawful_headed n d y p l h e =
    let q : ℕ → Bool = λ z. ltb z n && not (eqb z d) in
    let keeps : ℕ → Bool = λ z. not (eqb z y) in
    let both = and_parts (list_all q l) (is_distinct eqb l) h in
    let v : PlaceOf l y (Some p) = subst (PlaceOf l y) e (place_view l y) in
    let here : q y ≡ true = subst (λ z. q z ≡ true) v.1 (all_pass_at q l both.0 p v.0) in
    let gone : (z : ℕ) → not (eqb z y) ≡ true → not (eqb y z) ≡ true = λ z k. not_from_false (eqb y z) (ne_eqb y z (λ s. eqb-false z y (not-true (eqb z y) k) (sym s))) in
    let others : list_all (λ z. not (eqb y z)) (without y l) ≡ true =
    all_pass_from (λ z. not (eqb y z)) (without y l) (λ k i. gone (get_or (without y l) k 0) (all_pass_at keeps (without y l) (all_passed keeps l) k i)) in
    and_from (list_all q (y ∷ without y l)) (is_distinct eqb (y ∷ without y l))
    (and_from (q y) (list_all q (without y l)) here (all_kept keeps q l both.0))
    (and_from (list_all (λ z. not (eqb y z)) (without y l)) (is_distinct eqb (without y l)) others (distinct_kept keeps l both.1))

listed_headed : (ls : List (List ℕ)) (d y : ℕ) (l : List ℕ) (o : Option ℕ) → lawful ls ≡ true → place (row ls d) y ≡ o → is_some o ≡ true → l ≡ y ∷ without y (row ls d) → lawful_list (length ls) d l ≡ true
listed_headed ls d y l None h e some is = absurd (true≢false (sym some))
listed_headed ls d y l (Some p) h e some is = subst (λ k. lawful_list (length ls) d k ≡ true) (sym is) (lawful_headed (length ls) d y p (row ls d) (lawful_row ls d h) e)

-- the list of a door where another was moved to its head
pub put_headed : (ls ls' : List (List ℕ)) (d y : ℕ) (l : List ℕ) (o : Option ℕ) (r : Bool) → lawful ls ≡ true → o ≡ place (row ls d) y → is_some o ≡ true → l ≡ y ∷ without y (row ls d)
    → r ≡ (ltb d (length ls) && lawful_list (length ls) d l) → ls' ≡ cond r (set ls d l) ls → ls' ≡ promoted d y ls
put_headed ls ls' d y l o r h e some is answer after =
    put_lawful ls ls' d l r (listed_headed ls d y l o h (sym e) some is) answer after
    ∙ ap (set ls d) (is ∙ sym (cond-true (is_some (place (row ls d) y)) (y ∷ without y (row ls d)) (row ls d) (ap is_some (sym e) ∙ some)))

-- door v is off the lists of the doors below k
pub record TakenOff (v : ℕ) (ls rows : List (List ℕ)) (k : ℕ) : Type 0 where
  pub size : length rows ≡ length ls
  pub done : (x : ℕ) → x < k → row rows x ≡ without v (row ls x)
  pub rest : (x : ℕ) → k ≤ x → row rows x ≡ row ls x

pub off_none : (v : ℕ) (ls : List (List ℕ)) → TakenOff v ls ls 0
off_none v ls = record { size = refl; done = λ x h. absurd (omega arith); rest = λ x h. refl }

pub off_more : (v : ℕ) (ls rows rows' : List (List ℕ)) (k : ℕ) → TakenOff v ls rows k → k < length ls → rows' ≡ set rows k (without v (row rows k)) → TakenOff v ls rows' (k + 1)
off_more v ls rows rows' k f h e =
    let new : List ℕ = without v (row rows k) in
    record {
      size = ap length e ∙ length-set rows k new ∙ f.size;
      done = λ x i. ap (λ r. row r x) e
          ∙ ⊎_elim
          (λ (q : x ≡ k). subst (λ z. row (set rows k new) z ≡ without v (row ls z)) (sym q) (get_or-set_same rows k new [] (omega (arith, f.size)) ∙ ap (without v) (f.rest k (omega arith))))
          (λ q. get_or-set_other rows k x new [] q ∙ f.done x (omega arith))
          (cases_eq x k);
      rest = λ x i. ap (λ r. row r x) e ∙ get_or-set_other rows k x new [] (λ q. omega arith) ∙ f.rest x (omega arith);
    }

pub off_all : (v : ℕ) (ls rows : List (List ℕ)) (k : ℕ) → TakenOff v ls rows k → length ls ≤ k → rows ≡ map (without v) ls
off_all v ls rows k f h =
    ext_get_or [] rows (map (without v) ls) (f.size ∙ sym (length-map ls (without v)))
    (λ x i. f.done x (omega (arith, f.size)) ∙ sym (get_or-map (without v) ls x [] [] (omega (arith, f.size))))
