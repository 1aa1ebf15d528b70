-- A list is read by asking for the place of every door, and a table by reading every list.
use Rattle.std.proofs.Common.{◌≡◌, ℕ, ◌+◌, ◌<◌, ◌≤◌, Bool, true, cond, ◌&&◌, ltb, List, [], length, get_or, take, set, replicate, Some, None, sym, ap, ◌∙◌, subst, ⊎_elim, arith}
use Rattle.std.proofs.lemmas.List.{ext_get_or, get_or-take, length-take-le, get_or-set_same, get_or-set_other, length-set, length-replicate}
use Rattle.std.proofs.lemmas.Bool.{cases_eq, and_from, lt-ltb, cond-true}
use Rattle.matching.specs.Lists.{row, place, lawful, lawful_list, PlaceOf}
use Rattle.matching.proofs.Rows.{lawful_facts, list_from_facts, place_view}
use Rattle.matching.proofs.Kept.{lawful_at_most}

-- a lawful list has at most 96 places
pub row_short : (ls : List (List ℕ)) (d : ℕ) → lawful ls ≡ true → length (row ls d) ≤ 96
row_short ls d h =
    let f = lawful_facts ls h in omega (arith, f.few, lawful_at_most (length ls) d (row ls d) (list_from_facts (length ls) d (row ls d) (f.each d)))

pub some_view : (l : List ℕ) (y p : ℕ) → place l y ≡ Some p → PlaceOf l y (Some p)
some_view l y p e = subst (PlaceOf l y) e (place_view l y)

pub none_view : (l : List ℕ) (y : ℕ) → place l y ≡ None → PlaceOf l y None
none_view l y e = subst (PlaceOf l y) e (place_view l y)

pub place_short : (ls : List (List ℕ)) (d y p : ℕ) → lawful ls ≡ true → place (row ls d) y ≡ Some p → p < 96
place_short ls d y p h e = omega (arith, (some_view (row ls d) y p e).0, row_short ls d h)

-- the doors below y stand at their places
pub record Read (l out : List ℕ) (y : ℕ) : Type 0 where
  pub whole : length out ≡ 96
  pub copied : (k : ℕ) → k < length l → get_or l k 0 < y → get_or out k 0 ≡ get_or l k 0

pub read_none : (l out : List ℕ) → length out ≡ 96 → Read l out 0
read_none l out h = record { whole = h; copied = λ k i b. absurd (omega arith) }

module _ (ls : List (List ℕ)) (d : ℕ) (lawful' : lawful ls ≡ true) (out : List ℕ) (y : ℕ) (r : Read (row ls d) out y) where
  pub read_listed : (p : ℕ) → place (row ls d) y ≡ Some p → Read (row ls d) (set out p y) (y + 1)
  read_listed p e =
      let v = some_view (row ls d) y p e in
      let f = (lawful_facts ls lawful').each d in
      record {
        whole = length-set out p y ∙ r.whole;
        copied = λ k i b. ⊎_elim
            (λ (q : k ≡ p). subst (λ z. get_or (set out p y) z 0 ≡ get_or (row ls d) z 0) (sym q) (get_or-set_same out p y 0 (omega (arith, r.whole, place_short ls d y p lawful' e)) ∙ sym v.1))
            (λ q. get_or-set_other out p k y 0 q ∙ r.copied k i (⊎_elim (λ (s : get_or (row ls d) k 0 ≡ y). absurd (q (f.apart k p i v.0 (s ∙ sym v.1)))) (λ s. omega arith) (cases_eq (get_or (row ls d) k 0) y)))
            (cases_eq k p);
      }

  pub read_unlisted : place (row ls d) y ≡ None → Read (row ls d) out (y + 1)
  read_unlisted e =
      let v = none_view (row ls d) y e in
      record { whole = r.whole; copied = λ k i b. r.copied k i (⊎_elim (λ (s : get_or (row ls d) k 0 ≡ y). absurd (v k i s)) (λ s. omega arith) (cases_eq (get_or (row ls d) k 0) y)) }

pub read_all : (ls : List (List ℕ)) (d : ℕ) (out : List ℕ) (y : ℕ) → lawful ls ≡ true → Read (row ls d) out y → length ls ≤ y → take (length (row ls d)) out ≡ row ls d
read_all ls d out y h r i =
    let f = (lawful_facts ls h).each d in
    let s = row_short ls d h in
    let n : length (take (length (row ls d)) out) ≡ length (row ls d) = length-take-le (length (row ls d)) out (omega (arith, r.whole)) in
    ext_get_or 0 (take (length (row ls d)) out) (row ls d) n
    (λ k b. let c : k < length (row ls d) = omega (arith, n) in get_or-take (length (row ls d)) out k 0 c ∙ r.copied k c (omega (arith, f.known k c)))

-- the lists of the doors below d are copied
pub record CopiedTo (ls rows : List (List ℕ)) (d : ℕ) : Type 0 where
  pub size : length rows ≡ length ls
  pub copied : (x : ℕ) → x < d → row rows x ≡ row ls x

pub copied_none : (ls : List (List ℕ)) (n : ℕ) → n ≡ length ls → CopiedTo ls (replicate n []) 0
copied_none ls n e = record { size = length-replicate n [] ∙ e; copied = λ x h. absurd (omega arith) }

pub copied_more : (ls rows rows' : List (List ℕ)) (d : ℕ) → CopiedTo ls rows d → d < length ls → rows' ≡ set rows d (row ls d) → CopiedTo ls rows' (d + 1)
copied_more ls rows rows' d c h e = record {
  size = ap length e ∙ length-set rows d (row ls d) ∙ c.size;
  copied = λ x i. ap (λ r. row r x) e ∙ ⊎_elim
      (λ (q : x ≡ d). subst (λ z. row (set rows d (row ls d)) z ≡ row ls z) (sym q) (get_or-set_same rows d (row ls d) [] (omega (arith, c.size))))
      (λ q. get_or-set_other rows d x (row ls d) [] q ∙ c.copied x (omega arith))
      (cases_eq x d);
}

pub copied_all : (ls rows : List (List ℕ)) (d : ℕ) → CopiedTo ls rows d → length ls ≤ d → rows ≡ ls
copied_all ls rows d c h = ext_get_or [] rows ls c.size (λ x i. c.copied x (omega (arith, c.size)))

-- a list that was read is lawful, so a table takes it
pub copied_put : (ls rows rows' : List (List ℕ)) (d : ℕ) (l : List ℕ) (b : Bool) → lawful ls ≡ true → CopiedTo ls rows d → d < length ls → l ≡ row ls d
    → b ≡ (ltb d (length rows) && lawful_list (length rows) d l) → rows' ≡ cond b (set rows d l) rows → CopiedTo ls rows' (d + 1)
copied_put ls rows rows' d l b law c h e answer after =
    let whole : lawful_list (length rows) d l ≡ true =
    subst (λ n. lawful_list n d l ≡ true) (sym c.size) (subst (λ k. lawful_list (length ls) d k ≡ true) (sym e) (list_from_facts (length ls) d (row ls d) ((lawful_facts ls law).each d))) in
    let yes : b ≡ true = answer ∙ and_from (ltb d (length rows)) (lawful_list (length rows) d l) (lt-ltb d (length rows) (omega (arith, c.size))) whole in
    copied_more ls rows rows' d c h (after ∙ cond-true b (set rows d l) rows yes ∙ ap (set rows d) e)
