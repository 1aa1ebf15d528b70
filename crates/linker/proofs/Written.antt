-- Lists are read by asking for the place of every door, and written down row after row.
use Rattle.std.proofs.Common.{◌≡◌, ℕ, ◌+◌, ◌*◌, ◌<◌, ◌≤◌, true, List, length, get_or, take, set, Some, None, sym, ap, ◌∙◌, subst, ⊎_elim, add-mul, arith}
use Rattle.std.proofs.lemmas.Nat.{mul-le}
use Rattle.std.proofs.lemmas.List.{get_or-set_same, get_or-set_other, get_or-take}
use Rattle.std.proofs.lemmas.Bool.{cases_eq}
use Rattle.matching.specs.Lists.{row, place, lawful, Lawful}
use Rattle.matching.proofs.Rows.{lawful_facts, list_from_facts}
use Rattle.matching.proofs.Kept.{lawful_at_most}
use Rattle.sources.proofs.Asked.{some_view, none_view}
use Rattle.linker.specs.Tables.{mark, ReadTo, ListRead}

-- a list of one of n doors has at most n places
pub row_short : (ls : List (List ℕ)) (x : ℕ) → Lawful ls → length (row ls x) ≤ length ls
row_short ls x f = lawful_at_most (length ls) x (row ls x) (list_from_facts (length ls) x (row ls x) (f.each x))

pub place_fits : (ls : List (List ℕ)) (d y p : ℕ) → lawful ls ≡ true → place (row ls d) y ≡ Some p → p < length ls
place_fits ls d y p h e = omega (arith, (some_view (row ls d) y p e).0, row_short ls d (lawful_facts ls h))

-- a write at the next place keeps the places before
next_placed : (l : List ℕ) (base y v : ℕ) (places : List ℕ) → ((z : ℕ) → z < y → get_or places (base + z) 0 ≡ mark (place l z)) → base + y < length places → v ≡ mark (place l y)
    → (z : ℕ) → z < y + 1 → get_or (set places (base + y) v) (base + z) 0 ≡ mark (place l z)
next_placed l base y v places h i e z b =
    ⊎_elim
    (λ (q : z ≡ y). subst (λ w. get_or (set places (base + y) v) (base + w) 0 ≡ mark (place l w)) (sym q) (get_or-set_same places (base + y) v 0 i ∙ e))
    (λ q. get_or-set_other places (base + y) (base + z) v 0 (omega arith) ∙ h z (omega arith))
    (cases_eq z y)

-- one more door asked for
module _ (ls : List (List ℕ)) (d : ℕ) (law : lawful ls ≡ true) (base y : ℕ) (lists places : List ℕ) (r : ListRead (row ls d) base y lists places) where
  pub read_listed : (p : ℕ) → place (row ls d) y ≡ Some p → base + p < length lists → base + y < length places
      → ListRead (row ls d) base (y + 1) (set lists (base + p) y) (set places (base + y) p)
  read_listed p e i j =
      let v = some_view (row ls d) y p e in
      record {
        listed = λ k a b. ⊎_elim
            (λ (q : k ≡ p). subst (λ w. get_or (set lists (base + p) y) (base + w) 0 ≡ get_or (row ls d) w 0) (sym q) (get_or-set_same lists (base + p) y 0 i ∙ sym v.1))
            (λ q. get_or-set_other lists (base + p) (base + k) y 0 (omega arith)
            ∙ r.listed k a (⊎_elim (λ (s : get_or (row ls d) k 0 ≡ y). absurd (q (((lawful_facts ls law).each d).apart k p a v.0 (s ∙ sym v.1)))) (λ s. omega arith) (cases_eq (get_or (row ls d) k 0) y)))
            (cases_eq k p);
        placed = next_placed (row ls d) base y p places r.placed j (sym (ap mark e));
      }

  pub read_unlisted : place (row ls d) y ≡ None → base + y < length places → ListRead (row ls d) base (y + 1) lists (set places (base + y) 65535)
  read_unlisted e j =
      let v = none_view (row ls d) y e in
      record {
        listed = λ k a b. r.listed k a (⊎_elim (λ (s : get_or (row ls d) k 0 ≡ y). absurd (v k a s)) (λ s. omega arith) (cases_eq (get_or (row ls d) k 0) y));
        placed = next_placed (row ls d) base y 65535 places r.placed j (sym (ap mark e));
      }

-- a row stands before the next one
row_before : (n x d k : ℕ) → x < d → k < n → x * n + k < d * n
row_before n x d k b i = omega (arith, mul-le (x + 1) n d n (omega arith) (omega arith), add-mul x 1 n)

-- what stands before the written row stays
stays : (base i : ℕ) (old new : List ℕ) → take base new ≡ take base old → i < base → get_or new i 0 ≡ get_or old i 0
stays base i old new e h = sym (get_or-take base new i 0 h) ∙ ap (λ l. get_or l i 0) e ∙ get_or-take base old i 0 h

-- the next row has room
pub row_room : (n d : ℕ) → d < n → d * n + n ≤ n * n
row_room n d b = omega (arith, mul-le (d + 1) n n n (omega arith) (omega arith), add-mul d 1 n)

-- one more list written down
pub written_more : (ls : List (List ℕ)) (n d : ℕ) (lists places sizes lists' places' : List ℕ) → lawful ls ≡ true → n ≡ length ls → d < n → length sizes ≡ n
    → ReadTo ls d lists places sizes → ListRead (row ls d) (d * n) (length ls) lists' places' → take (d * n) lists' ≡ take (d * n) lists → take (d * n) places' ≡ take (d * n) places
    → ReadTo ls (d + 1) lists' places' (set sizes d (length (row ls d)))
written_more ls n d lists places sizes lists' places' law e b w r one a p =
    record {
      listed = λ x k i j. at (λ m. get_or lists' (x * m + k) 0 ≡ get_or (row ls x) k 0) (⊎_elim
          (λ (q : x ≡ d). subst (λ w. k < length (row ls w) → get_or lists' (w * n + k) 0 ≡ get_or (row ls w) k 0) (sym q) (λ m. one.listed k m (((lawful_facts ls law).each d).known k m)) j)
          (λ q. stays (d * n) (x * n + k) lists lists' a (row_before n x d k (omega arith) (omega (arith, row_short ls x (lawful_facts ls law)))) ∙ before (λ m. get_or lists (x * m + k) 0 ≡ get_or (row ls x) k 0) (r.listed x k (omega arith) j))
          (cases_eq x d));
      placed = λ x y i j. at (λ m. get_or places' (x * m + y) 0 ≡ mark (place (row ls x) y)) (⊎_elim
          (λ (q : x ≡ d). subst (λ w. get_or places' (w * n + y) 0 ≡ mark (place (row ls w) y)) (sym q) (one.placed y j))
          (λ q. stays (d * n) (x * n + y) places places' p (row_before n x d y (omega arith) (omega arith)) ∙ before (λ m. get_or places (x * m + y) 0 ≡ mark (place (row ls x) y)) (r.placed x y (omega arith) j))
          (cases_eq x d));
      sized = λ x i. ⊎_elim
          (λ (q : x ≡ d). subst (λ w. get_or (set sizes d (length (row ls d))) w 0 ≡ length (row ls w)) (sym q) (get_or-set_same sizes d (length (row ls d)) 0 (omega arith)))
          (λ q. get_or-set_other sizes d x (length (row ls d)) 0 q ∙ r.sized x (omega arith))
          (cases_eq x d);
    }
  where
    at : (P : ℕ → Type 0) → P n → P (length ls)
    at P t = subst P e t

    before : (P : ℕ → Type 0) → P (length ls) → P n
    before P t = subst P (sym e) t
