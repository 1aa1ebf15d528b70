-- Rows of a table in the theory's form: the doors on a row, in the order of their ranks.
use Rattle.std.proofs.Common.{◌≡◌, ℕ, zero, suc, ◌-◌, ◌<◌, ◌≤◌, ◌⊎◌, List, [], ◌∷◌, map, length, get_or, Some, None, Option, sym, refl, ap, ◌∙◌, subst, inl, inr, ⊎_elim, arith}
use Rattle.std.specs.List.{range_with_len}
use Rattle.std.proofs.lemmas.List.FromFn.{length-map-range_with_len, get_or-map-range_with_len}
use Rattle.std.proofs.lemmas.List.{get_or_past, ext_get_or}
use Rattle.std.proofs.lemmas.Bool.{cases_eq, cases_lt}
use Rattle.matching.specs.Lists.{row, place, PlaceOf}
use Rattle.matching.specs.Linkings.{Prefers}
use Rattle.matching.specs.Ranks.{Ranks, On}
use Rattle.matching.specs.Settled.{Firsts, Settled, Second, Empty}
use Rattle.matching.specs.Rotations.{Seconds}
use Rattle.matching.specs.TwoWay.{Without, Parted, second, last}
use Rattle.matching.specs.Holders.{First, In, Rises, RowOf, TableOf, first}
use Rattle.matching.proofs.Rows.{place_view}
use Rattle.matching.proofs.Proposing.{on_sym, on_kept}
use Rattle.matching.proofs.Settled.{last_on}

pub in_at : (l : List ℕ) (k d : ℕ) → k < length l → In (get_or l k d) l
in_at [] k d h = absurd (omega arith)
in_at (y ∷ l) zero d h = inl refl
in_at (y ∷ l) (suc k) d h = inr (in_at l k d (omega arith))

pub at_in : (l : List ℕ) (d y : ℕ) → In y l → (k : ℕ) × (k < length l) × (get_or l k d ≡ y)
at_in [] d y i = absurd i
at_in (z ∷ l) d y (inl e) = (0, omega arith, e)
at_in (z ∷ l) d y (inr i) = let k = at_in l d y i in (suc k.0, omega (arith, k.1), k.2)

pub rises_at : (v : ℕ → ℕ) (l : List ℕ) (d : ℕ) → Rises v l → (j k : ℕ) → j < k → k < length l → v (get_or l j d) < v (get_or l k d)
rises_at v [] d s j k i h = absurd (omega arith)
rises_at v (y ∷ l) d s j zero i h = absurd (omega arith)
rises_at v (y ∷ l) d s zero (suc k) i h = s.0 (get_or l k d) (in_at l k d (omega arith))
rises_at v (y ∷ l) d s (suc j) (suc k) i h = rises_at v l d s.1 j k (omega arith) (omega arith)

pub rises_from : (v : ℕ → ℕ) (l : List ℕ) → ((j k : ℕ) → j < k → k < length l → v (get_or l j 0) < v (get_or l k 0)) → Rises v l
rises_from v [] h = tt
rises_from v (y ∷ l) h = (
  λ z i. let k = at_in l 0 z i in subst (λ w. v y < v w) k.2 (h 0 (suc k.0) (omega arith) (omega (arith, k.1))),
  rises_from v l (λ j k i b. h (suc j) (suc k) (omega arith) (omega arith)),
)

-- two lists along which v rises, with the same doors, are one
pub rises_same : (v : ℕ → ℕ) (l l' : List ℕ) → Rises v l → Rises v l' → ((y : ℕ) → In y l → In y l') → ((y : ℕ) → In y l' → In y l) → l ≡ l'
rises_same v [] [] s s' f b = refl
rises_same v [] (z ∷ l') s s' f b = absurd (b z (inl refl))
rises_same v (y ∷ l) [] s s' f b = absurd (f y (inl refl))
rises_same v (y ∷ l) (z ∷ l') s s' f b =
    let e : z ≡ y = ⊎_elim (λ e. e) (λ i. ⊎_elim (λ e. sym e) (λ j. absurd (omega (arith, s'.0 y i, s.0 z j))) (b z (inl refl))) (f y (inl refl)) in
    let more : l ≡ l' =
    rises_same v l l' s.1 s'.1
    (λ w i. ⊎_elim (λ d. absurd (omega (arith, s.0 w i, ap v (sym e ∙ d)))) (λ j. j) (f w (inr i)))
    (λ w i. ⊎_elim (λ d. absurd (omega (arith, s'.0 w i, ap v (e ∙ d)))) (λ j. j) (b w (inr i))) in
    subst (λ u. y ∷ l ≡ u ∷ l') (sym e) (ap (λ u. y ∷ u) more)

-- leaving a list
module _ (Leaves : ℕ → Type 0) where
  pub without_in : (l l' : List ℕ) → Without Leaves l l' → (y : ℕ) → In y l' → In y l × (Leaves y → ⊥)
  without_in [] l' w y i = absurd (subst (In y) w i)
  without_in (z ∷ l) l' (inl w) y i = let h = without_in l l' w.1 y i in (inr h.0, h.1)
  without_in (z ∷ l) l' (inr w) y i =
      let i' : In y (z ∷ w.1.0) = subst (In y) w.1.1 i in
      ⊎_elim
      (λ e. (inl e, λ p. w.0 (subst Leaves (sym e) p)))
      (λ j. let h = without_in l w.1.0 w.1.2 y j in (inr h.0, h.1))
      i'

  pub without_keeps : (l l' : List ℕ) → Without Leaves l l' → (y : ℕ) → In y l → (Leaves y → ⊥) → In y l'
  without_keeps [] l' w y i n = absurd i
  without_keeps (z ∷ l) l' (inl w) y i n = ⊎_elim (λ e. absurd (n (subst Leaves e w.0))) (λ j. without_keeps l l' w.1 y j n) i
  without_keeps (z ∷ l) l' (inr w) y i n =
      subst (In y) (sym w.1.1) (⊎_elim inl (λ j. inr (without_keeps l w.1.0 w.1.2 y j n)) i)

  pub without_rises : (v : ℕ → ℕ) (l l' : List ℕ) → Without Leaves l l' → Rises v l → Rises v l'
  without_rises v [] l' w s = subst (Rises v) (sym w) tt
  without_rises v (z ∷ l) l' (inl w) s = without_rises v l l' w.1 s.1
  without_rises v (z ∷ l) l' (inr w) s =
      subst (Rises v) (sym w.1.1) (λ y i. s.0 y (without_in l w.1.0 w.1.2 y i).0, without_rises v l w.1.0 w.1.2 s.1)

  pub without_one : (l a b : List ℕ) → Without Leaves l a → Without Leaves l b → a ≡ b
  without_one [] a b w v = w ∙ sym v
  without_one (z ∷ l) a b (inl w) (inl v) = without_one l a b w.1 v.1
  without_one (z ∷ l) a b (inl w) (inr v) = absurd (v.0 w.0)
  without_one (z ∷ l) a b (inr w) (inl v) = absurd (w.0 v.0)
  without_one (z ∷ l) a b (inr w) (inr v) = w.1.1 ∙ (ap (λ u. z ∷ u) (without_one l w.1.0 v.1.0 w.1.2 v.1.2) ∙ sym v.1.1)

  pub without_made : (l : List ℕ) → ((y : ℕ) → In y l → Leaves y ⊎ (Leaves y → ⊥)) → (l' : List ℕ) × Without Leaves l l'
  without_made [] each = ([], refl)
  without_made (z ∷ l) each =
      let more = without_made l (λ y i. each y (inr i)) in
      ⊎_elim (λ p. (more.0, inl (p, more.1))) (λ n. (z ∷ more.0, inr (n, (more.0, refl, more.1)))) (each z (inl refl))

pub parted_one : (Parts : ℕ → ℕ → Type 0) (T U V : List (List ℕ)) → Parted Parts T U → Parted Parts T V → U ≡ V
parted_one Parts T U V a b =
    ext_get_or [] U V (a.size ∙ sym b.size) (λ x _. without_one (λ y. Parts x y ⊎ Parts y x) (row T x) (row U x) (row V x) (a.rows x) (b.rows x))

module _ (r : ℕ → ℕ → ℕ) (g : ℕ → ℕ) (x : ℕ) where
  -- the first on a row
  pub row_first : (l : List ℕ) (d : ℕ) → RowOf r g x l → 0 < length l → First r g x (get_or l 0 d)
  row_first [] d R h = absurd (omega arith)
  row_first (y ∷ l) d R h =
      (R.on y (inl refl), λ z o. ⊎_elim (λ e. omega (arith, ap (r x) e)) (λ i. omega (arith, R.rises.0 z i)) (R.all z o))

  pub row_head : (l : List ℕ) (y : ℕ) → Ranks r → RowOf r g x l → First r g x y → (rest : List ℕ) × (l ≡ y ∷ rest)
  row_head [] y k R f = absurd (R.all y f.0)
  row_head (z ∷ l) y k R f =
      let here = row_first (z ∷ l) 0 R (omega arith) in
      (l, ap (λ v. v ∷ l) (k.apart x z y here.0.0 (omega (arith, here.1 y f.0, f.1 z here.0))))

  pub row_empty : (l : List ℕ) → RowOf r g x l → l ≡ [] → Empty r g x
  row_empty l R e y o = subst (In y) e (R.all y o)

  pub empty_row : (l : List ℕ) → RowOf r g x l → Empty r g x → l ≡ []
  empty_row [] R e = refl
  empty_row (y ∷ l) R e = absurd (e y (R.on y (inl refl)))

  -- preference on a row is by ranks
  pub row_less : (l : List ℕ) (y z j k : ℕ) → RowOf r g x l → PlaceOf l y (Some j) → PlaceOf l z (Some k) → j < k → On r g x y × On r g x z × (r x y < r x z)
  row_less l y z j k R a b h = (
    subst (On r g x) a.1 (R.on (get_or l j 0) (in_at l j 0 a.0)),
    subst (On r g x) b.1 (R.on (get_or l k 0) (in_at l k 0 b.0)),
    omega (arith, rises_at (r x) l 0 R.rises j k h b.0, ap (r x) a.1, ap (r x) b.1),
  )

  pub row_before : (l : List ℕ) (y z : ℕ) → RowOf r g x l → On r g x y → On r g x z → r x y < r x z → (o q : Option ℕ) → PlaceOf l y o → PlaceOf l z q → (j : ℕ) × (k : ℕ) × (o ≡ Some j) × (q ≡ Some k) × (j < k)
  row_before l y z R a b h None q o p = absurd (let i = at_in l 0 y (R.all y a) in o i.0 i.1 i.2)
  row_before l y z R a b h (Some j) None o p = absurd (let i = at_in l 0 z (R.all z b) in p i.0 i.1 i.2)
  row_before l y z R a b h (Some j) (Some k) o p = (
    j,
    k,
    refl,
    refl,
    ⊎_elim
        (λ i. i)
        (λ i. absurd (⊎_elim
        (λ e. omega (arith, h, ap (r x) (sym o.1 ∙ (ap (λ v. get_or l v 0) e ∙ p.1))))
        (λ n. let less : k < j = omega (arith, i, n) in omega (arith, h, rises_at (r x) l 0 R.rises k j less o.0, ap (r x) o.1, ap (r x) p.1))
        (cases_eq j k)))
        (cases_lt j k),
  )

-- one table has these holders
pub row_one : (r : ℕ → ℕ → ℕ) (g : ℕ → ℕ) (x : ℕ) (l l' : List ℕ) → RowOf r g x l → RowOf r g x l' → l ≡ l'
row_one r g x l l' R R' = rises_same (r x) l l' R.rises R'.rises (λ y i. R'.all y (R.on y i)) (λ y i. R.all y (R'.on y i))

pub table_one : (r : ℕ → ℕ → ℕ) (g : ℕ → ℕ) (T U : List (List ℕ)) → length T ≡ length U → TableOf r g T → TableOf r g U → T ≡ U
table_one r g T U n t u = ext_get_or [] T U n (λ x _. row_one r g x (row T x) (row U x) (t x) (u x))

-- preference in a table
module _ (r : ℕ → ℕ → ℕ) (g : ℕ → ℕ) (T : List (List ℕ)) (t : TableOf r g T) where
  pub prefers_less : (x y z : ℕ) → Prefers T x y z → On r g x y × On r g x z × (r x y < r x z)
  prefers_less x y z p =
      row_less r g x (row T x) y z p.0 p.1 (t x)
      (subst (PlaceOf (row T x) y) p.2 (place_view (row T x) y)) (subst (PlaceOf (row T x) z) p.3 (place_view (row T x) z)) p.4

  pub less_prefers : (x y z : ℕ) → On r g x y → On r g x z → r x y < r x z → Prefers T x y z
  less_prefers x y z a b h =
      row_before r g x (row T x) y z (t x) a b h (place (row T x) y) (place (row T x) z) (place_view (row T x) y) (place_view (row T x) z)

  -- the first doors of the rows
  pub rows_firsts : Firsts r g (first T)
  rows_firsts =
      record {
        first = λ x.
            ⊎_elim (λ h. inr (row_first r g x (row T x) x (t x) h).0) (λ h. inl (get_or_past (row T x) 0 x h)) (cases_lt 0 (length (row T x)));
        least = λ x y o. let i = at_in (row T x) 0 y ((t x).all y o) in (row_first r g x (row T x) x (t x) (omega (arith, i.1))).1 y o;
      }

  -- a settled table: its lasts and seconds
  module _ (k : Ranks r) (S : Settled r g (first T)) where
    pub row_listed : (x : ℕ) → 0 < length (row T x) → On r g x (g x)
    row_listed x h =
        ⊎_elim
        (λ e. absurd (omega (arith, (row_first r g x (row T x) x (t x) h).0.0, ap (r x) (sym (ap (first T) e) ∙ S.first_of_last x))))
        (λ o. o)
        (last_on r g (first T) k S x)

    pub row_unlisted : (x : ℕ) → length (row T x) ≤ 0 → g x ≡ x
    row_unlisted x h = ap g (sym (get_or_past (row T x) 0 x h)) ∙ S.last_of_first x

    pub row_last : (x : ℕ) → last T x ≡ g x
    row_last x =
        ⊎_elim
        (λ h. let l : List ℕ = row T x in
        let o : On r g x (last T x) = (t x).on (last T x) (in_at l (length l - 1) x (omega (arith, h))) in
        let i = at_in l x (g x) ((t x).all (g x) (row_listed x h)) in
        k.apart x (last T x) (g x) o.0
        (⊎_elim
        (λ less. absurd
        (⊎_elim
        (λ b. omega (arith, less, rises_at (r x) l x (t x).rises i.0 (length l - 1) b (omega (arith, h)), ap (r x) i.2))
        (λ b. let e : i.0 ≡ length l - 1 = omega (arith, b, i.1) in omega (arith, less, ap (r x) (sym i.2 ∙ ap (λ v. get_or l v x) e)))
        (cases_lt i.0 (length l - 1))))
        (λ le. omega (arith, le, o.1))
        (cases_lt (r x (last T x)) (r x (g x)))))
        (λ h. get_or_past (row T x) (length (row T x) - 1) x (omega arith) ∙ sym (row_unlisted x h))
        (cases_lt 0 (length (row T x)))

    pub row_second : (x : ℕ) → 2 ≤ length (row T x) → Second r g (first T) x (second T x)
    row_second x h =
        let l : List ℕ = row T x in (
          (t x).on (second T x) (in_at l 1 x h),
          rises_at (r x) l x (t x).rises 0 1 (omega arith) h,
          λ z o b.
              let i = at_in l x z ((t x).all z o) in
              ⊎_elim
              (λ c. ⊎_elim
              (λ e. omega (arith, ap (r x) (sym i.2 ∙ ap (λ v. get_or l v x) e)))
              (λ n. omega (arith, rises_at (r x) l x (t x).rises 1 i.0 (omega (arith, c, n)) i.1, ap (r x) i.2))
              (cases_eq i.0 1))
              (λ c. let e : i.0 ≡ 0 = omega (arith, c) in absurd (omega (arith, b, ap (r x) (sym i.2 ∙ ap (λ v. get_or l v x) e))))
              (cases_lt 0 i.0),
        )

    pub two_apart : (x : ℕ) → 2 ≤ length (row T x) → first T x ≡ g x → ⊥
    two_apart x h e = omega (arith, (row_second x h).0.1, (row_second x h).1, ap (r x) e)

    pub one_same : (x : ℕ) → length (row T x) < 2 → first T x ≡ g x
    one_same x h =
        ⊎_elim
        (λ c. ap (λ v. get_or (row T x) v x) (omega (arith, h)) ∙ row_last x)
        (λ c. get_or_past (row T x) 0 x c ∙ sym (row_unlisted x c))
        (cases_lt 0 (length (row T x)))

    pub rows_seconds : Seconds r g (first T) (second T)
    rows_seconds x = ⊎_elim (λ h. inl (one_same x h)) (λ h. inr (row_second x h)) (cases_lt (length (row T x)) 2)

-- Pairs part: in the theory's form each holder comes to a lower rank, and the pairs beyond it part.
module _ (r : ℕ → ℕ → ℕ) (g g' : ℕ → ℕ) (T : List (List ℕ)) (Parts : ℕ → ℕ → Type 0) (k : Ranks r) (t : TableOf r g T)
    (lower : (x : ℕ) → r x (g' x) ≤ r x (g x)) (far : (u v : ℕ) → Parts u v → r u (g' u) < r u v) (near : (u v : ℕ) → On r g u v → r u (g' u) < r u v → Parts u v) where
  pub parted_table : (T' : List (List ℕ)) → Parted Parts T T' → TableOf r g' T'
  parted_table T' p x =
      let Leaves : ℕ → Type 0 = λ y. Parts x y ⊎ Parts y x in
      let close : (u v : ℕ) → On r g u v → (Parts u v → ⊥) → r u v ≤ r u (g' u) = λ u v o n. ⊎_elim (λ h. absurd (n (near u v o h))) (λ h. h) (cases_lt (r u (g' u)) (r u v)) in
      record {
        on = λ y i.
            let w = without_in Leaves (row T x) (row T' x) (p.rows x) y i in
            let o : On r g x y = (t x).on y w.0 in
            (o.0, close x y o (λ q. w.1 (inl q)), close y x (on_sym r g x y k o) (λ q. w.1 (inr q)));
        all = λ y o.
            without_keeps Leaves (row T x) (row T' x) (p.rows x) y ((t x).all y (on_kept r g g' lower x y o))
            (λ q. ⊎_elim (λ a. omega (arith, far x y a, o.1)) (λ a. omega (arith, far y x a, o.2)) q);
        rises = without_rises Leaves (r x) (row T x) (row T' x) (p.rows x) (t x).rises;
      }

  parted_row : (x : ℕ) → (l : List ℕ) × Without (λ y. Parts x y ⊎ Parts y x) (row T x) l
  parted_row x =
      without_made (λ y. Parts x y ⊎ Parts y x) (row T x)
      (λ y i. let o : On r g x y = (t x).on y i in
      ⊎_elim
      (λ h. inl (inl (near x y o h)))
      (λ h. ⊎_elim
      (λ b. inl (inr (near y x (on_sym r g x y k o) b)))
      (λ b. inr (λ q. ⊎_elim (λ a. omega (arith, h, far x y a)) (λ a. omega (arith, b, far y x a)) q))
      (cases_lt (r y (g' y)) (r y x)))
      (cases_lt (r x (g' x)) (r x y)))

  pub parted_made : (T' : List (List ℕ)) × Parted Parts T T'
  parted_made =
      let rows : ℕ → List ℕ = λ x. (parted_row x).0 in
      let n : ℕ = length T in
      let T' : List (List ℕ) = map rows (range_with_len 0 n) in
      let long : length T' ≡ n = length-map-range_with_len rows 0 n in (
        T',
        record {
          size = long;
          rows = λ x. ⊎_elim
              (λ h. subst (λ l. Without (λ y. Parts x y ⊎ Parts y x) (row T x) l) (sym (get_or-map-range_with_len rows 0 n x x [] h (omega arith))) (parted_row x).1)
              (λ h. subst (λ l. Without (λ y. Parts x y ⊎ Parts y x) l (row T' x)) (sym (get_or_past T x [] h)) (get_or_past T' x [] (omega (arith, h, long))))
              (cases_lt x n);
        },
      )
