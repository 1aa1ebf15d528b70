-- A record put into the place of the one that is meant, or behind the last one.
use Rattle.std.proofs.Common.{◌≡◌, ℕ, suc, ◌+◌, ◌<◌, ◌≤◌, Bool, true, false, cond, not, ◌||◌, ltb, List, [], ◌∷◌, ◌++◌, length, take, set, Some, None, Option, refl, ap, ◌∙◌, sym, arith}
use Rattle.std.specs.List.{position, position_or_len, list_any}
use Rattle.std.proofs.lemmas.Bool.{ltb-true, ltb-false}
use Rattle.std.proofs.Math.Seq.{take-set-lt}
use Rattle.std.proofs.lemmas.List.{length-take-le}
use Rattle.level.specs.Tables.{noted}

module _ {X : Type 0} (p : X → Bool) where
  -- where the answer is a place, the test passed, and that is the place
  within : (b : Bool) (n i : ℕ) → cond b (Some n) None ≡ Some i → (b ≡ true) × (n ≡ i)
  within true n i e = (refl, cc)
  within false n i e = absurd (cc)

  -- and where there is none, it did not
  past : (b : Bool) (n : ℕ) → ◌≡◌ {A = Option ℕ} (cond b (Some n) None) None → b ≡ false
  past true n e = absurd (cc)
  past false n e = refl

  module _ (x : X) where
    -- the first that passes is written over
    into : (xs : List X) → position_or_len p xs < length xs → noted p x xs ≡ set xs (position_or_len p xs) x
    into [] h = absurd (omega arith)
    into (y ∷ ys) h = go (into ys) (p y) h
      where
        go : (position_or_len p ys < length ys → noted p x ys ≡ set ys (position_or_len p ys) x) → (b : Bool) → cond (not b) (1 + position_or_len p ys) 0 < suc (length ys) → cond b (x ∷ ys) (y ∷ noted p x ys) ≡ set (y ∷ ys) (cond (not b) (1 + position_or_len p ys) 0) x
        go r true h = refl
        go r false h = let next : suc (position_or_len p ys) ≡ 1 + position_or_len p ys = omega arith in ap (λ l. y ∷ l) (r (omega arith)) ∙ ap (λ k. set (y ∷ ys) k x) next

    -- where none passes, the list is one longer
    behind : (xs : List X) → length xs ≤ position_or_len p xs → noted p x xs ≡ xs ++ (x ∷ [])
    behind [] h = refl
    behind (y ∷ ys) h = go (behind ys) (p y) h
      where
        go : (length ys ≤ position_or_len p ys → noted p x ys ≡ ys ++ (x ∷ [])) → (b : Bool) → suc (length ys) ≤ cond (not b) (1 + position_or_len p ys) 0 → cond b (x ∷ ys) (y ∷ noted p x ys) ≡ y ∷ (ys ++ (x ∷ []))
        go r true h = absurd (omega arith)
        go r false h = ap (λ l. y ∷ l) (r (omega arith))

    -- where one is meant, the record takes its place
    pub noted_at : (xs : List X) (n i : ℕ) → n ≤ length xs → position p (take n xs) ≡ Some i → take n (set xs i x) ≡ noted p x (take n xs)
    noted_at xs n i long e =
        let f = within (ltb (position_or_len p (take n xs)) (length (take n xs))) (position_or_len p (take n xs)) i e in
        let near = ltb-true (position_or_len p (take n xs)) (length (take n xs)) f.0 in
        let size = length-take-le n xs long in
        take-set-lt n xs i x (omega arith) ∙ sym (into (take n xs) near ∙ ap (λ k. set (take n xs) k x) f.1)

    -- and where none is, it comes behind the last
    pub noted_behind : (xs : List X) → position p xs ≡ None → noted p x xs ≡ xs ++ (x ∷ [])
    noted_behind xs e = behind xs (ltb-false (position_or_len p xs) (length xs) (past (ltb (position_or_len p xs) (length xs)) (position_or_len p xs) e))

  -- no place below the length: none passes
  none : (xs : List X) → length xs ≤ position_or_len p xs → list_any p xs ≡ false
  none [] h = refl
  none (y ∷ ys) h = go (none ys) (p y) h
    where
      go : (length ys ≤ position_or_len p ys → list_any p ys ≡ false) → (b : Bool) → suc (length ys) ≤ cond (not b) (1 + position_or_len p ys) 0 → (b || list_any p ys) ≡ false
      go r true h = absurd (omega arith)
      go r false h = r (omega arith)

  -- none is meant where no place is found
  pub none_meant : (xs : List X) → position p xs ≡ None → list_any p xs ≡ false
  none_meant xs e = none xs (ltb-false (position_or_len p xs) (length xs) (past (ltb (position_or_len p xs) (length xs)) (position_or_len p xs) e))
