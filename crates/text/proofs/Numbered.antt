-- Doors and their partners walked together, with a number for each pair.
use Rattle.std.proofs.Common.{◌≡◌, ℕ, ◌+◌, ◌<◌, min, Bool, List, [], ◌∷◌, map, length, get_or, Some, None, Option, Iter, sym, ap, ◌∙◌, subst, arith}
use Rattle.std.specs.Borrow.{Bor}
use Rattle.std.specs.Iterator.{Yields}
use Rattle.std.specs.Iterator.Adapters.{enumerate_count, enumerate_source, enumerate_steps, zip_first, zip_second}
use Rattle.std.specs.Slice.Iter.{iter_rest}
use Rattle.std.specs.declared.iter.Enumerate.{Enumerate}
use Rattle.std.specs.declared.iter.Zip.{Zip}
use Rattle.std.proofs.iter.Yields.{fronts}
use Rattle.std.proofs.lemmas.Iterator.{zips}
use Rattle.std.proofs.lemmas.List.{length-map}
use Rattle.std.proofs.lemmas.Slice.Zip.{zip_turn, zip_end}

abbrev Pairs : Type 0
Pairs = Enumerate (Zip (Iter Bool) (Iter ℕ))

abbrev steps : Pairs → Option (ℕ × (Bor Bool × Bor ℕ)) → Pairs → Type 0
steps = enumerate_steps (zips fronts fronts)

abbrev pairs_of : List (ℕ × (Bor Bool × Bor ℕ)) → List (Bor Bool × Bor ℕ)
pairs_of xs = map (λ x. x.1) xs

so_far : (xs : List (ℕ × (Bor Bool × Bor ℕ))) (s t : Pairs) → Yields steps s xs t
    → Yields (zips fronts fronts) (enumerate_source s) (pairs_of xs) (enumerate_source t) × (enumerate_count t ≡ enumerate_count s + length xs)
so_far [] s t y = (ap enumerate_source y, omega (arith, ap enumerate_count y))
so_far (x ∷ xs) s t y = let rest = so_far xs y.0 t y.2 in ((enumerate_source y.0, y.1.0, rest.0), omega (arith, rest.1, y.1.2))

module _ (ks : List Bool) (vs : List ℕ) (xs : List (ℕ × (Bor Bool × Bor ℕ))) (s t u : Pairs) (r : Option (ℕ × (Bor Bool × Bor ℕ)))
    (first : iter_rest (zip_first (enumerate_source s)) ≡ ks) (second : iter_rest (zip_second (enumerate_source s)) ≡ vs) (zero : enumerate_count s ≡ 0) (y : Yields steps s xs t) where
  same_length : length (pairs_of xs) ≡ length xs
  same_length = length-map xs (λ x. x.1)

  -- the pair that comes, and its number
  pub pair_turn : (x : ℕ × (Bor Bool × Bor ℕ)) → r ≡ Some x → steps t r u
      → (length xs < length ks) × (length xs < length vs) × (x.0 ≡ length xs) × ((d : Bool) → x.1.0.now ≡ get_or ks (length xs) d) × ((d : ℕ) → x.1.1.now ≡ get_or vs (length xs) d)
  pair_turn x e h =
      let far = so_far xs s t y in
      let step : steps t (Some x) u = subst (λ q. steps t q u) e h in
      let turn = zip_turn ks vs (pairs_of xs) (enumerate_source s) (enumerate_source t) (enumerate_source u) (Some x.1) first second far.0 x.1 (λ i. Some x.1) step.0 in (
        omega (arith, turn.0, same_length),
        omega (arith, turn.1, same_length),
        omega (arith, step.1, far.1),
        (λ d. turn.2 d ∙ ap (λ n. get_or ks n d) same_length),
        λ d. turn.3 d ∙ ap (λ n. get_or vs n d) same_length,
      )

  -- one of the slices is at its end
  pub pair_end : r ≡ None → steps t r u → length xs ≡ min (length ks) (length vs)
  pair_end e h =
      let far = so_far xs s t y in
      let step : steps t None u = subst (λ q. steps t q u) e h in
      sym same_length ∙ zip_end ks vs (pairs_of xs) (enumerate_source s) (enumerate_source t) (enumerate_source u) None first second far.0 (λ i. None) step.0
