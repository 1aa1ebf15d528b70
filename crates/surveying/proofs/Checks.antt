-- The checks of a file, block by block.
use Rattle.std.proofs.Common.{◌≡◌, ℕ, suc, ◌+◌, ◌*◌, ◌≤◌, List, [], ◌∷◌, ◌++◌, length, take, drop, Some, None, Option, sym, ap, ◌∙◌, subst, arith}
use Rattle.std.specs.Borrow.{Bor}
use Rattle.std.specs.Iterator.{Yields}
use Rattle.std.specs.Iterator.Adapters.{enumerate_count, enumerate_source, enumerate_steps}
use Rattle.std.specs.List.{range_with_len, flat_map}
use Rattle.std.specs.Slice.Iter.{chunks_exact_rest, chunks_exact_size, chunks_exact_steps}
use Rattle.std.specs.declared.iter.Enumerate.{Enumerate}
use Rattle.std.specs.declared.slice.ChunksExact.{ChunksExact}
use Rattle.std.proofs.lemmas.List.FromFn.{map-range_with_len_more}
use Rattle.std.proofs.lemmas.List.{flat_map_more, map-id, length-append, length-drop, take_at, drop_at, drop-drop}
use Rattle.codec.specs.Blocks.{block_of}
use Rattle.surveying.specs.Summary.{blocks_of, check_line, check_lines}

counting_more : (n : ℕ) → range_with_len 0 (n + 1) ≡ range_with_len 0 n ++ (n ∷ [])
counting_more n =
    sym (map-id (range_with_len 0 (n + 1))) ∙ map-range_with_len_more (λ (x : ℕ). x) 0 n n (omega arith) ∙ ap (λ l. l ++ (n ∷ [])) (map-id (range_with_len 0 n))

pub checks_more : (file : List ℕ) (n : ℕ) → check_lines file n ++ check_line file n ≡ check_lines file (n + 1)
checks_more file n = flat_map_more (check_line file) [] (range_with_len 0 n) n ∙ ap (flat_map (check_line file)) (sym (counting_more n))

abbrev Blocks : Type 0
Blocks = Enumerate (ChunksExact ℕ)

abbrev steps : Blocks → Option (ℕ × Bor (List ℕ)) → Blocks → Type 0
steps = enumerate_steps chunks_exact_steps

abbrev left : Blocks → List ℕ
left s = chunks_exact_rest (enumerate_source s)

abbrev size : Blocks → ℕ
size s = chunks_exact_size (enumerate_source s)

-- some blocks have come, and the file is left behind them
record SoFar (n : ℕ) (s t : Blocks) : Type 0 where
  pub rest : left t ≡ drop (512 * n) (left s)
  pub whole : size t ≡ 512
  pub count : enumerate_count t ≡ enumerate_count s + n
  pub within : 512 * n ≤ length (left s)

one_before : (x : ℕ × Bor (List ℕ)) (s j t : Blocks) (n : ℕ) → size s ≡ 512 → steps s (Some x) j → SoFar n j t → SoFar (suc n) s t
one_before x s j t n e step far =
    let long : length x.1.now ≡ 512 = step.0.1.1 ∙ e in
    let next : left j ≡ drop 512 (left s) = sym (ap (drop 512) step.0.1.0 ∙ drop_at x.1.now (left j) 512 long) in
    let more : 512 + 512 * n ≡ 512 * suc n = omega arith in
    record {
      rest = far.rest ∙ ap (drop (512 * n)) next ∙ drop-drop (512 * n) 512 (left s) ∙ ap (λ k. drop k (left s)) more;
      whole = far.whole;
      count = omega (arith, far.count, step.2);
      within = omega (arith, far.within, long, ap length step.0.1.0 ∙ length-append x.1.now (left j));
    }

so_far : (xs : List (ℕ × Bor (List ℕ))) (s t : Blocks) → size s ≡ 512 → Yields steps s xs t → SoFar (length xs) s t
so_far [] s t e y = record { rest = ap left (sym y); whole = ap size (sym y) ∙ e; count = omega (arith, ap enumerate_count y); within = omega arith }
so_far (x ∷ xs) s t e y = one_before x s y.0 t (length xs) e y.1 (so_far xs y.0 t (y.1.0.0 ∙ e) y.2)

module _ (file : List ℕ) (xs : List (ℕ × Bor (List ℕ))) (s t u : Blocks) (r : Option (ℕ × Bor (List ℕ)))
    (whole : left s ≡ file) (blocks : size s ≡ 512) (zero : enumerate_count s ≡ 0) (y : Yields steps s xs t) where
  -- the block that comes, and its number
  pub block_turn : (x : ℕ × Bor (List ℕ)) → r ≡ Some x → steps t r u → (x.0 ≡ length xs) × (x.1.now ≡ block_of file (length xs))
  unfolding block_of
  block_turn x e h =
      let far = so_far xs s t blocks y in
      let step : steps t (Some x) u = subst (λ q. steps t q u) e h in
      let long : length x.1.now ≡ 512 = step.0.1.1 ∙ far.whole in
      (omega (arith, step.1, far.count), sym (take_at x.1.now (left u) 512 long) ∙ ap (take 512) (sym step.0.1.0 ∙ far.rest ∙ ap (drop (512 * length xs)) whole))

  -- less than a block is left
  pub block_end : r ≡ None → steps t r u → length xs ≡ blocks_of file
  block_end e h =
      let far = so_far xs s t blocks y in
      let step : steps t None u = subst (λ q. steps t q u) e h in
      omega (arith, step.0.1.0, far.whole, far.within, ap length far.rest, length-drop (512 * length xs) (left s), ap length whole)
