-- The blocks of a file, cut off one after another.
use Rattle.std.proofs.Common.{◌≡◌, ℕ, zero, suc, ◌+◌, ◌-◌, ◌*◌, ◌<◌, ◌≤◌, List, [], length, get_or, take, drop, refl, ap, ◌∙◌, arith}
use Rattle.std.specs.Simd.{first_chunks}
use Rattle.std.proofs.lemmas.List.{drop-drop, length-take-le, length-drop, get_or-take, get_or-drop}
use Rattle.codec.specs.Blocks.{block_of}

pub chunk_is_block : (k : ℕ) (bytes : List ℕ) (b : ℕ) → b < k → get_or (first_chunks 512 k bytes) b [] ≡ block_of bytes b
unfolding block_of
chunk_is_block zero bytes b h = absurd (omega arith)
chunk_is_block (suc k) bytes zero h = refl
chunk_is_block (suc k) bytes (suc b) h =
    chunk_is_block k (drop 512 bytes) b (omega arith) ∙ ap (take 512) (drop-drop (512 * b) 512 bytes) ∙ ap (λ m. take 512 (drop m bytes)) (omega arith)

-- the blocks after the header, in a file of n doors
abbrev pub after_header : List (List ℕ) → List (List ℕ)
after_header blocks = take (length blocks - 1) (drop 1 blocks)

module _ (n : ℕ) (bytes : List ℕ) (blocks : List (List ℕ)) (size : length bytes ≡ 512 * (n + 1)) (within : 512 * length blocks ≤ length bytes) (whole : length bytes < 512 * (length blocks + 1)) where
  pub rows_count : length (after_header blocks) ≡ n
  rows_count = omega (arith, length-take-le (length blocks - 1) (drop 1 blocks) (omega (arith, length-drop 1 blocks)))

  pub row_is_block : (i : ℕ) → i < n → ((b : ℕ) → b < length blocks → get_or blocks b [] ≡ block_of bytes b) → get_or (after_header blocks) i [] ≡ block_of bytes (suc i)
  row_is_block i h each =
      get_or-take (length blocks - 1) (drop 1 blocks) i [] (omega arith) ∙ get_or-drop 1 blocks i [] ∙ ap (λ k. get_or blocks k []) (omega arith) ∙ each (suc i) (omega arith)
