-- The blocks of a baking, and a baking from its blocks.
use Rattle.std.proofs.Common.{◌≡◌, ℕ, zero, suc, ◌+◌, ◌*◌, ◌<◌, ◌≤◌, List, [], ◌∷◌, ◌++◌, length, get_or, take, drop, sym, refl, ap, ◌∙◌, arith}
use Rattle.std.proofs.lemmas.List.{length-append, length-drop, length-take-le, take-append-drop, take_at, drop_at, drop-drop, get_or_append_left, nil_from_length, ext_get_or}
use Rattle.matching.specs.Lists.{row}
use Rattle.codec.specs.Blocks.{header, row_block, row_blocks, baking, block_of, list_in}
use Rattle.codec.proofs.Headers.{length_header, header_doors}
use Rattle.codec.proofs.DoorBlocks.{length_row, list_of_row}

-- every list fits a block
abbrev pub Short : List (List ℕ) → Type 0
Short ls = (d : ℕ) → length (row ls d) ≤ 507

tail_short : (l : List ℕ) (ls : List (List ℕ)) → Short (l ∷ ls) → Short ls
tail_short l ls h d = h (suc d)

-- the block after the first of a file is a block of what follows the first
pub block_after : (front bytes : List ℕ) (b : ℕ) → length front ≡ 512 → block_of (front ++ bytes) (suc b) ≡ block_of bytes b
unfolding block_of
block_after front bytes b h =
    let far : 512 * suc b ≡ 512 + 512 * b = omega arith in
    ap (λ m. take 512 (drop m (front ++ bytes))) far ∙ ap (take 512) (sym (drop-drop (512 * b) 512 (front ++ bytes))) ∙ ap (λ s. take 512 (drop (512 * b) s)) (drop_at front bytes 512 h)

pub block_first : (front bytes : List ℕ) → length front ≡ 512 → block_of (front ++ bytes) 0 ≡ front
unfolding block_of
block_first front bytes h = take_at front bytes 512 h

pub length_rows : (d : ℕ) (ls : List (List ℕ)) → Short ls → length (row_blocks d ls) ≡ 512 * length ls
unfolding row_blocks
length_rows d [] h = refl
length_rows d (l ∷ ls) h = omega (arith, length-append (row_block d l) (row_blocks (suc d) ls), length_row d l (h 0), length_rows (suc d) ls (tail_short l ls h))

pub block_rows : (d : ℕ) (ls : List (List ℕ)) → Short ls → (k : ℕ) → k < length ls → block_of (row_blocks d ls) k ≡ row_block (d + k) (row ls k)
unfolding row_blocks
block_rows d [] h k l = absurd (omega arith)
block_rows d (x ∷ ls) h zero l = block_first (row_block d x) (row_blocks (suc d) ls) (length_row d x (h 0)) ∙ ap (λ e. row_block e x) (omega arith)
block_rows d (x ∷ ls) h (suc k) l =
    block_after (row_block d x) (row_blocks (suc d) ls) k (length_row d x (h 0)) ∙ block_rows (suc d) ls (tail_short x ls h) k (omega arith) ∙ ap (λ e. row_block e (row ls k)) (omega arith)

-- bytes whose blocks are those of the lists are their blocks
pub rows_from_blocks : (d : ℕ) (ls : List (List ℕ)) (bytes : List ℕ) → length bytes ≡ 512 * length ls → ((k : ℕ) → k < length ls → block_of bytes k ≡ row_block (d + k) (row ls k)) → bytes ≡ row_blocks d ls
unfolding row_blocks block_of
rows_from_blocks d [] bytes l h = nil_from_length bytes l
rows_from_blocks d (x ∷ ls) bytes l h =
    let rest = drop 512 bytes in
    let first : take 512 bytes ≡ row_block d x = h 0 (omega arith) ∙ ap (λ e. row_block e x) (omega arith) in
    let whole : take 512 bytes ++ rest ≡ bytes = take-append-drop 512 bytes in
    let more : rest ≡ row_blocks (suc d) ls =
    rows_from_blocks (suc d) ls rest (omega (arith, length-drop 512 bytes))
    (λ k b. sym (block_after (take 512 bytes) rest k (length-take-le 512 bytes (omega arith))) ∙ ap (λ s. block_of s (suc k)) whole ∙ h (suc k) (omega arith) ∙ ap (λ e. row_block e (row ls k)) (omega arith)) in
    sym whole ∙ ap (λ s. s ++ rest) first ∙ ap (λ s. row_block d x ++ s) more

-- the blocks of a baking
pub length_baking : (ls : List (List ℕ)) → Short ls → length (baking ls) ≡ 512 * (length ls + 1)
unfolding baking
length_baking ls h = omega (arith, length-append (header (length ls)) (row_blocks 0 ls), length_header (length ls), length_rows 0 ls h)

pub baking_header : (ls : List (List ℕ)) → block_of (baking ls) 0 ≡ header (length ls)
unfolding baking
baking_header ls = block_first (header (length ls)) (row_blocks 0 ls) (length_header (length ls))

pub baking_row : (ls : List (List ℕ)) → Short ls → (d : ℕ) → d < length ls → block_of (baking ls) (suc d) ≡ row_block d (row ls d)
unfolding baking
baking_row ls h d l =
    block_after (header (length ls)) (row_blocks 0 ls) d (length_header (length ls)) ∙ block_rows 0 ls h d l ∙ ap (λ e. row_block e (row ls d)) (omega arith)

pub baking_doors : (ls : List (List ℕ)) → get_or (baking ls) 5 0 ≡ length ls
unfolding baking
baking_doors ls = get_or_append_left (header (length ls)) (row_blocks 0 ls) 0 5 (omega (arith, length_header (length ls))) ∙ header_doors (length ls)

-- and a baking from its blocks
pub baking_from_blocks : (ls : List (List ℕ)) (bytes : List ℕ) → length bytes ≡ 512 * (length ls + 1) → block_of bytes 0 ≡ header (length ls) → ((d : ℕ) → d < length ls → block_of bytes (suc d) ≡ row_block d (row ls d)) → bytes ≡ baking ls
unfolding baking block_of
baking_from_blocks ls bytes l first h =
    let rest = drop 512 bytes in
    let whole : take 512 bytes ++ rest ≡ bytes = take-append-drop 512 bytes in
    let more : rest ≡ row_blocks 0 ls =
    rows_from_blocks 0 ls rest (omega (arith, length-drop 512 bytes))
    (λ k b. sym (block_after (take 512 bytes) rest k (length-take-le 512 bytes (omega arith))) ∙ ap (λ s. block_of s (suc k)) whole ∙ h k b ∙ ap (λ e. row_block e (row ls k)) (omega arith)) in
    sym whole ∙ ap (λ s. s ++ rest) first ∙ ap (λ s. header (length ls) ++ s) more

-- different lists have different files
pub baking_apart : (ks ls : List (List ℕ)) → Short ks → Short ls → baking ks ≡ baking ls → ks ≡ ls
baking_apart ks ls a b e =
    let count : length ks ≡ length ls = sym (baking_doors ks) ∙ ap (λ s. get_or s 5 0) e ∙ baking_doors ls in
    let row_at : (ts : List (List ℕ)) → Short ts → (d : ℕ) → d < length ts → list_in (block_of (baking ts) (suc d)) ≡ row ts d = λ ts short d l. ap list_in (baking_row ts short d l) ∙ list_of_row d (row ts d) (short d) in
    ext_get_or [] ks ls count (λ d l. sym (row_at ks a d l) ∙ ap (λ s. list_in (block_of s (suc d))) e ∙ row_at ls b d (omega arith))
