-- A file baked block by block, from the header on: what the output holds so far.
use Rattle.std.proofs.Common.{◌≡◌, ℕ, zero, suc, ◌+◌, ◌*◌, ◌<◌, ◌≤◌, List, [], ◌∷◌, ◌++◌, length, take, Ok, Err, Result, sym, ap, ◌∙◌, arith}
use borrow.Rule.Slice.PartMut.{put_mid}
use Rattle.std.proofs.lemmas.List.{append_assoc, append-nil, take_all, take_at}
use Rattle.std.proofs.lemmas.Slice.{take-put_mid}
use Rattle.faults.specs.declared.Fault.{Fault}
use Rattle.matching.specs.Lists.{row}
use Rattle.codec.specs.Blocks.{header, row_block, row_blocks, baking}
use Rattle.codec.specs.Verdicts.{Written}
use Rattle.codec.proofs.Headers.{length_header}
use Rattle.codec.proofs.DoorBlocks.{length_row}

-- the header and the blocks of the first d doors are written
abbrev pub BakedTo : ℕ → List (List ℕ) → List ℕ → Type 0
BakedTo d ls out = take (512 * (d + 1)) out ≡ header (length ls) ++ row_blocks 0 (take d ls)

-- a block that fits was written
pub written_fits : {Fits : Type 0} (made old new : List ℕ) (r : Result (Unit {0}) Fault) → Written Fits made old new r → Fits → new ≡ made
written_fits made old new (Ok _) w h = w.1
written_fits made old new (Err f) w h = absurd (w.0 h)

-- after the header
pub bake_none : (n : ℕ) (ls : List (List ℕ)) (block rest : List ℕ) → n ≡ length ls → block ≡ header n → BakedTo 0 ls (block ++ rest)
unfolding row_blocks
bake_none n ls block rest e b =
    take_at block rest 512 (ap length b ∙ length_header n) ∙ b ∙ ap header e ∙ sym (append-nil (header (length ls)))

-- the blocks of one door more
pub rows_more : (d e : ℕ) (ls : List (List ℕ)) → e < length ls → row_blocks d (take (suc e) ls) ≡ row_blocks d (take e ls) ++ row_block (d + e) (row ls e)
unfolding row_blocks
rows_more d e [] h = absurd (omega arith)
rows_more d zero (l ∷ ls) h = append-nil (row_block d l) ∙ ap (λ k. row_block k l) (omega arith)
rows_more d (suc e) (l ∷ ls) h =
    ap (λ s. row_block d l ++ s) (rows_more (suc d) e ls (omega arith)) ∙ sym (append_assoc (row_block d l) (row_blocks (suc d) (take e ls)) (row_block (suc d + e) (row ls e))) ∙ ap (λ k. (row_block d l ++ row_blocks (suc d) (take e ls)) ++ row_block k (row ls e)) (omega arith)

-- after the block of door d, written over k bytes at 512 * (d + 1)
pub bake_more : (d at k : ℕ) (ls : List (List ℕ)) (l out block : List ℕ) → at ≡ 512 * (d + 1) → at ≤ length out → d < length ls → l ≡ row ls d → length l ≤ 507 → block ≡ row_block d l → BakedTo d ls out → BakedTo (d + 1) ls (put_mid at k out block)
bake_more d at k ls l out block here room near e short b sofar =
    let front = header (length ls) in
    let rows = row_blocks 0 (take d ls) in
    let long : length block ≡ 512 = ap length b ∙ length_row d l short in
    let next : suc d ≡ d + 1 = omega arith in
    let same : block ≡ row_block (0 + d) (row ls d) = b ∙ ap (row_block d) e ∙ ap (λ k. row_block k (row ls d)) (omega arith) in
    take-put_mid at k out block (512 * ((d + 1) + 1)) (omega arith) room
    ∙ ap (λ m. take m out ++ block) here
    ∙ ap (λ s. s ++ block) sofar
    ∙ append_assoc front rows block
    ∙ ap (λ s. front ++ (rows ++ s)) same
    ∙ ap (λ s. front ++ s) (sym (rows_more 0 d ls near))
    ∙ ap (λ m. front ++ row_blocks 0 (take m ls)) next

-- at the end
pub bake_all : (n : ℕ) (ls : List (List ℕ)) (out : List ℕ) → length ls ≡ n → length out ≡ 512 * (n + 1) → BakedTo n ls out → out ≡ baking ls
unfolding baking
bake_all n ls out count long e = sym (take_all (512 * (n + 1)) out (omega arith)) ∙ e ∙ ap (λ ts. header (length ls) ++ row_blocks 0 ts) (take_all n ls (omega arith))
