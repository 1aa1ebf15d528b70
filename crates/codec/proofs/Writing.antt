-- A block written part by part.
use Rattle.std.proofs.Common.{◌≡◌, ℕ, ◌+◌, ◌-◌, ◌≤◌, List, [], ◌++◌, length, take, drop, sym, refl, ap, ◌∙◌, append_assoc, arith}
use borrow.Rule.Slice.PartMut.{put_mid, post_of}
use Rattle.std.proofs.lemmas.List.{length-append, length-replicate, length-drop, take_at, take-append-drop, append-nil, nil_from_length}
use Rattle.codec.specs.Blocks.{zeros, low_high, block_check, padded, sealed}
use Rattle.codec.proofs.Sealed.{length_padded, check_of_body}

-- a part written after what is there
put_at : (a k : ℕ) (u v ys : List ℕ) → length u ≡ a → put_mid a k (u ++ v) ys ≡ (u ++ ys) ++ post_of a k (u ++ v)
put_at a k u v ys h = ap (λ s. s ++ (ys ++ post_of a k (u ++ v))) (take_at u v a h) ∙ sym (append_assoc u ys (post_of a k (u ++ v)))

-- two parts and zeros, one after another: s and t are what was written of h and l
pub body_laid : (h l s t z p : List ℕ) (a k j m : ℕ) → s ≡ h → t ≡ l → a ≡ length h + length l → a ≤ 510 → z ≡ zeros m → length z ≡ 510 - a → take 510 (put_mid a j (put_mid (length h) k (s ++ p) t) z) ≡ padded (h ++ l)
unfolding padded
body_laid h l s t z p a k j m eh el e few zs long =
    let two = length-append h l in
    let q = post_of (length h) k (h ++ p) in
    let count : m ≡ 510 - length (h ++ l) = omega (arith, two, ap length zs, length-replicate {A = ℕ} m 0) in
    ap (λ s. take 510 (put_mid a j (put_mid (length h) k (s ++ p) t) z)) eh
    ∙ ap (λ t. take 510 (put_mid a j (put_mid (length h) k (h ++ p) t) z)) el
    ∙ ap (λ s. take 510 (put_mid a j s z)) (put_at (length h) k h p l refl)
    ∙ ap (take 510) (put_at a j (h ++ l) q z (two ∙ sym e))
    ∙ take_at ((h ++ l) ++ z) (post_of a j ((h ++ l) ++ q)) 510 (omega (arith, two, length-append (h ++ l) z))
    ∙ ap (λ s. (h ++ l) ++ s) (zs ∙ ap zeros count)

-- two bytes written at the end
pub end_put : (block s t : List ℕ) → length block ≡ 512 → s ≡ t → put_mid 510 2 block s ≡ take 510 block ++ t
end_put block s t h e =
    let none : post_of 510 2 block ≡ [] = nil_from_length (post_of 510 2 block) (omega (arith, length-drop 2 (drop 510 block), length-drop 510 block)) in
    ap (λ u. take 510 block ++ (s ++ u)) none ∙ ap (λ u. take 510 block ++ u) (append-nil s ∙ e)

-- a body of the right bytes, in two parts, with its check is a sealed block
pub sealed_body : (h l block : List ℕ) → length h + length l ≤ 510 → length block ≡ 512 → take 510 block ≡ padded (h ++ l) → take 510 block ++ low_high (block_check block) ≡ sealed (h ++ l)
unfolding sealed
sealed_body h l block few long e =
    let check : block_check block ≡ block_check (padded (h ++ l)) =
    ap block_check (sym (take-append-drop 510 block)) ∙ ap (λ s. block_check (s ++ drop 510 block)) e ∙ check_of_body (padded (h ++ l)) (drop 510 block) (length_padded (h ++ l) (omega (arith, length-append h l))) in
    ap (λ s. s ++ low_high (block_check block)) e ∙ ap (λ n. padded (h ++ l) ++ low_high n) check
