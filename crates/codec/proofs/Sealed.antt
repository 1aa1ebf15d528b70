-- Sealed blocks: what they hold, and how one is recognised.
use Rattle.std.proofs.Common.{◌≡◌, ℕ, zero, suc, ◌-◌, ◌/◌, ◌%◌, ◌<◌, ◌≤◌, true, eqb, List, [], ◌∷◌, ◌++◌, length, get_or, take, drop, sym, refl, ap, ◌∙◌, arith}
use Rattle.std.proofs.lemmas.List.{length-append, length-replicate, length-drop, get_or_append_left, get_or-append_right, take_at, take_all, take-append-drop, get_or-take, get_or-drop, ext_get_or, length-take-le}
use Rattle.std.proofs.lemmas.Bool.{and_from, and_parts, eq-eqb, eqb-true}
use Rattle.codec.specs.Blocks.{weighed, block_check, low_high, zeros, padded, sealed}
use Rattle.codec.specs.Findings.{checked}

-- zeros after a list read as nothing
get_or_zeros : (k i : ℕ) → get_or (zeros k) i 0 ≡ 0
get_or_zeros zero i = refl
get_or_zeros (suc k) zero = refl
get_or_zeros (suc k) (suc i) = get_or_zeros k i

get_or_more_zeros : (bs : List ℕ) (k i : ℕ) → get_or (bs ++ zeros k) i 0 ≡ get_or bs i 0
get_or_more_zeros [] k i = get_or_zeros k i
get_or_more_zeros (b ∷ bs) k zero = refl
get_or_more_zeros (b ∷ bs) k (suc i) = get_or_more_zeros bs k i

pub length_padded : (bs : List ℕ) → length bs ≤ 510 → length (padded bs) ≡ 510
unfolding padded
length_padded bs h = omega (arith, length-append bs (zeros (510 - length bs)), length-replicate {A = ℕ} (510 - length bs) 0)

pub length_sealed : (bs : List ℕ) → length bs ≤ 510 → length (sealed bs) ≡ 512
unfolding sealed
length_sealed bs h = omega (arith, length-append (padded bs) (low_high (block_check (padded bs))), length_padded bs h)

-- the bytes before the check
pub get_or_sealed : (bs : List ℕ) → length bs ≤ 510 → (i : ℕ) → i < 510 → get_or (sealed bs) i 0 ≡ get_or bs i 0
unfolding sealed padded
get_or_sealed bs h i l =
    get_or_append_left (padded bs) (low_high (block_check (padded bs))) 0 i (omega (arith, length_padded bs h)) ∙ get_or_more_zeros bs (510 - length bs) i

-- the check does not see the bytes after the first 510
pub check_of_body : (body rest : List ℕ) → length body ≡ 510 → block_check (body ++ rest) ≡ block_check body
unfolding block_check
check_of_body body rest h = ap (λ s. weighed 1 s % 65521) (take_at body rest 510 h ∙ sym (take_all 510 body (omega arith)))

pub check_sealed : (bs : List ℕ) → length bs ≤ 510 → block_check (sealed bs) ≡ block_check (padded bs)
unfolding sealed
check_sealed bs h = check_of_body (padded bs) (low_high (block_check (padded bs))) (length_padded bs h)

pub sealed_checked : (bs : List ℕ) → length bs ≤ 510 → checked (sealed bs) ≡ true
unfolding checked sealed
sealed_checked bs h =
    let n = block_check (padded bs) in
    let at : (i : ℕ) → 510 ≤ i → get_or (padded bs ++ low_high n) i 0 ≡ get_or (low_high n) (i - 510) 0 = λ i l. get_or-append_right (padded bs) (low_high n) 510 i 0 (length_padded bs h) l in
    and_from (eqb (get_or (sealed bs) 510 0) (block_check (sealed bs) % 256)) (eqb (get_or (sealed bs) 511 0) (block_check (sealed bs) / 256))
    (eq-eqb (get_or (sealed bs) 510 0) (block_check (sealed bs) % 256) (at 510 (omega arith) ∙ ap (λ m. m % 256) (sym (check_sealed bs h))))
    (eq-eqb (get_or (sealed bs) 511 0) (block_check (sealed bs) / 256) (at 511 (omega arith) ∙ ap (λ m. m / 256) (sym (check_sealed bs h))))

-- two bytes are all of a list that is two long
two_long : (s : List ℕ) (a b : ℕ) → length s ≡ 2 → get_or s 0 0 ≡ a → get_or s 1 0 ≡ b → s ≡ a ∷ b ∷ []
two_long [] a b h p q = absurd (omega arith)
two_long (x ∷ []) a b h p q = absurd (omega arith)
two_long (x ∷ y ∷ []) a b h p q = cc
two_long (x ∷ y ∷ z ∷ s) a b h p q = absurd (omega arith)

-- a block that holds these bytes, zeros and its check is the sealed block of them
pub sealed_from_checked : (bs block : List ℕ) → length bs ≤ 510 → length block ≡ 512 → ((i : ℕ) → i < 510 → get_or block i 0 ≡ get_or bs i 0) → checked block ≡ true → block ≡ sealed bs
unfolding sealed checked padded
sealed_from_checked bs block h l same ok =
    let two = and_parts (eqb (get_or block 510 0) (block_check block % 256)) (eqb (get_or block 511 0) (block_check block / 256)) ok in
    let long : length (take 510 block) ≡ 510 = length-take-le 510 block (omega arith) in
    let front : take 510 block ≡ padded bs =
    ext_get_or 0 (take 510 block) (padded bs) (long ∙ sym (length_padded bs h))
    (λ i k. let j : i < 510 = omega arith in get_or-take 510 block i 0 j ∙ same i j ∙ sym (get_or_more_zeros bs (510 - length bs) i)) in
    let check : block_check block ≡ block_check (padded bs) =
    ap block_check (sym (take-append-drop 510 block)) ∙ check_of_body (take 510 block) (drop 510 block) long ∙ ap block_check front in
    let back : drop 510 block ≡ low_high (block_check block) =
    two_long (drop 510 block) (block_check block % 256) (block_check block / 256) (omega (arith, length-drop 510 block))
    (get_or-drop 510 block 0 0 ∙ eqb-true (get_or block 510 0) (block_check block % 256) two.0) (get_or-drop 510 block 1 0 ∙ eqb-true (get_or block 511 0) (block_check block / 256) two.1) in
    sym (take-append-drop 510 block) ∙ ap (λ s. s ++ drop 510 block) front ∙ ap (λ s. padded bs ++ s) (back ∙ ap low_high check)
