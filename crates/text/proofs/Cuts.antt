-- Lists cut at the first byte that is a mark.
use Rattle.std.proofs.Common.{◌≡◌, ℕ, zero, suc, ◌^◌, ◌<◌, List, [], ◌∷◌, ◌++◌, ℤ, pos, negsuc, decimal, refl, arith}
use lib.Signed.{mag}
use Rattle.std.specs.Fmt.{signed_decimal}
use Rattle.std.proofs.lemmas.Fmt.{decimal_is_IsNumeral}
use Rattle.std.proofs.lemmas.Str.Parse.{digit_at}
use Rattle.text.specs.Reads.{Lacks}

pub lacks_rest : (mark c : ℕ) (cs : List ℕ) → Lacks mark (c ∷ cs) → Lacks mark cs
lacks_rest mark c cs h i l e = h (suc i) (omega arith) e

lacks_more : (mark c : ℕ) (cs : List ℕ) → (c ≡ mark → ⊥) → Lacks mark cs → Lacks mark (c ∷ cs)
lacks_more mark c cs n h zero l e = n e
lacks_more mark c cs n h (suc i) l e = h i (omega arith) e

-- a list is cut at its first mark in one way
pub one_cut : (mark : ℕ) (a b a' b' : List ℕ) → a ++ (mark ∷ b) ≡ a' ++ (mark ∷ b') → Lacks mark a → Lacks mark a' → (a ≡ a') × (b ≡ b')
one_cut mark [] b [] b' e h h' = (refl, cc)
one_cut mark [] b (c ∷ a') b' e h h' = absurd (h' 0 (omega arith) (cc))
one_cut mark (c ∷ a) b [] b' e h h' = absurd (h 0 (omega arith) (cc))
one_cut mark (c ∷ a) b (c' ∷ a') b' e h h' =
    let rest = one_cut mark a b a' b' (cc) (lacks_rest mark c a h) (lacks_rest mark c' a' h') in
    let first : c ≡ c' = cc in
    ((λ i. first i ∷ rest.0 i), rest.1)

-- a list with a mark does not lack it
pub has_mark : (mark : ℕ) (a b : List ℕ) → Lacks mark (a ++ (mark ∷ b)) → ⊥
has_mark mark [] b h = h 0 (omega arith) refl
has_mark mark (c ∷ a) b h = has_mark mark a b (lacks_rest mark c (a ++ (mark ∷ b)) h)

-- what is written of a number holds no byte below the digits but the sign
pub decimal_lacks : (mark n : ℕ) → mark < 48 → n < 2 ^ 64 → Lacks mark (decimal n)
decimal_lacks mark n h small i l e = omega (arith, (digit_at (decimal n) i (decimal_is_IsNumeral n small).0.1 l).0)

pub signed_lacks : (mark : ℕ) (z : ℤ) → mark < 45 → mag z < 2 ^ 63 → Lacks mark (signed_decimal z)
signed_lacks mark (pos n) h small = decimal_lacks mark n (omega arith) (omega arith)
signed_lacks mark (negsuc n) h small = lacks_more mark 45 (decimal (suc n)) (λ e. omega arith) (decimal_lacks mark (suc n) (omega arith) (omega arith))
