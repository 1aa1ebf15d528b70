-- Numbers cut down to a smaller type, and numbers with a sign.
use Rattle.std.proofs.Common.{◌≡◌, ℕ, suc, ◌-◌, ◌^◌, ◌<◌, ◌≤◌, List, ◌∷◌, length, get_or, take, drop, ℤ, pos, negsuc, Some, None, Ok, Err, decimal, Option, Result, sym, ap, ◌∙◌, subst, ⊎_elim, arith, w16, SFits}
use lib.Signed.{mag}
use Rattle.std.specs.Result.{OkIff, result_ok}
use Rattle.std.specs.Fmt.{signed_decimal}
use Rattle.std.proofs.lemmas.Fmt.{decimal_injective, first_decimal, decimal_digit}
use Rattle.std.proofs.lemmas.Slice.{first_rest}
use Rattle.std.proofs.lemmas.Bool.{cases_lt}
use Rattle.text.specs.Digits.{Negated}
use Rattle.text.specs.Reads.{ReadsBelow, ReadsSigned16}

-- a number that is read is read below a smaller limit where it is below it
pub read_smaller : {E : Type 0} (limit n : ℕ) (bs : List ℕ) (q : Result ℕ E) → limit ≤ 2 ^ 32 → ReadsBelow (2 ^ 32) bs (Some n) → OkIff q (n < limit) n → ReadsBelow limit bs (result_ok q)
read_smaller limit n bs (Ok x) h r t = (omega (arith, t.0, t.1), r.1 ∙ ap decimal (sym t.1))
read_smaller limit n bs (Err e) h r t = λ m small w. t (omega (arith, decimal_injective n m (omega (arith, r.0)) (omega arith) (sym r.1 ∙ w)))

no_minus : (n : ℕ) (ds : List ℕ) → n < 2 ^ 64 → decimal n ≡ 45 ∷ ds → ⊥
no_minus n ds h w =
    ⊎_elim
    (λ (p : 0 < n). omega (arith, ap (λ l. get_or l 0 0) w, first_decimal n p h))
    (λ (p : n ≤ 0). omega (arith, ap (λ l. get_or l 0 0) (sym (decimal_digit n (omega arith)) ∙ w)))
    (cases_lt 0 n)

-- a text without a sign
pub read_plain : {E : Type 0} (n : ℕ) (bs : List ℕ) (q : Result ℤ E) → ReadsBelow (2 ^ 32) bs (Some n) → OkIff q (SFits w16 (pos n)) (pos n) → ReadsSigned16 bs (result_ok q)
read_plain n bs (Ok x) r t = (subst (λ z. mag z < 2 ^ 15) (sym t.1) t.0.sfits, r.1 ∙ ap signed_decimal (sym t.1))
read_plain n bs (Err e) r t = λ z small w. not_plain z small w where
  not_plain : (z : ℤ) → mag z < 2 ^ 15 → bs ≡ signed_decimal z → ⊥
  not_plain (pos m) small w = t (record { sfits = omega (arith, decimal_injective n m (omega (arith, r.0)) (omega arith) (sym r.1 ∙ w)) })
  not_plain (negsuc m) small w = no_minus n (decimal (suc m)) (omega (arith, r.0)) (sym r.1 ∙ w)

-- a text with a sign
pub split_minus : (bs : List ℕ) → 0 < length bs → get_or bs 0 0 ≡ 45 → bs ≡ 45 ∷ take (length bs - 1) (drop 1 bs)
split_minus bs h e = first_rest bs 0 h ∙ ap (λ b. b ∷ take (length bs - 1) (drop 1 bs)) e

module _ (bs ds : List ℕ) (split : bs ≡ 45 ∷ ds) where
  unread : ((m : ℕ) → m < 2 ^ 15 → ds ≡ decimal (suc m) → ⊥) → ReadsSigned16 bs None
  unread no' (pos m) small w = no_minus m ds (omega arith) (sym w ∙ split)
  unread no' (negsuc m) small w = let same : 45 ∷ ds ≡ 45 ∷ decimal (suc m) = sym split ∙ w in no' m small (cc same)

  pub read_minus : (n : ℕ) (r : Option ℤ) → ReadsBelow (2 ^ 32) ds (Some n) → Negated n r → ReadsSigned16 bs r
  read_minus n (Some z) r t = (
    subst (λ y. mag y < 2 ^ 15) (sym t.3) t.2,
    split ∙ ap (λ l. 45 ∷ l) (r.1 ∙ ap decimal t.1) ∙ ap signed_decimal (sym t.3),
  )
  read_minus n None r t = unread (λ m small w. omega (arith, t m (decimal_injective n (suc m) (omega (arith, r.0)) (omega arith) (sym r.1 ∙ w))))

  pub read_minus_none : ReadsBelow (2 ^ 32) ds None → ReadsSigned16 bs None
  read_minus_none r = unread (λ m small w. r (suc m) (omega arith) w)
