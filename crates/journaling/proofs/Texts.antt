-- The texts of calls, part by part.
use Rattle.std.proofs.Common.{◌≡◌, ℕ, zero, suc, ◌+◌, ◌-◌, ◌<◌, ◌≤◌, true, List, [], ◌∷◌, length, get_or, take, drop, Some, None, decimal, Option, Vec, refl, sym, ap, ◌∙◌, subst, arith, rules}
use Rattle.std.specs.Char.{is_ascii_digit}
use Rattle.std.specs.List.{AllByRecursion}
use Rattle.std.proofs.lemmas.Fmt.{decimal_injective}
use Rattle.std.proofs.lemmas.List.{take_rest}
use Rattle.journaling.specs.Calls.{digits_text, sides_text, Digit, SaysCall, ReadsCall, ReadsNumber, ReadsSides}
use Rattle.replay.specs.declared.calls.Call.{Call}
use Rattle.std.specs.declared.alloc.Global.{Global}
use Rattle.text.specs.Digits.{Digits, ReadsDigits, numbers_of}

-- 0 is no claim's number
pub no_zero : (bs : List ℕ) (n : ℕ) → n ≡ 0 → bs ≡ decimal n → ReadsNumber bs None
no_zero bs n z e k m w = omega (arith, m.0, decimal_injective n k (omega arith) (omega (arith, m.1)) (sym e ∙ w))

-- sides are written as digits
sides_are_digits : (sides : List ℕ) (i : ℕ) → AllByRecursion Digit sides → i < length (digits_text sides) → is_ascii_digit (get_or (digits_text sides) i 0) ≡ true
sides_are_digits [] i h l = absurd (omega arith)
sides_are_digits (s ∷ ss) zero h l = let d : s < 10 = h.0 in search rules
sides_are_digits (s ∷ ss) (suc i) h l = sides_are_digits ss i h.1 (omega arith)

-- and digits are those of the numbers that they are
digits_said : (bs : List ℕ) → Digits bs → AllByRecursion Digit (numbers_of bs) × (bs ≡ digits_text (numbers_of bs))
digits_said [] d = (tt, refl)
digits_said (c ∷ cs) d =
    let here : is_ascii_digit c ≡ true = d 0 (omega arith) in
    let small : c - 48 < 10 = search rules in
    let back : c ≡ 48 + (c - 48) = search rules in
    let rest = digits_said cs (λ i h. d (suc i) (omega arith)) in
    let same : cs ≡ digits_text (numbers_of cs) = rest.1 in
    ((small, rest.0), λ i. back i ∷ same i)

pub reads_sides : (bs : List ℕ) (r : Option (Vec ℕ Global)) → ReadsDigits bs r → ReadsSides bs r
reads_sides bs (Some ns) h = let s = digits_said bs h.0 in (subst (AllByRecursion Digit) (sym h.1) s.0, s.1 ∙ ap digits_text (sym h.1))
reads_sides bs None h = λ sides d w. h (λ i l. ap (λ b. is_ascii_digit (get_or b i 0)) w ∙ sides_are_digits sides i d (subst (λ b. i < length b) w l))

-- a text that begins with a given byte, or with two
pub after_one : (bs : List ℕ) (a : ℕ) → 0 < length bs → get_or bs 0 0 ≡ a → bs ≡ a ∷ take (length bs - 1) (drop 1 bs)
after_one [] a h p = absurd (omega arith)
after_one (x ∷ xs) a h p = let e : take (length (x ∷ xs) - 1) (drop 1 (x ∷ xs)) ≡ xs = take_rest (x ∷ xs) 1 in (λ i. p i ∷ sym e i)

pub after_two : (bs : List ℕ) (a b : ℕ) → 1 < length bs → get_or bs 0 0 ≡ a → get_or bs 1 0 ≡ b → bs ≡ a ∷ b ∷ take (length bs - 2) (drop 2 bs)
after_two [] a b h p q = absurd (omega arith)
after_two (x ∷ []) a b h p q = absurd (omega arith)
after_two (x ∷ y ∷ xs) a b h p q = let e : take (length (x ∷ y ∷ xs) - 2) (drop 2 (x ∷ y ∷ xs)) ≡ xs = take_rest (x ∷ y ∷ xs) 2 in (λ i. p i ∷ q i ∷ sym e i)

-- digits after one space
pub cut_sides : (bs ds : List ℕ) → bs ≡ 32 ∷ ds → 0 < length ds → (sides : List ℕ) → (bs ≡ sides_text sides → ds ≡ digits_text sides) × (ds ≡ digits_text sides → bs ≡ sides_text sides)
cut_sides bs ds e h [] = (λ w. absurd (omega (arith, ap length (sym e ∙ w))), λ w. absurd (omega (arith, ap length w)))
cut_sides bs ds e h (s ∷ ss) = (λ w. let same : 32 ∷ ds ≡ 32 ∷ digits_text (s ∷ ss) = sym e ∙ w in cc same, λ w. e ∙ ap (λ l. 32 ∷ l) w)

-- a line within the limit that is a text is read as the call of that text
pub read_short : (n : ℕ) (line : List ℕ) {bs : List ℕ} (r : Option Call) → length line ≤ 128 → line ≡ bs → SaysCall n bs r → ReadsCall n line r
read_short n line r h e s = record { short = λ l. subst (λ bs. SaysCall n bs r) (sym e) s; long = λ l. absurd (omega arith) }

-- a line of one byte
pub one_byte : (line : List ℕ) (a : ℕ) → length line ≡ 1 → get_or line 0 0 ≡ a → line ≡ a ∷ []
one_byte [] a l e = absurd (omega arith)
one_byte (x ∷ []) a l e = ap (λ y. y ∷ []) e
one_byte (x ∷ (y ∷ ys)) a l e = absurd (omega arith)
