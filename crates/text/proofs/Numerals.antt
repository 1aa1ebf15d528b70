-- Digits read from the left, and what is written of a number.
use Rattle.std.proofs.Common.{◌≡◌, ℕ, ◌+◌, ◌-◌, ◌*◌, ◌^◌, ◌<◌, ◌≤◌, true, false, ◌&&◌, List, [], ◌∷◌, length, get_or, drop, Some, None, decimal, Option, sym, ap, ◌∙◌, ⊎_elim, arith, rules}
use Rattle.std.specs.Char.{is_ascii_digit}
use Rattle.std.specs.Str.{all_ascii_digits}
use Rattle.std.proofs.lemmas.Fmt.{digits_decimal, digits_value-decimal, decimal-digits_value, decimal_nonempty, first_decimal, decimal_digit}
use Rattle.std.proofs.lemmas.List.{at_drop_more, at_drop_all}
use Rattle.std.proofs.lemmas.Str.Parse.{IsNumeralModel, numerals_by_fold}
use Rattle.std.proofs.lemmas.Bool.{cases_lt, and_parts, both_ways}
use Rattle.text.specs.Digits.{read_on, ValueBelow}
use Rattle.text.specs.Reads.{ReadsBelow}

pub own : IsNumeralModel (λ ds. all_ascii_digits ds ≡ true) (read_on 0)
own = numerals_by_fold _ (search rules) read_on (search rules)

pub read_on_grows : (n : ℕ) (ds : List ℕ) → n ≤ read_on n ds
read_on_grows n [] = omega arith
read_on_grows n (c ∷ cs) = let h = read_on_grows (n * 10 + (c - 48)) cs in omega arith

-- a text that is empty or has a leading zero is written of no number
pub none_written : (bs : List ℕ) → length bs ≡ 0 → ReadsBelow (2 ^ 32) bs None
none_written bs e n h w = omega (arith, ap length w, decimal_nonempty n (omega arith))

pub zero_written : (bs : List ℕ) → 1 < length bs → get_or bs 0 0 ≡ 48 → ReadsBelow (2 ^ 32) bs None
zero_written bs two z n h w =
    ⊎_elim
    (λ (p : 0 < n). omega (arith, ap (λ l. get_or l 0 0) w, first_decimal n p (omega arith)))
    (λ (p : n ≤ 0). omega (arith, ap length w, ap length (decimal_digit n (omega arith))))
    (cases_lt 0 n)

-- the digits before place i give v, and what is left gives the rest
pub record ReadTo (ds : List ℕ) (i v : ℕ) : Type 0 where
  pub value : read_on v (drop i ds) ≡ read_on 0 ds
  pub digits : all_ascii_digits (drop i ds) ≡ all_ascii_digits ds
  pub small : v < 2 ^ 32

module _ (ds : List ℕ) (i v : ℕ) (r : ReadTo ds i v) where
  pub read_all : length ds ≤ i → ValueBelow (2 ^ 32) ds (Some v)
  read_all h =
      (r.small, sym r.digits ∙ at_drop_all all_ascii_digits ds i h, sym r.value ∙ at_drop_all (read_on v) ds i h)

  module _ (h : i < length ds) where
    pub read_more : (v' : ℕ) → is_ascii_digit (get_or ds i 0) ≡ true → v' ≡ v * 10 + (get_or ds i 0 - 48) → v' < 2 ^ 32 → ReadTo ds (i + 1) v'
    read_more v' d e small' = record {
      value = ap (λ n. read_on n (drop (i + 1) ds)) e ∙ sym (at_drop_more (read_on v) ds i 0 h) ∙ r.value;
      digits = sym (at_drop_more all_ascii_digits ds i 0 h ∙ ap (λ b. b && all_ascii_digits (drop (i + 1) ds)) d) ∙ r.digits;
      small = small';
    }

    pub read_other : is_ascii_digit (get_or ds i 0) ≡ false → ValueBelow (2 ^ 32) ds None
    read_other d a =
        let parts = and_parts (is_ascii_digit (get_or ds i 0)) (all_ascii_digits (drop (i + 1) ds)) (sym (at_drop_more all_ascii_digits ds i 0 h) ∙ r.digits ∙ a) in
        absurd (both_ways (is_ascii_digit (get_or ds i 0)) d parts.0)

    pub read_large : 2 ^ 32 ≤ v * 10 + (get_or ds i 0 - 48) → ValueBelow (2 ^ 32) ds None
    read_large large a =
        let grows = read_on_grows (v * 10 + (get_or ds i 0 - 48)) (drop (i + 1) ds) in
        let same : read_on (v * 10 + (get_or ds i 0 - 48)) (drop (i + 1) ds) ≡ read_on 0 ds = sym (at_drop_more (read_on v) ds i 0 h) ∙ r.value in
        omega arith

-- digits without a leading zero are just what is written of their value
pub written_from_value : (ds : List ℕ) (r : Option ℕ) → 0 < length ds → (get_or ds 0 0 ≡ 48 → length ds ≡ 1) → ValueBelow (2 ^ 32) ds r → ReadsBelow (2 ^ 32) ds r
written_from_value ds (Some n) some lead v =
    (v.0, sym (decimal-digits_value own ds v.1 some lead (omega arith)) ∙ ap decimal v.2)
written_from_value ds None some lead v = λ n small w.
    let value : read_on 0 ds ≡ n = ap (read_on 0) w ∙ digits_value-decimal own n (omega arith) in
    omega (arith, v (ap all_ascii_digits w ∙ digits_decimal own n (omega arith)))
