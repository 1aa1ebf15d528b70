-- The number that digits give, leading zeros or not, and the numbers that they are one by one.
use Rattle.std.specs.Prelude.{◌≡◌, ℕ, suc, ◌+◌, ◌-◌, ◌*◌, ◌^◌, ◌<◌, ◌≤◌, true, List, [], ◌∷◌, map, length, ℤ, negsuc, Some, None, vec_items, Option, Vec, slice_index}
use Rattle.std.specs.Char.{is_ascii_digit}
use Rattle.std.specs.declared.alloc.Global.{Global}
use Rattle.std.specs.Str.{all_ascii_digits}

-- the number that the digits give after the number so far
abbrev pub read_on : ℕ → List ℕ → ℕ
read_on n [] = n
read_on n (c ∷ cs) = read_on (n * 10 + (c - 48)) cs

-- the bytes are digits of a number below the limit; or they are not
abbrev pub ValueBelow : ℕ → List ℕ → Option ℕ → Type 0
ValueBelow limit ds (Some n) = (n < limit) × (all_ascii_digits ds ≡ true) × (read_on 0 ds ≡ n)
ValueBelow limit ds None = all_ascii_digits ds ≡ true → limit ≤ read_on 0 ds

-- the number of a size below 0 among 16-bit numbers, where there is one
abbrev pub Negated : ℕ → Option ℤ → Type 0
Negated size (Some z) = (n : ℕ) × (size ≡ suc n) × (n < 2 ^ 15) × (z ≡ negsuc n)
Negated size None = (n : ℕ) → size ≡ suc n → 2 ^ 15 ≤ n

-- every byte is a digit
abbrev pub Digits : List ℕ → Type 0
Digits bs = (i : ℕ) → i < length bs → is_ascii_digit (slice_index bs i) ≡ true

-- the numbers that single digits are
abbrev pub numbers_of : List ℕ → List ℕ
numbers_of bs = map (λ c. c - 48) bs

-- the bytes are digits, and these are their numbers; or a byte is no digit
abbrev pub ReadsDigits : List ℕ → Option (Vec ℕ Global) → Type 0
ReadsDigits bs (Some numbers) = Digits bs × (vec_items numbers ≡ numbers_of bs)
ReadsDigits bs None = Digits bs → ⊥
