-- Numbers and parts of a line, as they are read from bytes.
use Rattle.std.specs.Prelude.{◌≡◌, ℕ, ◌^◌, ◌<◌, List, ◌∷◌, ◌++◌, length, ℤ, Some, None, decimal, Option, ◌≢◌, slice_index}
use Rattle.std.specs.Borrow.{Bor}
use Rattle.std.specs.Int.Signed.{mag}
use Rattle.std.specs.Fmt.{signed_decimal}

-- a number below a limit is read where the bytes are just what is written of it: digits, no sign, no leading zero
abbrev pub ReadsBelow : ℕ → List ℕ → Option ℕ → Type 0
ReadsBelow limit bs (Some n) = (n < limit) × (bs ≡ decimal n)
ReadsBelow limit bs None = (n : ℕ) → n < limit → bs ≢ decimal n

-- a number from -32768 to 32767 is read where the bytes are just what is written of it; only a number below 0 has a sign
abbrev pub ReadsSigned16 : List ℕ → Option ℤ → Type 0
ReadsSigned16 bs (Some z) = (mag z < 2 ^ 15) × (bs ≡ signed_decimal z)
ReadsSigned16 bs None = (z : ℤ) → mag z < 2 ^ 15 → bs ≢ signed_decimal z

-- no byte is mark
abbrev pub Lacks : ℕ → List ℕ → Type 0
Lacks mark bs = (i : ℕ) → i < length bs → slice_index bs i ≢ mark

-- the bytes up to the first that is mark, and those after it; nothing where none is mark
abbrev pub SplitsAt : ℕ → List ℕ → Option (Bor (List ℕ) × Bor (List ℕ)) → Type 0
SplitsAt mark bs (Some p) = (bs ≡ p.0.now ++ (mark ∷ p.1.now)) × Lacks mark p.0.now
SplitsAt mark bs None = Lacks mark bs

-- two numbers with one space between them
abbrev pub pair_text : ℕ → ℕ → List ℕ
pair_text a b = decimal a ++ (32 ∷ decimal b)

-- two bytes are read where the bytes are just what is written of them
abbrev pub ReadsPair : List ℕ → Option (ℕ × ℕ) → Type 0
ReadsPair bs (Some p) = (p.0 < 2 ^ 8) × (p.1 < 2 ^ 8) × (bs ≡ pair_text p.0 p.1)
ReadsPair bs None = (a b : ℕ) → a < 2 ^ 8 → b < 2 ^ 8 → bs ≢ pair_text a b
