-- The calls of a journal, and the lines that say them.
use Rattle.std.specs.Prelude.{◌≡◌, ℕ, ◌+◌, ◌*◌, ◌^◌, ◌<◌, ◌≤◌, List, [], ◌∷◌, ◌++◌, map, length, replicate, Some, None, vec_items, codes, decimal, Option, Vec, ◌≢◌}
use Rattle.std.specs.Borrow.{Bor}
use Rattle.std.specs.Option.{unwrap_or}
use Rattle.std.specs.declared.alloc.Global.{Global}
use Rattle.std.specs.List.{AllByRecursion}
use Rattle.replay.specs.declared.calls.Call.{Call}
use Rattle.replay.specs.declared.calls.Call.TheVariants.{Claim, Release, Strike, Free, Forbid, Favour, OneWay, Link}
use Rattle.text.specs.Reads.{pair_text}

-- sides as digits
abbrev pub digits_text : List ℕ → List ℕ
digits_text sides = map (λ s. 48 + s) sides

-- a one-way linking's sides after one space; nothing where there are none
abbrev pub sides_text : List ℕ → List ℕ
sides_text [] = []
sides_text (s ∷ ss) = 32 ∷ digits_text (s ∷ ss)

-- the line that says a call: a letter, and each number after one space
abbrev pub call_text : Call → List ℕ
call_text (Claim d) = codes "c " ++ decimal d
call_text (Release k) = codes "r " ++ decimal k
call_text (Strike k) = codes "s " ++ decimal k
call_text (Free d) = codes "u " ++ decimal d
call_text (Forbid a b) = codes "x " ++ pair_text a b
call_text (Favour a b) = codes "f " ++ pair_text a b
call_text (OneWay sides output memory) = codes "o" ++ sides_text (vec_items sides)
call_text (Link output memory) = codes "l"

-- a side that is one digit
abbrev pub Digit : ℕ → Type 0
Digit s = s < 10

-- the number of a claim, counted from 1
abbrev pub Number : ℕ → Type 0
Number k = (0 < k) × (k < 2 ^ 32)

-- a call that a journal over n doors makes: door numbers are bytes, sides are digits, and the output and the memory of a linking
-- have the sizes that n doors ask for
abbrev pub Makes : ℕ → Call → Type 0
Makes n (Claim d) = d < 2 ^ 8
Makes n (Release k) = Number k
Makes n (Strike k) = Number k
Makes n (Free d) = d < 2 ^ 8
Makes n (Forbid a b) = (a < 2 ^ 8) × (b < 2 ^ 8)
Makes n (Favour a b) = (a < 2 ^ 8) × (b < 2 ^ 8)
Makes n (OneWay sides output memory) = AllByRecursion Digit (vec_items sides) × (vec_items output ≡ replicate n 0) × (memory ≡ 3 * n * n + 8 * n)
Makes n (Link output memory) = (vec_items output ≡ replicate n 0) × (memory ≡ 3 * n * n + 8 * n)

-- what a text says: the call whose text it is, or none
abbrev pub SaysCall : ℕ → List ℕ → Option Call → Type 0
SaysCall n bs (Some c) = Makes n c × (bs ≡ call_text c)
SaysCall n bs None = (c : Call) → Makes n c → bs ≢ call_text c

-- a line is read as the call that it says; a line over 128 bytes is never read
pub record ReadsCall (n : ℕ) (line : List ℕ) (r : Option Call) : Type 0 where
  pub short : length line ≤ 128 → SaysCall n line r
  pub long : 128 < length line → r ≡ None

-- the number of a claim as a part of a line
abbrev pub ReadsNumber : List ℕ → Option ℕ → Type 0
ReadsNumber bs (Some k) = Number k × (bs ≡ decimal k)
ReadsNumber bs None = (k : ℕ) → Number k → bs ≢ decimal k

-- sides as a part of a line
abbrev pub ReadsSides : List ℕ → Option (Vec ℕ Global) → Type 0
ReadsSides bs (Some sides) = AllByRecursion Digit (vec_items sides) × (bs ≡ digits_text (vec_items sides))
ReadsSides bs None = (sides : List ℕ) → AllByRecursion Digit sides → bs ≢ digits_text sides

-- the digits in what follows the letter of a one-way linking
abbrev pub SideDigits : List ℕ → Option (Bor (List ℕ)) → Type 0
SideDigits bs (Some ds) = (sides : List ℕ) → ((bs ≡ sides_text sides) → ds.now ≡ digits_text sides) × ((ds.now ≡ digits_text sides) → bs ≡ sides_text sides)
SideDigits bs None = (sides : List ℕ) → bs ≢ sides_text sides

-- the call of a line; a line that is not read shows claim 0, which is never granted, so that no call is made for it
abbrev pub LineCall : ℕ → List ℕ → Call → Type 0
LineCall n line c = (r : Option Call) × ReadsCall n line r × (c ≡ unwrap_or r (Release 0))

-- the calls of lines, one for each
abbrev pub LineCalls : ℕ → List (List ℕ) → List Call → Type 0
LineCalls n [] [] = Unit {0}
LineCalls n [] (c ∷ cs) = ⊥
LineCalls n (l ∷ ls) [] = ⊥
LineCalls n (l ∷ ls) (c ∷ cs) = LineCall n l c × LineCalls n ls cs
