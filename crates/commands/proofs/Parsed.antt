-- What is written of a command is read as that command alone.
use Rattle.std.proofs.Common.{◌≡◌, ℕ, ◌-◌, ◌^◌, ◌<◌, List, [], ◌∷◌, length, get_or, take, drop, None, ap, arith}
use Rattle.std.proofs.lemmas.List.{take_rest}
use Rattle.text.specs.Reads.{ReadsBelow, ReadsPair}
use Rattle.commands.specs.Written.{ReadsCommand}
use Rattle.commands.specs.declared.reading.Command.TheVariants.{Strike, Forbid, Favour, Link}

-- a line that opens with two bytes, and a line of one byte
pub opens : (line : List ℕ) (x y : ℕ) → 1 < length line → get_or line 0 0 ≡ x → get_or line 1 0 ≡ y → line ≡ x ∷ y ∷ take (length line - 2) (drop 2 line)
opens [] x y h p q = absurd (omega arith)
opens (a ∷ []) x y h p q = absurd (omega arith)
opens (a ∷ b ∷ line) x y h p q = let rest = take_rest (a ∷ b ∷ line) 2 in cc

pub alone : (line : List ℕ) (x : ℕ) → length line ≡ 1 → get_or line 0 0 ≡ x → line ≡ x ∷ []
alone [] x h p = absurd (omega arith)
alone (a ∷ []) x h p = ap (λ b. b ∷ []) p
alone (a ∷ b ∷ line) x h p = absurd (omega arith)

-- a command's letter with no numbers of its kind behind it
pub no_strike : (line rest : List ℕ) → line ≡ 115 ∷ 32 ∷ rest → ReadsBelow (2 ^ 8) rest None → ReadsCommand line None
no_strike line rest w n (Strike a) i e = n a i (cc)
no_strike line rest w n (Forbid a b) i e = let z : ◌≡◌ {A = ℕ} 115 120 = cc in omega arith
no_strike line rest w n (Favour a b) i e = let z : ◌≡◌ {A = ℕ} 115 102 = cc in omega arith
no_strike line rest w n Link i e = let z : ◌≡◌ {A = ℕ} 115 108 = cc in omega arith

pub no_forbid : (line rest : List ℕ) → line ≡ 120 ∷ 32 ∷ rest → ReadsPair rest None → ReadsCommand line None
no_forbid line rest w n (Strike a) i e = let z : ◌≡◌ {A = ℕ} 120 115 = cc in omega arith
no_forbid line rest w n (Forbid a b) i e = n a b i.0 i.1 (cc)
no_forbid line rest w n (Favour a b) i e = let z : ◌≡◌ {A = ℕ} 120 102 = cc in omega arith
no_forbid line rest w n Link i e = let z : ◌≡◌ {A = ℕ} 120 108 = cc in omega arith

pub no_favour : (line rest : List ℕ) → line ≡ 102 ∷ 32 ∷ rest → ReadsPair rest None → ReadsCommand line None
no_favour line rest w n (Strike a) i e = let z : ◌≡◌ {A = ℕ} 102 115 = cc in omega arith
no_favour line rest w n (Forbid a b) i e = let z : ◌≡◌ {A = ℕ} 102 120 = cc in omega arith
no_favour line rest w n (Favour a b) i e = n a b i.0 i.1 (cc)
no_favour line rest w n Link i e = let z : ◌≡◌ {A = ℕ} 102 108 = cc in omega arith
