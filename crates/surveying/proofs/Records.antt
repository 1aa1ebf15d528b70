-- The record that a line says, part by part.
use Rattle.std.proofs.Common.{◌≡◌, ℕ, ◌^◌, List, ◌∷◌, ◌++◌, None, decimal, sym, ◌∙◌, arith}
use Rattle.std.specs.Fmt.{signed_decimal}
use Rattle.survey.specs.declared.Record.{Record}
use Rattle.surveying.specs.Survey.{record_text, InRange, ReadsRecord}
use Rattle.text.specs.Reads.{Lacks, ReadsBelow, ReadsSigned16}
use Rattle.text.proofs.Cuts.{has_mark, one_cut, signed_lacks}

pub no_space : (line : List ℕ) → Lacks 32 line → ReadsRecord line None
no_space line h r i w = has_mark 32 (signed_decimal r.east) (signed_decimal r.north ++ (32 ∷ decimal r.kind)) (rw w at h)

-- a line cut at its first space, and what is left of it at its second
module _ (line e rest : List ℕ) (cut : (line ≡ e ++ (32 ∷ rest)) × Lacks 32 e) where
  first_part : (r : Record) → InRange r → line ≡ record_text r → (e ≡ signed_decimal r.east) × (rest ≡ signed_decimal r.north ++ (32 ∷ decimal r.kind))
  first_part r i w =
      one_cut 32 e rest (signed_decimal r.east) (signed_decimal r.north ++ (32 ∷ decimal r.kind)) (sym cut.0 ∙ w) cut.1 (signed_lacks 32 r.east (omega arith) (omega (arith, i.east)))

  pub no_second_space : Lacks 32 rest → ReadsRecord line None
  no_second_space h r i w = let p = (first_part r i w).1 in has_mark 32 (signed_decimal r.north) (decimal r.kind) (rw p at h)

  pub no_east : ReadsSigned16 e None → ReadsRecord line None
  no_east h r i w = h r.east i.east (first_part r i w).0

  module _ (n k : List ℕ) (cut' : (rest ≡ n ++ (32 ∷ k)) × Lacks 32 n) where
    second_part : (r : Record) → InRange r → line ≡ record_text r → (n ≡ signed_decimal r.north) × (k ≡ decimal r.kind)
    second_part r i w =
        one_cut 32 n k (signed_decimal r.north) (decimal r.kind) (sym cut'.0 ∙ (first_part r i w).1) cut'.1 (signed_lacks 32 r.north (omega arith) (omega (arith, i.north)))

    pub no_north : ReadsSigned16 n None → ReadsRecord line None
    no_north h r i w = h r.north i.north (second_part r i w).0

    pub no_kind : ReadsBelow (2 ^ 8) k None → ReadsRecord line None
    no_kind h r i w = h r.kind i.kind (second_part r i w).1
