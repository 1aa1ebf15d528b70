-- A file that is longer than every level file.
use Rattle.std.proofs.Common.{◌≡◌, ℕ, zero, suc, ◌+◌, ◌*◌, ◌<◌, ◌≤◌, true, ltb, List, length, get_or, take, Some, None, sym, ap, ◌∙◌, subst, ⊎_elim, arith}
use Rattle.std.proofs.lemmas.List.{take_all, take-take, get_or-take, length-take-le}
use Rattle.std.proofs.lemmas.Bool.{cond-true, lt-ltb, le-ltb, lt-leb, ne_eqb, cases_lt}
use Rattle.faults.specs.declared.Fault.{Fault}
use Rattle.faults.specs.declared.Place.TheVariants.{At}
use Rattle.faults.specs.declared.Refusal.TheVariants.{WrongSize}
use Rattle.matching.specs.Lists.{lawful}
use Rattle.matching.proofs.Rows.{lawful_facts}
use Rattle.codec.specs.Blocks.{baking, block_of}
use Rattle.codec.specs.Findings.{in_file, header_fault, block_finding, doors, finding, Clean, First, FirstFault}
use Rattle.codec.proofs.Accepted.{block_doors, short_from_lawful}
use Rattle.codec.proofs.Bakings.{length_baking}
use Rattle.levels.specs.Starts.{enough}

module _ (bytes : List ℕ) (long : enough < length bytes) where
  start_length : length (take enough bytes) ≡ enough
  start_length = length-take-le enough bytes (omega arith)

  same_block : block_of (take enough bytes) 0 ≡ block_of bytes 0
  unfolding block_of
  same_block = take-take 512 enough bytes (omega arith)

  same_doors : doors (take enough bytes) ≡ doors bytes
  same_doors = get_or-take enough bytes 5 0 (omega arith)

  -- what is asked of the header block finds the same
  same_finding : (q : ℕ) → q < 512 → finding bytes 0 q ≡ finding (take enough bytes) 0 q
  unfolding finding
  same_finding zero l = grind (arith, le-ltb (length bytes) 512 (omega arith), le-ltb (length (take enough bytes)) 512 (omega (arith, start_length)))
  same_finding (suc q) l =
      cond-true (ltb q 511) _ _ (lt-ltb q 511 (omega arith))
      ∙ ap (λ b. block_finding 0 b (header_fault b) q) (sym same_block)
      ∙ sym (cond-true (ltb q 511) _ _ (lt-ltb q 511 (omega arith)))

  -- a header whose byte 5 is right is of few doors
  few_doors : finding (take enough bytes) 0 7 ≡ None → doors (take enough bytes) ≤ 96
  unfolding finding block_finding header_fault
  few_doors h =
      ⊎_elim (λ l. absurd (grind (arith, h, lt-leb (get_or (block_of (take enough bytes) 0) 5 0) 96 (omega (arith, block_doors (take enough bytes))))))
      (λ l. l) (cases_lt 96 (doors (take enough bytes)))

  -- of few doors, each of the two has the wrong size
  wrong_whole : doors (take enough bytes) ≤ 96 → finding bytes 0 512 ≡ Some (in_file WrongSize (At 0))
  unfolding finding
  wrong_whole few = grind (arith, ne_eqb (length bytes) (512 * (doors bytes + 1)) (λ e. omega (arith, same_doors)))

  wrong_start : doors (take enough bytes) ≤ 96 → (q : ℕ) → 512 ≤ q → finding (take enough bytes) 0 q ≡ Some (in_file WrongSize (At 0))
  unfolding finding
  wrong_start few zero l = absurd (omega arith)
  wrong_start few (suc q) l =
      grind (arith, le-ltb q 511 (omega arith), ne_eqb (length (take enough bytes)) (512 * (doors (take enough bytes) + 1)) (λ e. omega (arith, start_length)))

  same_first : (f : Fault) → First (finding (take enough bytes) 0) f → First (finding bytes 0) f
  same_first f w =
      ⊎_elim
      (λ l. record { question = w.question; found = same_finding w.question l ∙ w.found; before = λ q b. same_finding q (omega arith) ∙ w.before q b })
      (λ l. let few : doors (take enough bytes) ≤ 96 = few_doors (w.before 7 (omega arith)) in
      record { question = 512; found = wrong_whole few ∙ sym (wrong_start few w.question l) ∙ w.found; before = λ q b. same_finding q b ∙ w.before q (omega arith) })
      (cases_lt w.question 512)

  long_first : (f : Fault) → FirstFault (take enough bytes) f → FirstFault bytes f
  long_first f w =
      ⊎_elim
      (λ l. let clean : Clean (finding (take enough bytes) 0) = w.before 0 l in absurd (grind (arith, clean 512, wrong_start (few_doors (clean 7)) 512 (omega arith))))
      (λ l. let none : w.block ≡ 0 = omega arith in
      record { block = 0; first = same_first f (subst (λ b. First (finding (take enough bytes) b) f) none w.first); before = λ b h. absurd (omega arith) })
      (cases_lt 0 w.block)

-- the first fault of the start is that of the whole
pub whole_first : (bytes : List ℕ) (f : Fault) → FirstFault (take enough bytes) f → FirstFault bytes f
whole_first bytes f w = ⊎_elim (λ l. long_first bytes l f w) (λ l. subst (λ b. FirstFault b f) (take_all enough bytes l) w) (cases_lt enough (length bytes))

-- a start that is a level file is the whole
pub whole_file : (bytes : List ℕ) (ls : List (List ℕ)) → lawful ls ≡ true → take enough bytes ≡ baking ls → bytes ≡ baking ls
whole_file bytes ls law e =
    let facts = lawful_facts ls law in
    let size : length (take enough bytes) ≡ 512 * (length ls + 1) = ap length e ∙ length_baking ls (short_from_lawful ls facts) in
    ⊎_elim (λ l. absurd (omega (arith, facts.few, length-take-le enough bytes (omega arith)))) (λ l. sym (take_all enough bytes l) ∙ e) (cases_lt enough (length bytes))
