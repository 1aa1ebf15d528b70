-- The file check, step by step: where it stops, the first fault is found.
use Rattle.std.proofs.Common.{◌≡◌, ℕ, zero, suc, ◌+◌, ◌*◌, ◌<◌, ◌≤◌, List, length, None, Option, sym, refl, ◌∙◌, subst, ⊎_elim, arith}
use Rattle.std.proofs.lemmas.Bool.{cases_lt, lt-ltb, le-ltb, ne_eqb, eq-eqb}
use Rattle.faults.specs.declared.Refusal.TheVariants.{WrongSize}
use Rattle.faults.specs.declared.Place.TheVariants.{At}
use Rattle.faults.specs.declared.Fault.{Fault}
use Rattle.codec.specs.Blocks.{block_of}
use Rattle.codec.specs.Findings.{in_file, header_fault, row_fault, block_finding, doors, finding, Clean, First, NoFault, FirstFault}
use Rattle.codec.specs.Verdicts.{RefusedFor}
use Rattle.codec.proofs.Questions.{question_below}
use Rattle.codec.proofs.Accepted.{baking_clean}

-- bytes with a fault are no baking of lawful lists
pub refused : (bytes : List ℕ) (f : Fault) → FirstFault bytes f → RefusedFor f bytes
refused bytes f w = (
  w,
  λ ls law e. let clean : finding bytes w.block w.first.question ≡ None = subst (λ s. finding s w.block w.first.question ≡ None) (sym e) (baking_clean ls law w.block w.first.question) in
      grind (arith, clean, w.first.found),
)

module _ (bytes : List ℕ) where
  -- the questions about the header, and about the block of a door
  abbrev pub headAsk : ℕ → Option Fault
  headAsk = block_finding 0 (block_of bytes 0) (header_fault (block_of bytes 0))

  abbrev pub rowAsk : ℕ → ℕ → Option Fault
  rowAsk d = block_finding (suc d) (block_of bytes (suc d)) (row_fault (doors bytes) d (block_of bytes (suc d)))

  -- the same of a block that was read from the file
  pub head_ask : (block : List ℕ) → block ≡ block_of bytes 0 → block_finding 0 block (header_fault block) ≡ headAsk
  head_ask block e = rw e refl

  pub row_ask : (block : List ℕ) (n d b : ℕ) → n ≡ doors bytes → b ≡ suc d → block ≡ block_of bytes b → block_finding b block (row_fault n d block) ≡ rowAsk d
  row_ask block n d b e h i = rw (i, h, e) refl

  -- too short for a header
  pub short_first : (f : Fault) → f ≡ in_file WrongSize (At 0) → length bytes < 512 → FirstFault bytes f
  unfolding finding
  short_first f e h =
      record { block = 0; first = record { question = 0; found = grind (arith, e, lt-ltb (length bytes) 512 h); before = λ q l. absurd (omega arith) }; before = λ b l. absurd (omega arith) }

  long_clean : 512 ≤ length bytes → finding bytes 0 0 ≡ None
  unfolding finding
  long_clean h = grind (arith, le-ltb (length bytes) 512 h)

  head_is : (q : ℕ) → q < 511 → finding bytes 0 (suc q) ≡ headAsk q
  unfolding finding
  head_is q l = grind (arith, lt-ltb q 511 l)

  before_head : 512 ≤ length bytes → (m : ℕ) → m ≤ 511 → ((q : ℕ) → q < m → headAsk q ≡ None) → (q : ℕ) → q < suc m → finding bytes 0 q ≡ None
  before_head h m few clean zero l = long_clean h
  before_head h m few clean (suc q) l = head_is q (omega arith) ∙ clean q (omega arith)

  -- a fault of the header
  pub head_first : (f : Fault) → 512 ≤ length bytes → First headAsk f → FirstFault bytes f
  head_first f h w =
      let near = question_below 0 (block_of bytes 0) (header_fault (block_of bytes 0)) w.question f w.found in
      record {
        block = 0;
        first = record { question = suc w.question; found = head_is w.question near ∙ w.found; before = before_head h w.question (omega arith) w.before };
        before = λ b l. absurd (omega arith);
      }

  -- a clean header on a file of another size
  pub size_first : (f : Fault) → f ≡ in_file WrongSize (At 0) → 512 ≤ length bytes → Clean headAsk → (length bytes ≡ 512 * (doors bytes + 1) → ⊥) → FirstFault bytes f
  unfolding finding
  size_first f e h clean ne =
      record {
        block = 0;
        first = record { question = 512; found = grind (arith, e, ne_eqb (length bytes) (512 * (doors bytes + 1)) ne); before = before_head h 511 (omega arith) (λ q l. clean q) };
        before = λ b l. absurd (omega arith);
      }

  -- a file whose size and header are right, and the blocks of its first d doors
  pub head_clean : 512 ≤ length bytes → Clean headAsk → length bytes ≡ 512 * (doors bytes + 1) → Clean (finding bytes 0)
  unfolding finding
  head_clean h clean size zero = long_clean h
  head_clean h clean size (suc q) = grind (arith, eq-eqb (length bytes) (512 * (doors bytes + 1)) size, clean q)

  pub row_clean : (d : ℕ) → Clean (rowAsk d) → Clean (finding bytes (suc d))
  unfolding finding
  row_clean d clean q = grind (arith, clean q)

  pub past_clean : (d : ℕ) → doors bytes ≤ d → Clean (finding bytes (suc d))
  unfolding finding
  past_clean d h q = grind (arith, le-ltb d (doors bytes) h)

  row_is : (d : ℕ) → d < doors bytes → (q : ℕ) → finding bytes (suc d) q ≡ rowAsk d q
  unfolding finding
  row_is d l q = grind (arith, lt-ltb d (doors bytes) l)

  -- a fault of the block of door d
  pub row_first : (f : Fault) (d : ℕ) → d < doors bytes → Clean (finding bytes 0) → ((e : ℕ) → e < d → Clean (rowAsk e)) → First (rowAsk d) f → FirstFault bytes f
  row_first f d l head rows w =
      record {
        block = suc d;
        first = record { question = w.question; found = row_is d l w.question ∙ w.found; before = λ q b. row_is d l q ∙ w.before q b };
        before = λ b. elim b as (λ b. b < suc d → Clean (finding bytes b)) [ zero ↦ λ _. head | suc e ↦ λ k. row_clean e (rows e (omega arith)) ];
      }

  -- no fault anywhere
  pub none_found : Clean (finding bytes 0) → ((e : ℕ) → e < doors bytes → Clean (rowAsk e)) → NoFault bytes
  none_found head rows zero = head
  none_found head rows (suc d) = ⊎_elim (λ l. row_clean d (rows d l)) (λ l. past_clean d l) (cases_lt d (doors bytes))
