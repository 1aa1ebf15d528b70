-- The header block: it has no fault, and a block without one is it.
use Rattle.std.proofs.Common.{◌≡◌, ℕ, suc, ◌<◌, ◌≤◌, true, List, [], ◌∷◌, ◌++◌, length, get_or, None, sym, ap, ◌∙◌, ⊎_elim, arith}
use Rattle.std.proofs.lemmas.List.{get_or_append_left, get_or_past}
use Rattle.std.proofs.lemmas.Bool.{cases_eq, cases_lt}
use Rattle.std.proofs.lemmas.Bool.Decides.{nat_tests}
use Rattle.codec.specs.Blocks.{opening, header}
use Rattle.codec.specs.Findings.{header_fault, checked, block_finding, Clean}
use Rattle.codec.proofs.Questions.{byte_from_clean}
use Rattle.codec.proofs.Sealed.{length_sealed, get_or_sealed, sealed_checked, sealed_from_checked}

-- the bytes that a header opens with, but for byte 5
opening_but_doors : (n i : ℕ) → (i ≡ 5 → ⊥) → get_or (opening ++ n ∷ []) i 0 ≡ get_or opening i 0
opening_but_doors n i h =
    ⊎_elim (λ l. get_or_append_left opening (n ∷ []) 0 i l) (λ l. get_or_past (opening ++ n ∷ []) i 0 (omega arith) ∙ sym (get_or_past opening i 0 (omega arith))) (cases_lt i 5)

-- what a clean byte says
clean_doors : (block : List ℕ) → header_fault block 5 ≡ None → get_or block 5 0 ≤ 96
unfolding header_fault
clean_doors block h = grind (arith, nat_tests)

clean_fixed : (block : List ℕ) (i : ℕ) → (i ≡ 5 → ⊥) → header_fault block i ≡ None → get_or block i 0 ≡ get_or opening i 0
unfolding header_fault
clean_fixed block i n h = grind (arith, nat_tests)

doors_clean : (block : List ℕ) → get_or block 5 0 ≤ 96 → header_fault block 5 ≡ None
unfolding header_fault
doors_clean block h = grind (arith, nat_tests)

fixed_clean : (block : List ℕ) (i : ℕ) → (i ≡ 5 → ⊥) → get_or block i 0 ≡ get_or opening i 0 → header_fault block i ≡ None
unfolding header_fault
fixed_clean block i n h = grind (arith, nat_tests)

pub length_header : (n : ℕ) → length (header n) ≡ 512
unfolding header
length_header n = length_sealed (opening ++ n ∷ []) (omega arith)

pub header_checked : (n : ℕ) → checked (header n) ≡ true
unfolding header
header_checked n = sealed_checked (opening ++ n ∷ []) (omega arith)

pub header_doors : (n : ℕ) → get_or (header n) 5 0 ≡ n
unfolding header
header_doors n = get_or_sealed (opening ++ n ∷ []) (omega arith) 5 (omega arith)

pub header_clean : (n : ℕ) → n ≤ 96 → (i : ℕ) → i < 510 → header_fault (header n) i ≡ None
unfolding header
header_clean n few i l =
    ⊎_elim (λ e. ap (header_fault (header n)) e ∙ doors_clean (header n) (omega (arith, header_doors n)))
    (λ ne. fixed_clean (header n) i ne (get_or_sealed (opening ++ n ∷ []) (omega arith) i l ∙ opening_but_doors n i ne)) (cases_eq i 5)

pub is_header : (block : List ℕ) → length block ≡ 512 → checked block ≡ true → ((i : ℕ) → i < 510 → header_fault block i ≡ None) → (get_or block 5 0 ≤ 96) × (block ≡ header (get_or block 5 0))
unfolding header
is_header block l ok clean =
    let n = get_or block 5 0 in (
      clean_doors block (clean 5 (omega arith)),
      sealed_from_checked (opening ++ n ∷ []) block (omega arith) l
          (λ i h. ⊎_elim (λ e. ap (λ j. get_or block j 0) e ∙ ap (λ j. get_or (opening ++ n ∷ []) j 0) (sym e)) (λ ne. clean_fixed block i ne (clean i h) ∙ sym (opening_but_doors n i ne)) (cases_eq i 5)) ok,
    )

-- a clean header begins as every file does
pub opens_clean : (block : List ℕ) → Clean (block_finding 0 block (header_fault block)) → (i : ℕ) → i < 5 → get_or block i 0 ≡ get_or opening i 0
opens_clean block clean i l = clean_fixed block i (λ e. omega arith) (byte_from_clean 0 block (header_fault block) i (omega arith) (clean (suc i)))
