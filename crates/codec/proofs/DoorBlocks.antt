-- The block of a door: it has no fault where its list is lawful, and a block without one is it.
use Rattle.std.proofs.Common.{◌≡◌, ℕ, zero, suc, ◌+◌, ◌-◌, ◌<◌, ◌≤◌, Bool, true, false, eqb, ltb, List, ◌∷◌, length, get_or, take, drop, None, sym, refl, ap, ◌∙◌, ⊎_elim, arith}
use Rattle.std.specs.List.{between}
use Rattle.std.proofs.lemmas.List.{length-take-le, length-drop, get_or-take, get_or-drop, get_or_past, take-take, take_all, ext_get_or}
use Rattle.std.proofs.lemmas.List.Edits.{length-between, get_or-between}
use Rattle.std.proofs.lemmas.Bool.{cases_lt, eqb-true, eq-eqb, ltb-true, lt-ltb}
use Rattle.std.proofs.lemmas.Bool.Decides.{nat_tests}
use Rattle.faults.specs.declared.Refusal.{Refusal}
use Rattle.faults.specs.declared.Refusal.TheVariants.{FixedByte, BadList}
use Rattle.matching.specs.Lists.{LawfulList}
use Rattle.codec.specs.Blocks.{row_block, list_in}
use Rattle.codec.specs.Findings.{unless, row_fault, may_follow, checked}
use Rattle.codec.proofs.Sealed.{length_sealed, get_or_sealed, sealed_checked, sealed_from_checked}
use Rattle.codec.proofs.Followers.{lawful_from_follows, follows_from_lawful}

-- the question about a byte of the list, and about one after it
at_list : (n d : ℕ) (block : List ℕ) (i : ℕ) → 3 ≤ i → i < 3 + get_or block 2 0 → row_fault n d block i ≡ unless (may_follow n d (between 3 i block) (get_or block i 0)) BadList
unfolding row_fault
at_list n d block i a b = grind (arith, nat_tests)

at_rest : (n d : ℕ) (block : List ℕ) (i : ℕ) → 3 + get_or block 2 0 ≤ i → row_fault n d block i ≡ unless (eqb (get_or block i 0) 0) FixedByte
unfolding row_fault
at_rest n d block i a = grind (arith, nat_tests)

-- what the bytes of a clean block are
pub record DoorBlock (n d : ℕ) (block : List ℕ) : Type 0 where
  pub mark : get_or block 0 0 ≡ 0x52
  pub door : get_or block 1 0 ≡ d
  pub short : get_or block 2 0 < n
  pub list : (i : ℕ) → 3 ≤ i → i < 3 + get_or block 2 0 → may_follow n d (between 3 i block) (get_or block i 0) ≡ true
  pub rest : (i : ℕ) → 3 + get_or block 2 0 ≤ i → i < 510 → get_or block i 0 ≡ 0

fine : (b : Bool) (r : Refusal) → unless b r ≡ None → b ≡ true
fine true r h = refl
fine false r h = absurd (grind arith)

none : (b : Bool) (r : Refusal) → b ≡ true → unless b r ≡ None
none true r h = refl
none false r h = absurd (grind arith)

pub door_from_clean : (n d : ℕ) (block : List ℕ) → n ≤ 96 → ((i : ℕ) → i < 510 → row_fault n d block i ≡ None) → DoorBlock n d block
unfolding row_fault
door_from_clean n d block few clean =
    let short : get_or block 2 0 < n = ltb-true (get_or block 2 0) n (fine (ltb (get_or block 2 0) n) BadList (clean 2 (omega arith))) in
    record {
      mark = eqb-true (get_or block 0 0) 0x52 (fine (eqb (get_or block 0 0) 0x52) FixedByte (clean 0 (omega arith)));
      door = eqb-true (get_or block 1 0) d (fine (eqb (get_or block 1 0) d) FixedByte (clean 1 (omega arith)));
      short = short;
      list = λ i a b. fine (may_follow n d (between 3 i block) (get_or block i 0)) BadList (sym (at_list n d block i a b) ∙ clean i (omega arith));
      rest = λ i a b. eqb-true (get_or block i 0) 0 (fine (eqb (get_or block i 0) 0) FixedByte (sym (at_rest n d block i a) ∙ clean i b));
    }

clean_after : (n d : ℕ) (block : List ℕ) → DoorBlock n d block → (i : ℕ) → 3 ≤ i → i < 510 → row_fault n d block i ≡ None
clean_after n d block f i a l =
    ⊎_elim (λ b. at_list n d block i a b ∙ none (may_follow n d (between 3 i block) (get_or block i 0)) BadList (f.list i a b))
    (λ b. at_rest n d block i b ∙ none (eqb (get_or block i 0) 0) FixedByte (eq-eqb (get_or block i 0) 0 (f.rest i b l))) (cases_lt i (3 + get_or block 2 0))

pub clean_from_door : (n d : ℕ) (block : List ℕ) → DoorBlock n d block → (i : ℕ) → i < 510 → row_fault n d block i ≡ None
unfolding row_fault
clean_from_door n d block f zero l = none (eqb (get_or block 0 0) 0x52) FixedByte (eq-eqb (get_or block 0 0) 0x52 f.mark)
clean_from_door n d block f (suc zero) l = none (eqb (get_or block 1 0) d) FixedByte (eq-eqb (get_or block 1 0) d f.door)
clean_from_door n d block f (suc (suc zero)) l = none (ltb (get_or block 2 0) n) BadList (lt-ltb (get_or block 2 0) n f.short)
clean_from_door n d block f (suc (suc (suc i))) l = clean_after n d block f (suc (suc (suc i))) (omega arith) l

module _ (n d : ℕ) (block : List ℕ) (few : n ≤ 96) (long : length block ≡ 512) (f : DoorBlock n d block) where
  length_list : length (list_in block) ≡ get_or block 2 0
  unfolding list_in
  length_list = length-take-le (get_or block 2 0) (drop 3 block) (omega (arith, length-drop 3 block, f.short))

  get_or_list : (k : ℕ) → k < get_or block 2 0 → get_or (list_in block) k 0 ≡ get_or block (3 + k) 0
  unfolding list_in
  get_or_list k h = get_or-take (get_or block 2 0) (drop 3 block) k 0 h ∙ get_or-drop 3 block k 0

  pub list_lawful : LawfulList n d (list_in block)
  unfolding list_in
  list_lawful =
      lawful_from_follows n d (list_in block)
      (λ k h. let near : k < get_or block 2 0 = omega (arith, length_list) in
      let before : take k (list_in block) ≡ between 3 (3 + k) block = take-take k (get_or block 2 0) (drop 3 block) (omega arith) ∙ ap (λ m. take m (drop 3 block)) (omega arith) in
      rw (before, get_or_list k near) (f.list (3 + k) (omega arith) (omega arith)))

  list_or_zero : (i k : ℕ) → i ≡ 3 + k → i < 510 → get_or block i 0 ≡ get_or (list_in block) k 0
  list_or_zero i k e h =
      ⊎_elim (λ l. ap (λ j. get_or block j 0) e ∙ sym (get_or_list k l)) (λ l. f.rest i (omega arith) h ∙ sym (get_or_past (list_in block) k 0 (omega (arith, length_list)))) (cases_lt k (get_or block 2 0))

  opens : (i : ℕ) → i < 510 → get_or block i 0 ≡ get_or (0x52 ∷ d ∷ length (list_in block) ∷ list_in block) i 0
  opens zero h = f.mark
  opens (suc zero) h = f.door
  opens (suc (suc zero)) h = sym length_list
  opens (suc (suc (suc k))) h = list_or_zero (suc (suc (suc k))) k (omega arith) h

  pub is_row : checked block ≡ true → block ≡ row_block d (list_in block)
  unfolding row_block
  is_row ok = sealed_from_checked (0x52 ∷ d ∷ length (list_in block) ∷ list_in block) block (omega (arith, length_list, f.short)) long opens ok

-- the other way: a block made of a list
module _ (d : ℕ) (l : List ℕ) (short : length l ≤ 507) where
  pub length_row : length (row_block d l) ≡ 512
  unfolding row_block
  length_row = length_sealed (0x52 ∷ d ∷ length l ∷ l) (omega arith)

  pub row_checked : checked (row_block d l) ≡ true
  unfolding row_block
  row_checked = sealed_checked (0x52 ∷ d ∷ length l ∷ l) (omega arith)

  get_or_row : (i : ℕ) → i < 510 → get_or (row_block d l) i 0 ≡ get_or (0x52 ∷ d ∷ length l ∷ l) i 0
  unfolding row_block
  get_or_row i h = get_or_sealed (0x52 ∷ d ∷ length l ∷ l) (omega arith) i h

  get_or_row_list : (i k : ℕ) → i ≡ suc (suc (suc k)) → i < 510 → get_or (row_block d l) i 0 ≡ get_or l k 0
  get_or_row_list i k e h = get_or_row i h ∙ ap (λ j. get_or (0x52 ∷ d ∷ length l ∷ l) j 0) e

  pub row_length : get_or (row_block d l) 2 0 ≡ length l
  row_length = get_or_row 2 (omega arith)

  -- the list as far as it goes
  between_row : (i k : ℕ) → i ≡ 3 + k → k ≤ length l → between 3 i (row_block d l) ≡ take k l
  between_row i k e h =
      let long : length (between 3 i (row_block d l)) ≡ k = length-between (row_block d l) 3 i (omega (arith, length_row)) ∙ omega arith in
      ext_get_or 0 (between 3 i (row_block d l)) (take k l) (long ∙ sym (length-take-le k l h))
      (λ j b. let near : j < k = omega (arith, long) in
      get_or-between (row_block d l) 3 i j 0 (omega arith) ∙ get_or_row_list (3 + j) j (omega arith) (omega arith) ∙ sym (get_or-take k l j 0 near))

  -- the list is what the block says it is
  pub list_of_row : list_in (row_block d l) ≡ l
  unfolding list_in
  list_of_row =
      let m : get_or (row_block d l) 2 0 ≡ (3 + length l) - 3 = omega (arith, row_length) in
      ap (λ k. take k (drop 3 (row_block d l))) m ∙ between_row (3 + length l) (length l) (omega arith) (omega arith) ∙ take_all (length l) l (omega arith)

  pub row_door : (n : ℕ) → length l < n → LawfulList n d l → DoorBlock n d (row_block d l)
  row_door n few f =
      record {
        mark = get_or_row 0 (omega arith);
        door = get_or_row 1 (omega arith);
        short = rw row_length few;
        list = λ i a b. let k = i - 3 in
            let near : k < length l = omega (arith, row_length) in
            rw (between_row i k (omega arith) (omega arith), get_or_row_list i k (omega arith) (omega arith)) (follows_from_lawful n d l f k near);
        rest = λ i a b. get_or_row_list i (i - 3) (omega (arith, row_length)) b ∙ get_or_past l (i - 3) 0 (omega (arith, row_length));
      }
