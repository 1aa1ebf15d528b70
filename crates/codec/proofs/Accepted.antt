-- The bytes without a fault are the bakings of lawful lists.
use Rattle.std.proofs.Common.{◌≡◌, ℕ, zero, suc, ◌+◌, ◌*◌, ◌<◌, ◌≤◌, true, List, [], map, length, get_or, drop, None, sym, ap, ◌∙◌, subst, ⊎_elim, arith}
use Rattle.std.specs.List.{range_with_len}
use Rattle.std.proofs.lemmas.List.FromFn.{length-map-range_with_len, get_or-map-range_with_len}
use Rattle.std.proofs.lemmas.List.{get_or_past, get_or-take, length-take-le, length-drop}
use Rattle.std.proofs.lemmas.Bool.{cases_lt, lt-ltb, le-ltb}
use Rattle.std.proofs.lemmas.Bool.Decides.{nat_tests}
use Rattle.matching.specs.Lists.{row, lawful, Lawful, LawfulList}
use Rattle.matching.proofs.Rows.{lawful_facts, lawful_from_facts, list_from_facts, nil_lawful}
use Rattle.matching.proofs.Kept.{lawful_short}
use Rattle.codec.specs.Blocks.{header, row_block, baking, block_of, list_in}
use Rattle.codec.specs.Findings.{header_fault, row_fault, checked, block_finding, doors, finding, NoFault}
use Rattle.codec.proofs.Questions.{checked_from_clean, byte_from_clean, all_clean}
use Rattle.codec.proofs.Headers.{header_checked, header_clean, is_header}
use Rattle.codec.proofs.DoorBlocks.{door_from_clean, clean_from_door, list_lawful, is_row, row_checked, row_door}
use Rattle.codec.proofs.Bakings.{Short, length_baking, baking_header, baking_row, baking_doors, baking_from_blocks}

-- what it means for a file to have no fault
pub record Sound (bytes : List ℕ) : Type 0 where
  pub size : length bytes ≡ 512 * (doors bytes + 1)
  pub head_checked : checked (block_of bytes 0) ≡ true
  pub head : (i : ℕ) → i < 510 → header_fault (block_of bytes 0) i ≡ None
  pub row_checked' : (d : ℕ) → d < doors bytes → checked (block_of bytes (suc d)) ≡ true
  pub rows : (d : ℕ) → d < doors bytes → (i : ℕ) → i < 510 → row_fault (doors bytes) d (block_of bytes (suc d)) i ≡ None

size_from_clean : (bytes : List ℕ) → finding bytes 0 512 ≡ None → length bytes ≡ 512 * (doors bytes + 1)
unfolding finding
size_from_clean bytes h = grind (arith, nat_tests, h)

head_from_clean : (bytes : List ℕ) (q : ℕ) → q < 511 → finding bytes 0 (suc q) ≡ None → block_finding 0 (block_of bytes 0) (header_fault (block_of bytes 0)) q ≡ None
unfolding finding
head_from_clean bytes q l h = grind (arith, h, lt-ltb q 511 l)

row_from_clean : (bytes : List ℕ) (d q : ℕ) → d < doors bytes → finding bytes (suc d) q ≡ None → block_finding (suc d) (block_of bytes (suc d)) (row_fault (doors bytes) d (block_of bytes (suc d))) q ≡ None
unfolding finding
row_from_clean bytes d q l h = grind (arith, h, lt-ltb d (doors bytes) l)

pub sound_from_clean : (bytes : List ℕ) → NoFault bytes → Sound bytes
sound_from_clean bytes clean =
    let b0 = block_of bytes 0 in
    let ask : (q : ℕ) → q < 511 → block_finding 0 b0 (header_fault b0) q ≡ None = λ q l. head_from_clean bytes q l (clean 0 (suc q)) in
    record {
      size = size_from_clean bytes (clean 0 512);
      head_checked = checked_from_clean 0 b0 (header_fault b0) (ask 0 (omega arith));
      head = λ i l. byte_from_clean 0 b0 (header_fault b0) i l (ask (suc i) (omega arith));
      row_checked' = λ d h. let b = block_of bytes (suc d) in
          checked_from_clean (suc d) b (row_fault (doors bytes) d b) (row_from_clean bytes d 0 h (clean (suc d) 0));
      rows = λ d h i l. let b = block_of bytes (suc d) in
          byte_from_clean (suc d) b (row_fault (doors bytes) d b) i l (row_from_clean bytes d (suc i) h (clean (suc d) (suc i)));
    }

pub clean_from_sound : (bytes : List ℕ) → Sound bytes → NoFault bytes
unfolding finding
clean_from_sound bytes f zero zero = grind (arith, nat_tests, f.size)
clean_from_sound bytes f zero (suc q) = grind (arith, nat_tests, f.size, all_clean 0 (block_of bytes 0) (header_fault (block_of bytes 0)) (sym f.head_checked) f.head q)
clean_from_sound bytes f (suc d) q =
    ⊎_elim
    (λ l. let b = block_of bytes (suc d) in grind (arith, lt-ltb d (doors bytes) l, all_clean (suc d) b (row_fault (doors bytes) d b) (sym (f.row_checked' d l)) (f.rows d l) q))
    (λ l. grind (arith, le-ltb d (doors bytes) l)) (cases_lt d (doors bytes))

-- a baking has no fault
list_short : (n d : ℕ) (l : List ℕ) → d < n → LawfulList n d l → length l < n
list_short n d l h f = lawful_short n d l (list_from_facts n d l f) h

pub short_from_lawful : (ls : List (List ℕ)) → Lawful ls → Short ls
short_from_lawful ls f d =
    ⊎_elim (λ l. omega (arith, list_short (length ls) d (row ls d) l (f.each d), f.few)) (λ l. subst (λ s. length s ≤ 507) (sym (get_or_past ls d [] l)) (omega arith)) (cases_lt d (length ls))

pub baking_sound : (ls : List (List ℕ)) → lawful ls ≡ true → Sound (baking ls)
baking_sound ls law =
    let f = lawful_facts ls law in
    let short = short_from_lawful ls f in
    let n = baking_doors ls in
    let block : (d : ℕ) → d < doors (baking ls) → block_of (baking ls) (suc d) ≡ row_block d (row ls d) = λ d l. baking_row ls short d (omega (arith, n)) in
    record {
      size = rw n (length_baking ls short);
      head_checked = rw (baking_header ls) (header_checked (length ls));
      head = rw (baking_header ls) (header_clean (length ls) f.few);
      row_checked' = λ d l. rw (block d l) (row_checked d (row ls d) (short d));
      rows = λ d l. rw (block d l, n)
          (clean_from_door (length ls) d (row_block d (row ls d)) (row_door d (row ls d) (short d) (length ls) (list_short (length ls) d (row ls d) (omega (arith, n)) (f.each d)) (f.each d)));
    }

-- the lists of a file of n doors
abbrev pub lists_in : List ℕ → ℕ → List (List ℕ)
lists_in bytes n = map (λ d. list_in (block_of bytes (suc d))) (range_with_len 0 n)

-- a block within the file
pub length_block : (bytes : List ℕ) (b : ℕ) → 512 * (b + 1) ≤ length bytes → length (block_of bytes b) ≡ 512
unfolding block_of
length_block bytes b h = length-take-le 512 (drop (512 * b) bytes) (omega (arith, length-drop (512 * b) bytes))

pub block_doors : (bytes : List ℕ) → get_or (block_of bytes 0) 5 0 ≡ doors bytes
unfolding block_of
block_doors bytes = get_or-take 512 bytes 5 0 (omega arith)

-- and bytes without a fault are a baking
module _ (bytes : List ℕ) (f : Sound bytes) where
  sound_head : (doors bytes ≤ 96) × (block_of bytes 0 ≡ header (doors bytes))
  sound_head =
      let h = is_header (block_of bytes 0) (length_block bytes 0 (omega (arith, f.size))) f.head_checked f.head in
      (omega (arith, h.0, block_doors bytes), h.1 ∙ ap header (block_doors bytes))

  sound_row : (d : ℕ) → d < doors bytes → LawfulList (doors bytes) d (list_in (block_of bytes (suc d))) × (block_of bytes (suc d) ≡ row_block d (list_in (block_of bytes (suc d))))
  sound_row d h =
      let block = block_of bytes (suc d) in
      let few = sound_head.0 in
      let long = length_block bytes (suc d) (omega (arith, f.size)) in
      let clean = door_from_clean (doors bytes) d block few (f.rows d h) in
      (list_lawful (doors bytes) d block few long clean, is_row (doors bytes) d block few long clean (f.row_checked' d h))

  pub sound_baking : (ls : List (List ℕ)) × (lawful ls ≡ true) × (length ls ≡ doors bytes) × (bytes ≡ baking ls)
  sound_baking =
      let ls = lists_in bytes (doors bytes) in
      let count : length ls ≡ doors bytes = length-map-range_with_len (λ d. list_in (block_of bytes (suc d))) 0 (doors bytes) in
      let at : (d : ℕ) → d < doors bytes → row ls d ≡ list_in (block_of bytes (suc d)) = λ d l. get_or-map-range_with_len (λ e. list_in (block_of bytes (suc e))) 0 (doors bytes) d d [] l (omega arith) in
      let each : (d : ℕ) → LawfulList (length ls) d (row ls d) =
      λ d. ⊎_elim (λ l. rw (count, at d l) (sound_row d l).0) (λ l. rw (get_or_past ls d [] (omega (arith, count))) (nil_lawful (length ls) d)) (cases_lt d (doors bytes)) in (
        ls,
        lawful_from_facts ls (record { few = omega (arith, count, sound_head.0); each = each }),
        count,
        baking_from_blocks ls bytes (rw count f.size) (rw count sound_head.1)
            (λ d l. let near : d < doors bytes = omega (arith, count) in rw (at d near) (sound_row d near).1),
      )

-- the two ways together
pub accepted : (bytes : List ℕ) → NoFault bytes → (ls : List (List ℕ)) × (lawful ls ≡ true) × (length ls ≡ doors bytes) × (bytes ≡ baking ls)
accepted bytes clean = sound_baking bytes (sound_from_clean bytes clean)

pub baking_clean : (ls : List (List ℕ)) → lawful ls ≡ true → NoFault (baking ls)
baking_clean ls law = clean_from_sound (baking ls) (baking_sound ls law)
