-- The lists of an accepted file, door by door.
use Rattle.std.proofs.Common.{◌≡◌, ℕ, suc, ◌+◌, ◌*◌, ◌<◌, ◌≤◌, Bool, true, cond, ◌&&◌, ltb, List, [], length, set, sym, ap, ◌∙◌, subst, ⊎_elim, arith}
use Rattle.std.proofs.lemmas.List.{ext_get_or, get_or-set_same, get_or-set_other}
use Rattle.std.proofs.lemmas.Bool.{cases_eq, and_from, lt-ltb, cond-true}
use Rattle.matching.specs.Lists.{row, lawful_list}
use Rattle.matching.proofs.Rows.{lawful_facts, list_from_facts}
use Rattle.codec.specs.Blocks.{baking, block_of, list_in}
use Rattle.codec.specs.Verdicts.{FileOf}
use Rattle.codec.proofs.Accepted.{short_from_lawful}
use Rattle.codec.proofs.Bakings.{length_baking, baking_row}
use Rattle.codec.proofs.DoorBlocks.{list_of_row}

-- what is in the file of n doors
pub record Contents (n : ℕ) (bytes : List ℕ) : Type 0 where
  pub few : n ≤ 96
  pub size : length bytes ≡ 512 * (n + 1)
  pub each : (d : ℕ) → d < n → lawful_list n d (list_in (block_of bytes (suc d))) ≡ true
  pub whole : (ts : List (List ℕ)) → length ts ≡ n → ((d : ℕ) → d < n → row ts d ≡ list_in (block_of bytes (suc d))) → bytes ≡ baking ts

pub contents : (n : ℕ) (bytes : List ℕ) → FileOf n bytes → Contents n bytes
contents n bytes file =
    let ls = file.0 in
    let count = file.2 in
    let f = lawful_facts ls file.1 in
    let short = short_from_lawful ls f in
    let at : (d : ℕ) → d < n → list_in (block_of bytes (suc d)) ≡ row ls d =
    λ d l. ap (λ s. list_in (block_of s (suc d))) file.3 ∙ ap list_in (baking_row ls short d (omega arith)) ∙ list_of_row d (row ls d) (short d) in
    record {
      few = omega (arith, f.few);
      size = ap length file.3 ∙ length_baking ls short ∙ omega arith;
      each = λ d l. rw (at d l) (subst (λ m. lawful_list m d (row ls d) ≡ true) count (list_from_facts (length ls) d (row ls d) (f.each d)));
      whole = λ ts long same. file.3 ∙ ap baking (ext_get_or [] ls ts (count ∙ sym long) (λ d l. sym (at d (omega arith)) ∙ sym (same d (omega arith))));
    }

-- one door more is read
pub read_more : (ls ts : List (List ℕ)) (l : List ℕ) (n d : ℕ) (want : ℕ → List ℕ) → length ls ≡ n → d < n → ts ≡ set ls d l → l ≡ want d → ((e : ℕ) → e < d → row ls e ≡ want e) → (e : ℕ) → e < d + 1 → row ts e ≡ want e
read_more ls ts l n d want long near e w same k h =
    ap (λ s. row s k) e
    ∙ ⊎_elim (λ i. subst (λ j. row (set ls d l) j ≡ want j) (sym i) (get_or-set_same ls d l [] (omega arith) ∙ w)) (λ i. get_or-set_other ls d k l [] i ∙ same k (omega arith)) (cases_eq k d)

-- a lawful list is taken
pub put_takes : (r : Bool) (n m d : ℕ) (l w : List ℕ) → r ≡ (ltb d m && lawful_list m d l) → m ≡ n → d < n → l ≡ w → lawful_list n d w ≡ true → r ≡ true
put_takes r n m d l w e long near same law =
    e ∙ and_from (ltb d m) (lawful_list m d l) (lt-ltb d m (omega arith)) (ap (λ k. lawful_list k d l) long ∙ ap (lawful_list n d) same ∙ law)

pub put_after : (r : Bool) (ts old : List (List ℕ)) (d : ℕ) (l : List ℕ) → ts ≡ cond r (set old d l) old → r ≡ true → ts ≡ set old d l
put_after r ts old d l e h = e ∙ cond-true r (set old d l) old h
