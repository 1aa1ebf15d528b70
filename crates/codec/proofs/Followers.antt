-- A list is lawful exactly where each of its doors may follow those before it.
use Rattle.std.proofs.Common.{◌≡◌, ℕ, ◌<◌, true, not, ◌&&◌, eqb, ltb, List, length, get_or, take, is_some, sym, ◌∙◌, subst, ⊎_elim, arith}
use Rattle.std.specs.List.{ContainsAt as Has}
use Rattle.std.proofs.lemmas.List.{length-take-le, get_or-take, get_or_default}
use Rattle.std.proofs.lemmas.Bool.{and_parts, and_from, ltb-true, lt-ltb, eqb-false, ne_eqb, not-true, not_from_false, cases_Bool, cases_order}
use Rattle.std.proofs.lemmas.Bool.Decides.{not_from_Decides}
use Rattle.matching.specs.Lists.{place, LawfulList}
use Rattle.codec.specs.Findings.{may_follow}
use Rattle.codec.proofs.Listed.{listed_decides}

-- what the test says
may_facts : (n d : ℕ) (before : List ℕ) (y : ℕ) → may_follow n d before y ≡ true → (y < n) × (y ≡ d → ⊥) × (Has before y → ⊥)
unfolding may_follow
may_facts n d before y h =
    let one = and_parts (ltb y n) (not (eqb y d) && not (is_some (place before y))) h in
    let two = and_parts (not (eqb y d)) (not (is_some (place before y))) one.1 in (
      ltb-true y n one.0,
      eqb-false y d (not-true (eqb y d) two.0),
      not_from_Decides (is_some (place before y)) (listed_decides before y) (not-true (is_some (place before y)) two.1),
    )

may_from : (n d : ℕ) (before : List ℕ) (y : ℕ) → y < n → (y ≡ d → ⊥) → (Has before y → ⊥) → may_follow n d before y ≡ true
unfolding may_follow
may_from n d before y a b c =
    and_from (ltb y n) (not (eqb y d) && not (is_some (place before y))) (lt-ltb y n a)
    (and_from (not (eqb y d)) (not (is_some (place before y))) (not_from_false (eqb y d) (ne_eqb y d b))
    (not_from_false (is_some (place before y)) (⊎_elim (λ t. absurd (c ((listed_decides before y).0 t))) (λ f. f) (cases_Bool (is_some (place before y))))))

-- a door before place k is on the list so far
has_before : (l : List ℕ) (j k : ℕ) → j < k → k < length l → Has (take k l) (get_or l j 0)
has_before l j k h i =
    let long : j < length (take k l) = omega (arith, length-take-le k l (omega arith)) in
    (j, long, λ e. get_or_default (take k l) j e 0 long ∙ get_or-take k l j 0 h)

pub lawful_from_follows : (n d : ℕ) (l : List ℕ) → ((k : ℕ) → k < length l → may_follow n d (take k l) (get_or l k 0) ≡ true) → LawfulList n d l
lawful_from_follows n d l h =
    let fresh : (j k : ℕ) → j < k → k < length l → get_or l j 0 ≡ get_or l k 0 → ⊥ =
    λ j k a i e. (may_facts n d (take k l) (get_or l k 0) (h k i)).2 (subst (Has (take k l)) e (has_before l j k a i)) in
    record {
      known = λ k i. (may_facts n d (take k l) (get_or l k 0) (h k i)).0;
      others = λ k i. (may_facts n d (take k l) (get_or l k 0) (h k i)).1;
      apart = λ j k a b e. ⊎_elim (λ s. s) (⊎_elim (λ s. absurd (fresh j k s b e)) (λ s. absurd (fresh k j s a (sym e)))) (cases_order j k);
    }

pub follows_from_lawful : (n d : ℕ) (l : List ℕ) → LawfulList n d l → (k : ℕ) → k < length l → may_follow n d (take k l) (get_or l k 0) ≡ true
follows_from_lawful n d l f k i =
    may_from n d (take k l) (get_or l k 0) (f.known k i) (f.others k i)
    (λ has. let long = length-take-le k l (omega arith) in
    let j = has.0 in
    let near : j < k = omega (arith, has.1) in
    omega (arith, f.apart j k (omega arith) i (sym (get_or-take k l j 0 near) ∙ has.2 0)))
