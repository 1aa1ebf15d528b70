-- Steps of the walk to a rotation: the second on a list, and the last on its list.
use Rattle.std.proofs.Common.{◌≡◌, ℕ, ◌<◌, ◌≤◌, Bool, true, false, List, length, get_or, set, is_some, Some, None, Option, MatchOption, sym, refl, ap, ◌∙◌, subst, ⊎_elim, arith}
use Rattle.std.proofs.lemmas.List.{get_or-set_same, get_or-set_other}
use Rattle.std.proofs.lemmas.Bool.{cases_eq}
use Rattle.matching.specs.Lists.{row, Lawful}
use Rattle.matching.specs.Holders.{first, OnTheWay}
use Rattle.matching.proofs.Settled.{last_on}
use Rattle.linker.specs.Holders.{ranks, lasts, Remains, NextKept, Marked}
use Rattle.linker.specs.Rounds.{Single, Double, HasTwo, Ahead, SecondOn, Stepped}
use Rattle.linker.proofs.Standing.{lawful_ranks, still_remains, remains_still}
use Rattle.linker.proofs.Asking.{none_kept, first_kept}

-- a search that cannot fail finds something
pub finds : (ls : List (List ℕ)) (keep : List ℕ) (x s : ℕ) (o : Option ℕ) → NextKept ls keep x s o → (NextKept ls keep x s None → ⊥) → is_some o ≡ true
finds ls keep x s None n never = absurd (never n)
finds ls keep x s (Some j) n never = refl

-- a test decides
pub two_are_kept : (ls : List (List ℕ)) (holder : List ℕ) (x : ℕ) (b : Bool) → (b ≡ true → Double ls holder x) → (b ≡ false → Single ls holder x) → HasTwo ls holder x b
two_are_kept ls holder x true two one = two refl
two_are_kept ls holder x false two one = one refl

module _ (ls : List (List ℕ)) (law : Lawful ls) (holder keep first' : List ℕ) (m : Marked ls holder keep first') (x : ℕ) (door : x < length ls) where
  -- one at most is on a list that ends at its first
  pub single_none : NextKept ls keep x (get_or first' x 0) None → Single ls holder x
  single_none n y z o p = absurd (none_kept ls law holder keep first' m x n y o)

  pub single_first : (j : ℕ) → NextKept ls keep x (get_or first' x 0) (Some j) → get_or keep x 0 ≤ j → Single ls holder x
  single_first j n b y z o p =
      let one : (w : ℕ) → Remains ls holder x w → get_or (row ls x) j 0 ≡ w =
      λ w q. let f = first_kept ls law holder keep first' m x j n in
      (lawful_ranks ls law).apart x (get_or (row ls x) j 0) w f.0.0 (omega (arith, n.3, f.1 w q, q.1, m.placed x door, b)) in
      sym (one y o) ∙ one z p

  -- two are on one that goes on
  pub double_first : (j : ℕ) → OnTheWay ls (ranks ls) (lasts holder) → NextKept ls keep x (get_or first' x 0) (Some j) → j < get_or keep x 0 → Double ls holder x
  double_first j way n b =
      let f = first_kept ls law holder keep first' m x j n in
      let S = way.3.settled in (
        get_or (row ls x) j 0,
        lasts holder x,
        f.0,
        ⊎_elim
            (λ e. absurd
            (omega (
              arith,
              f.0.0,
              S.least x (get_or (row ls x) j 0) f.0,
              ap (ranks ls x) (sym (ap (first way.1) e) ∙ S.first_of_last x),
            )))
            (λ o. o)
            (last_on (ranks ls) (lasts holder) (first way.1) (lawful_ranks ls law) S x),
        omega (arith, b, n.3, m.placed x door),
      )

  -- what the next place tells
  pub two_told : OnTheWay ls (ranks ls) (lasts holder) → (r : Option ℕ) → NextKept ls keep x (get_or first' x 0) r → (b : Bool) → (F : ℕ → Type 0)
      → MatchOption r (b ≡ false) F → ((k : ℕ) → F k → ((b ≡ true → k < get_or keep x 0) × (b ≡ false → get_or keep x 0 ≤ k))) → HasTwo ls holder x b
  two_told way None n b F e p = subst (HasTwo ls holder x) (sym e) (single_none n)
  two_told way (Some k) n b F e p = two_are_kept ls holder x b (λ t. double_first k way n ((p k e).0 t)) (λ f. single_first k n ((p k e).1 f))

  module _ (seconds : List ℕ) (ahead : Ahead ls holder seconds) (double : Double ls holder x) where
    -- the first is found
    pub finds_first : NextKept ls keep x (get_or first' x 0) None → ⊥
    finds_first n = none_kept ls law holder keep first' m x n double.0 double.2

    module _ (k start : ℕ) (n : NextKept ls keep x (get_or first' x 0) (Some k)) (past : k < start) (near : (z : ℕ) → get_or seconds x 0 ≤ z → k < z → start ≤ z) where
      -- and nothing after it comes before the start of the second search
      after : (z : ℕ) → Remains ls holder x z → k < ranks ls x z → start ≤ ranks ls x z
      after z o b =
          let f = first_kept ls law holder keep first' m x k n in
          near (ranks ls x z) (ahead x (get_or (row ls x) k 0) z f.0 o (omega (arith, b, n.3))) b

      -- the second is found
      pub finds_second : NextKept ls keep x start None → ⊥
      finds_second none =
          let z : ℕ = double.1 in
          let o = double.3 in
          let b : k < ranks ls x z = omega (arith, double.4, n.4 double.0 (remains_still ls law holder keep first' m x double.0 double.2) (m.behind x double.0 double.2)) in
          none z (remains_still ls law holder keep first' m x z o) (after z o b)

      pub stepped : (at y next : ℕ) → length seconds ≡ length ls → NextKept ls keep x start (Some at) → y ≡ get_or (row ls x) at 0 → next ≡ lasts holder y
          → Stepped ls holder x seconds (set seconds x at) next (get_or (row ls x) k 0) y at
      stepped at y next room q e onward =
          let f = first_kept ls law holder keep first' m x k n in
          let rank : at ≡ ranks ls x y = sym q.3 ∙ ap (ranks ls x) (sym e) in
          let same = get_or-set_same seconds x at 0 (omega (arith, room, door)) in
          let sec : SecondOn ls holder x (get_or (row ls x) k 0) y =
          record {
            first = f;
            listed = subst (Remains ls holder x) (sym e) (still_remains ls law holder keep first' m x (get_or (row ls x) at 0) q.2);
            after = omega (arith, rank, q.0, past, n.3);
            least = λ z o b. omega (arith, rank, q.4 z (remains_still ls law holder keep first' m x z o) (after z o (omega (arith, b, n.3))));
          } in
          record {
            found = sec;
            onward = onward;
            placed = rank;
            learnt = same;
            others = λ z i. get_or-set_other seconds x z at 0 i;
            ahead = λ w u v o p b.
                ⊎_elim
                (λ (i : w ≡ x). let on : Remains ls holder x v = subst (λ t. Remains ls holder t v) i p in
                let un : Remains ls holder x u = subst (λ t. Remains ls holder t u) i o in
                let less : ranks ls x u < ranks ls x v = subst (λ t. ranks ls t u < ranks ls t v) i b in
                omega (
                  arith,
                  ap (λ t. get_or (set seconds x at) t 0) i,
                  same,
                  rank,
                  ap (λ t. ranks ls t v) i,
                  sec.least v on (omega (arith, less, f.1 u un)),
                ))
                (λ i. omega (arith, get_or-set_other seconds x w at 0 i, ahead w u v o p b))
                (cases_eq w x);
          }
