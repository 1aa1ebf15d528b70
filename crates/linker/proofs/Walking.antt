-- The walk that finds a rotation: what is written down on the way, and why it comes to a door again.
use Rattle.std.proofs.Common.{◌≡◌, ℕ, ◌+◌, ◌-◌, ◌<◌, ◌≤◌, List, length, get_or, take, drop, set, sym, refl, ap, ◌∙◌, subst, inl, inr, ⊎_elim, arith}
use Rattle.std.proofs.lemmas.List.{get_or-set_same, get_or-set_other, get_or-take, get_or-drop, length-take-le, length-drop}
use Rattle.std.proofs.lemmas.Bool.{cases_eq, cases_lt}
use Rattle.matching.specs.Lists.{row, Lawful}
use Rattle.matching.specs.Rotations.{Walk}
use Rattle.matching.specs.Settled.{Firsts, Second}
use Rattle.matching.specs.TwoWay.{Lowest, second, walk}
use Rattle.matching.specs.Holders.{first, OnTheWay}
use Rattle.matching.proofs.Search.{walk_repeats}
use Rattle.matching.proofs.Settled.{second_one}
use Rattle.matching.proofs.Rotating.{walk_seconds}
use Rattle.matching.proofs.Tables.{rows_firsts, row_second, rows_seconds, two_apart, one_same}
use Rattle.matching.proofs.Reducing.{walk_goes}
use Rattle.linker.specs.Holders.{ranks, lasts, Remains}
use Rattle.linker.specs.Rounds.{Single, Double, SecondOn, Stepped, Walked, InRound}
use Rattle.linker.proofs.Standing.{orders, lawful_ranks, ranked_doors}

module _ (ls : List (List ℕ)) (law : Lawful ls) (holder : List ℕ) (way : OnTheWay ls (ranks ls) (lasts holder)) where
  firsts : Firsts (ranks ls) (lasts holder) (first way.1)
  firsts = rows_firsts (ranks ls) (lasts holder) way.1 way.3.rows

  -- a list with two doors has a row with two, a list with one at most has not
  double_row : (x : ℕ) → Double ls holder x → 2 ≤ length (row way.1 x)
  double_row x q =
      ⊎_elim
      (λ b. absurd
      (omega (
        arith,
        q.4,
        q.3.1,
        firsts.least x q.0 q.2,
        ap (ranks ls x) (one_same (ranks ls) (lasts holder) way.1 way.3.rows (lawful_ranks ls law) way.3.settled x b),
      )))
      (λ b. b)
      (cases_lt (length (row way.1 x)) 2)

  first_listed : (x y : ℕ) → Remains ls holder x y → Remains ls holder x (first way.1 x)
  first_listed x y o = ⊎_elim (λ e. absurd (omega (arith, o.0, firsts.least x y o, ap (ranks ls x) e))) (λ f. f) (firsts.first x)

  single_row : (x : ℕ) → Single ls holder x → length (row way.1 x) < 2
  single_row x one =
      ⊎_elim
      (λ b. b)
      (λ b. let s = row_second (ranks ls) (lasts holder) way.1 way.3.rows (lawful_ranks ls law) way.3.settled x b in
      absurd (omega (arith, s.1, ap (ranks ls x) (one (first way.1 x) (second way.1 x) (first_listed x (second way.1 x) s.0) s.0))))
      (cases_lt (length (row way.1 x)) 2)

  pub single_same : (x : ℕ) → Single ls holder x → first way.1 x ≡ lasts holder x
  single_same x one = one_same (ranks ls) (lasts holder) way.1 way.3.rows (lawful_ranks ls law) way.3.settled x (single_row x one)

  pub lowest_row : (d : ℕ) → Double ls holder d → ((x : ℕ) → x < d → Single ls holder x) → Lowest way.1 d
  lowest_row d two one = (double_row d two, λ x b. single_row x (one x b))

  module _ (d : ℕ) (low : Lowest way.1 d) where
    goes : Walk (lasts holder) (second way.1) (walk way.1 d)
    goes = walk_goes ls law (ranks ls) (orders ls law) way.1 (lasts holder) way.3 d low

    starts : first way.1 (walk way.1 d 0) ≡ lasts holder (walk way.1 d 0) → ⊥
    unfolding walk
    starts = two_apart (ranks ls) (lasts holder) way.1 way.3.rows (lawful_ranks ls law) way.3.settled d low.0

    pub walk_second : (i : ℕ) → Second (ranks ls) (lasts holder) (first way.1) (walk way.1 d i) (second way.1 (walk way.1 d i))
    walk_second =
        walk_seconds (ranks ls) (lasts holder) (first way.1) (second way.1) (lawful_ranks ls law) way.3.settled (walk way.1 d) goes
        (rows_seconds (ranks ls) (lasts holder) way.1 way.3.rows (lawful_ranks ls law) way.3.settled) starts

    -- every door of the walk has two or more on its list
    pub walk_double : (i : ℕ) → Double ls holder (walk way.1 d i)
    walk_double i =
        let x : ℕ = walk way.1 d i in
        let s = walk_second i in
        (first way.1 x, second way.1 x, first_listed x (second way.1 x) s.0, s.0, s.1)

    pub walk_below : (i : ℕ) → walk way.1 d i < length ls
    walk_below i = (ranked_doors ls law (walk way.1 d i) (second way.1 (walk way.1 d i)) (walk_second i).0.0).0

    -- the second that is found is the second on the row
    second_row : (i f y : ℕ) → SecondOn ls holder (walk way.1 d i) f y → y ≡ second way.1 (walk way.1 d i)
    second_row i f y s =
        let x : ℕ = walk way.1 d i in
        let e : f ≡ first way.1 x =
        (lawful_ranks ls law).apart x f (first way.1 x) s.first.0.0
        (omega (arith, s.first.1 (first way.1 x) (first_listed x y s.listed), firsts.least x f s.first.0)) in
        second_one (ranks ls) (lasts holder) (first way.1) x y (second way.1 x) (lawful_ranks ls law)
        (s.listed, omega (arith, s.after, ap (ranks ls x) e), λ z o b. s.least z o (omega (arith, b, ap (ranks ls x) e))) (walk_second i)

    -- at the start nothing is written down
    pub walked_none : (sequence seen seconds : List ℕ) → ((z : ℕ) → get_or seen z 65535 ≡ 65535) → Walked ls way.1 d 0 d sequence seen seconds
    unfolding walk
    walked_none sequence seen seconds none =
        record {
          here = refl;
          few = omega arith;
          doors = λ i b. absurd (omega arith);
          noted = λ i b. absurd (omega arith);
          fresh = λ z. inl (none z);
          places = λ i b. absurd (omega arith);
        }

    module _ (len x : ℕ) (sequence seen seconds : List ℕ) (w : Walked ls way.1 d len x sequence seen seconds) where
      -- while the doors differ, they are fewer than the level's
      pub walked_few : get_or seen x 65535 ≡ 65535 → len < length ls
      walked_few new =
          ⊎_elim
          (λ b. b)
          (λ b. absurd
          (let again = walk_repeats (length ls) (walk way.1 d) (λ k _. walk_below k) in
          let i : ℕ = again.0 in
          let j : ℕ = again.1 in
          ⊎_elim
          (λ (c : j < len). omega (arith, again.2, w.noted i (omega (arith, again.2, c)), w.noted j c, ap (λ v. get_or seen v 65535) again.4))
          (λ (c : len ≤ j). let e : j ≡ len = omega (arith, c, again.3, b) in
          omega (
            arith,
            again.2,
            again.3,
            law.few,
            w.noted i (omega (arith, again.2, e)),
            new,
            ap (λ v. get_or seen v 65535) (again.4 ∙ ap (walk way.1 d) e ∙ sym w.here),
          ))
          (cases_lt j len)))
          (cases_lt len (length ls))

      -- one more step
      pub walked_more : (seconds' : List ℕ) (next f y at : ℕ) → get_or seen x 65535 ≡ 65535 → length ls ≤ length sequence → length seen ≡ length ls
          → Stepped ls holder x seconds seconds' next f y at → Walked ls way.1 d (len + 1) next (set sequence len x) (set seen x len) seconds'
      walked_more seconds' next f y at new room room' s =
          let p : ℕ → ℕ = walk way.1 d in
          let few : len < length ls = walked_few new in
          let below : x < length ls = subst (λ v. v < length ls) (sym w.here) (walk_below len) in
          let sec : y ≡ second way.1 (p len) = second_row len f y (subst (λ v. SecondOn ls holder v f y) w.here s.found) in
          let apart : (i : ℕ) → i < len → p i ≡ x → ⊥ = λ i b e. omega (arith, b, w.noted i b, ap (λ v. get_or seen v 65535) e, new, w.few, law.few) in
          let marked : get_or (set seen x len) x 65535 ≡ len = get_or-set_same seen x len 65535 (omega (arith, below, room')) in
          record {
            here = s.onward ∙ ap (lasts holder) sec ∙ sym (goes len) ∙ ap p (omega arith);
            few = omega (arith, few);
            doors = λ i b.
                ⊎_elim
                (λ (e : i ≡ len). subst (λ v. get_or (set sequence len x) v 0 ≡ p v) (sym e) (get_or-set_same sequence len x 0 (omega (arith, few, room)) ∙ w.here))
                (λ n. get_or-set_other sequence len i x 0 n ∙ w.doors i (omega (arith, b, n)))
                (cases_eq i len);
            noted = λ i b.
                ⊎_elim
                (λ (e : i ≡ len). ap (λ v. get_or (set seen x len) v 65535) (ap p e ∙ sym w.here) ∙ marked ∙ sym e)
                (λ n. let c : i < len = omega (arith, b, n) in get_or-set_other seen x (p i) len 65535 (apart i c) ∙ w.noted i c)
                (cases_eq i len);
            fresh = λ z.
                ⊎_elim
                (λ (e : z ≡ x). let q : get_or (set seen x len) z 65535 ≡ len = ap (λ v. get_or (set seen x len) v 65535) e ∙ marked in
                inr (omega (arith, q), ap p q ∙ sym w.here ∙ sym e))
                (λ n. let q : get_or (set seen x len) z 65535 ≡ get_or seen z 65535 = get_or-set_other seen x z len 65535 n in
                ⊎_elim (λ e. inl (q ∙ e)) (λ h. inr (omega (arith, q, h.0), ap p q ∙ h.1)) (w.fresh z))
                (cases_eq z x);
            places = λ i b.
                ⊎_elim
                (λ (e : i ≡ len). let same : p i ≡ x = ap p e ∙ sym w.here in
                ap (λ v. get_or seconds' v 0) same
                ∙ (s.learnt ∙ s.placed ∙ ap (ranks ls x) sec ∙ ap (λ v. ranks ls v (second way.1 (p len))) w.here ∙ ap (λ k. ranks ls (p k) (second way.1 (p k))) (sym e)))
                (λ n. let c : i < len = omega (arith, b, n) in s.others (p i) (apart i c) ∙ w.places i c)
                (cases_eq i len);
          }

      -- the walk is at a door again
      pub walked_back : (get_or seen x 65535 ≡ 65535 → ⊥) → (get_or seen x 65535 < len) × (walk way.1 d (get_or seen x 65535) ≡ x)
      walked_back old = ⊎_elim (λ e. absurd (old e)) (λ h. h) (w.fresh x)

      pub walked_round : (get_or seen x 65535 ≡ 65535 → ⊥) → length ls ≤ length sequence
          → InRound ls way.1 d (get_or seen x 65535) seconds (take (len - get_or seen x 65535) (drop (get_or seen x 65535) sequence))
      walked_round old room =
          let p : ℕ → ℕ = walk way.1 d in
          let from : ℕ = get_or seen x 65535 in
          let h : (from < len) × (p from ≡ x) = walked_back old in
          let size : length (take (len - from) (drop from sequence)) ≡ len - from =
          length-take-le (len - from) (drop from sequence) (omega (arith, length-drop from sequence, w.few, room)) in
          record {
            low = low;
            some = omega (arith, size, h.0);
            back = ap p (omega (arith, size, h.0)) ∙ sym w.here ∙ sym h.1;
            doors = λ i b.
                get_or-take (len - from) (drop from sequence) i 0 (omega (arith, b, size)) ∙ get_or-drop from sequence i 0 ∙ w.doors (from + i) (omega (arith, b, size, h.0));
            places = λ i b. w.places (from + i) (omega (arith, b, size, h.0));
          }
