-- The elimination of a rotation, door by door, and what comes of it.
use Rattle.std.proofs.Common.{◌≡◌, ℕ, suc, ◌+◌, ◌<◌, ◌≤◌, List, length, get_or, set, None, Ok, Err, Result, sym, refl, ap, ◌∙◌, subst, ⊎_elim, arith}
use Rattle.std.proofs.lemmas.List.{get_or-set_same, get_or-set_other, length-set}
use Rattle.std.proofs.lemmas.Bool.{cases_eq, cases_lt}
use Rattle.matching.specs.Lists.{row, Lawful}
use Rattle.matching.specs.Rotations.{Rotation, Moved, Eliminated, PartMoved}
use Rattle.matching.specs.TwoWay.{second, walk, Outcome}
use Rattle.matching.specs.Holders.{first, OnTheWay}
use Rattle.matching.proofs.Proposing.{on_kept}
use Rattle.matching.proofs.Rotating.{part_none, part_more, part_all, in_period, seconds_apart, shorter, on_before, before_second, first_leaves}
use Rattle.matching.proofs.Reducing.{rotation, eliminated_made, reduction_falls, empties_some, empties_none, reduced_next}
use Rattle.linker.specs.declared.marks.Emptied.{Emptied}
use Rattle.linker.specs.Holders.{ranks, lasts, Remains, Marked}
use Rattle.linker.specs.Rounds.{InRound, Cutting, Cut, Keeps, Lowered, Rotated}
use Rattle.linker.proofs.Standing.{orders, lawful_ranks, ranked_pair, ranked_doors, ranked_door}
use Rattle.linker.proofs.Asking.{lasts_same, lasts_other}

module _ (ls : List (List ℕ)) (law : Lawful ls) (holder : List ℕ) (way : OnTheWay ls (ranks ls) (lasts holder)) (d from : ℕ) (seconds round : List ℕ) (turn : InRound ls way.1 d from seconds round) where
  rotates : Rotation (ranks ls) (lasts holder) (first way.1) (second way.1) (λ i. walk way.1 d (from + i)) (length round)
  rotates = rotation ls law (ranks ls) (orders ls law) way.1 (lasts holder) way.3 d turn.low from (length round) turn.some turn.back

  -- a door of the rotation and its second accept each other, and the second stands at the place that is noted
  pub second_near : (j : ℕ) → ranks ls (walk way.1 d (from + j)) (second way.1 (walk way.1 d (from + j))) < ranks ls (walk way.1 d (from + j)) (walk way.1 d (from + j))
  second_near j = (rotates.second j).0.0

  pub second_door : (j k : ℕ) → j < length round → k ≡ get_or seconds (get_or round j 0) 0 → (k ≡ ranks ls (walk way.1 d (from + j)) (second way.1 (walk way.1 d (from + j))))
      × (get_or (row ls (walk way.1 d (from + j))) k 0 ≡ second way.1 (walk way.1 d (from + j)))
  second_door j k b e =
      let x : ℕ = walk way.1 d (from + j) in
      let at : k ≡ ranks ls x (second way.1 x) = e ∙ ap (λ v. get_or seconds v 0) (turn.doors j b) ∙ turn.places j b in
      (at, ap (λ v. get_or (row ls x) v 0) at ∙ ranked_door ls law x (second way.1 x) (ranked_pair ls law x (second way.1 x) (second_near j)))

  module _ (keep₀ first₀ : List ℕ) (m : Marked ls holder keep₀ first₀) where
    pub cutting_none : Cutting ls way.1 d from 0 holder first₀ holder keep₀ first₀
    cutting_none =
        record {
          doors = m.doors;
          marks = m.marks;
          begun = m.begun;
          placed = m.placed;
          ends = part_none (lasts holder) (λ i. second way.1 (walk way.1 d (from + i))) (λ i. walk way.1 d (from + i));
          begins = part_none (λ x. get_or first₀ x 0) (λ i. walk way.1 d (from + i)) (λ i. ranks ls (walk way.1 d (from + i)) (second way.1 (walk way.1 d (from + i))));
        }

    -- one more door
    pub cutting_more : (j x y k v : ℕ) (holder' keep first' : List ℕ) → x ≡ walk way.1 d (from + j) → y ≡ second way.1 (walk way.1 d (from + j)) → k ≡ ranks ls (walk way.1 d (from + j)) (second way.1 (walk way.1 d (from + j)))
        → v ≡ ranks ls y x → Cutting ls way.1 d from j holder first₀ holder' keep first' → Cutting ls way.1 d from (j + 1) holder first₀ (set holder' y x) (set keep y v) (set first' x k)
    cutting_more j x y k v holder' keep first' e i o w c =
        let T : List (List ℕ) = way.1 in
        let near : ranks ls x y < ranks ls x x = subst (λ t. ranks ls t y < ranks ls t t) (sym e) (subst (λ t. ranks ls (walk T d (from + j)) t < ranks ls (walk T d (from + j)) (walk T d (from + j))) (sym i) (second_near j)) in
        let small = ranked_doors ls law x y near in
        let next : suc j ≡ j + 1 = omega arith in
        let here : lasts (set holder' y x) y ≡ x = lasts_same holder' y x (omega (arith, small.1, c.doors)) in
        let start : get_or (set first' x k) x 0 ≡ k = get_or-set_same first' x k 0 (omega (arith, small.0, c.begun)) in
        record {
          doors = length-set holder' y x ∙ c.doors;
          marks = length-set keep y v ∙ c.marks;
          begun = length-set first' x k ∙ c.begun;
          placed = λ z b.
              ⊎_elim
              (λ (q : z ≡ y). subst (λ t. get_or (set keep y v) t 0 ≡ ranks ls t (lasts (set holder' y x) t)) (sym q)
              (get_or-set_same keep y v 0 (omega (arith, small.1, c.marks)) ∙ w ∙ ap (ranks ls y) (sym here)))
              (λ n. get_or-set_other keep y z v 0 n ∙ c.placed z b ∙ ap (ranks ls z) (sym (lasts_other holder' y x z n)))
              (cases_eq z y);
          ends = subst (λ t. PartMoved (lasts holder) (λ i. second T (walk T d (from + i))) (λ i. walk T d (from + i)) t (lasts (set holder' y x))) next
              (part_more (lasts holder) (λ i. second T (walk T d (from + i))) (λ i. walk T d (from + i)) j (lasts holder') (lasts (set holder' y x))
              (seconds_apart (ranks ls) (lasts holder) (first T) (second T) (λ i. walk T d (from + i)) (length round) (lawful_ranks ls law) way.3.settled rotates) c.ends
              (ap (lasts (set holder' y x)) (sym i) ∙ here ∙ e) (λ z n. lasts_other holder' y x z (λ q. n (q ∙ i))));
          begins = subst (λ t. PartMoved (λ x. get_or first₀ x 0) (λ i. walk T d (from + i)) (λ i. ranks ls (walk T d (from + i)) (second T (walk T d (from + i)))) t (λ z. get_or (set first' x k) z 0)) next
              (part_more (λ x. get_or first₀ x 0) (λ i. walk T d (from + i)) (λ i. ranks ls (walk T d (from + i)) (second T (walk T d (from + i)))) j (λ z. get_or first' z 0) (λ z. get_or (set first' x k) z 0)
              (λ i l q. ap (λ t. ranks ls t (second T t)) q) c.begins (ap (λ t. get_or (set first' x k) t 0) (sym e) ∙ start ∙ o) (λ z n. get_or-set_other first' x z k 0 (λ q. n (q ∙ e))));
        }

    -- all doors
    module _ (holder' keep first' : List ℕ) (c : Cutting ls way.1 d from (length round) holder first₀ holder' keep first') where
      pub cutting_all : Eliminated (lasts holder) (second way.1) (λ i. walk way.1 d (from + i)) (lasts holder')
      cutting_all =
          part_all (lasts holder) (λ i. second way.1 (walk way.1 d (from + i))) (λ i. walk way.1 d (from + i)) (length round) (lasts holder') turn.some
          (λ i. ap (second way.1) (rotates.again i)) rotates.again c.ends

      starts : Moved (λ x. get_or first₀ x 0) (λ i. walk way.1 d (from + i)) (λ i. ranks ls (walk way.1 d (from + i)) (second way.1 (walk way.1 d (from + i)))) (λ x. get_or first' x 0)
      starts =
          part_all (λ x. get_or first₀ x 0) (λ i. walk way.1 d (from + i)) (λ i. ranks ls (walk way.1 d (from + i)) (second way.1 (walk way.1 d (from + i)))) (length round) (λ x. get_or first' x 0)
          turn.some rotates.again (λ i. ap (λ t. ranks ls t (second way.1 t)) (rotates.again i)) c.begins

      stayed : (x y : ℕ) → Remains ls holder' x y → Remains ls holder x y
      stayed = on_before (ranks ls) (lasts holder) (first way.1) (second way.1) (λ i. walk way.1 d (from + i)) (length round) (lawful_ranks ls law) way.3.settled rotates (lasts holder') cutting_all

      -- nothing before its second is left on the list of a door of the rotation
      no_earlier : (i y : ℕ) → Remains ls holder' (walk way.1 d (from + i)) y → ranks ls (walk way.1 d (from + i)) (second way.1 (walk way.1 d (from + i))) ≤ ranks ls (walk way.1 d (from + i)) y
      no_earlier i y o =
          let x : ℕ = walk way.1 d (from + i) in
          ⊎_elim
          (λ b. absurd
          (first_leaves (ranks ls) (lasts holder) (first way.1) (second way.1) (λ i. walk way.1 d (from + i)) (length round) (lawful_ranks ls law) way.3.settled rotates (lasts holder') cutting_all i
          (subst (Remains ls holder' x)
          (before_second (ranks ls) (lasts holder) (first way.1) (second way.1) (λ i. walk way.1 d (from + i)) (length round) (lawful_ranks ls law) way.3.settled rotates i y (stayed x y o) b) o)))
          (λ b. b)
          (cases_lt (ranks ls x y) (ranks ls x (second way.1 x)))

      pub cutting_marked : Marked ls holder' keep first'
      cutting_marked =
          record {
            doors = c.doors;
            marks = c.marks;
            begun = c.begun;
            placed = c.placed;
            behind = λ x y o.
                ⊎_elim
                (λ e. omega (arith, e, m.behind x y (stayed x y o)))
                (λ i. let z : ℕ = walk way.1 d (from + i.0) in
                omega (
                  arith,
                  ap (λ t. get_or first' t 0) i.1,
                  starts.moves i.0,
                  no_earlier i.0 y (subst (λ t. Remains ls holder' t y) i.1 o),
                  ap (λ t. ranks ls t y) i.1,
                ))
                (starts.stays x);
          }

  -- what comes of it
  module _ (holder' keep' first' : List ℕ) (m : Marked ls holder' keep' first') (E : Eliminated (lasts holder) (second way.1) (λ i. walk way.1 d (from + i)) (lasts holder')) where
    lower : (x : ℕ) → ranks ls x (lasts holder' x) ≤ ranks ls x (lasts holder x)
    lower = shorter (ranks ls) (lasts holder) (first way.1) (second way.1) (λ i. walk way.1 d (from + i)) (length round) (lawful_ranks ls law) way.3.settled rotates (lasts holder') E

    -- the places tell the ranks at a door of the rotation
    told : (i : ℕ) → i < length round → (get_or seconds (get_or round i 0) 0 ≡ ranks ls (walk way.1 d (from + i)) (second way.1 (walk way.1 d (from + i))))
        × (get_or keep' (get_or round i 0) 0 ≡ ranks ls (walk way.1 d (from + i)) (lasts holder' (walk way.1 d (from + i))))
    told i b =
        let x : ℕ = walk way.1 d (from + i) in (
          (second_door i (get_or seconds (get_or round i 0) 0) b refl).0,
          ap (λ t. get_or keep' t 0) (turn.doors i b) ∙ m.placed x (ranked_doors ls law x (second way.1 x) (second_near i)).0,
        )

    pub rotated_on : (l : ℕ) (keep first₀ : List ℕ) → Lowered ls l holder keep first₀ seconds → (u : Unit {0}) → Keeps round seconds keep' (Ok u) → Rotated ls l holder holder' keep' first' seconds (Ok u)
    rotated_on l keep first₀ low u keeps =
        let T : List (List ℕ) = way.1 in
        let stays : (i : ℕ) → ranks ls (walk T d (from + i)) (second T (walk T d (from + i))) ≤ ranks ls (walk T d (from + i)) (lasts holder' (walk T d (from + i))) =
        in_period (λ i. walk T d (from + i)) (length round) turn.some rotates.again (λ x. ranks ls x (second T x) ≤ ranks ls x (lasts holder' x))
        (λ i b. omega (arith, (told i b).0, (told i b).1, keeps i b)) in
        let (T', q) = eliminated_made ls law (ranks ls) (orders ls law) T (lasts holder) way.3 d turn.low from (length round) turn.some turn.back (lasts holder') E in
        let none = empties_none ls law (ranks ls) (orders ls law) T (lasts holder) way.3 d turn.low from (length round) turn.some turn.back (lasts holder') E T' q stays in (
          record {
            marked = m;
            way = (
              suc way.0,
              T',
              (T, way.2, (d, turn.low, q), none),
              reduced_next ls law (ranks ls) (orders ls law) T (lasts holder) way.3 d turn.low from (length round) turn.some turn.back (lasts holder') E T' q none,
            );
            ahead = λ x y z o p b.
                low.ahead x y z (on_kept (ranks ls) (lasts holder) (lasts holder') lower x y o) (on_kept (ranks ls) (lasts holder) (lasts holder') lower x z p) b;
            single = λ x b y z o p.
                low.single x b y z (on_kept (ranks ls) (lasts holder) (lasts holder') lower x y o) (on_kept (ranks ls) (lasts holder) (lasts holder') lower x z p);
          },
          reduction_falls ls law (ranks ls) (orders ls law) T (lasts holder) way.3 d turn.low from (length round) turn.some turn.back (lasts holder') E,
        )

    pub rotated_out : (e : Emptied) → Keeps round seconds keep' (Err e) → Outcome ls None
    rotated_out e (i, b, less) =
        let T : List (List ℕ) = way.1 in
        let (T', q) = eliminated_made ls law (ranks ls) (orders ls law) T (lasts holder) way.3 d turn.low from (length round) turn.some turn.back (lasts holder') E in (
          way.0,
          T,
          T',
          way.2,
          (d, turn.low, q),
          empties_some ls law (ranks ls) (orders ls law) T (lasts holder) way.3 d turn.low from (length round) turn.some turn.back (lasts holder') E T' q i
              (omega (arith, (told i b).0, (told i b).1, less)),
        )

-- the elimination goes on or ends, as the test says
pub rotated : (ls : List (List ℕ)) → Lawful ls → (l : ℕ) (holder keep first₀ seconds holder' keep' first' round : List ℕ) → Lowered ls l holder keep first₀ seconds → Cut ls holder holder' seconds round
    → Marked ls holder' keep' first' → (r : Result (Unit {0}) Emptied) → Keeps round seconds keep' r → Rotated ls l holder holder' keep' first' seconds r
rotated ls law l holder keep first₀ seconds holder' keep' first' round low (way, d, from, turn, E) m (Ok u) k =
    rotated_on ls law holder way d from seconds round turn holder' keep' first' m E l keep first₀ low u k
rotated ls law l holder keep first₀ seconds holder' keep' first' round low (way, d, from, turn, E) m (Err e) k =
    rotated_out ls law holder way d from seconds round turn holder' keep' first' m E e k
