-- A proposal as the program makes it: the pointer moves on, and the door that is asked takes the asker as its last.
use Rattle.std.proofs.Common.{◌≡◌, ℕ, ◌<◌, ◌⊎◌, Bool, true, false, not, refl, List, length, get_or, set, Some, None, sym, ap, ◌∙◌, subst, inl, inr, ⊎_elim, arith}
use Rattle.std.specs.Bool.{then_some}
use Rattle.std.proofs.lemmas.List.{get_or_past, get_or-set_same, get_or-set_other, length-set}
use Rattle.std.proofs.lemmas.Bool.{cases_eq, cases_lt}
use Rattle.matching.specs.Lists.{row, Lawful}
use Rattle.matching.specs.Settled.{Empty, Firsts}
use Rattle.matching.specs.Holders.{First, first, Underway, OnTheWay}
use Rattle.matching.proofs.Proposing.{Asked, asked_less, on_kept}
use Rattle.matching.proofs.Tables.{rows_firsts}
use Rattle.matching.proofs.Holders.{underway_holding, underway_next, underway_falls, underway_ends}
use Rattle.linker.specs.Holders.{ranks, lasts, Remains, NextKept, Marked, Settles, Proposed}
use Rattle.linker.proofs.Standing.{orders, lawful_ranks, rank_own, ranked_doors, still_remains, remains_still}

-- how a write changes the last doors
pub lasts_same : (holder : List ℕ) (y v : ℕ) → y < length holder → lasts (set holder y v) y ≡ v
lasts_same holder y v b = get_or-set_same holder y v y b

pub lasts_other : (holder : List ℕ) (y v w : ℕ) → (w ≡ y → ⊥) → lasts (set holder y v) w ≡ lasts holder w
lasts_other holder y v w n = get_or-set_other holder y w v w n

module _ (ls : List (List ℕ)) (f : Lawful ls) (holder keep first : List ℕ) (m : Marked ls holder keep first) (x : ℕ) where
  -- nothing found: the list is empty
  pub none_kept : NextKept ls keep x (get_or first x 0) None → Empty (ranks ls) (lasts holder) x
  none_kept n y o = n y (remains_still ls f holder keep first m x y o) (m.behind x y o)

  -- what is found is the first on the list
  pub first_kept : (j : ℕ) → NextKept ls keep x (get_or first x 0) (Some j) → First (ranks ls) (lasts holder) x (get_or (row ls x) j 0)
  first_kept j n = (
    still_remains ls f holder keep first m x (get_or (row ls x) j 0) n.2,
    λ z o. omega (arith, n.3, n.4 z (remains_still ls f holder keep first m x z o) (m.behind x z o)),
  )

  -- the pointer moves there
  pub marked_first : (j : ℕ) → x < length ls → NextKept ls keep x (get_or first x 0) (Some j) → Marked ls holder keep (set first x j)
  marked_first j b n =
      record {
        doors = m.doors;
        marks = m.marks;
        begun = length-set first x j ∙ m.begun;
        placed = m.placed;
        behind = λ w y o.
            ⊎_elim
            (λ (e : w ≡ x). let on : Remains ls holder x y = subst (λ v. Remains ls holder v y) e o in
            omega (
              arith,
              ap (λ v. get_or (set first x j) v 0) e,
              get_or-set_same first x j 0 (omega (arith, b, m.begun)),
              ap (λ v. ranks ls v y) e,
              n.4 y (remains_still ls f holder keep first m x y on) (m.behind x y on),
            ))
            (λ e. omega (arith, get_or-set_other first x w j 0 e, m.behind w y o))
            (cases_eq w x);
      }

-- the door y takes x
module _ (ls : List (List ℕ)) (f : Lawful ls) (holder keep first : List ℕ) (m : Marked ls holder keep first) (x y v : ℕ) (a : First (ranks ls) (lasts holder) x y) (e : v ≡ ranks ls y x) where
  small : y < length ls
  small = (ranked_doors ls f x y a.0.0).1

  pub asked : Asked (ranks ls) (lasts holder) x y (lasts (set holder y x))
  asked = record { first = a; taken = lasts_same holder y x (omega (arith, small, m.doors)); rest = λ w n. lasts_other holder y x w n }

  pub marked_asked : Marked ls (set holder y x) (set keep y v) first
  marked_asked =
      record {
        doors = length-set holder y x ∙ m.doors;
        marks = length-set keep y v ∙ m.marks;
        begun = m.begun;
        placed = λ w b.
            ⊎_elim
            (λ (i : w ≡ y). subst (λ z. get_or (set keep y v) z 0 ≡ ranks ls z (lasts (set holder y x) z)) (sym i)
            (get_or-set_same keep y v 0 (omega (arith, small, m.marks)) ∙ e ∙ ap (ranks ls y) (sym asked.taken)))
            (λ n. get_or-set_other keep y w v 0 n ∙ m.placed w b ∙ ap (ranks ls w) (sym (asked.rest w n)))
            (cases_eq w y);
        behind = λ w z o. m.behind w z (on_kept (ranks ls) (lasts holder) (lasts (set holder y x)) (asked_less (ranks ls) (lasts holder) (lasts (set holder y x)) x y asked) w z o);
      }

  -- whoever was settled is, but the one that y lets go
  pub settles_asked : (z : ℕ) → (z ≡ x) ⊎ Settles ls holder z → ((lasts holder y ≡ y) ⊎ (lasts holder y ≡ z → ⊥)) → Settles ls (set holder y x) z
  settles_asked z s n =
      ⊎_elim
      (λ i. inr (y, asked.taken ∙ sym i, λ c. omega (arith, a.0.0, ap (ranks ls x) (c ∙ i))))
      (λ q. ⊎_elim
      (λ none. inl (λ w o. none w (on_kept (ranks ls) (lasts holder) (lasts (set holder y x)) (asked_less (ranks ls) (lasts holder) (lasts (set holder y x)) x y asked) z w o)))
      (λ h. inr (h.0, asked.rest h.0 (λ c. ⊎_elim (λ i. h.2 (c ∙ sym i ∙ ap (lasts holder) (sym c) ∙ h.1)) (λ i. i (ap (lasts holder) (sym c) ∙ h.1)) n) ∙ h.1, h.2))
      q)
      s

-- the three ends of a proposal of x
module _ (ls : List (List ℕ)) (f : Lawful ls) (holder keep first : List ℕ) (m : Marked ls holder keep first) (u : Underway ls (ranks ls) (lasts holder)) (x : ℕ) where
  -- its list is empty
  pub proposed_none : NextKept ls keep x (get_or first x 0) None → Proposed ls x holder holder keep first None
  proposed_none n =
      record {
        marked = m;
        under = u;
        settles = λ z s _. ⊎_elim (λ e. inl (subst (Empty (ranks ls) (lasts holder)) (sym e) (none_kept ls f holder keep first m x n))) (λ q. q) s;
        goes = tt;
      }

  module _ (j y : ℕ) (b : x < length ls) (n : NextKept ls keep x (get_or first x 0) (Some j)) (e : y ≡ get_or (row ls x) j 0) where
    here : First (ranks ls) (lasts holder) x y
    here = subst (First (ranks ls) (lasts holder) x) (sym e) (first_kept ls f holder keep first m x j n)

    pub found_accepted : ranks ls x y < ranks ls x x
    found_accepted = here.0.0

    -- its first holds it
    pub proposed_held : lasts holder y ≡ x → Proposed ls x holder holder keep (set first x j) None
    proposed_held h =
        record {
          marked = marked_first ls f holder keep first m x j b n;
          under = u;
          settles = λ z s _. ⊎_elim (λ i. inr (y, h ∙ sym i, λ c. omega (arith, here.0.0, ap (ranks ls x) (c ∙ i)))) (λ q. q) s;
          goes = tt;
        }

    -- its first takes it
    module _ (v : ℕ) (w : v ≡ ranks ls y x) (free : lasts holder y ≡ x → ⊥) where
      pub marks : Marked ls (set holder y x) (set keep y v) (set first x j)
      marks = marked_asked ls f holder keep (set first x j) (marked_first ls f holder keep first m x j b n) x y v here w

      step : Asked (ranks ls) (lasts holder) x y (lasts (set holder y x))
      step = asked ls f holder keep first m x y v here w

      next : Underway ls (ranks ls) (lasts (set holder y x))
      next = underway_next ls f (ranks ls) (orders ls f) (lasts holder) (lasts (set holder y x)) x y u step free

      proposed_last : lasts holder y ≡ y → Proposed ls x holder (set holder y x) (set keep y v) (set first x j) None
      proposed_last h =
          record { marked = marks; under = next; settles = λ z s _. settles_asked ls f holder keep first m x y v here w z s (inl h); goes = tt }

      proposed_next : (lasts holder y < length ls) → Proposed ls x holder (set holder y x) (set keep y v) (set first x j) (Some (lasts holder y))
      proposed_next small =
          record {
            marked = marks;
            under = next;
            settles = λ z s c. settles_asked ls f holder keep first m x y v here w z s (inr (λ i. c (ap Some i)));
            goes = (small, underway_falls ls f (ranks ls) (orders ls f) (lasts holder) (lasts (set holder y x)) x y u step free);
          }

      -- it lets go whom it held, if anybody
      pub proposed_taken : (own : Bool) → (own ≡ true → lasts holder y ≡ y) → (own ≡ false → lasts holder y < length ls)
          → Proposed ls x holder (set holder y x) (set keep y v) (set first x j) (then_some (not own) (lasts holder y))
      proposed_taken true h s = proposed_last (h refl)
      proposed_taken false h s = proposed_next (s refl)

-- whom a door holds is a door of the level
pub held_door : (ls : List (List ℕ)) → Lawful ls → (holder : List ℕ) → Underway ls (ranks ls) (lasts holder) → (y : ℕ) → (lasts holder y ≡ y → ⊥) → lasts holder y < length ls
held_door ls f holder u y n =
    ⊎_elim
    (λ e. absurd (n e))
    (λ h. (ranked_doors ls f (lasts holder y) y h.0.0).0)
    (underway_holding ls f (ranks ls) (orders ls f) (lasts holder) u y)

-- at the start every door is its own last, and every list is whole
pub marked_start : (ls : List (List ℕ)) → Lawful ls → (holder keep first : List ℕ) → length holder ≡ length ls → length keep ≡ length ls → length first ≡ length ls
    → ((x : ℕ) → x < length ls → (get_or keep x 0 ≡ length (row ls x)) × (lasts holder x ≡ x) × (get_or first x 0 ≡ 0)) → Marked ls holder keep first × ((x : ℕ) → lasts holder x ≡ x)
marked_start ls f holder keep first h k b each = (
  record {
    doors = h;
    marks = k;
    begun = b;
    placed = λ x i. (each x i).0 ∙ sym (rank_own ls f x) ∙ ap (ranks ls x) (sym (each x i).1);
    behind = λ x y o. omega (arith, (each x (ranked_doors ls f x y o.0).0).2);
  },
  λ x. ⊎_elim (λ i. (each x i).1) (λ i. get_or_past holder x x (omega (arith, h, i))) (cases_lt x (length ls)),
)

-- proposals have finished where everybody is settled
pub settled_all : (ls : List (List ℕ)) → Lawful ls → (holder : List ℕ) → Underway ls (ranks ls) (lasts holder) → ((z : ℕ) → z < length ls → Settles ls holder z) → OnTheWay ls (ranks ls) (lasts holder)
settled_all ls f holder u all =
    let r : ℕ → ℕ → ℕ = ranks ls in
    let g : ℕ → ℕ = lasts holder in
    let F : Firsts r g (first u.1) = rows_firsts r g u.1 u.4.rows in
    underway_ends ls f r (orders ls f) g (first u.1) u F
    (λ x. ⊎_elim
    (λ e. inl e)
    (λ on. ⊎_elim
    (λ none. absurd (none (first u.1 x) on))
    (λ h. inr
    (⊎_elim
    (λ e. absurd (h.2 (sym e ∙ h.1)))
    (λ q. let p : First r g x h.0 = subst (λ v. First r g v h.0) h.1 q in
    ap g ((lawful_ranks ls f).apart x (first u.1 x) h.0 on.0 (omega (arith, F.least x h.0 p.0, p.1 (first u.1 x) on))) ∙ h.1)
    (underway_holding ls f r (orders ls f) g u h.0)))
    (all x (ranked_doors ls f x (first u.1 x) on.0).0))
    (F.first x))
