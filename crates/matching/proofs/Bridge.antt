-- From lists to the theory's form: ranks that follow the lists, linkings as functions, and back.
use Rattle.std.proofs.Common.{◌≡◌, ℕ, ◌<◌, ◌≤◌, Bool, true, false, cond, ◌&&◌, eqb, ◌⊎◌, List, map, length, get_or, is_some, filter, sym, ap, ◌∙◌, subst, inl, inr, ⊎_elim, arith}
use Rattle.std.specs.List.{range_with_len}
use Rattle.std.proofs.lemmas.List.FromFn.{get_or-map-range_with_len, length-map-range_with_len}
use Rattle.std.proofs.lemmas.List.{get_or_past}
use Rattle.std.proofs.ByRecursion.{All-from_get_or, all_kept_by}
use Rattle.std.proofs.lemmas.Bool.{and_parts, and_from, cases_eq, cases_lt, cases_Bool, cases_order, both_ways, or_cases, or_left, or_right, cond-true, cond-false, eq-eqb, ne_eqb}
use Rattle.matching.specs.Lists.{row, place, Lawful, is_distinct, rank}
use Rattle.matching.specs.Ranks.{Ranks, Links, Unblocked}
use Rattle.matching.specs.Linkings.{unlinked, listed, accept, exit, entrance, counts_one_way, partner, Linking, Prefers, Tempted, BlockingPair, Stable}
use Rattle.matching.specs.Proposals.{trimmed}
use Rattle.matching.specs.Holders.{Writes, row_rank}
use Rattle.matching.proofs.Rows.{distinct_from}
use Rattle.matching.proofs.Positions.{rank_cases, rank_some, rank_place, rank_here, rank_at, kept_distinct, short_distinct, kept_order, kept_in, kept_out}
use Rattle.matching.proofs.Proposing.{at_most}

-- a test of pairs fits the lists: the doors that it lets be linked accept each other, whichever is named first
pub record Pairing (ls : List (List ℕ)) (pairs : ℕ → ℕ → Bool) : Type 0 where
  pub accepted : (x y : ℕ) → pairs x y ≡ true → accept ls x y ≡ true
  pub both : (x y : ℕ) → pairs x y ≡ true → pairs y x ≡ true

-- r ranks the doors that may be linked as the lists do, and the others past the end
pub record Ranking (ls : List (List ℕ)) (pairs : ℕ → ℕ → Bool) (r : ℕ → ℕ → ℕ) : Type 0 where
  pub near : (x y : ℕ) → pairs x y ≡ true → r x y < r x x
  pub far : (x y : ℕ) → pairs x y ≡ false → r x x ≤ r x y
  pub order : (x y z : ℕ) → pairs x y ≡ true → pairs x z ≡ true → Prefers ls x y z → r x y < r x z

-- both tests fit
pub listed_rank : (ls : List (List ℕ)) (x y : ℕ) → listed ls x y ≡ true → rank (row ls x) y < length (row ls x)
unfolding listed
listed_rank ls x y h =
    ⊎_elim (λ c. c.0) (λ c. absurd (both_ways (is_some (place (row ls x) y)) (ap is_some c.1) h)) (rank_cases (row ls x) y)

pub rank_listed : (ls : List (List ℕ)) (x y : ℕ) → rank (row ls x) y < length (row ls x) → listed ls x y ≡ true
unfolding listed
rank_listed ls x y h = ⊎_elim (λ c. ap is_some c.1) (λ c. absurd (omega (arith, c.0))) (rank_cases (row ls x) y)

pub accept_pairing : (ls : List (List ℕ)) → Pairing ls (accept ls)
unfolding accept
accept_pairing ls =
    record {
      accepted = λ x y h. h;
      both = λ x y h. let t = and_parts (listed ls x y) (listed ls y x) h in and_from (listed ls y x) (listed ls x y) t.1 t.0;
    }

pub one_way_parts : (ls : List (List ℕ)) (sides : List ℕ) (x y : ℕ) → counts_one_way ls sides x y ≡ true →
    (accept ls x y ≡ true) × (((exit sides x ≡ true) × (entrance sides y ≡ true)) ⊎ ((entrance sides x ≡ true) × (exit sides y ≡ true)))
unfolding counts_one_way
one_way_parts ls sides x y h =
    let t = and_parts (accept ls x y) _ h in
    (t.0, ⊎_elim (λ c. inl (and_parts (exit sides x) (entrance sides y) c)) (λ c. inr (and_parts (entrance sides x) (exit sides y) c)) (or_cases (exit sides x && entrance sides y) (entrance sides x && exit sides y) t.1))

pub one_way_from : (ls : List (List ℕ)) (sides : List ℕ) (x y : ℕ) → accept ls x y ≡ true →
    ((exit sides x ≡ true) × (entrance sides y ≡ true)) ⊎ ((entrance sides x ≡ true) × (exit sides y ≡ true)) → counts_one_way ls sides x y ≡ true
unfolding counts_one_way
one_way_from ls sides x y h c =
    and_from (accept ls x y) _ h
    (⊎_elim
    (λ c. or_left (exit sides x && entrance sides y) (entrance sides x && exit sides y) (and_from (exit sides x) (entrance sides y) c.0 c.1))
    (λ c. or_right (exit sides x && entrance sides y) (entrance sides x && exit sides y) (and_from (entrance sides x) (exit sides y) c.0 c.1))
    c)

pub one_way_pairing : (ls : List (List ℕ)) (sides : List ℕ) → Pairing ls (counts_one_way ls sides)
one_way_pairing ls sides =
    record {
      accepted = λ x y h. (one_way_parts ls sides x y h).0;
      both = λ x y h.
          let t = one_way_parts ls sides x y h in
          one_way_from ls sides y x ((accept_pairing ls).both x y t.0) (⊎_elim (λ c. inr (c.1, c.0)) (λ c. inl (c.1, c.0)) t.1);
    }

-- ranks by places on the trimmed lists
unfoldable pub trim_rank : List (List ℕ) → (ℕ → ℕ → Bool) → ℕ → ℕ → ℕ
trim_rank ls pairs x y = rank (trimmed ls pairs x) y

module _ (ls : List (List ℕ)) (pairs : ℕ → ℕ → Bool) (f : Lawful ls) (p : Pairing ls pairs) where
  -- each door of a pair is on the other's list
  pub pair_listed : (x y : ℕ) → pairs x y ≡ true → rank (row ls x) y < length (row ls x)
  unfolding accept
  pair_listed x y h = listed_rank ls x y (and_parts (listed ls x y) (listed ls y x) (p.accepted x y h)).0

  -- the doors of a pair are doors of the level
  pub pair_door : (x y : ℕ) → pairs x y ≡ true → y < length ls
  pair_door x y h =
      let at = pair_listed x y h in
      subst (λ v. v < length ls) (rank_here (row ls x) y at).0 ((f.each x).known (rank (row ls x) y) at)

  -- and not the same
  pub pair_other : (x : ℕ) → pairs x x ≡ true → ⊥
  pair_other x h = let at = pair_listed x x h in (f.each x).others (rank (row ls x) x) at (rank_here (row ls x) x at).0

  pub prefers_from : (x y z : ℕ) → pairs x y ≡ true → pairs x z ≡ true → rank (row ls x) y < rank (row ls x) z → Prefers ls x y z
  prefers_from x y z a b h =
      (rank (row ls x) y, rank (row ls x) z, rank_place (row ls x) y (pair_listed x y a), rank_place (row ls x) z (pair_listed x z b), h)

  module _ (r : ℕ → ℕ → ℕ) (o : Ranking ls pairs r) where
    -- only a pair has a rank before the end
    pub near_pair : (x y : ℕ) → r x y < r x x → pairs x y ≡ true
    near_pair x y h = ⊎_elim (λ t. t) (λ t. absurd (omega (arith, o.far x y t))) (cases_Bool (pairs x y))

    -- two doors that may be linked with x are one, or x prefers one of them
    compared : (x y z : ℕ) → pairs x y ≡ true → pairs x z ≡ true → (y ≡ z) ⊎ (Prefers ls x y z ⊎ Prefers ls x z y)
    compared x y z a b =
        ⊎_elim
        (λ e. inl (sym (rank_here (row ls x) y (pair_listed x y a)).0 ∙ ap (λ k. get_or (row ls x) k 0) e ∙ (rank_here (row ls x) z (pair_listed x z b)).0))
        (λ c. inr (⊎_elim (λ h. inl (prefers_from x y z a b h)) (λ h. inr (prefers_from x z y b a h)) c))
        (cases_order (rank (row ls x) y) (rank (row ls x) z))

    pub ranking_ranks : Ranks r
    ranking_ranks =
        record {
          both = λ x y h. o.near y x (p.both x y (near_pair x y h));
          apart = λ x y z h e.
              let a = near_pair x y h in
              let b = near_pair x z (omega arith) in
              ⊎_elim (λ i. i) (λ c. absurd (⊎_elim (λ d. omega (arith, o.order x y z a b d)) (λ d. omega (arith, o.order x z y b a d)) c)) (compared x y z a b);
        }

    -- the smaller rank is the preferred door's
    pub less_prefers : (x y z : ℕ) → pairs x y ≡ true → pairs x z ≡ true → r x y < r x z → Prefers ls x y z
    less_prefers x y z a b h =
        ⊎_elim
        (λ i. absurd (omega (arith, ap (r x) i)))
        (λ c. ⊎_elim (λ d. d) (λ d. absurd (omega (arith, o.order x z y b a d))) c)
        (compared x y z a b)

  pub pair_self : (x : ℕ) → pairs x x ≡ false
  pair_self x = ⊎_elim (λ t. absurd (pair_other x t)) (λ t. t) (cases_Bool (pairs x x))

  -- the rank past the end of the trimmed list
  pub trim_end : (x : ℕ) → trim_rank ls pairs x x ≡ length (trimmed ls pairs x)
  unfolding trim_rank trimmed
  trim_end x = kept_out (pairs x) (row ls x) x (pair_self x)

  -- a trimmed list has different doors, as many as the level has at most
  pub trim_distinct : (x : ℕ) → is_distinct eqb (trimmed ls pairs x) ≡ true
  unfolding trimmed
  trim_distinct x = kept_distinct (pairs x) (row ls x) (distinct_from (row ls x) (λ i k b c e. omega (arith, (f.each x).apart i k (omega arith) c e)))

  pub trim_short : (x : ℕ) → length (trimmed ls pairs x) ≤ length ls
  unfolding trimmed
  trim_short x =
      short_distinct (length ls) (filter (pairs x) (row ls x)) (trim_distinct x)
      (all_kept_by (pairs x) (λ y. y < length ls) (row ls x) (All-from_get_or (λ y. y < length ls) (row ls x) 0 (f.each x).known))

  -- the rank of the door at a place of the trimmed list is the place
  pub trim_at : (x j : ℕ) → j < length (trimmed ls pairs x) → trim_rank ls pairs x (get_or (trimmed ls pairs x) j 0) ≡ j
  unfolding trim_rank
  trim_at x j h = rank_at (trimmed ls pairs x) j (trim_distinct x) h

  -- a preferred door is a door of the level
  pub prefers_door : (x y z : ℕ) → Prefers ls x y z → y < length ls
  prefers_door x y z h =
      let at = rank_some (row ls x) y h.0 h.2 in
      let in' : rank (row ls x) y < length (row ls x) = omega (arith, at.0, at.1) in
      subst (λ v. v < length ls) (rank_here (row ls x) y in').0 ((f.each x).known (rank (row ls x) y) in')

  preferred_before : (x y z : ℕ) → Prefers ls x y z → rank (row ls x) y < rank (row ls x) z
  preferred_before x y z h = omega (arith, h.4, (rank_some (row ls x) y h.0 h.2).0, (rank_some (row ls x) z h.1 h.3).0)

  pub trim_ranking : Ranking ls pairs (trim_rank ls pairs)
  unfolding trim_rank trimmed
  trim_ranking =
      record {
        near = λ x y h. omega (arith, kept_in (pairs x) (row ls x) y h (pair_listed x y h), trim_end x);
        far = λ x y h. omega (arith, kept_out (pairs x) (row ls x) y h, trim_end x);
        order = λ x y z a b h. kept_order (pairs x) (row ls x) y z a b (preferred_before x y z h);
      }

  -- of a pair it is the place
  pub row_near : (x y : ℕ) → pairs x y ≡ true → row_rank ls pairs x y ≡ rank (row ls x) y
  unfolding row_rank
  row_near x y h = cond-true (pairs x y) (rank (row ls x) y) (length (row ls x)) h

  row_far : (x y : ℕ) → pairs x y ≡ false → row_rank ls pairs x y ≡ length (row ls x)
  unfolding row_rank
  row_far x y h = cond-false (pairs x y) (rank (row ls x) y) (length (row ls x)) h

  pub row_ranking : Ranking ls pairs (row_rank ls pairs)
  row_ranking =
      record {
        near = λ x y h. omega (arith, row_near x y h, row_far x x (pair_self x), pair_listed x y h);
        far = λ x y h. omega (arith, row_far x y h, row_far x x (pair_self x));
        order = λ x y z a b h. omega (arith, row_near x y a, row_near x z b, preferred_before x y z h);
      }

-- the function that a list of partners or `unlinked` writes down: a door without one is its own
unfoldable pub link_of : List ℕ → ℕ → ℕ
link_of m x = cond (eqb (partner m x) unlinked) x (partner m x)

pub link_none : (m : List ℕ) (x : ℕ) → partner m x ≡ unlinked → link_of m x ≡ x
unfolding link_of
link_none m x e = cond-true (eqb (partner m x) unlinked) x (partner m x) (eq-eqb (partner m x) unlinked e)

pub link_some : (m : List ℕ) (x : ℕ) → (partner m x ≡ unlinked → ⊥) → link_of m x ≡ partner m x
unfolding link_of
link_some m x n = cond-false (eqb (partner m x) unlinked) x (partner m x) (ne_eqb (partner m x) unlinked n)

-- the list of n doors that a function writes down
pub entry : (ℕ → ℕ) → ℕ → ℕ
entry g x = cond (eqb (g x) x) unlinked (g x)

entry_own : (g : ℕ → ℕ) (x : ℕ) → g x ≡ x → entry g x ≡ unlinked
unfolding entry
entry_own g x e = cond-true (eqb (g x) x) unlinked (g x) (eq-eqb (g x) x e)

entry_other : (g : ℕ → ℕ) (x : ℕ) → (g x ≡ x → ⊥) → entry g x ≡ g x
unfolding entry
entry_other g x n = cond-false (eqb (g x) x) unlinked (g x) (ne_eqb (g x) x n)

unfoldable pub written : ℕ → (ℕ → ℕ) → List ℕ
written n g = map (entry g) (range_with_len 0 n)

module _ (ls : List (List ℕ)) (pairs : ℕ → ℕ → Bool) (r : ℕ → ℕ → ℕ) (f : Lawful ls) (p : Pairing ls pairs) (o : Ranking ls pairs r) where
  -- a linking is written down
  pub linking_writes : (m : List ℕ) → Linking ls pairs m → Writes (link_of m) m
  linking_writes m l x =
      ⊎_elim
      (λ e. inl (link_none m x e, e))
      (λ n. let i = link_some m x n in
      let t : pairs x (partner m x) ≡ true = ⊎_elim (λ e. absurd (n e)) (λ t. t) (l.allowed x) in
      inr (λ e. pair_other ls pairs f p x (subst (λ v. pairs x v ≡ true) (sym i ∙ e) t), sym i, λ e. n (sym i ∙ e)))
      (cases_eq (partner m x) unlinked)

  -- the door of an entry is no `unlinked`
  pub pair_small : (x y : ℕ) → pairs x y ≡ true → y ≡ unlinked → ⊥
  pair_small x y h e = omega (arith, pair_door ls pairs f p x y h, f.few)

  pub writes_links : (g : ℕ → ℕ) (m : List ℕ) → Writes g m → Linking ls pairs m → Links r g
  writes_links g m w l = record { mutual' = back; accepts = near }
    where
      near : (x : ℕ) → (g x ≡ x) ⊎ (r x (g x) < r x x)
      near x =
          ⊎_elim
          (λ c. inl c.0)
          (λ c. ⊎_elim (λ e. absurd (c.2 (sym c.1 ∙ e))) (λ t. inr (o.near x (g x) (subst (λ v. pairs x v ≡ true) c.1 t))) (l.allowed x))
          (w x)

      back : (x : ℕ) → g (g x) ≡ x
      back x =
          ⊎_elim
          (λ c. ap g c.0 ∙ c.0)
          (λ c. let again : partner m (g x) ≡ x = ⊎_elim (λ e. absurd (c.2 (sym c.1 ∙ e))) (λ e. ap (partner m) (sym c.1) ∙ e) (l.returned x) in
          ⊎_elim
          (λ d. absurd (⊎_elim (λ e. c.0 e) (λ h. pair_small (g x) x (p.both x (g x) (near_pair ls pairs f p r o x (g x) h)) (sym again ∙ d.1)) (near x)))
          (λ d. sym d.1 ∙ again)
          (w (g x)))
          (w x)

  pub links_writes : (g : ℕ → ℕ) (m : List ℕ) → Writes g m → length m ≡ length ls → Links r g → Linking ls pairs m
  links_writes g m w n l =
      record {
        size = n;
        allowed = λ x.
            ⊎_elim
            (λ c. inl c.1)
            (λ c. ⊎_elim (λ e. absurd (c.0 e)) (λ h. inr (subst (λ v. pairs x v ≡ true) (sym c.1) (near_pair ls pairs f p r o x (g x) h))) (l.accepts x))
            (w x);
        returned = λ x.
            ⊎_elim
            (λ c. inl c.1)
            (λ c. ⊎_elim (λ d. absurd (c.0 (sym d.0 ∙ l.mutual' x))) (λ d. inr (ap (partner m) c.1 ∙ d.1 ∙ l.mutual' x)) (w (g x)))
            (w x);
      }

  -- a door is tempted by one that it ranks before its partner
  module _ (g : ℕ → ℕ) (m : List ℕ) (w : Writes g m) (l : Links r g) where
    linked_pair : (x : ℕ) → (g x ≡ x → ⊥) → pairs x (g x) ≡ true
    linked_pair x n = ⊎_elim (λ e. absurd (n e)) (λ h. near_pair ls pairs f p r o x (g x) h) (l.accepts x)

    tempted_less : (x y : ℕ) → pairs x y ≡ true → Tempted ls m x y → r x y < r x (g x)
    tempted_less x y h t =
        ⊎_elim
        (λ c. omega (arith, ap (r x) c.0, o.near x y h))
        (λ c. ⊎_elim
        (λ e. absurd (c.2 (sym c.1 ∙ e)))
        (λ d. o.order x y (g x) h (linked_pair x c.0) (subst (Prefers ls x y) c.1 d))
        t)
        (w x)

    less_tempted : (x y : ℕ) → pairs x y ≡ true → r x y < r x (g x) → Tempted ls m x y
    less_tempted x y h b =
        ⊎_elim
        (λ c. inl c.1)
        (λ c. inr (subst (Prefers ls x y) (sym c.1) (less_prefers ls pairs f p r o x y (g x) h (linked_pair x c.0) b)))
        (w x)

    pub writes_stable : Unblocked r g → Stable ls pairs m
    writes_stable u x y b = u x y (tempted_less x y b.allowed b.one) (tempted_less y x (p.both x y b.allowed) b.other)

    pub writes_blocking : (x y : ℕ) → r x y < r x (g x) → r y x < r y (g y) → BlockingPair ls pairs m x y
    writes_blocking x y a b =
        let h : pairs x y ≡ true = near_pair ls pairs f p r o x y (omega (arith, at_most r g l x)) in
        record {
          allowed = h;
          apart = λ e. ⊎_elim (λ c. pair_small x y h (sym e ∙ c.1)) (λ c. omega (arith, ap (r x) (sym c.1 ∙ e))) (w x);
          one = less_tempted x y h a;
          other = less_tempted y x (p.both x y h) b;
        }

    pub writes_unblocked : Stable ls pairs m → Unblocked r g
    writes_unblocked s x y a b = s x y (writes_blocking x y a b)

  -- a linking as a function
  pub linking_links : (m : List ℕ) → Linking ls pairs m → Links r (link_of m)
  linking_links m l = writes_links (link_of m) m (linking_writes m l) l

  pub stable_unblocked : (m : List ℕ) → Linking ls pairs m → Stable ls pairs m → Unblocked r (link_of m)
  stable_unblocked m l s = writes_unblocked (link_of m) m (linking_writes m l) (linking_links m l) s

  -- a function as a linking
  pub written_writes : (g : ℕ → ℕ) → Links r g → Writes g (written (length ls) g)
  unfolding written
  written_writes g l x =
      ⊎_elim
      (λ b. let e : partner (map (entry g) (range_with_len 0 (length ls))) x ≡ entry g x = get_or-map-range_with_len (entry g) 0 (length ls) x x unlinked b (omega arith) in
      ⊎_elim
      (λ i. inl (i, e ∙ entry_own g x i))
      (λ n. inr (n, e ∙ entry_other g x n, ⊎_elim (λ i. absurd (n i)) (λ h. pair_small x (g x) (near_pair ls pairs f p r o x (g x) h)) (l.accepts x)))
      (cases_eq (g x) x))
      (λ b. ⊎_elim
      (λ i. inl (i, get_or_past (map (entry g) (range_with_len 0 (length ls))) x unlinked (omega (arith, length-map-range_with_len (entry g) 0 (length ls)))))
      (λ h. absurd (omega (arith, pair_door ls pairs f p (g x) x (p.both x (g x) (near_pair ls pairs f p r o x (g x) h)))))
      (l.accepts x))
      (cases_lt x (length ls))

  pub written_linking : (g : ℕ → ℕ) → Links r g → Linking ls pairs (written (length ls) g)
  unfolding written
  written_linking g l = links_writes g (written (length ls) g) (written_writes g l) (length-map-range_with_len (entry g) 0 (length ls)) l

  pub written_stable : (g : ℕ → ℕ) → Links r g → Unblocked r g → Stable ls pairs (written (length ls) g)
  written_stable g l u = writes_stable g (written (length ls) g) (written_writes g l) l u
