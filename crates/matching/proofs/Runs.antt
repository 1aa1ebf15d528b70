-- Runs of proposals on lists: what holds all along, and what a finished run gives.
use Rattle.std.proofs.Common.{◌≡◌, ℕ, zero, suc, ◌+◌, ◌<◌, ◌≤◌, true, cond, eqb, ◌⊎◌, List, [], length, get_or, set, replicate, sum, filter, sym, refl, ap, ◌∙◌, subst, inl, inr, ⊎_elim, arith}
use Rattle.std.proofs.lemmas.List.{get_or-set_same, get_or-set_other, get_or-replicate, get_or_past, length-set, length-replicate}
use Rattle.std.proofs.lemmas.List.Sums.{sum_by-cons, sum_by-set}
use Rattle.std.proofs.lemmas.Bool.{eqb-true, cases_eq, cases_lt}
use Rattle.matching.specs.Lists.{Lawful}
use Rattle.matching.specs.Ranks.{Ranks, Links, Unblocked, Within}
use Rattle.matching.specs.Linkings.{unlinked, exit, entrance, counts_one_way, partner, Prefers}
use Rattle.matching.specs.Proposals.{trimmed, Asking, at_first, Proposal, Runs}
use Rattle.matching.specs.Holders.{Writes}
use Rattle.matching.proofs.Bridge.{Pairing, Ranking, one_way_parts, one_way_pairing, trim_rank, pair_door, pair_other, near_pair, ranking_ranks, trim_end, trim_at, trim_ranking, prefers_door, link_of, link_none, link_some}
use Rattle.matching.proofs.Proposing.{at_most}
use Rattle.matching.proofs.Pointers.{Sided, Progress, Loose, Chooses, Turn, turn_progress, turn_within}

-- the ranks of a one-way linking
abbrev pub ranks : List (List ℕ) → List ℕ → ℕ → ℕ → ℕ
ranks ls sides = trim_rank ls (counts_one_way ls sides)

-- an exit is no entrance
exit_entrance : (sides : List ℕ) (x : ℕ) → exit sides x ≡ true → entrance sides x ≡ true → ⊥
unfolding exit entrance
exit_entrance sides x a b = omega (arith, eqb-true (get_or sides x 2) 0 a, eqb-true (get_or sides x 2) 1 b)

-- equal entries give equal links
pub link_same : (m m' : List ℕ) (x : ℕ) → partner m x ≡ partner m' x → link_of m x ≡ link_of m' x
unfolding link_of
link_same m m' x e = ap (λ v. cond (eqb v unlinked) x v) e

-- a list of one value, read anywhere
pub same_everywhere : (n v y : ℕ) → get_or (replicate n v) y v ≡ v
same_everywhere n v y =
    ⊎_elim (λ b. get_or-replicate n y v v b) (λ b. get_or_past (replicate n v) y v (omega (arith, length-replicate n v))) (cases_lt y n)

none_asked : (n : ℕ) → sum (replicate n 0) ≡ 0
none_asked zero = refl
none_asked (suc n) = omega (arith, sum_by-cons (λ x. x) 0 (replicate n 0), none_asked n)

-- how far each exit has asked, and whom each door holds, as functions
abbrev pub asks : Asking → ℕ → ℕ
asks s x = get_or s.asked x 0

abbrev pub holds : Asking → ℕ → ℕ
holds s = link_of s.held

-- what holds after k proposals
pub record Under (ls : List (List ℕ)) (sides : List ℕ) (k : ℕ) (s : Asking) : Type 0 where
  pub wide : length s.asked ≡ length ls
  pub long : length s.held ≡ length ls
  pub total : k ≡ sum s.asked
  pub written : Writes (holds s) s.held
  pub progress : Progress (ranks ls sides) (exit sides) (asks s) (holds s)
  pub room : (m : ℕ → ℕ) → Links (ranks ls sides) m → Unblocked (ranks ls sides) m → Within (ranks ls sides) (holds s) m

-- a number past the doors has no list
pub no_list : (ls : List (List ℕ)) (sides : List ℕ) (x : ℕ) → length ls ≤ x → length (trimmed ls (counts_one_way ls sides) x) ≡ 0
unfolding trimmed
no_list ls sides x b = ap (λ l. length (filter (counts_one_way ls sides x) l)) (get_or_past ls x [] b)

module _ (ls : List (List ℕ)) (sides : List ℕ) (f : Lawful ls) where
  pub fits : Pairing ls (counts_one_way ls sides)
  fits = one_way_pairing ls sides

  pub follows : Ranking ls (counts_one_way ls sides) (ranks ls sides)
  follows = trim_ranking ls (counts_one_way ls sides) f fits

  pub lawful_ranks : Ranks (ranks ls sides)
  lawful_ranks = ranking_ranks ls (counts_one_way ls sides) f fits (ranks ls sides) follows

  pub near_counts : (x y : ℕ) → ranks ls sides x y < ranks ls sides x x → counts_one_way ls sides x y ≡ true
  near_counts = near_pair ls (counts_one_way ls sides) f fits (ranks ls sides) follows

  pub counts_door : (x y : ℕ) → counts_one_way ls sides x y ≡ true → y < length ls
  counts_door = pair_door ls (counts_one_way ls sides) f fits

  pub lawful_sided : Sided (ranks ls sides) (exit sides)
  lawful_sided =
      record {
        some = λ x y h. ⊎_elim (λ c. inl c.0) (λ c. inr c.1) (parts x y h);
        one = λ x y h a b. ⊎_elim (λ c. exit_entrance sides y b c.1) (λ c. exit_entrance sides x a c.0) (parts x y h);
      }
    where
      parts : (x y : ℕ) → ranks ls sides x y < ranks ls sides x x → ((exit sides x ≡ true) × (entrance sides y ≡ true)) ⊎ ((entrance sides x ≡ true) × (exit sides y ≡ true))
      parts x y h = (one_way_parts ls sides x y (near_counts x y h)).1

  -- at the start
  first_held : (y : ℕ) → partner (replicate (length ls) unlinked) y ≡ unlinked
  first_held y = same_everywhere (length ls) unlinked y

  under_first : Under ls sides 0 (at_first ls)
  under_first =
      record {
        wide = length-replicate (length ls) 0;
        long = length-replicate (length ls) unlinked;
        total = sym (none_asked (length ls));
        written = λ y. inl (link_none (replicate (length ls) unlinked) y (first_held y), first_held y);
        progress =
            record {
              held = λ y. inl (link_none (replicate (length ls) unlinked) y (first_held y));
              passed = λ x y _ _ h. absurd (omega (arith, same_everywhere (length ls) 0 x));
              within = λ x. omega (arith, same_everywhere (length ls) 0 x);
              idle = λ x _. same_everywhere (length ls) 0 x;
            };
        room = λ m l u x.
            subst (λ v. ranks ls sides x (m x) ≤ ranks ls sides x v) (sym (link_none (replicate (length ls) unlinked) x (first_held x)))
            (at_most (ranks ls sides) m l x);
      }

  -- the next door on a trimmed list has the rank that is asked next
  pub next_rank : (x j : ℕ) → j < length (trimmed ls (counts_one_way ls sides) x) →
      (ranks ls sides x (get_or (trimmed ls (counts_one_way ls sides) x) j 0) ≡ j) × (j < ranks ls sides x x)
  next_rank x j h = (trim_at ls (counts_one_way ls sides) f fits x j h, omega (arith, trim_end ls (counts_one_way ls sides) f fits x))

  -- a door and the exit that it holds are a pair
  pub held_pair : (k : ℕ) (s : Asking) → Under ls sides k s → (w : ℕ) → (holds s w ≡ w → ⊥) → counts_one_way ls sides w (holds s w) ≡ true
  held_pair k s u w n = ⊎_elim (λ e. absurd (n e)) (λ h. fits.both (holds s w) w (near_counts (holds s w) w h.1)) (u.progress.held w)

  -- a proposal is a turn
  module _ (k : ℕ) (s t : Asking) (x y : ℕ) (u : Under ls sides k s) (q : Proposal ls sides s x y t) where
    turn_next : (ranks ls sides x y ≡ asks s x) × (asks s x < ranks ls sides x x)
    turn_next = let n = next_rank x (asks s x) q.more in (ap (ranks ls sides x) (sym q.next) ∙ n.0, n.1)

    turn_pair : counts_one_way ls sides x y ≡ true
    turn_pair = near_counts x y (omega (arith, turn_next))

    turn_back : counts_one_way ls sides y x ≡ true
    turn_back = fits.both x y turn_pair

    asker_small : x ≡ unlinked → ⊥
    asker_small e = omega (arith, counts_door y x turn_back, f.few)

    turn_loose : Loose (holds s) x
    turn_loose w e = ⊎_elim (λ c. sym c.0 ∙ e) (λ c. absurd (q.free w (c.1 ∙ e))) (u.written w)

    turn_more : asks t x ≡ suc (asks s x)
    turn_more = ap (λ l. get_or l x 0) q.counted ∙ get_or-set_same s.asked x (suc (asks s x)) 0 (omega (arith, counts_door y x turn_back, u.wide))

    turn_rest : (w : ℕ) → (w ≡ x → ⊥) → asks t w ≡ asks s w
    turn_rest w n = ap (λ l. get_or l w 0) q.counted ∙ get_or-set_other s.asked x w (suc (asks s x)) 0 n

    -- y prefers x to the one that it holds
    takes_less : (partner s.held y ≡ unlinked) ⊎ Prefers ls y x (partner s.held y) → ranks ls sides y x < ranks ls sides y (holds s y)
    takes_less c =
        ⊎_elim
        (λ w. omega (arith, ap (ranks ls sides y) w.0, follows.near y x turn_back))
        (λ w. ⊎_elim
        (λ e. absurd (w.2 (sym w.1 ∙ e)))
        (λ h. follows.order y x (holds s y) turn_back (held_pair k s u y w.0) (subst (Prefers ls y x) w.1 h))
        c)
        (u.written y)

    -- y prefers the one that it holds
    keeps_less : Prefers ls y (partner s.held y) x → ranks ls sides y (holds s y) < ranks ls sides y x
    keeps_less h =
        ⊎_elim
        (λ w. absurd (omega (arith, w.1, prefers_door ls (counts_one_way ls sides) f fits y (partner s.held y) x h, f.few)))
        (λ w. follows.order y (holds s y) x (held_pair k s u y w.0) turn_back (subst (λ v. Prefers ls y v x) w.1 h))
        (u.written y)

    -- whom each door holds afterwards
    taken_here : t.held ≡ set s.held y x → partner t.held y ≡ x
    taken_here e = ap (λ l. partner l y) e ∙ get_or-set_same s.held y x unlinked (omega (arith, counts_door x y turn_pair, u.long))

    taken_else : t.held ≡ set s.held y x → (w : ℕ) → (w ≡ y → ⊥) → partner t.held w ≡ partner s.held w
    taken_else e w n = ap (λ l. partner l w) e ∙ get_or-set_other s.held y w x unlinked n

    turn_taken : t.held ≡ set s.held y x → holds t y ≡ x
    turn_taken e = link_some t.held y (λ i. asker_small (sym (taken_here e) ∙ i)) ∙ taken_here e

    turn_answer : Chooses (ranks ls sides) (holds s) x y (holds t)
    turn_answer =
        ⊎_elim
        (λ c. inl (takes_less c.0, turn_taken c.1, λ w n. link_same t.held s.held w (taken_else c.1 w n)))
        (λ c. inr (keeps_less c.0, λ w. ap (λ l. link_of l w) c.1))
        q.answer

    turn_made : Turn (ranks ls sides) (exit sides) (asks s) (holds s) x y (asks t) (holds t)
    turn_made =
        record {
          asker = q.asker;
          loose = turn_loose;
          near = omega (arith, turn_next);
          next = turn_next.0;
          more = turn_more;
          rest = turn_rest;
          answer = turn_answer;
        }

    -- the holders are written down as before
    turn_written : Writes (holds t) t.held
    turn_written w =
        ⊎_elim
        (λ c. ⊎_elim
        (λ e. let i : holds t w ≡ x = ap (holds t) e ∙ turn_taken c.1 in
        inr (
          λ z. pair_other ls (counts_one_way ls sides) f fits x (subst (λ v. counts_one_way ls sides x v ≡ true) (sym e ∙ sym z ∙ i) turn_pair),
          ap (partner t.held) e ∙ taken_here c.1 ∙ sym i,
          λ z. asker_small (sym i ∙ z),
        ))
        (λ n. let i = taken_else c.1 w n in
        let j = link_same t.held s.held w i in
        ⊎_elim (λ d. inl (j ∙ d.0, i ∙ d.1)) (λ d. inr (λ z. d.0 (sym j ∙ z), i ∙ d.1 ∙ sym j, λ z. d.2 (sym j ∙ z))) (u.written w))
        (cases_eq w y))
        (λ c. subst (λ l. ((link_of l w ≡ w) × (partner l w ≡ unlinked)) ⊎ ((link_of l w ≡ w → ⊥) × (partner l w ≡ link_of l w) × (link_of l w ≡ unlinked → ⊥))) (sym c.1) (u.written w))
        q.answer

    turn_total : suc k ≡ sum t.asked
    turn_total =
        let e : sum (set s.asked x (suc (asks s x))) + asks s x ≡ sum s.asked + suc (asks s x) =
        sum_by-set (λ v. v) s.asked x (suc (asks s x)) 0 (omega (arith, counts_door y x turn_back, u.wide)) in
        omega (arith, u.total, ap sum q.counted)

    turn_under : Under ls sides (suc k) t
    turn_under =
        record {
          wide = ap length q.counted ∙ length-set s.asked x (suc (asks s x)) ∙ u.wide;
          long = ⊎_elim (λ c. ap length c.1 ∙ length-set s.held y x ∙ u.long) (λ c. ap length c.1 ∙ u.long) q.answer;
          total = turn_total;
          written = turn_written;
          progress = turn_progress (ranks ls sides) (exit sides) lawful_ranks lawful_sided (asks s) (holds s) (asks t) (holds t) x y u.progress turn_made;
          room = λ m l b. turn_within (ranks ls sides) (exit sides) lawful_ranks lawful_sided (asks s) (holds s) (asks t) (holds t) m x y u.progress turn_made l b (u.room m l b);
        }

  -- so it holds of every run
  pub run_under : (k : ℕ) (s : Asking) → Runs ls sides k s → Under ls sides k s
  run_under zero s e = subst (Under ls sides 0) (sym e) under_first
  run_under (suc k) t c = turn_under k c.0 t c.1 c.2 (run_under k c.0 c.3) c.4
