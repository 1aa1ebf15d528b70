-- Each turn of the program's loop is one proposal.
use Rattle.std.proofs.Common.{◌≡◌, ℕ, zero, suc, ◌+◌, ◌-◌, ◌*◌, ◌<◌, ◌≤◌, Bool, true, false, cond, ◌⊎◌, List, ◌∷◌, ◌++◌, length, get_or, take, drop, set, replicate, is_some, Some, None, filter, Option, sym, refl, ap, ◌∙◌, subst, inl, inr, ⊎_elim, arith}
use Rattle.std.proofs.lemmas.Nat.{mul-le}
use Rattle.std.proofs.lemmas.List.Elements.{filter-append}
use Rattle.std.proofs.ByRecursion.{All-from_get_or, sum_by_le}
use Rattle.std.proofs.lemmas.List.Filters.{length-filter_more}
use Rattle.std.proofs.lemmas.List.{take-append-drop, take_all, drop_more, get_or_at, get_or-set_same, get_or-set_other, length-append, length-set, length-replicate}
use Rattle.std.proofs.lemmas.Bool.{and_parts, cases_eq, cases_lt}
use Rattle.matching.specs.Lists.{row, place, Lawful}
use Rattle.matching.specs.Linkings.{unlinked, listed, accept, exit, counts_one_way, partner, Prefers}
use Rattle.matching.specs.Proposals.{trimmed, Asking, Free, Answers, Runs}
use Rattle.matching.proofs.Bridge.{one_way_parts, one_way_pairing, trim_end, trim_short}
use Rattle.matching.proofs.Pointers.{held_once}
use Rattle.matching.proofs.Runs.{ranks, asks, holds, Under, lawful_ranks, lawful_sided, held_pair, run_under, same_everywhere}
use Rattle.matching.proofs.Turns.{held_exit}
use Rattle.sources.proofs.Asked.{some_view}
use Rattle.linker.specs.Tables.{mark, Told}
use Rattle.linker.specs.Meanings.{lists_in}
use Rattle.linker.specs.declared.tables.Tables.{Tables}
use Rattle.linker.specs.Turns.{asks_to, state_of, PassedOver, NextPlace, AsksNext, Going}
use Rattle.linker.proofs.Asked.{listed_doors, row_listed, tabled_length, told_door, told_place}

-- the proposals on the places of one list
module _ (ls : List (List ℕ)) (sides : List ℕ) (x : ℕ) where
  one_more : (k : ℕ) → k < length (row ls x) → asks_to ls sides x (k + 1) ≡ asks_to ls sides x k + cond (counts_one_way ls sides x (get_or (row ls x) k 0)) 1 0
  unfolding asks_to
  one_more k h = length-filter_more (counts_one_way ls sides x) (row ls x) k 0 h

  -- doors that may not be linked with x are passed over
  skip_some : (k r m : ℕ) → PassedOver ls sides x k r → k + m ≤ r → asks_to ls sides x (k + m) ≡ asks_to ls sides x k
  skip_some k r zero n h = ap (asks_to ls sides x) (omega arith)
  skip_some k r (suc m) n h =
      let no : counts_one_way ls sides x (get_or (row ls x) (k + m) 0) ≡ false = n.skipped (k + m) (omega arith) (omega arith) in
      ap (asks_to ls sides x) {x = k + suc m} {y = (k + m) + 1} (omega arith)
      ∙ one_more (k + m) (omega (arith, n.within)) ∙ ap (λ b. asks_to ls sides x (k + m) + cond b 1 0) no ∙ (omega (arith, skip_some k r m n (omega arith)))

  pub asks_skipped : (k r : ℕ) → PassedOver ls sides x k r → asks_to ls sides x r ≡ asks_to ls sides x k
  asks_skipped k r n =
      subst (λ m. asks_to ls sides x m ≡ asks_to ls sides x k) {x = k + (r - k)} (omega (arith, n.past)) (skip_some k r (r - k) n (omega (arith, n.past)))

  -- the trimmed list goes on with the door that is found
  trimmed_at : (r : ℕ) → r < length (row ls x) → counts_one_way ls sides x (get_or (row ls x) r 0) ≡ true
      → trimmed ls (counts_one_way ls sides) x ≡ filter (counts_one_way ls sides x) (take r (row ls x)) ++ (get_or (row ls x) r 0 ∷ filter (counts_one_way ls sides x) (drop (r + 1) (row ls x)))
  unfolding trimmed
  trimmed_at r h t =
      let l : List ℕ = row ls x in
      let p : ℕ → Bool = counts_one_way ls sides x in
      ap (filter p) (sym (take-append-drop r l)) ∙ filter-append p (take r l) (drop r l)
      ∙ ap (λ v. filter p (take r l) ++ v) (ap (filter p) (drop_more l r 0 h) ∙ ap (λ b. cond b (get_or l r 0 ∷ filter p (drop (r + 1) l)) (filter p (drop (r + 1) l))) t)

  -- so that door is asked next
  pub asks_found : (r : ℕ) → r < length (row ls x) → counts_one_way ls sides x (get_or (row ls x) r 0) ≡ true
      → (asks_to ls sides x (r + 1) ≡ suc (asks_to ls sides x r)) × (asks_to ls sides x r < length (trimmed ls (counts_one_way ls sides) x))
      × (get_or (trimmed ls (counts_one_way ls sides) x) (asks_to ls sides x r) 0 ≡ get_or (row ls x) r 0)
  unfolding asks_to
  asks_found r h t =
      let front : List ℕ = filter (counts_one_way ls sides x) (take r (row ls x)) in
      let back : List ℕ = get_or (row ls x) r 0 ∷ filter (counts_one_way ls sides x) (drop (r + 1) (row ls x)) in
      let e : trimmed ls (counts_one_way ls sides) x ≡ front ++ back = trimmed_at r h t in (
        one_more r h ∙ ap (λ b. length front + cond b 1 0) t ∙ omega arith,
        omega (arith, ap length e, length-append front back),
        ap (λ l. get_or l (length front) 0) e ∙ get_or_at front (get_or (row ls x) r 0) (filter (counts_one_way ls sides x) (drop (r + 1) (row ls x))) 0 (length front) refl,
      )

  -- at the end of its list a door has asked all of the trimmed one
  pub asks_all : (r : ℕ) → length (row ls x) ≤ r → asks_to ls sides x r ≡ length (trimmed ls (counts_one_way ls sides) x)
  unfolding asks_to trimmed
  asks_all r h = ap (λ l. length (filter (counts_one_way ls sides x) l)) (take_all r (row ls x) h)

-- by the marks of two doors on y's list, y prefers one, or they are one
prefers_marks : (ls : List (List ℕ)) (y a b : ℕ) → listed ls y a ≡ true → listed ls y b ≡ true → mark (place (row ls y) a) < mark (place (row ls y) b) → Prefers ls y a b
unfolding listed
prefers_marks ls y a b h i less = go (place (row ls y) a) (place (row ls y) b) refl refl h i less
  where
    go : (o q : Option ℕ) → place (row ls y) a ≡ o → place (row ls y) b ≡ q → is_some o ≡ true → is_some q ≡ true → mark o < mark q → Prefers ls y a b
    go (Some j) (Some k) e f _ _ l = (j, k, e, f, l)
    go None q e f h _ l = absurd (grind arith)
    go (Some j) None e f _ i l = absurd (grind arith)

marks_one : (ls : List (List ℕ)) (y a b : ℕ) → listed ls y a ≡ true → listed ls y b ≡ true → mark (place (row ls y) a) ≡ mark (place (row ls y) b) → a ≡ b
unfolding listed
marks_one ls y a b h i same = go (place (row ls y) a) (place (row ls y) b) refl refl h i same
  where
    go : (o q : Option ℕ) → place (row ls y) a ≡ o → place (row ls y) b ≡ q → is_some o ≡ true → is_some q ≡ true → mark o ≡ mark q → a ≡ b
    go (Some j) (Some k) e f _ _ l = sym (some_view (row ls y) a j e).1 ∙ ap (λ m. get_or (row ls y) m 0) l ∙ (some_view (row ls y) b k f).1
    go None q e f h _ l = absurd (grind arith)
    go (Some j) None e f _ i l = absurd (grind arith)

counts_listed : (ls : List (List ℕ)) (sides : List ℕ) (x y : ℕ) → counts_one_way ls sides x y ≡ true → listed ls x y ≡ true
unfolding accept
counts_listed ls sides x y h = (and_parts (listed ls x y) (listed ls y x) (one_way_parts ls sides x y h).0).0

-- what a run says of the exits that are held
module _ (ls : List (List ℕ)) (sides : List ℕ) (f : Lawful ls) (k : ℕ) (s : Asking) (r : Runs ls sides k s) where
  u : Under ls sides k s
  u = run_under ls sides f k s r

  in_hand : (y : ℕ) → (partner s.held y ≡ unlinked → ⊥) → (holds s y ≡ y → ⊥) × (partner s.held y ≡ holds s y)
  in_hand y n = ⊎_elim (λ w. absurd (n w.1)) (λ w. (w.0, w.1)) (u.written y)

  pub holder_facts : (y : ℕ) → (partner s.held y ≡ unlinked → ⊥)
      → (counts_one_way ls sides y (partner s.held y) ≡ true) × (exit sides (partner s.held y) ≡ true) × (0 < get_or s.asked (partner s.held y) 0)
  holder_facts y n =
      let w = in_hand y n in
      let h = held_exit ls sides f k s u y w.0 in
      subst (λ v. (counts_one_way ls sides y v ≡ true) × (exit sides v ≡ true) × (0 < get_or s.asked v 0)) (sym w.1) (held_pair ls sides f k s u y w.0, h.0, h.2)

  pub holder_once : (y w : ℕ) → (partner s.held y ≡ unlinked → ⊥) → partner s.held w ≡ partner s.held y → w ≡ y
  holder_once y w n e =
      let a = in_hand y n in
      let b = in_hand w (λ i. n (sym e ∙ i)) in
      held_once (ranks ls sides) (exit sides) (lawful_ranks ls sides f) (lawful_sided ls sides f) (asks s) (holds s) y w u.progress a.0 (sym b.1 ∙ e ∙ a.1) (λ i. b.0 (sym i))

-- what holds of every cell after one was written
set_cases : (l : List ℕ) (i v : ℕ) → i < length l → (P : ℕ → ℕ → Type 0) → P i v → ((w : ℕ) → (w ≡ i → ⊥) → P w (get_or l w 0)) → (w : ℕ) → P w (get_or (set l i v) w 0)
set_cases l i v h P here rest w =
    ⊎_elim
    (λ (e : w ≡ i). subst (λ z. P z (get_or (set l i v) z 0)) (sym e) (subst (P i) (sym (get_or-set_same l i v 0 h)) here))
    (λ n. subst (P w) (sym (get_or-set_other l i w v 0 n)) (rest w n))
    (cases_eq w i)

-- at most 96 doors ask at most 96 times each
pub going_few : (ls : List (List ℕ)) (sides : List ℕ) → Lawful ls → (d : ℕ) (o : Option ℕ) (k : ℕ) (next held : List ℕ) → Going ls sides d o k next held → k ≤ 9216
going_few ls sides f d o k next held g =
    let u = run_under ls sides f k (state_of g.asked held) g.run in
    let each : (w : ℕ) → get_or g.asked w 0 ≤ 96 = λ w.
    omega (arith, u.progress.within w, trim_end ls (counts_one_way ls sides) f (one_way_pairing ls sides) w, trim_short ls (counts_one_way ls sides) f (one_way_pairing ls sides) w, f.few) in
    omega (arith, u.total, sum_by_le (λ v. v) 96 g.asked (All-from_get_or (λ v. v ≤ 96) g.asked 0 (λ w _. each w)), mul-le (length g.asked) 96 96 96 (omega (arith, u.wide, f.few)) (omega arith))

-- a proposal on its way
module _ (ls : List (List ℕ)) (sides : List ℕ) (f : Lawful ls) (d x c : ℕ) (next held : List ℕ) (g : Going ls sides d (Some x) c next held) where
  here : x < length next
  here = omega (arith, g.asks.0, g.doors, g.size)

  -- x has come to the end of its list
  pub going_over : NextPlace ls sides x (get_or next x 0) None → Going ls sides d None c next held
  going_over n =
      record {
        asked = g.asked;
        run = g.run;
        size = g.size;
        doors = g.doors;
        short = g.short;
        places = g.places;
        through = λ w b _ t o.
            ⊎_elim
            (λ (e : w ≡ x). subst (λ z. length (trimmed ls (counts_one_way ls sides) z) ≤ get_or g.asked z 0) (sym e)
            (omega (arith, g.places x, asks_skipped ls sides x (get_or next x 0) (length (row ls x)) n, asks_all ls sides x (length (row ls x)) (omega arith))))
            (λ m. g.through w b (λ e. m (sym (grind (arith, e)))) t o)
            (cases_eq w x);
        later = g.later;
        asks = tt;
      }

  -- x asks y, the door at place k
  module _ (k : ℕ) (n : NextPlace ls sides x (get_or next x 0) (Some k)) (y : ℕ) (e : get_or (row ls x) k 0 ≡ y) where
    pair : counts_one_way ls sides x y ≡ true
    pair = subst (λ v. counts_one_way ls sides x v ≡ true) e n.2

    back : listed ls y x ≡ true
    back = counts_listed ls sides y x ((one_way_pairing ls sides).both x y pair)

    asked' : List ℕ
    asked' = set g.asked x (suc (get_or g.asked x 0))

    wide : x < length g.asked
    wide = omega (arith, here, g.size, (run_under ls sides f c (state_of g.asked held) g.run).wide)

    found : (asks_to ls sides x (k + 1) ≡ suc (get_or g.asked x 0)) × (get_or g.asked x 0 < length (trimmed ls (counts_one_way ls sides) x))
        × (get_or (trimmed ls (counts_one_way ls sides) x) (get_or g.asked x 0) 0 ≡ get_or (row ls x) k 0)
    found =
        subst (λ v. (asks_to ls sides x (k + 1) ≡ suc v) × (v < length (trimmed ls (counts_one_way ls sides) x)) × (get_or (trimmed ls (counts_one_way ls sides) x) v 0 ≡ get_or (row ls x) k 0))
        (sym (g.places x ∙ sym (asks_skipped ls sides x (get_or next x 0) k n.0))) (asks_found ls sides x k n.1 n.2)

    -- whatever y answers, one more proposal is made
    going_on : (o : Option ℕ) (held' : List ℕ) → Answers ls (state_of g.asked held) x y held'
        → ((w : ℕ) → w < d → (o ≡ Some w → ⊥) → (w ≡ x → ⊥) → Free (state_of asked' held') w → Free (state_of g.asked held) w)
        → ((o ≡ Some x) ⊎ (Free (state_of asked' held') x → ⊥))
        → AsksNext sides d (state_of asked' held') o
        → Going ls sides d o (c + 1) (set next x (k + 1)) held'
    unfolding asked'
    going_on o held' answer others own asks' =
        record {
          asked = asked';
          run = subst (λ m. Runs ls sides m (state_of asked' held')) {x = suc c} (omega arith) (
            state_of g.asked held,
            x,
            y,
            g.run,
            record { asker = g.asks.1; free = g.asks.2; more = found.1; next = found.2 ∙ e; counted = refl; answer = answer },
          );
          size = length-set next x (k + 1) ∙ g.size;
          doors = g.doors;
          short = set_cases next x (k + 1) here (λ w v. v ≤ length (row ls w)) (omega (arith, n.1)) (λ w _. g.short w);
          places = λ w.
              ⊎_elim
              (λ (i : w ≡ x). subst (λ v. get_or asked' v 0 ≡ asks_to ls sides v (get_or (set next x (k + 1)) v 0)) (sym i)
              (get_or-set_same g.asked x (suc (get_or g.asked x 0)) 0 wide ∙ sym found.0 ∙ ap (asks_to ls sides x) (sym (get_or-set_same next x (k + 1) 0 here))))
              (λ i. get_or-set_other g.asked x w (suc (get_or g.asked x 0)) 0 i ∙ g.places w ∙ ap (asks_to ls sides w) (sym (get_or-set_other next x w (k + 1) 0 i)))
              (cases_eq w x);
          through = λ w b m t p.
              ⊎_elim
              (λ (i : w ≡ x). absurd (⊎_elim (λ j. m (j ∙ ap Some (sym i))) (λ j. j (subst (Free (state_of asked' held')) i p)) own))
              (λ i. subst (λ v. length (trimmed ls (counts_one_way ls sides) w) ≤ v) (sym (get_or-set_other g.asked x w (suc (get_or g.asked x 0)) 0 i)) (g.through w b (λ q. i (grind (arith, q))) t (others w b m i p)))
              (cases_eq w x);
          later = λ w b. get_or-set_other g.asked x w (suc (get_or g.asked x 0)) 0 (omega (arith, g.asks.0)) ∙ g.later w b;
          asks = asks';
        }

    -- y prefers the exit z that it holds
    pub going_refused : (z : ℕ) → Told held y (Some z) → mark (place (row ls y) z) < mark (place (row ls y) x) → Going ls sides d (Some x) (c + 1) (set next x (k + 1)) held
    going_refused z i less =
        let w = holder_facts ls sides f c (state_of g.asked held) g.run y (λ o. i.1 (i.0 ∙ o)) in
        let known : listed ls y z ≡ true = counts_listed ls sides y z (subst (λ v. counts_one_way ls sides y v ≡ true) (sym i.0) w.0) in
        going_on (Some x) held (inr (subst (λ v. Prefers ls y v x) i.0 (prefers_marks ls y z x known back less), refl)) (λ _ _ _ _ o. o) (inl refl) g.asks

    -- once y holds x
    held_here : partner (set held y x) y ≡ x
    held_here = get_or-set_same held y x unlinked (omega (arith, (listed_doors ls x y f (counts_listed ls sides x y pair)).1, (run_under ls sides f c (state_of g.asked held) g.run).long))

    held_else : (v : ℕ) → (v ≡ y → ⊥) → partner (set held y x) v ≡ partner held v
    held_else v m = get_or-set_other held y v x unlinked m

    -- only x is held anew, and only whom y held let go
    others_free : (w : ℕ) → (w ≡ partner held y → ⊥) → Free (state_of asked' (set held y x)) w → Free (state_of g.asked held) w
    others_free w m o v q = ⊎_elim (λ (j : v ≡ y). m (sym q ∙ ap (partner held) j)) (λ j. o v (held_else v j ∙ q)) (cases_eq v y)

    -- y held nobody
    pub going_first : Told held y None → Going ls sides d None (c + 1) (set next x (k + 1)) (set held y x)
    going_first m =
        going_on None (set held y x) (inl (inl m, refl))
        (λ w b _ j o. others_free w (λ i. omega (arith, b, i, m, g.doors, f.few)) o) (inr (λ o. o y held_here)) tt

    -- y prefers x
    pub going_better : (z : ℕ) → Told held y (Some z) → mark (place (row ls y) x) ≤ mark (place (row ls y) z) → Going ls sides d (Some z) (c + 1) (set next x (k + 1)) (set held y x)
    going_better z i less =
        let w = holder_facts ls sides f c (state_of g.asked held) g.run y (λ o. i.1 (i.0 ∙ o)) in
        let known : listed ls y z ≡ true = counts_listed ls sides y z (subst (λ v. counts_one_way ls sides y v ≡ true) (sym i.0) w.0) in
        let more : 0 < get_or g.asked z 0 = subst (λ v. 0 < get_or g.asked v 0) (sym i.0) w.2 in
        let differ : x ≡ z → ⊥ = λ o. g.asks.2 y (sym i.0 ∙ sym o) in
        let strict : mark (place (row ls y) x) < mark (place (row ls y) z) =
        ⊎_elim (λ o. absurd (differ (marks_one ls y x z back known o))) (λ o. omega arith) (cases_eq (mark (place (row ls y) x)) (mark (place (row ls y) z))) in
        let freed : Free (state_of asked' (set held y x)) z =
        λ v q. ⊎_elim
        (λ (j : v ≡ y). differ (sym held_here ∙ ap (partner (set held y x)) (sym j) ∙ q))
        (λ j. j (holder_once ls sides f c (state_of g.asked held) g.run y v (λ o. i.1 (i.0 ∙ o)) (sym (held_else v j) ∙ q ∙ i.0)))
        (cases_eq v y) in
        going_on (Some z) (set held y x) (inl (inr (subst (Prefers ls y x) i.0 (prefers_marks ls y x z back known strict)), refl))
        (λ v _ m _ o. others_free v (λ j. m (ap Some (i.0 ∙ sym j))) o) (inr (λ o. o y held_here)) (
          ⊎_elim (λ b. b) (λ b. absurd (omega (arith, g.later z b))) (cases_lt z d),
          subst (λ v. exit sides v ≡ true) (sym i.0) w.1,
          freed,
        )

-- A proposal as the program makes it: y is the door at place k of x's list.
module _ (t : Tables) (sides : List ℕ) (d x c k : ℕ) (next held : List ℕ) (y : ℕ) (g : Going (lists_in t) sides d (Some x) c next held) (n : NextPlace (lists_in t) sides x (get_or next x 0) (Some k))
    (at : y ≡ get_or t.lists.now (x * t.count + k) 0) where
  the_door : get_or (row (lists_in t) x) k 0 ≡ y
  the_door = sym (at ∙ told_door t x k n.1)

  doors : (x < t.count) × (y < t.count)
  doors =
      subst (λ m. (x < m) × (y < m)) (tabled_length t.count t.lists.now t.sizes.now)
      (listed_doors (lists_in t) x y t.sound.legal (subst (λ v. listed (lists_in t) x v ≡ true) the_door (row_listed (lists_in t) x k n.1)))

  mark_asker : get_or t.places.now (y * t.count + x) 0 ≡ mark (place (row (lists_in t) y) x)
  mark_asker = told_place t y x doors.1 doors.0

  mark_held : (z : ℕ) → Told held y (Some z) → get_or t.places.now (y * t.count + z) 0 ≡ mark (place (row (lists_in t) y) z)
  mark_held z i =
      let w = holder_facts (lists_in t) sides t.sound.legal c (state_of g.asked held) g.run y (λ o. i.1 (i.0 ∙ o)) in
      let b = listed_doors (lists_in t) y z t.sound.legal (counts_listed (lists_in t) sides y z (subst (λ v. counts_one_way (lists_in t) sides y v ≡ true) (sym i.0) w.0)) in
      told_place t y z doors.1 (omega (arith, b.1, tabled_length t.count t.lists.now t.sizes.now))

  pub ask_refused : (z : ℕ) → Told held y (Some z) → get_or t.places.now (y * t.count + z) 0 < get_or t.places.now (y * t.count + x) 0 → Going (lists_in t) sides d (Some x) (c + 1) (set next x (k + 1)) held
  ask_refused z i less =
      going_refused (lists_in t) sides t.sound.legal d x c next held g k n y the_door z i (omega (arith, mark_asker, mark_held z i))

  pub ask_first : Told held y None → Going (lists_in t) sides d None (c + 1) (set next x (k + 1)) (set held y x)
  ask_first i = going_first (lists_in t) sides t.sound.legal d x c next held g k n y the_door i

  pub ask_better : (z : ℕ) → Told held y (Some z) → get_or t.places.now (y * t.count + x) 0 ≤ get_or t.places.now (y * t.count + z) 0 → Going (lists_in t) sides d (Some z) (c + 1) (set next x (k + 1)) (set held y x)
  ask_better z i less =
      going_better (lists_in t) sides t.sound.legal d x c next held g k n y the_door z i (omega (arith, mark_asker, mark_held z i, less))

  -- the count has room for it
  pub ask_few : (o : Option ℕ) → Told held y o → c + 1 ≤ 9216
  ask_few None i = going_few (lists_in t) sides t.sound.legal d None (c + 1) _ _ (ask_first i)
  ask_few (Some z) i =
      ⊎_elim
      (λ b. going_few (lists_in t) sides t.sound.legal d (Some x) (c + 1) _ _ (ask_refused z i b))
      (λ b. going_few (lists_in t) sides t.sound.legal d (Some z) (c + 1) _ _ (ask_better z i b))
      (cases_lt (get_or t.places.now (y * t.count + z) 0) (get_or t.places.now (y * t.count + x) 0))

-- before the first proposal
pub going_none : (ls : List (List ℕ)) (sides : List ℕ) → Going ls sides 0 None 0 (replicate (length ls) 0) (replicate (length ls) unlinked)
unfolding asks_to
going_none ls sides =
    record {
      asked = replicate (length ls) 0;
      run = refl;
      size = length-replicate (length ls) 0;
      doors = omega arith;
      short = λ w. omega (arith, same_everywhere (length ls) 0 w);
      places = λ w. same_everywhere (length ls) 0 w ∙ sym (ap (λ k. length (filter (counts_one_way ls sides w) (take k (row ls w)))) (same_everywhere (length ls) 0 w));
      through = λ w b _ _ _. absurd (omega arith);
      later = λ w _. same_everywhere (length ls) 0 w;
      asks = tt;
    }

-- the next door begins, if it is an exit; otherwise it has nothing to do
module _ (ls : List (List ℕ)) (sides : List ℕ) (f : Lawful ls) (d k : ℕ) (next held : List ℕ) (g : Going ls sides d None k next held) (b : d < length ls) where
  pub going_begins : exit sides d ≡ true → Going ls sides (d + 1) (Some d) k next held
  going_begins t =
      record {
        asked = g.asked;
        run = g.run;
        size = g.size;
        doors = omega arith;
        short = g.short;
        places = g.places;
        through = λ w c m. g.through w (⊎_elim (λ e. absurd (m (ap Some (sym e)))) (λ e. omega arith) (cases_eq w d)) (λ e. grind (arith, e));
        later = λ w c. g.later w (omega arith);
        asks = (omega arith, t, λ y e. omega (arith, e, g.later d (omega arith), f.few, ap (λ v. get_or g.asked v 0) e, (holder_facts ls sides f k (state_of g.asked held) g.run y (λ i. omega (arith, i, e, f.few))).2));
      }

  pub going_passes : (exit sides d ≡ true → ⊥) → Going ls sides (d + 1) None k next held
  going_passes t =
      record {
        asked = g.asked;
        run = g.run;
        size = g.size;
        doors = omega arith;
        short = g.short;
        places = g.places;
        through = λ w c m i. ⊎_elim (λ (e : w ≡ d). absurd (t (subst (λ v. exit sides v ≡ true) e i))) (λ e. g.through w (omega arith) m i) (cases_eq w d);
        later = λ w c. g.later w (omega arith);
        asks = tt;
      }
