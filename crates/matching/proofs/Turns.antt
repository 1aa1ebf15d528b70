-- For a program that makes proposals: its arrays are a run's state, and each turn of its loop is one proposal.
use Rattle.std.proofs.Common.{◌≡◌, ℕ, suc, ◌<◌, ◌≤◌, true, ◌⊎◌, List, length, get_or, set, replicate, sym, refl, ap, ◌∙◌, subst, inl, inr, ⊎_elim, arith}
use Rattle.std.proofs.lemmas.List.{get_or-set_same, get_or-set_other, length-set}
use Rattle.std.proofs.lemmas.Bool.{cases_eq, cases_lt}
use Rattle.matching.specs.Lists.{Lawful}
use Rattle.matching.specs.Linkings.{unlinked, exit, counts_one_way, partner, Prefers}
use Rattle.matching.specs.Proposals.{trimmed, Asking, at_first, Free, Runs, Finished, ResultOf}
use Rattle.matching.proofs.Bridge.{Ranking, ranking_ranks, less_prefers, pair_other, link_none, link_some}
use Rattle.matching.proofs.Pointers.{Loose, held_once, exit_holds}
use Rattle.matching.proofs.Runs.{ranks, asks, holds, Under, fits, lawful_ranks, lawful_sided, near_counts, counts_door, no_list, link_same, same_everywhere, next_rank, held_pair, follows, run_under}

-- the state after x asks y, and y takes it in or not
abbrev pub taken : Asking → ℕ → ℕ → Asking
taken s x y = record { asked = set s.asked x (suc (asks s x)); held = set s.held y x }

abbrev pub refused : Asking → ℕ → Asking
refused s x = record { asked = set s.asked x (suc (asks s x)); held = s.held }

-- x is an exit that nobody holds, and y the next door on its trimmed list
pub record Ready (ls : List (List ℕ)) (sides : List ℕ) (s : Asking) (x y : ℕ) : Type 0 where
  pub asker : exit sides x ≡ true
  pub loose : Loose (holds s) x
  pub more : asks s x < length (trimmed ls (counts_one_way ls sides) x)
  pub next : get_or (trimmed ls (counts_one_way ls sides) x) (asks s x) 0 ≡ y

-- the two are a pair
ready_near : (ls : List (List ℕ)) (sides : List ℕ) → Lawful ls → (s : Asking) (x y : ℕ) → Ready ls sides s x y → ranks ls sides x y < ranks ls sides x x
ready_near ls sides f s x y b =
    let n = next_rank ls sides f x (asks s x) b.more in omega (arith, n.0, n.1, ap (ranks ls sides x) b.next)

pub ready_pair : (ls : List (List ℕ)) (sides : List ℕ) → Lawful ls → (s : Asking) (x y : ℕ) → Ready ls sides s x y → counts_one_way ls sides x y ≡ true
ready_pair ls sides f s x y b = near_counts ls sides f x y (ready_near ls sides f s x y b)

module _ (ls : List (List ℕ)) (sides : List ℕ) (f : Lawful ls) where
  module _ (k : ℕ) (s : Asking) (x y : ℕ) (c : Runs ls sides k s) (b : Ready ls sides s x y) where
    under : Under ls sides k s
    under = run_under ls sides f k s c

    back : counts_one_way ls sides y x ≡ true
    back = (fits ls sides f).both x y (ready_pair ls sides f s x y b)

    pub ready_free : Free s x
    ready_free w e =
        ⊎_elim
        (λ v. omega (arith, e, v.1, counts_door ls sides f y x back, f.few))
        (λ v. v.0 (sym v.1 ∙ e ∙ sym (b.loose w (sym v.1 ∙ e))))
        (under.written w)

    -- y takes x in, by any ranks that follow the lists
    pub run_takes : (R : ℕ → ℕ → ℕ) → Ranking ls (counts_one_way ls sides) R → R y x < R y (holds s y) → Runs ls sides (suc k) (taken s x y)
    run_takes R o h = (s, x, y, c, record { asker = b.asker; free = ready_free; more = b.more; next = b.next; counted = refl; answer = inl (better, refl) })
      where
        better : (partner s.held y ≡ unlinked) ⊎ Prefers ls y x (partner s.held y)
        better =
            ⊎_elim
            (λ v. inl v.1)
            (λ v. inr (subst (Prefers ls y x) (sym v.1)
            (less_prefers ls (counts_one_way ls sides) f (fits ls sides f) R o y x (holds s y) back (held_pair ls sides f k s under y v.0) h)))
            (under.written y)

    -- y takes x in since it holds nobody
    pub run_takes_free : holds s y ≡ y → Runs ls sides (suc k) (taken s x y)
    run_takes_free e = run_takes (ranks ls sides) (follows ls sides f) (omega (arith, ap (ranks ls sides y) e, (follows ls sides f).near y x back))

    -- y keeps the one that it holds
    pub run_refuses : (R : ℕ → ℕ → ℕ) → Ranking ls (counts_one_way ls sides) R → R y (holds s y) ≤ R y x → Runs ls sides (suc k) (refused s x)
    run_refuses R o h = (s, x, y, c, record { asker = b.asker; free = ready_free; more = b.more; next = b.next; counted = refl; answer = inr (worse, refl) })
      where
        less : R y (holds s y) < R y x
        less =
            ⊎_elim
            (λ e. let own : y ≡ x = b.loose y (sym ((ranking_ranks ls (counts_one_way ls sides) f (fits ls sides f) R o).apart y x (holds s y) (o.near y x back) (sym e))) in
            absurd (omega (arith, ap (R y) own, o.near y x back)))
            (λ n. omega arith)
            (cases_eq (R y (holds s y)) (R y x))

        worse : Prefers ls y (partner s.held y) x
        worse =
            ⊎_elim
            (λ v. absurd (omega (arith, h, ap (R y) v.0, o.near y x back)))
            (λ v. subst (λ w. Prefers ls y w x) (sym v.1)
            (less_prefers ls (counts_one_way ls sides) f (fits ls sides f) R o y (holds s y) x (held_pair ls sides f k s under y v.0) back less))
            (under.written y)

-- at the start nobody has asked and nobody is held
pub first_asks : (ls : List (List ℕ)) (x : ℕ) → asks (at_first ls) x ≡ 0
first_asks ls x = same_everywhere (length ls) 0 x

pub first_holds : (ls : List (List ℕ)) (y : ℕ) → holds (at_first ls) y ≡ y
first_holds ls y = link_none (replicate (length ls) unlinked) y (same_everywhere (length ls) unlinked y)

-- an exit is through for now: somebody holds it, or it has asked its whole list
abbrev pub Over : List (List ℕ) → List ℕ → Asking → ℕ → Type 0
Over ls sides s z = Loose (holds s) z → length (trimmed ls (counts_one_way ls sides) z) ≤ asks s z

module _ (ls : List (List ℕ)) (sides : List ℕ) (f : Lawful ls) (k : ℕ) (s : Asking) (u : Under ls sides k s) where
  -- an exit that has not asked is held by nobody
  pub fresh_loose : (x : ℕ) → asks s x ≡ 0 → Loose (holds s) x
  fresh_loose x z w e =
      ⊎_elim (λ h. sym h ∙ e) (λ h. absurd (omega (arith, z, h.2, ap (asks s) e))) (u.progress.held w)

  -- when every exit is through, the run is finished
  pub over_finished : ((z : ℕ) → z < length ls → exit sides z ≡ true → Over ls sides s z) → Finished ls sides s
  over_finished h z t free =
      ⊎_elim
      (λ b. h z b t (λ w e. ⊎_elim (λ v. sym v.0 ∙ e) (λ v. absurd (free w (v.1 ∙ e))) (u.written w)))
      (λ b. omega (arith, no_list ls sides z b))
      (cases_lt z (length ls))

  -- the exit that y holds
  pub held_exit : (y : ℕ) → (holds s y ≡ y → ⊥) → (exit sides (holds s y) ≡ true) × (holds s (holds s y) ≡ holds s y) × (0 < asks s (holds s y))
  held_exit y n =
      ⊎_elim
      (λ e. absurd (n e))
      (λ h. (h.0, exit_holds (ranks ls sides) (exit sides) (lawful_ranks ls sides f) (lawful_sided ls sides f) (asks s) (holds s) (holds s y) u.progress h.0, omega (arith, h.2)))
      (u.progress.held y)

  module _ (x y : ℕ) (b : Ready ls sides s x y) where
    -- the doors of a proposal are two doors of the level
    pub ready_asker : x < length ls
    ready_asker = counts_door ls sides f y x ((fits ls sides f).both x y (ready_pair ls sides f s x y b))

    pub ready_asked : y < length ls
    ready_asked = counts_door ls sides f x y (ready_pair ls sides f s x y b)

    -- y is no exit
    pub ready_sided : exit sides y ≡ true → ⊥
    ready_sided t = (lawful_sided ls sides f).one x y (ready_near ls sides f s x y b) b.asker t

    pub ready_two : x ≡ y → ⊥
    ready_two e = pair_other ls (counts_one_way ls sides) f (fits ls sides f) x (subst (λ v. counts_one_way ls sides x v ≡ true) (sym e) (ready_pair ls sides f s x y b))

    -- whom each door holds after y took x in
    pub taken_here : holds (taken s x y) y ≡ x
    taken_here =
        let e : partner (set s.held y x) y ≡ x = get_or-set_same s.held y x unlinked (omega (arith, ready_asked, u.long)) in
        link_some (set s.held y x) y (λ i. omega (arith, ready_asker, f.few, sym e ∙ i)) ∙ e

    pub taken_else : (w : ℕ) → (w ≡ y → ⊥) → holds (taken s x y) w ≡ holds s w
    taken_else w n = link_same (set s.held y x) s.held w (get_or-set_other s.held y w x unlinked n)

    -- how far each exit has asked, whatever y answered
    pub asks_here : asks (taken s x y) x ≡ suc (asks s x)
    asks_here = get_or-set_same s.asked x (suc (asks s x)) 0 (omega (arith, ready_asker, u.wide))

    pub asks_else : (w : ℕ) → (w ≡ x → ⊥) → asks (taken s x y) w ≡ asks s w
    asks_else w n = get_or-set_other s.asked x w (suc (asks s x)) 0 n

    asks_grow : (z : ℕ) → asks s z ≤ asks (taken s x y) z
    asks_grow z = ⊎_elim (λ e. grind (arith, asks_here)) (λ n. omega (arith, asks_else z n)) (cases_eq z x)

    -- the exit that y lets go is held by nobody
    pub taken_loose : (holds s y ≡ y → ⊥) → Loose (holds (taken s x y)) (holds s y)
    taken_loose n w e =
        ⊎_elim
        (λ i. absurd (ready_two (sym (b.loose y (sym e ∙ ap (holds (taken s x y)) i ∙ taken_here)))))
        (λ o. let same : holds s w ≡ holds s y = sym (taken_else w o) ∙ e in
        ⊎_elim
        (λ h. h ∙ same)
        (λ h. absurd (o (held_once (ranks ls sides) (exit sides) (lawful_ranks ls sides f) (lawful_sided ls sides f) (asks s) (holds s) y w u.progress n same h)))
        (cases_eq w (holds s w)))
        (cases_eq w y)

    -- every exit that is through stays so, but the one that is let go
    pub over_taken : (z : ℕ) → (z ≡ holds s y → ⊥) → (z ≡ x) ⊎ Over ls sides s z → Over ls sides (taken s x y) z
    over_taken z n h l =
        ⊎_elim
        (λ e. absurd (ready_two (sym (l y (taken_here ∙ sym e) ∙ e))))
        (λ o. omega (arith, o (λ w e. ⊎_elim (λ i. absurd (n (sym e ∙ ap (holds s) i))) (λ i. l w (taken_else w i ∙ e)) (cases_eq w y)), asks_grow z))
        h

    -- after a refusal every exit that is through stays so
    pub over_refused : (z : ℕ) → Over ls sides s z → Over ls sides (refused s x) z
    over_refused z o l = omega (arith, o l, asks_grow z)

-- v is nobody, or the exit that x holds, or a door that holds x
abbrev pub Told : Asking → ℕ → ℕ → Type 0
Told s x v = (v ≡ unlinked) ⊎ (((holds s x ≡ v) × (holds s x ≡ x → ⊥)) ⊎ ((holds s v ≡ x) × (x ≡ v → ⊥)))

-- The partners written down for the doors below i: each door that holds an exit, and that exit, and nobody else.
pub record Spread (s : Asking) (i : ℕ) (m : List ℕ) : Type 0 where
  pub holder : (y : ℕ) → y < i → (holds s y ≡ y) ⊎ (partner m y ≡ holds s y)
  pub askers : (y : ℕ) → y < i → (holds s y ≡ y) ⊎ (partner m (holds s y) ≡ y)
  pub others : (x : ℕ) → Told s x (partner m x)

-- before the first door every entry is `unlinked`
pub spread_none : (s : Asking) (m : List ℕ) → ((x : ℕ) → partner m x ≡ unlinked) → Spread s 0 m
spread_none s m h = record { holder = λ y b. absurd (omega arith); askers = λ y b. absurd (omega arith); others = λ x. inl (h x) }

-- a door that holds nobody
pub spread_skip : (s : Asking) (i : ℕ) (m : List ℕ) → Spread s i m → holds s i ≡ i → Spread s (suc i) m
spread_skip s i m p e =
    record {
      holder = λ y b. ⊎_elim (λ h. inl (ap (holds s) h ∙ e ∙ sym h)) (λ n. p.holder y (omega arith)) (cases_eq y i);
      askers = λ y b. ⊎_elim (λ h. inl (ap (holds s) h ∙ e ∙ sym h)) (λ n. p.askers y (omega arith)) (cases_eq y i);
      others = p.others;
    }

module _ (ls : List (List ℕ)) (sides : List ℕ) (f : Lawful ls) (k : ℕ) (s : Asking) (u : Under ls sides k s) where
  module _ (i : ℕ) (m : List ℕ) (n : length m ≡ length ls) (p : Spread s i m) (o : holds s i ≡ i → ⊥) where
    -- the door i and the exit that it holds
    wrote : List ℕ
    wrote = set (set m i (holds s i)) (holds s i) i

    wrote_exit : partner wrote (holds s i) ≡ i
    unfolding wrote
    wrote_exit =
        get_or-set_same (set m i (holds s i)) (holds s i) i unlinked
        (omega (arith, length-set m i (holds s i), n, counts_door ls sides f i (holds s i) (held_pair ls sides f k s u i o)))

    wrote_door : partner wrote i ≡ holds s i
    unfolding wrote
    wrote_door =
        get_or-set_other (set m i (holds s i)) (holds s i) i i unlinked (λ e. o (sym e))
        ∙ get_or-set_same m i (holds s i) unlinked (omega (arith, n, counts_door ls sides f (holds s i) i ((fits ls sides f).both i (holds s i) (held_pair ls sides f k s u i o))))

    wrote_else : (w : ℕ) → (w ≡ i → ⊥) → (w ≡ holds s i → ⊥) → partner wrote w ≡ partner m w
    unfolding wrote
    wrote_else w a b = get_or-set_other (set m i (holds s i)) (holds s i) w i unlinked b ∙ get_or-set_other m i w (holds s i) unlinked a

    -- the exit of another door is another exit
    other_exit : (y : ℕ) → (y ≡ i → ⊥) → (holds s y ≡ y → ⊥) → ((holds s y ≡ i → ⊥) × (holds s y ≡ holds s i → ⊥))
    other_exit y a b = (
      λ e. o (ap (holds s) (sym e) ∙ (held_exit ls sides f k s u y b).1 ∙ e),
      λ e. a (held_once (ranks ls sides) (exit sides) (lawful_ranks ls sides f) (lawful_sided ls sides f) (asks s) (holds s) i y u.progress o e (λ h. b (sym h))),
    )

    wrote_spread : Spread s (suc i) wrote
    wrote_spread =
        record {
          holder = λ y b.
              ⊎_elim
              (λ e. inr (ap (partner wrote) e ∙ wrote_door ∙ ap (holds s) (sym e)))
              (λ a. ⊎_elim
              (λ e. inl (ap (holds s) e ∙ (held_exit ls sides f k s u i o).1 ∙ sym e))
              (λ c. ⊎_elim (λ h. inl h) (λ h. inr (wrote_else y a c ∙ h)) (p.holder y (omega arith)))
              (cases_eq y (holds s i)))
              (cases_eq y i);
          askers = λ y b.
              ⊎_elim
              (λ e. inr (ap (λ v. partner wrote (holds s v)) e ∙ wrote_exit ∙ sym e))
              (λ a. ⊎_elim
              (λ h. inl h)
              (λ h. let c = other_exit y a h in
              ⊎_elim (λ d. inl d) (λ d. inr (wrote_else (holds s y) c.0 c.1 ∙ d)) (p.askers y (omega arith)))
              (cases_eq (holds s y) y))
              (cases_eq y i);
          others = λ x.
              ⊎_elim
              (λ e. subst (Told s x) (sym (ap (partner wrote) e ∙ wrote_door)) (inr (inl (ap (holds s) e, λ h. o (ap (holds s) (sym e) ∙ h ∙ e)))))
              (λ a. ⊎_elim
              (λ e. subst (Told s x) (sym (ap (partner wrote) e ∙ wrote_exit)) (inr (inr (sym e, λ h. a h))))
              (λ c. subst (Told s x) (sym (wrote_else x a c)) (p.others x))
              (cases_eq x (holds s i)))
              (cases_eq x i);
        }

  -- a door that holds an exit: both entries are written
  pub spread_more : (i : ℕ) (m : List ℕ) → length m ≡ length ls → Spread s i m → (holds s i ≡ i → ⊥) → Spread s (suc i) (set (set m i (holds s i)) (holds s i) i)
  unfolding wrote
  spread_more i m n p o = wrote_spread i m n p o

  -- at the end the linking is the run's result
  pub spread_all : (m : List ℕ) → length m ≡ length ls → Spread s (length ls) m → ResultOf ls s m
  spread_all m n p =
      record {
        size = n;
        holder = λ y.
            ⊎_elim
            (λ w. inl w.1)
            (λ w. inr (⊎_elim (λ e. absurd (w.0 e)) (λ e. e ∙ sym w.1) (p.holder y (holder_below y w.0))))
            (u.written y);
        askers = λ y.
            ⊎_elim
            (λ w. inl w.1)
            (λ w. inr (⊎_elim (λ e. absurd (w.0 e)) (λ e. ap (partner m) w.1 ∙ e) (p.askers y (holder_below y w.0))))
            (u.written y);
        others = λ x.
            ⊎_elim
            (λ e. inl e)
            (λ c. inr (⊎_elim (λ h. inl (in_list x h.1 ∙ h.0)) (λ h. inr (in_list (partner m x) (λ e. h.1 (sym h.0 ∙ e)) ∙ h.0)) c))
            (p.others x);
      }
    where
      holder_below : (y : ℕ) → (holds s y ≡ y → ⊥) → y < length ls
      holder_below y o = counts_door ls sides f (holds s y) y ((fits ls sides f).both y (holds s y) (held_pair ls sides f k s u y o))

      in_list : (y : ℕ) → (holds s y ≡ y → ⊥) → partner s.held y ≡ holds s y
      in_list y o = ⊎_elim (λ w. absurd (o w.0)) (λ w. w.1) (u.written y)
