-- Which favours and forbidden pairs are live.
use Rattle.std.proofs.Common.{◌≡◌, ℕ, suc, ◌≤◌, Bool, true, false, cond, not, ◌&&◌, ◌||◌, eqb, leb, List, [], ◌∷◌, ◌++◌, length, filter, sym, refl, ap, ◌∙◌, subst, ⊎_elim, arith}
use Rattle.std.proofs.lemmas.List.Elements.{filter-append}
use Rattle.std.proofs.lemmas.List.{append-nil, length_push}
use Rattle.std.proofs.lemmas.Bool.{eqb-true, cond-false, cases_Bool, and_parts, or_cases, or_parts, leb-false}
use Rattle.std.proofs.lemmas.Bool.Decides.{nat_tests}
use Rattle.level.specs.Meant.{in_order, joins, names}
use Rattle.level.specs.Tables.{among, full, added}
use Rattle.matching.specs.Linkings.{listed}
use Rattle.replay.specs.History.{History, Doors, claimed, released, struck, wasted, freed, forbade, favoured, door, gone, lists, this, either, sparing, forbidden, favours, forbade_ever, favoured_ever}
use Rattle.replay.proofs.Moments.{gone_both, never_forbidden}
use Rattle.replay.proofs.Passed.{forbid_passed, favour_passed}
use Rattle.replay.specs.Law.{Table}
use Rattle.replay.specs.State.{Sound}

module _ {X : Type 0} (t : X → Bool) where
  -- what a test finds among those kept, where the filter agrees about all that pass
  among_kept : (q : X → Bool) (c : Bool) → ((x : X) → t x ≡ true → q x ≡ c) → (xs : List X) → among t (filter q xs) ≡ (c && among t xs)
  among_kept q true s [] = refl
  among_kept q false s [] = refl
  among_kept q c s (x ∷ xs) = go (t x) (q x) refl refl (among_kept q c s xs)
    where
      go : (b e : Bool) → t x ≡ b → q x ≡ e → among t (filter q xs) ≡ (c && among t xs) → among t (cond e (x ∷ filter q xs) (filter q xs)) ≡ (c && (b || among t xs))
      go true true y z r = grind (arith, s x y)
      go true false y z r = grind (arith, s x y)
      go false true y z r = rw y r
      go false false y z r = r

  among_push : (xs : List X) (x : X) → among t (xs ++ (x ∷ [])) ≡ (t x || among t xs)
  among_push [] x = refl
  among_push (y ∷ ys) x = ap (λ b. t y || b) (among_push ys x) ∙ grind (arith, cases_Bool (t x), cases_Bool (t y))

  among_none : (xs : List X) → among t xs ≡ false → filter t xs ≡ []
  among_none [] e = refl
  among_none (x ∷ xs) e = let p = or_parts (t x) (among t xs) e in cond-false (t x) (x ∷ filter t xs) (filter t xs) p.0 ∙ among_none xs p.1

  same_among : (u : X → Bool) → ((y : X) → t y ≡ u y) → (xs : List X) → among t xs ≡ among u xs
  same_among u s [] = refl
  same_among u s (x ∷ xs) = cc (s x, same_among u s xs)

  -- one more record: u asks whether it is there already, and tells the same as t if t passes it
  among_added : (u : X → Bool) (x : X) (j : Bool) → t x ≡ j → (j ≡ true → (y : X) → t y ≡ u y) → (xs : List X) → among t (added u x xs) ≡ (j || among t xs)
  among_added u x j e s xs = go (among u xs) refl
    where
      there : (b : Bool) → (b ≡ true → (y : X) → t y ≡ u y) → among u xs ≡ true → among t xs ≡ (b || among t xs)
      there true w f = same_among u (w refl) xs ∙ f
      there false w f = refl

      go : (b : Bool) → among u xs ≡ b → among t (cond b xs (xs ++ (x ∷ []))) ≡ (j || among t xs)
      go true f = there j s f
      go false f = among_push xs x ∙ ap (λ b. b || among t xs) e

  kept_less : (q : X → Bool) (xs : List X) → length (filter t (filter q xs)) ≤ length (filter t xs)
  kept_less q [] = omega arith
  kept_less q (x ∷ xs) = go (q x) (t x) refl (kept_less q xs)
    where
      go : (b c : Bool) → t x ≡ c → length (filter t (filter q xs)) ≤ length (filter t xs) → length (filter t (cond b (x ∷ filter q xs) (filter q xs))) ≤ length (cond c (x ∷ filter t xs) (filter t xs))
      go true true e i = rw e (omega arith)
      go true false e i = rw e i
      go false true e i = omega arith
      go false false e i = i

  -- each record once
  once_added : (u : X → Bool) (x : X) (j : Bool) → t x ≡ j → (j ≡ true → (y : X) → t y ≡ u y) → (xs : List X) → length (filter t xs) ≤ 1 → length (filter t (added u x xs)) ≤ 1
  once_added u x j e s xs i = go (among u xs) refl
    where
      new : (b : Bool) → t x ≡ b → (b ≡ true → (y : X) → t y ≡ u y) → among u xs ≡ false → length (filter t xs ++ cond b (x ∷ []) []) ≤ 1
      new true y w f = rw (among_none xs (same_among u (w refl) xs ∙ f)) (omega arith)
      new false y w f = rw (append-nil (filter t xs)) i

      go : (b : Bool) → among u xs ≡ b → length (filter t (cond b xs (xs ++ (x ∷ [])))) ≤ 1
      go true f = i
      go false f = rw (filter-append t xs (x ∷ [])) (subst (λ b. length (filter t xs ++ cond b (x ∷ []) []) ≤ 1) (sym e) (new j e s f))

-- a table with room takes one more
room_added : {X : Type 0} (u : X → Bool) (x : X) (xs : List X) → full u xs ≡ false → length xs ≤ 64 → length (added u x xs) ≤ 64
room_added u x xs f i = go (among u xs) refl
  where
    go : (b : Bool) → among u xs ≡ b → length (cond b xs (xs ++ (x ∷ []))) ≤ 64
    go true e = i
    go false e = let s : leb 64 (length xs) ≡ false = grind (arith, cases_Bool (leb 64 (length xs))) in omega (arith, length_push xs x, leb-false 64 (length xs) s)

kept_short : {X : Type 0} (q : X → Bool) (xs : List X) → length (filter q xs) ≤ length xs
kept_short q [] = omega arith
kept_short q (x ∷ xs) = go (q x) (kept_short q xs)
  where
    go : (b : Bool) → length (filter q xs) ≤ length xs → length (cond b (x ∷ filter q xs) (filter q xs)) ≤ suc (length xs)
    go true i = omega arith
    go false i = omega arith

joins_turned : (a b c d : ℕ) → joins a b c d ≡ joins c d a b
joins_turned a b c d = grind (arith, nat_tests)

same_pair : (a b c d : ℕ) → joins a b c d ≡ true → (p : Doors) → either a b p ≡ either c d p
same_pair a b c d e p = grind (arith, nat_tests)

spares : (D a b x y : ℕ) → joins a b x y ≡ true → not (names D x y) ≡ (not (eqb D a) && not (eqb D b))
spares D a b x y e = grind (arith, nat_tests)

-- what becomes of a pair of doors where a door is struck
struck_live : (D a b : ℕ) (t : Doors → Bool) → ((p : Doors) → t p ≡ true → joins a b p.0 p.1 ≡ true) → (ps : List Doors) → among t (sparing D ps) ≡ (not (eqb D a) && not (eqb D b) && among t ps)
struck_live D a b t pairs ps = among_kept t (λ p. not (names D p.0 p.1)) (not (eqb D a) && not (eqb D b)) (λ p e. spares D a b p.0 p.1 (pairs p e)) ps

in_either : (a b x y : ℕ) → in_order a b x y ≡ true → joins a b x y ≡ true
in_either a b x y e = grind (arith, nat_tests)

-- a struck door ends what was live
ending : (x y e g k : Bool) → (not x && not y && (e && not g && not k)) ≡ (e && not (x || g) && not (y || k))
ending true y true g k = refl
ending true y false g k = refl
ending false true e g k = grind (arith, cases_Bool e, cases_Bool g, cases_Bool k)
ending false false e g k = refl

-- a pair whose doors stand is live from the granted forbid on
starting : (j e g k : Bool) → (j ≡ true → (g ≡ false) × (k ≡ false)) → (j || (e && not g && not k)) ≡ ((j || e) && not g && not k)
starting true e g k s = rw ((s refl).0, (s refl).1) refl
starting false e g k s = refl

stand_too : (h : History) (a b c d : ℕ) → joins c d a b ≡ true → gone h c ≡ false → gone h d ≡ false → (gone h a ≡ false) × (gone h b ≡ false)
stand_too h a b c d e x y =
    ⊎_elim
    (λ (i : in_order c d a b ≡ true). let w = and_parts (eqb a c) (eqb b d) i in (ap (gone h) (eqb-true a c w.0) ∙ x, ap (gone h) (eqb-true b d w.1) ∙ y))
    (λ (i : in_order d c a b ≡ true). let w = and_parts (eqb a d) (eqb b c) i in (ap (gone h) (eqb-true a d w.0) ∙ y, ap (gone h) (eqb-true b c w.1) ∙ x))
    (or_cases (in_order c d a b) (in_order d c a b) e)

-- a forbidden pair is live while both doors stand
pub forbidden_live : (ls : List (List ℕ)) (h : History) → Sound ls h → (a b : ℕ) → among (either a b) (forbidden h) ≡ (forbade_ever h a b && not (gone h a) && not (gone h b))
unfolding forbidden gone forbade_ever
forbidden_live ls [] s a b = refl
forbidden_live ls (claimed d ∷ h) s a b = forbidden_live ls h s.1 a b
forbidden_live ls (released k ∷ h) s a b = forbidden_live ls h s.2 a b
forbidden_live ls (struck k ∷ h) s a b =
    struck_live (door h k) a b (either a b) (λ p e. e) (forbidden h)
    ∙ ap (λ t. not (eqb (door h k) a) && not (eqb (door h k) b) && t) (forbidden_live ls h s.2 a b)
    ∙ ending (eqb (door h k) a) (eqb (door h k) b) (forbade_ever h a b) (gone h a) (gone h b)
forbidden_live ls (wasted k ∷ h) s a b = forbidden_live ls h s.1 a b
forbidden_live ls (freed d ∷ h) s a b = forbidden_live ls h s.1 a b
forbidden_live ls (forbade c d ∷ h) s a b =
    let w = (forbid_passed (length ls) h c d s.0).0 in
    among_added (either a b) (either c d) (c, d) (joins c d a b) (joins_turned a b c d) (λ e. same_pair a b c d (joins_turned a b c d ∙ e)) (forbidden h)
    ∙ ap (λ t. joins c d a b || t) (forbidden_live ls h s.1 a b)
    ∙ starting (joins c d a b) (forbade_ever h a b) (gone h a) (gone h b) (λ e. stand_too h a b c d e w.one w.other)
forbidden_live ls (favoured c d ∷ h) s a b = forbidden_live ls h s.1 a b

turned : (a b c d : ℕ) → in_order a b c d ≡ in_order c d a b
turned a b c d = grind (arith, nat_tests)

same_order : (a b c d : ℕ) → in_order c d a b ≡ true → (p : Doors) → this a b p ≡ this c d p
same_order a b c d e p = grind (arith, nat_tests)

forbids : (a b c d x y : ℕ) → in_order a b x y ≡ true → not (joins c d x y) ≡ not (joins c d a b)
forbids a b c d x y e = grind (arith, nat_tests)

forbidding : (j e g k f : Bool) → (not j && (e && not g && not k && not f)) ≡ (e && not g && not k && not (j || f))
forbidding true e g k f = grind (arith, cases_Bool e, cases_Bool g, cases_Bool k)
forbidding false e g k f = refl

favouring : (j e g k f : Bool) → (j ≡ true → (g ≡ false) × (k ≡ false) × (f ≡ false)) → (j || (e && not g && not k && not f)) ≡ ((j || e) && not g && not k && not f)
favouring true e g k f s = rw ((s refl).0, (s refl).1, (s refl).2) refl
favouring false e g k f s = refl

unforbidden : (ls : List (List ℕ)) (h : History) (a b c d : ℕ) → in_order c d a b ≡ true → listed (lists ls h) c d ≡ true → forbade_ever h a b ≡ false
unforbidden ls h a b c d e w =
    let p = and_parts (eqb a c) (eqb b d) e in
    ap (λ x. forbade_ever h x b) (eqb-true a c p.0) ∙ ap (forbade_ever h c) (eqb-true b d p.1) ∙ never_forbidden ls h c d w

-- a favour is live while both doors stand and the pair is not forbidden
pub favours_live : (ls : List (List ℕ)) (h : History) → Sound ls h → (a b : ℕ) → among (this a b) (favours h) ≡ (favoured_ever h a b && not (gone h a) && not (gone h b) && not (forbade_ever h a b))
unfolding favours gone forbade_ever favoured_ever
favours_live ls [] s a b = refl
favours_live ls (claimed d ∷ h) s a b = favours_live ls h s.1 a b
favours_live ls (released k ∷ h) s a b = favours_live ls h s.2 a b
favours_live ls (struck k ∷ h) s a b =
    struck_live (door h k) a b (this a b) (λ p e. in_either a b p.0 p.1 e) (favours h)
    ∙ ap (λ t. not (eqb (door h k) a) && not (eqb (door h k) b) && t) (favours_live ls h s.2 a b)
    ∙ gone_both (eqb (door h k) a) (eqb (door h k) b) (favoured_ever h a b) (forbade_ever h a b) (gone h a) (gone h b)
favours_live ls (wasted k ∷ h) s a b = favours_live ls h s.1 a b
favours_live ls (freed d ∷ h) s a b = favours_live ls h s.1 a b
favours_live ls (forbade c d ∷ h) s a b =
    among_kept (this a b) (λ p. not (either c d p)) (not (joins c d a b)) (λ p e. forbids a b c d p.0 p.1 e) (favours h)
    ∙ ap (λ t. not (joins c d a b) && t) (favours_live ls h s.1 a b)
    ∙ forbidding (joins c d a b) (favoured_ever h a b) (gone h a) (gone h b) (forbade_ever h a b)
favours_live ls (favoured c d ∷ h) s a b =
    let w = favour_passed ls h c d s.0 in
    among_added (this a b) (this c d) (c, d) (in_order c d a b) (turned a b c d) (λ e. same_order a b c d e) (favours h)
    ∙ ap (λ t. in_order c d a b || t) (favours_live ls h s.1 a b)
    ∙ favouring (in_order c d a b) (favoured_ever h a b) (gone h a) (gone h b) (forbade_ever h a b)
    (λ e. let g = stand_too h a b c d (in_either c d a b e) w.0.one w.0.other in (g.0, g.1, unforbidden ls h a b c d e w.1))

-- each of them once, and at most 64
fewer : (t : ℕ → ℕ → Doors → Bool) (q : Doors → Bool) (ps : List Doors) → Table t ps → Table t (filter q ps)
fewer t q ps w = record { once = λ a b. omega (arith, kept_less (t a b) q ps, w.once a b); room = omega (arith, kept_short q ps, w.room) }

pub forbidden_table : (ls : List (List ℕ)) (h : History) → Sound ls h → Table either (forbidden h)
unfolding forbidden
forbidden_table ls [] s = record { once = λ a b. omega arith; room = omega arith }
forbidden_table ls (claimed d ∷ h) s = forbidden_table ls h s.1
forbidden_table ls (released k ∷ h) s = forbidden_table ls h s.2
forbidden_table ls (struck k ∷ h) s = fewer either (λ p. not (names (door h k) p.0 p.1)) (forbidden h) (forbidden_table ls h s.2)
forbidden_table ls (wasted k ∷ h) s = forbidden_table ls h s.1
forbidden_table ls (freed d ∷ h) s = forbidden_table ls h s.1
forbidden_table ls (forbade c d ∷ h) s =
    let w = forbidden_table ls h s.1 in
    record {
      once = λ a b. once_added (either a b) (either c d) (c, d) (joins c d a b) (joins_turned a b c d) (λ e. same_pair a b c d (joins_turned a b c d ∙ e)) (forbidden h) (w.once a b);
      room = room_added (either c d) (c, d) (forbidden h) (forbid_passed (length ls) h c d s.0).1 w.room;
    }
forbidden_table ls (favoured c d ∷ h) s = forbidden_table ls h s.1

pub favours_table : (ls : List (List ℕ)) (h : History) → Sound ls h → Table this (favours h)
unfolding favours
favours_table ls [] s = record { once = λ a b. omega arith; room = omega arith }
favours_table ls (claimed d ∷ h) s = favours_table ls h s.1
favours_table ls (released k ∷ h) s = favours_table ls h s.2
favours_table ls (struck k ∷ h) s = fewer this (λ p. not (names (door h k) p.0 p.1)) (favours h) (favours_table ls h s.2)
favours_table ls (wasted k ∷ h) s = favours_table ls h s.1
favours_table ls (freed d ∷ h) s = favours_table ls h s.1
favours_table ls (forbade c d ∷ h) s = fewer this (λ p. not (either c d p)) (favours h) (favours_table ls h s.1)
favours_table ls (favoured c d ∷ h) s =
    let w = favours_table ls h s.1 in
    record {
      once = λ a b. once_added (this a b) (this c d) (c, d) (in_order c d a b) (turned a b c d) (λ e. same_order a b c d e) (favours h) (w.once a b);
      room = room_added (this c d) (c, d) (favours h) (favour_passed ls h c d s.0).2 w.room;
    }
