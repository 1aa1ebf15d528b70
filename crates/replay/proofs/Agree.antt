-- A level agrees with a history: its view is what the history says.
use Rattle.std.proofs.Common.{◌≡◌, ℕ, suc, ◌+◌, ◌<◌, ◌≤◌, Bool, true, false, cond, not, ◌||◌, eqb, List, [], ◌∷◌, ◌++◌, map, length, get_or, set, replicate, None, filter, sym, refl, ap, ◌∙◌, subst, ⊎_elim, arith}
use Rattle.std.proofs.lemmas.List.{get_or-replicate, get_or_past, get_or-set_same, get_or-set_other, length-replicate, length-set, length-map, map_push}
use Rattle.std.proofs.lemmas.Bool.{eqb-true, eq-eqb, ne_eqb, cond-true, cond-false, cases_eq, cases_lt, and_parts}
use Rattle.faults.specs.declared.Refusal.TheVariants.{NotHolder}
use Rattle.lists.specs.Edits.{removed, promoted, withdrawn}
use Rattle.level.specs.declared.doors.DoorState.{DoorState}
use Rattle.level.specs.declared.doors.DoorState.TheVariants.{Open, Held, Struck}
use Rattle.level.specs.Checks.{refuses, claim_fault, show_fault, free_fault, link_fault, forbid_fault, favour_fault}
use Rattle.level.specs.Edits as edit
use Rattle.level.specs.Meant.{names}
use Rattle.level.specs.Tables.{among, full, added, noted}
use Rattle.level.specs.View.{View, fresh, state, is_struck, is_held, is_held_by}
use Rattle.replay.specs.History.{History, claimed, released, struck, wasted, freed, forbade, favoured, claims, granted, door, latest, ended, held, holds, out, gone, lists, this, either, sparing, forbidden, favours}
use Rattle.replay.specs.Law.{fault_of_claim, fault_of_show, fault_of_free, pair_fault, fault_of_forbid, fault_of_favour}
use Rattle.replay.specs.State.{Sound, Agrees, of_favour, of_pair, state_of}
use Rattle.replay.proofs.Claims.{out_granted, granted_more}
use Rattle.replay.proofs.Moments.{count_kept}
use Rattle.replay.proofs.Passed.{claim_passed, free_passed}
use Rattle.replay.proofs.States.{gone_state, held_state, holds_state, holds_stands, known, state_claimed, state_released, state_freed, state_struck}

-- a new level agrees with the empty history
pub agrees_none : (ls : List (List ℕ)) → Agrees ls [] (fresh ls)
unfolding lists gone latest ended claims favours forbidden
agrees_none ls = record {
  rows = refl;
  whole = length-replicate 96 Open;
  states = λ d. ⊎_elim (λ (i : d < 96). get_or-replicate 96 d Open Open i) (λ (i : 96 ≤ d). get_or_past (replicate 96 Open) d Open (omega (arith, length-replicate 96 Open))) (cases_lt d 96);
  count = refl;
  live = refl;
  apart = refl;
}

-- the state of one door is written
pub set_state : (xs : List DoorState) (d e : ℕ) (s : DoorState) → d < length xs → get_or (set xs d s) e Open ≡ cond (eqb d e) s (get_or xs e Open)
set_state xs d e s i =
    ⊎_elim
    (λ (q : d ≡ e). subst (λ z. get_or (set xs d s) z Open ≡ s) q (get_or-set_same xs d s Open i) ∙ sym (cond-true (eqb d e) s (get_or xs e Open) (eq-eqb d e q)))
    (λ (q : d ≡ e → ⊥). get_or-set_other xs d e s Open (λ z. q (sym z)) ∙ sym (cond-false (eqb d e) s (get_or xs e Open) (ne_eqb d e q)))
    (cases_eq d e)

-- lists of records and the pairs of their doors
module _ {X Y : Type 0} (f : X → Y) where
  among_map : (t : Y → Bool) (xs : List X) → among t (map f xs) ≡ among (λ x. t (f x)) xs
  among_map t [] = refl
  among_map t (x ∷ xs) = ap (λ b. t (f x) || b) (among_map t xs)

  full_map : (t : Y → Bool) (xs : List X) → full (λ x. t (f x)) xs ≡ full t (map f xs)
  full_map t xs = cc (length-map xs f, among_map t xs)

  map_kept : (t : Y → Bool) (xs : List X) → map f (filter (λ x. t (f x)) xs) ≡ filter t (map f xs)
  map_kept t [] = refl
  map_kept t (x ∷ xs) = go (t (f x)) (map_kept t xs)
    where
      go : (b : Bool) → map f (filter (λ x. t (f x)) xs) ≡ filter t (map f xs) → map f (cond b (x ∷ filter (λ x. t (f x)) xs) (filter (λ x. t (f x)) xs)) ≡ cond b (f x ∷ filter t (map f xs)) (filter t (map f xs))
      go true e = ap (λ l. f x ∷ l) e
      go false e = e

  map_added : (t : Y → Bool) (x : X) (xs : List X) → map f (added (λ x. t (f x)) x xs) ≡ added t (f x) (map f xs)
  map_added t x xs = go (among (λ x. t (f x)) xs) ∙ ap (λ b. cond b (map f xs) (map f xs ++ (f x ∷ []))) (sym (among_map t xs))
    where
      go : (b : Bool) → map f (cond b xs (xs ++ (x ∷ []))) ≡ cond b (map f xs) (map f xs ++ (f x ∷ []))
      go true = refl
      go false = map_push f xs x

  -- a record written in place of one with the same doors adds none
  map_noted : (t : Y → Bool) (x : X) → ((y : X) → t (f y) ≡ true → f y ≡ f x) → (xs : List X) → map f (noted (λ x. t (f x)) x xs) ≡ added t (f x) (map f xs)
  map_noted t x s [] = refl
  map_noted t x s (y ∷ ys) = go (t (f y)) refl (map_noted t x s ys)
    where
      more : (b : Bool) → cond b (f y ∷ map f ys) (f y ∷ (map f ys ++ (f x ∷ []))) ≡ f y ∷ cond b (map f ys) (map f ys ++ (f x ∷ []))
      more true = refl
      more false = refl

      go : (b : Bool) → t (f y) ≡ b → map f (noted (λ x. t (f x)) x ys) ≡ added t (f x) (map f ys)
          → map f (cond b (x ∷ ys) (y ∷ noted (λ x. t (f x)) x ys)) ≡ cond (b || among t (map f ys)) (f y ∷ map f ys) (f y ∷ (map f ys ++ (f x ∷ [])))
      go true e r = ap (λ z. z ∷ map f ys) (sym (s y e))
      go false e r = ap (λ l. f y ∷ l) r ∙ sym (more (among t (map f ys)))

-- the checks of a level find what the checks over the history find
module _ (ls : List (List ℕ)) (h : History) (v : View) (few : length ls ≤ 96) (s : Sound ls h) (g : Agrees ls h v) where
  doors_too : length v.lists ≡ length ls
  doors_too = ap length g.rows ∙ count_kept ls h

  gone_too : (d : ℕ) → is_struck (state v d) ≡ gone h d
  gone_too d = ap is_struck (g.states d) ∙ gone_state ls h few s d

  held_too : (d : ℕ) → is_held (state v d) ≡ held h d
  held_too d = ap is_held (g.states d) ∙ held_state ls h few s d

  pub claim_same : (d : ℕ) → claim_fault v d ≡ fault_of_claim (length ls) h d
  claim_same d = cc (doors_too, gone_too d, held_too d, g.count)

  pub free_same : (d : ℕ) → free_fault v d ≡ fault_of_free (length ls) h d
  free_same d = cc (doors_too, gone_too d, held_too d)

  pub show_same : (k : ℕ) → 1 ≤ k → show_fault v (door h k) k ≡ fault_of_show h k
  show_same k i = ap (λ b. refuses (not b) NotHolder (door h k)) (ap (is_held_by k) (g.states (door h k)) ∙ holds_state ls h few s k i)

  pair_same : (a b : ℕ) → link_fault v a b ≡ pair_fault (length ls) h a b
  pair_same a b = cc (doors_too, gone_too a, gone_too b, held_too a, held_too b)

  pub forbid_same : (a b : ℕ) → forbid_fault v a b ≡ fault_of_forbid (length ls) h a b
  forbid_same a b = cc (pair_same a b, full_map of_pair (either a b) v.pairs ∙ ap (full (either a b)) g.apart)

  pub favour_same : (a b : ℕ) → favour_fault v a b ≡ fault_of_favour ls h a b
  favour_same a b = cc (pair_same a b, g.rows, full_map of_favour (this a b) v.favours ∙ ap (full (this a b)) g.live)

  written : (d e : ℕ) (x y : DoorState) → d < length ls → x ≡ y → get_or (set v.doors d x) e Open ≡ cond (eqb d e) y (state_of h e)
  written d e x y i q = set_state v.doors d e x (omega (arith, g.whole)) ∙ cc (q, g.states e)

  pub agrees_claimed : (d : ℕ) → fault_of_claim (length ls) h d ≡ None → Agrees ls (claimed d ∷ h) (edit.claimed v d)
  unfolding lists favours forbidden
  agrees_claimed d e =
      let w = claim_passed (length ls) h d e in
      let n : v.granted + 1 ≡ suc (granted h) = omega (arith, g.count) in
      record {
        rows = g.rows;
        whole = length-set v.doors d (Held (v.granted + 1)) ∙ g.whole;
        states = λ x. written d x (Held (v.granted + 1)) (Held (suc (granted h))) w.known (ap (λ k. Held k) n) ∙ sym (state_claimed ls h d x few s w.stands);
        count = n ∙ sym (granted_more h d);
        live = g.live;
        apart = g.apart;
      }

  pub agrees_freed : (d : ℕ) → fault_of_free (length ls) h d ≡ None → Agrees ls (freed d ∷ h) (edit.released v d)
  unfolding lists favours forbidden claims
  agrees_freed d e =
      let w = free_passed (length ls) h d e in
      record {
        rows = g.rows;
        whole = length-set v.doors d Open ∙ g.whole;
        states = λ x. written d x Open Open w.known refl ∙ sym (state_freed h d x w.stands);
        count = g.count;
        live = g.live;
        apart = g.apart;
      }

  pub agrees_released : (k : ℕ) → out h k ≡ true → holds h k ≡ true → Agrees ls (released k ∷ h) (edit.released v (door h k))
  unfolding lists favours forbidden claims
  agrees_released k o w =
      let i = out_granted h k o in
      record {
        rows = g.rows;
        whole = length-set v.doors (door h k) Open ∙ g.whole;
        states = λ x. written (door h k) x Open Open (known ls h s k i.0 i.1) refl ∙ sym (state_released h k x (holds_stands ls h few s k i.0 w) w);
        count = g.count;
        live = g.live;
        apart = g.apart;
      }

  pub agrees_struck : (k : ℕ) → out h k ≡ true → holds h k ≡ true → Agrees ls (struck k ∷ h) (edit.struck_out v (door h k))
  unfolding lists favours forbidden claims
  agrees_struck k o w =
      let i = out_granted h k o in
      record {
        rows = ap (withdrawn (door h k)) g.rows;
        whole = length-set v.doors (door h k) Struck ∙ g.whole;
        states = λ x. written (door h k) x Struck Struck (known ls h s k i.0 i.1) refl ∙ sym (state_struck h k x w);
        count = g.count;
        live = map_kept of_favour (λ p. not (names (door h k) p.0 p.1)) v.favours ∙ ap (sparing (door h k)) g.live;
        apart = map_kept of_pair (λ p. not (names (door h k) p.0 p.1)) v.pairs ∙ ap (sparing (door h k)) g.apart;
      }

  pub agrees_forbade : (a b : ℕ) → Agrees ls (forbade a b ∷ h) (edit.forbade v a b)
  unfolding lists favours forbidden claims gone latest ended
  agrees_forbade a b = record {
    rows = ap (λ l. removed b a (removed a b l)) g.rows;
    whole = g.whole;
    states = g.states;
    count = g.count;
    live = map_kept of_favour (λ p. not (either a b p)) v.favours ∙ ap (filter (λ p. not (either a b p))) g.live;
    apart = map_added of_pair (either a b) (record { first = a; second = b }) v.pairs ∙ ap (added (either a b) (a, b)) g.apart;
  }

  pub agrees_favoured : (a b : ℕ) → Agrees ls (favoured a b ∷ h) (edit.favoured v a b)
  unfolding lists favours forbidden claims gone latest ended
  agrees_favoured a b = record {
    rows = ap (promoted a b) g.rows;
    whole = g.whole;
    states = g.states;
    count = g.count;
    live = map_noted of_favour (this a b) (record { first = a; second = b; turn = edit.next_turn v })
        (λ f e. let w = and_parts (eqb f.first a) (eqb f.second b) e in cc (eqb-true f.first a w.0, eqb-true f.second b w.1)) v.favours
        ∙ ap (added (this a b) (a, b)) g.live;
    apart = g.apart;
  }

  pub agrees_wasted : (k : ℕ) → Agrees ls (wasted k ∷ h) v
  unfolding lists favours forbidden claims gone latest ended
  agrees_wasted k = record { rows = g.rows; whole = g.whole; states = g.states; count = g.count; live = g.live; apart = g.apart }
