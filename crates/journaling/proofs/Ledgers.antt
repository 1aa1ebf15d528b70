-- A ledger after each deed.
use Rattle.std.proofs.Common.{◌≡◌, ℕ, zero, suc, ◌<◌, Bool, true, false, cond, not, ◌||◌, eqb, ◌≢◌, List, [], ◌∷◌, ◌++◌, map, length, get_or, set, replicate, Some, None, Option, vec_items, sym, subst, refl, ap, ◌∙◌, ⊎_elim, arith}
use Rattle.std.specs.List.{range_with_len, slice_get}
use Rattle.std.proofs.lemmas.Option.{get_or_from_slice_get, slice_get-get_or}
use Rattle.std.proofs.lemmas.List.FromFn.{fill_by_all, length-map-range_with_len, get_or-map-range_with_len}
use Rattle.std.proofs.lemmas.List.{length-replicate, get_or-replicate, length-set, get_or-set_same, get_or-set_other}
use Rattle.std.proofs.lemmas.Bool.{cases_eq, eq-eqb, ne_eqb, cond-true, cond-false}
use Rattle.journaling.specs.declared.ledger.Ledger.{Ledger}
use Rattle.journaling.specs.Doors.{holding, claimed_door, Kept, Follows}
use Rattle.replay.specs.declared.calls.Call.{Call}
use Rattle.replay.specs.declared.calls.Call.TheVariants.{Claim, Release, Strike, Free, Forbid, Favour, OneWay, Link}
use Rattle.replay.specs.History.{History, claimed, released, struck, wasted, freed, forbade, favoured, refusing, claims, granted, door, latest, ended, held, out, gone}
use Rattle.replay.specs.State.{holder}
use Rattle.replay.proofs.Claims.{held_by, out_granted, holder_claimed, holder_released, holder_struck, holder_freed}

-- one flag written among those of a function
set_flag : (n x : ℕ) (v : Bool) (f g : ℕ → Bool) → ((e : ℕ) → g e ≡ cond (eqb x e) v (f e)) → set (map f (range_with_len 0 n)) x v ≡ map g (range_with_len 0 n)
set_flag n x v f g w = fill_by_all g (set fs x v) n false (length-set fs x v ∙ length-map-range_with_len f 0 n) each where
  fs : List Bool
  fs = map f (range_with_len 0 n)

  each : (k : ℕ) → k < n → get_or (set fs x v) k false ≡ g k
  each k h =
      ⊎_elim
      (λ (e : k ≡ x). ap (λ j. get_or (set fs x v) j false) e ∙ get_or-set_same fs x v false (omega (arith, length-map-range_with_len f 0 n)) ∙ sym (w k ∙ cond-true (eqb x k) v (f k) (eq-eqb x k (sym e))))
      (λ (e : k ≢ x). get_or-set_other fs x k v false e ∙ get_or-map-range_with_len f 0 n k k false h (omega arith) ∙ sym (w k ∙ cond-false (eqb x k) v (f k) (ne_eqb x k (λ q. e (sym q)))))
      (cases_eq k x)

held_cond : (b : Bool) (v k : ℕ) → not (eqb (cond b v k) 0) ≡ cond b (not (eqb v 0)) (not (eqb k 0))
held_cond true v k = refl
held_cond false v k = refl

-- door x gets another holder, or none
set_held : (n x v : ℕ) (b : Bool) (h h' : History) (fs fs' : List Bool) → not (eqb v 0) ≡ b → ((e : ℕ) → holder h' e ≡ cond (eqb x e) v (holder h e)) → fs ≡ holding n h → fs' ≡ set fs x b → fs' ≡ holding n h'
set_held n x v b h h' fs fs' vb w e e' =
    e' ∙ ap (λ l. set l x b) e
    ∙ set_flag n x b (held h) (held h')
    (λ d. held_by h' d ∙ ap (λ k. not (eqb k 0)) (w d) ∙ held_cond (eqb x d) v (holder h d) ∙ ap (λ c. cond (eqb x d) c (not (eqb (holder h d) 0))) vb ∙ ap (cond (eqb x d) b) (sym (held_by h d)))

gone_cond : (b g : Bool) → not (b || g) ≡ cond b false (not g)
gone_cond true g = refl
gone_cond false g = refl

module _ (l l' : Ledger) where
  pub follows_claimed : (d : ℕ) → vec_items l'.claimed ≡ vec_items l.claimed ++ (d ∷ []) → vec_items l'.standing ≡ vec_items l.standing → vec_items l'.held ≡ set (vec_items l.held) d true → Follows (claimed d ∷ []) l l'
  unfolding claims gone Follows
  follows_claimed d ec es eh n ls h few s s' k = record {
    granted = ec ∙ ap (λ cs. cs ++ (d ∷ [])) k.granted;
    stand = es ∙ k.stand;
    hold = set_held n d (suc (granted h)) true h (claimed d ∷ h) (vec_items l.held) (vec_items l'.held) (ap not (ne_eqb (suc (granted h)) 0 (λ e. omega arith))) (λ e. holder_claimed ls h d e few s) k.hold eh;
  }

  module _ (ec : vec_items l'.claimed ≡ vec_items l.claimed) where
    pub follows_released : (k : ℕ) (x : ℕ) → ((h : History) → vec_items l.claimed ≡ claims h → x ≡ door h k) → vec_items l'.standing ≡ vec_items l.standing → vec_items l'.held ≡ set (vec_items l.held) x false → Follows (released k ∷ []) l l'
    unfolding claims gone Follows
    follows_released k x at es eh n ls h few s s' kept =
        let same = at h kept.granted in
        record {
          granted = ec ∙ kept.granted;
          stand = es ∙ kept.stand;
          hold = set_held n x 0 false h (released k ∷ h) (vec_items l.held) (vec_items l'.held) refl (λ e. holder_released h k e s'.1 ∙ ap (λ y. cond (eqb y e) 0 (holder h e)) (sym same)) kept.hold eh;
        }

    pub follows_struck : (k : ℕ) (x : ℕ) → ((h : History) → vec_items l.claimed ≡ claims h → x ≡ door h k) → vec_items l'.standing ≡ set (vec_items l.standing) x false → vec_items l'.held ≡ set (vec_items l.held) x false → Follows (struck k ∷ []) l l'
    unfolding claims gone Follows
    follows_struck k x at es eh n ls h few s s' kept =
        let same = at h kept.granted in
        record {
          granted = ec ∙ kept.granted;
          stand = es ∙ ap (λ fs. set fs x false) kept.stand ∙ set_flag n x false (λ d. not (gone h d)) (λ d. not (gone (struck k ∷ h) d)) (λ e. gone_cond (eqb (door h k) e) (gone h e) ∙ ap (λ y. cond (eqb y e) false (not (gone h e))) (sym same));
          hold = set_held n x 0 false h (struck k ∷ h) (vec_items l.held) (vec_items l'.held) refl (λ e. holder_struck h k e s'.1 ∙ ap (λ y. cond (eqb y e) 0 (holder h e)) (sym same)) kept.hold eh;
        }

    pub follows_freed : (d : ℕ) → vec_items l'.standing ≡ vec_items l.standing → vec_items l'.held ≡ set (vec_items l.held) d false → Follows (freed d ∷ []) l l'
    unfolding claims gone Follows
    follows_freed d es eh n ls h few s s' kept = record {
      granted = ec ∙ kept.granted;
      stand = es ∙ kept.stand;
      hold = set_held n d 0 false h (freed d ∷ h) (vec_items l.held) (vec_items l'.held) refl (λ e. holder_freed h d e) kept.hold eh;
    }

-- the door of a claim, from the doors of all
pub door_at : (cs : List ℕ) (k x : ℕ) → claimed_door cs k ≡ Some x → (h : History) → cs ≡ claims h → x ≡ door h k
door_at cs zero x e h q = let z : ◌≡◌ {A = ℕ} 0 1 = cc in absurd (omega arith)
door_at cs (suc k) x e h q = sym (get_or_from_slice_get cs k x 256 e) ∙ ap (λ l. get_or (256 ∷ l) (suc k) 256) q

-- a claim that is out has a door
out_claimed : (cs : List ℕ) (h : History) (k : ℕ) → cs ≡ claims h → out h k ≡ true → claimed_door cs k ≡ None → ⊥
out_claimed cs h zero q o e = omega (arith, (out_granted h 0 o).0)
out_claimed cs h (suc k) q o e =
    let within : k < length (claims h) = omega (arith, (out_granted h (suc k) o).1) in
    let found : slice_get cs k ≡ Some (get_or cs k 0) = slice_get-get_or cs k 0 (subst (λ l. k < length l) (sym q) within) in
    let z : ◌≡◌ {A = ℕ} 0 1 = cc (e, found) in
    omega arith

module _ (l : Ledger) (k : ℕ) (o : Option ℕ) (door : o ≡ claimed_door (vec_items l.claimed) k) (none : o ≡ None) where
  pub follows_unreleased : Follows (released k ∷ []) l l
  unfolding Follows
  follows_unreleased n ls h few s s' kept = absurd (out_claimed (vec_items l.claimed) h k kept.granted s'.0 (sym door ∙ none))

  pub follows_unstruck : Follows (struck k ∷ []) l l
  unfolding Follows
  follows_unstruck n ls h few s s' kept = absurd (out_claimed (vec_items l.claimed) h k kept.granted s'.0 (sym door ∙ none))

-- deeds that change no claim, strike or hold
pub follows_none : (l : Ledger) → Follows [] l l
unfolding Follows
follows_none l n ls h few s s' kept = kept

follows_wasted : (l : Ledger) (k : ℕ) → Follows (wasted k ∷ []) l l
unfolding Follows claims gone latest ended
follows_wasted l k n ls h few s s' kept = record { granted = kept.granted; stand = kept.stand; hold = kept.hold }

pub follows_forbade : (l : Ledger) (a b : ℕ) → Follows (forbade a b ∷ []) l l
unfolding Follows claims gone latest ended
follows_forbade l a b n ls h few s s' kept = record { granted = kept.granted; stand = kept.stand; hold = kept.hold }

pub follows_favoured : (l : Ledger) (a b : ℕ) → Follows (favoured a b ∷ []) l l
unfolding Follows claims gone latest ended
follows_favoured l a b n ls h few s s' kept = record { granted = kept.granted; stand = kept.stand; hold = kept.hold }

-- a refused call changes nothing
pub follows_refusing : (l : Ledger) (c : Call) → Follows (refusing c) l l
follows_refusing l (Claim d) = follows_none l
follows_refusing l (Release k) = follows_wasted l k
follows_refusing l (Strike k) = follows_wasted l k
follows_refusing l (Free d) = follows_none l
follows_refusing l (Forbid a b) = follows_none l
follows_refusing l (Favour a b) = follows_none l
follows_refusing l (OneWay s o m) = follows_none l
follows_refusing l (Link o m) = follows_none l

-- a ledger that says that nothing was done
pub kept_none : (n : ℕ) (l : Ledger) → vec_items l.claimed ≡ [] → vec_items l.standing ≡ replicate n true → vec_items l.held ≡ replicate n false → Kept n [] l
unfolding claims gone latest ended
kept_none n l ec es eh = record { granted = ec; stand = es ∙ all_same n true (λ d. true) (λ d. refl); hold = eh ∙ all_same n false (λ d. false) (λ d. refl) } where
  all_same : (n : ℕ) (b : Bool) (f : ℕ → Bool) → ((d : ℕ) → f d ≡ b) → replicate n b ≡ map f (range_with_len 0 n)
  all_same n b f w = fill_by_all f (replicate n b) n b (length-replicate n b) (λ k h. get_or-replicate n k b b h ∙ sym (w k))
