-- Claims in a history: which door each is on, and which claim holds a door after one more deed.
use Rattle.std.proofs.Common.{◌≡◌, ℕ, suc, ◌<◌, ◌≤◌, Bool, true, false, cond, not, ◌&&◌, ◌||◌, eqb, leb, ◌⊎◌, List, [], ◌∷◌, length, sym, refl, ap, ◌∙◌, inl, inr, ⊎_elim, arith}
use Rattle.std.proofs.lemmas.List.{get_or_append_left, get_or_past, get_or_push, length_push}
use Rattle.std.proofs.lemmas.Bool.{and_parts, or_from, eqb-true, eq-eqb, ne_eqb, leb-true, not-true, cond-true, cond-false, cases_eq}
use Rattle.std.proofs.lemmas.Bool.Decides.{nat_tests}
use Rattle.replay.specs.History.{History, claimed, released, struck, wasted, freed, forbade, favoured, claims, granted, nowhere, door, latest, ended, held, holds, shown, out}
use Rattle.replay.proofs.Passed.{free_passed}
use Rattle.replay.specs.State.{Sound, holder}

-- a claim that is out was granted
pub out_granted : (h : History) (k : ℕ) → out h k ≡ true → (1 ≤ k) × (k ≤ granted h) × (shown h k ≡ false)
out_granted h k e =
    let a = and_parts (leb 1 k && leb k (granted h)) (not (shown h k)) e in
    let b = and_parts (leb 1 k) (leb k (granted h)) a.0 in
    (leb-true 1 k b.0, leb-true k (granted h) b.1, not-true (shown h k) a.1)

-- an older claim keeps its door
pub door_kept : (h : History) (d k : ℕ) → k ≤ granted h → door (claimed d ∷ h) k ≡ door h k
unfolding claims
door_kept h d k i = get_or_append_left (nowhere ∷ claims h) (d ∷ []) nowhere k (omega arith)

-- and the new one has its own
pub door_new : (h : History) (d : ℕ) → door (claimed d ∷ h) (suc (granted h)) ≡ d
unfolding claims
door_new h d = get_or_push (claims h) d nowhere (granted h) refl

pub granted_more : (h : History) (d : ℕ) → granted (claimed d ∷ h) ≡ suc (granted h)
unfolding claims
granted_more h d = omega (arith, length_push (claims h) d)

-- the latest claim of a door is on that door
abbrev Own : History → ℕ → ℕ → Type 0
Own h d k = (k ≡ 0) ⊎ ((door h k ≡ d) × (k ≤ granted h))

own_more : (h : History) (e d : ℕ) (b : Bool) → eqb e d ≡ b → Own h d (latest h d) → Own (claimed e ∷ h) d (cond b (suc (granted h)) (latest h d))
own_more h e d true q o = inr (door_new h e ∙ eqb-true e d q, omega (arith, granted_more h e))
own_more h e d false q o = ⊎_elim (λ z. inl z) (λ w. inr (door_kept h e (latest h d) w.1 ∙ w.0, omega (arith, granted_more h e, w.1))) o

pub own : (h : History) (d : ℕ) → Own h d (latest h d)
unfolding latest claims
own [] d = inl refl
own (claimed e ∷ h) d = own_more h e d (eqb e d) refl (own h d)
own (released k ∷ h) d = own h d
own (struck k ∷ h) d = own h d
own (wasted k ∷ h) d = own h d
own (freed e ∷ h) d = own h d
own (forbade a b ∷ h) d = own h d
own (favoured a b ∷ h) d = own h d

-- a claim that was not granted yet has not ended and was not shown
pub unborn : (ls : List (List ℕ)) (h : History) → length ls ≤ 96 → Sound ls h → (k : ℕ) → granted h < k → (ended h k ≡ false) × (shown h k ≡ false)
unfolding ended shown claims
unborn ls [] few s k i = (refl, refl)
unborn ls (claimed d ∷ h) few s k i = unborn ls h few s.1 k (omega (arith, length_push (claims h) d))
unborn ls (released j ∷ h) few s k i =
    let w = unborn ls h few s.2 k i in
    let n = ne_eqb j k (λ q. omega (arith, (out_granted h j s.0).1)) in
    (or_from (eqb j k) (ended h k) n w.0, or_from (eqb j k) (shown h k) n w.1)
unborn ls (struck j ∷ h) few s k i =
    let w = unborn ls h few s.2 k i in
    let n = ne_eqb j k (λ q. omega (arith, (out_granted h j s.0).1)) in
    (or_from (eqb j k) (ended h k) n w.0, or_from (eqb j k) (shown h k) n w.1)
unborn ls (wasted j ∷ h) few s k i =
    let w = unborn ls h few s.1 k i in
    let n = ne_eqb j k (λ q. omega (arith, (out_granted h j s.0).1)) in
    (w.0, or_from (eqb j k) (shown h k) n w.1)
unborn ls (freed d ∷ h) few s k i =
    let w = unborn ls h few s.1 k i in
    let p : door h k ≡ nowhere = get_or_past (nowhere ∷ claims h) k nowhere i in
    let n = ne_eqb (door h k) d (λ q. omega (arith, sym p ∙ q, (free_passed (length ls) h d s.0).known)) in
    (or_from (eqb (door h k) d) (ended h k) n w.0, w.1)
unborn ls (forbade a b ∷ h) few s k i = unborn ls h few s.1 k i
unborn ls (favoured a b ∷ h) few s k i = unborn ls h few s.1 k i

held_is : (e : Bool) (k : ℕ) → (not (eqb k 0) && not e) ≡ not (eqb (cond e 0 k) 0)
held_is true k = grind (arith, nat_tests)
held_is false k = grind (arith, nat_tests)

pub held_by : (h : History) (d : ℕ) → held h d ≡ not (eqb (holder h d) 0)
held_by h d = held_is (ended h (latest h d)) (latest h d)

-- claim k holds its door where the door's holder is k
holds_is : (h : History) (k l : ℕ) (b e : Bool) → 1 ≤ k → eqb l k ≡ b → ended h l ≡ e → (eqb l k && not (ended h k)) ≡ eqb (cond (ended h l) 0 l) k
holds_is h k l true e i q r = rw (← eqb-true l k q) (held_same l (ended h l) (omega (arith, eqb-true l k q)))
  where
    held_same : (m : ℕ) (x : Bool) → 1 ≤ m → (eqb m m && not x) ≡ eqb (cond x 0 m) m
    held_same m true j = grind (arith, nat_tests)
    held_same m false j = grind (arith, nat_tests)
holds_is h k l false true i q r = rw (q, r) (sym (ne_eqb 0 k (λ z. omega arith)))
holds_is h k l false false i q r = rw (q, r) (sym q)

pub holds_by : (h : History) (k : ℕ) → 1 ≤ k → holds h k ≡ eqb (holder h (door h k)) k
holds_by h k i = holds_is h k (latest h (door h k)) (eqb (latest h (door h k)) k) (ended h (latest h (door h k))) i refl refl

-- a new claim holds its door
pub holder_claimed : (ls : List (List ℕ)) (h : History) (d e : ℕ) → length ls ≤ 96 → Sound ls h → holder (claimed d ∷ h) e ≡ cond (eqb d e) (suc (granted h)) (holder h e)
unfolding ended latest
holder_claimed ls h d e few s = go (eqb d e)
  where
    new : ended h (suc (granted h)) ≡ false
    new = (unborn ls h few s (suc (granted h)) (omega arith)).0

    go : (b : Bool) → cond (ended h (cond b (suc (granted h)) (latest h e))) 0 (cond b (suc (granted h)) (latest h e)) ≡ cond b (suc (granted h)) (holder h e)
    go true = cond-false (ended h (suc (granted h))) 0 (suc (granted h)) new
    go false = refl

-- where the holder of door d ends, the other doors keep theirs
ends : (h : History) (d e l : ℕ) (t : Bool) → ((d ≡ e) → (l ≡ 0) ⊎ (t ≡ true)) → ((d ≡ e → ⊥) → (l ≡ 0) ⊎ (t ≡ false)) → cond (t || ended h l) 0 l ≡ cond (eqb d e) 0 (cond (ended h l) 0 l)
ends h d e l t same other =
    ⊎_elim
    (λ (q : d ≡ e). ⊎_elim (λ (z : l ≡ 0). rw z (both (t || ended h 0) (ended h 0) (eqb d e))) (λ (y : t ≡ true). rw y (sym (cond-true (eqb d e) 0 (cond (ended h l) 0 l) (eq-eqb d e q)))) (same q))
    (λ (q : d ≡ e → ⊥). ⊎_elim (λ (z : l ≡ 0). rw z (both (t || ended h 0) (ended h 0) (eqb d e))) (λ (y : t ≡ false). rw y (sym (cond-false (eqb d e) 0 (cond (ended h l) 0 l) (ne_eqb d e q)))) (other q))
    (cases_eq d e)
  where
    zeros : (x : Bool) → ◌≡◌ {A = ℕ} (cond x 0 0) 0
    zeros true = refl
    zeros false = refl

    both : (x y z : Bool) → ◌≡◌ {A = ℕ} (cond x 0 0) (cond z 0 (cond y 0 0))
    both x y true = zeros x
    both x y false = zeros x ∙ sym (zeros y)

-- a claim that held its door gives it up
pub holder_shown : (h : History) (k e : ℕ) → holds h k ≡ true → cond (eqb k (latest h e) || ended h (latest h e)) 0 (latest h e) ≡ cond (eqb (door h k) e) 0 (holder h e)
holder_shown h k e w =
    let last = eqb-true (latest h (door h k)) k (and_parts (eqb (latest h (door h k)) k) (not (ended h k)) w).0 in
    ends h (door h k) e (latest h e) (eqb k (latest h e))
    (λ q. inr (eq-eqb k (latest h e) (sym last ∙ ap (latest h) q)))
    (λ q. ⊎_elim (λ z. inl z) (λ o. inr (ne_eqb k (latest h e) (λ x. q (ap (door h) x ∙ o.0)))) (own h e))

pub holder_released : (h : History) (k e : ℕ) → holds h k ≡ true → holder (released k ∷ h) e ≡ cond (eqb (door h k) e) 0 (holder h e)
unfolding ended latest
holder_released h k e w = holder_shown h k e w

pub holder_struck : (h : History) (k e : ℕ) → holds h k ≡ true → holder (struck k ∷ h) e ≡ cond (eqb (door h k) e) 0 (holder h e)
unfolding ended latest
holder_struck h k e w = holder_shown h k e w

-- a freed door is held no more
pub holder_freed : (h : History) (d e : ℕ) → holder (freed d ∷ h) e ≡ cond (eqb d e) 0 (holder h e)
unfolding ended latest
holder_freed h d e =
    ends h d e (latest h e) (eqb (door h (latest h e)) d)
    (λ q. ⊎_elim (λ z. inl z) (λ o. inr (eq-eqb (door h (latest h e)) d (o.0 ∙ sym q))) (own h e))
    (λ q. ⊎_elim (λ z. inl z) (λ o. inr (ne_eqb (door h (latest h e)) d (λ x. q (sym x ∙ o.0)))) (own h e))
