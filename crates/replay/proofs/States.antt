-- The state of each door, told by the history: struck, held by a claim, or open.
use Rattle.std.proofs.Common.{◌≡◌, ℕ, zero, suc, ◌<◌, ◌≤◌, Bool, true, false, cond, not, ◌||◌, eqb, List, [], ◌∷◌, length, sym, refl, ap, ◌∙◌, subst, ⊎_elim, arith}
use Rattle.std.proofs.lemmas.Bool.{true≢false, eqb-true, ne_eqb, cond-true, cond-false, cases_lt, cases_Bool, or_cases}
use Rattle.std.proofs.lemmas.Bool.Decides.{nat_tests}
use Rattle.level.specs.declared.doors.DoorState.TheVariants.{Open, Held, Struck}
use Rattle.level.specs.View.{is_struck, is_held, is_held_by}
use Rattle.replay.specs.History.{History, claimed, released, struck, wasted, freed, forbade, favoured, claims, granted, door, latest, ended, held, holds, gone}
use Rattle.replay.proofs.Claims.{door_kept, door_new, granted_more, held_by, holds_by, holder_claimed, holder_released, holder_struck, holder_freed}
use Rattle.replay.proofs.Passed.{claim_passed}
use Rattle.replay.specs.State.{Sound, holder, hold, state_of}

zero_either : (x : Bool) (k : ℕ) → k ≡ 0 → cond x 0 k ≡ 0
zero_either true k e = refl
zero_either false k e = e

-- nobody holds a struck door
pub gone_free : (ls : List (List ℕ)) (h : History) → length ls ≤ 96 → Sound ls h → (d : ℕ) → gone h d ≡ true → holder h d ≡ 0
unfolding gone latest ended
gone_free ls [] few s d g = refl
gone_free ls (claimed e ∷ h) few s d g =
    let w = claim_passed (length ls) h e s.0 in
    holder_claimed ls h e d few s.1
    ∙ cond-false (eqb e d) (suc (granted h)) (holder h d) (ne_eqb e d (λ q. true≢false (sym g ∙ ap (gone h) (sym q) ∙ w.stands)))
    ∙ gone_free ls h few s.1 d g
gone_free ls (released k ∷ h) few s d g = holder_released h k d s.1 ∙ zero_either (eqb (door h k) d) (holder h d) (gone_free ls h few s.2 d g)
gone_free ls (struck k ∷ h) few s d g =
    holder_struck h k d s.1
    ∙ ⊎_elim (λ (e : eqb (door h k) d ≡ true). cond-true (eqb (door h k) d) 0 (holder h d) e) (λ (e : gone h d ≡ true). zero_either (eqb (door h k) d) (holder h d) (gone_free ls h few s.2 d e))
    (or_cases (eqb (door h k) d) (gone h d) g)
gone_free ls (wasted k ∷ h) few s d g = gone_free ls h few s.1 d g
gone_free ls (freed e ∷ h) few s d g = holder_freed h e d ∙ zero_either (eqb e d) (holder h d) (gone_free ls h few s.1 d g)
gone_free ls (forbade a b ∷ h) few s d g = gone_free ls h few s.1 d g
gone_free ls (favoured a b ∷ h) few s d g = gone_free ls h few s.1 d g

known_more : (n : ℕ) (h : History) (d k : ℕ) → d < n → ((j : ℕ) → 1 ≤ j → j ≤ granted h → door h j < n) → 1 ≤ k → k ≤ granted (claimed d ∷ h) → door (claimed d ∷ h) k < n
known_more n h d k i old one most =
    ⊎_elim
    (λ (j : k < suc (granted h)). let e = door_kept h d k (omega arith) in omega (arith, e, old k one (omega arith)))
    (λ (j : suc (granted h) ≤ k). let q : suc (granted h) ≡ k = omega (arith, granted_more h d) in subst (λ m. door (claimed d ∷ h) m < n) q (omega (arith, door_new h d)))
    (cases_lt k (suc (granted h)))

-- every claim is on a door of the level
pub known : (ls : List (List ℕ)) (h : History) → Sound ls h → (k : ℕ) → 1 ≤ k → k ≤ granted h → door h k < length ls
unfolding claims
known ls [] s k i j = absurd (omega arith)
known ls (claimed d ∷ h) s k i j = known_more (length ls) h d k (claim_passed (length ls) h d s.0).known (known ls h s.1) i j
known ls (released m ∷ h) s k i j = known ls h s.2 k i j
known ls (struck m ∷ h) s k i j = known ls h s.2 k i j
known ls (wasted m ∷ h) s k i j = known ls h s.1 k i j
known ls (freed d ∷ h) s k i j = known ls h s.1 k i j
known ls (forbade a b ∷ h) s k i j = known ls h s.1 k i j
known ls (favoured a b ∷ h) s k i j = known ls h s.1 k i j

state_is : (g : Bool) (k : ℕ) → (g ≡ true → k ≡ 0) → (is_struck (cond g Struck (hold k)) ≡ g) × (is_held (cond g Struck (hold k)) ≡ not (eqb k 0)) × ((j : ℕ) → 1 ≤ j → is_held_by j (cond g Struck (hold k)) ≡ eqb k j)
state_is true k f = (refl, grind (arith, nat_tests, f refl), λ j i. grind (arith, nat_tests, f refl))
state_is false zero f = (refl, refl, λ j i. sym (ne_eqb 0 j (λ e. omega arith)))
state_is false (suc k) f = (refl, grind (arith, nat_tests), λ j i. refl)

-- what the history says of a door is what its state says
module _ (ls : List (List ℕ)) (h : History) (few : length ls ≤ 96) (s : Sound ls h) where
  pub gone_state : (d : ℕ) → is_struck (state_of h d) ≡ gone h d
  gone_state d = (state_is (gone h d) (holder h d) (gone_free ls h few s d)).0

  pub held_state : (d : ℕ) → is_held (state_of h d) ≡ held h d
  held_state d = (state_is (gone h d) (holder h d) (gone_free ls h few s d)).1 ∙ sym (held_by h d)

  pub holds_state : (k : ℕ) → 1 ≤ k → is_held_by k (state_of h (door h k)) ≡ holds h k
  holds_state k i = (state_is (gone h (door h k)) (holder h (door h k)) (gone_free ls h few s (door h k))).2 k i ∙ sym (holds_by h k i)

  -- a claim that holds its door is on a door that stands
  pub holds_stands : (k : ℕ) → 1 ≤ k → holds h k ≡ true → gone h (door h k) ≡ false
  holds_stands k i w =
      ⊎_elim
      (λ (g : gone h (door h k) ≡ true). let e = eqb-true (holder h (door h k)) k (sym (holds_by h k i) ∙ w) in absurd (omega (arith, gone_free ls h few s (door h k) g, e)))
      (λ g. g)
      (cases_Bool (gone h (door h k)))

-- a door that stands changes its holder
changed : (h : History) (d e k l : ℕ) → gone h d ≡ false → l ≡ cond (eqb d e) k (holder h e) → cond (gone h e) Struck (hold l) ≡ cond (eqb d e) (hold k) (state_of h e)
changed h d e k l g q = ap (λ m. cond (gone h e) Struck (hold m)) q ∙ go (eqb d e) refl
  where
    go : (b : Bool) → eqb d e ≡ b → cond (gone h e) Struck (hold (cond b k (holder h e))) ≡ cond b (hold k) (state_of h e)
    go true x = cond-false (gone h e) Struck (hold k) (ap (gone h) (sym (eqb-true d e x)) ∙ g)
    go false x = refl

pub state_claimed : (ls : List (List ℕ)) (h : History) (d e : ℕ) → length ls ≤ 96 → Sound ls h → gone h d ≡ false → state_of (claimed d ∷ h) e ≡ cond (eqb d e) (Held (suc (granted h))) (state_of h e)
unfolding gone
state_claimed ls h d e few s g = changed h d e (suc (granted h)) (holder (claimed d ∷ h) e) g (holder_claimed ls h d e few s)

pub state_released : (h : History) (k e : ℕ) → gone h (door h k) ≡ false → holds h k ≡ true → state_of (released k ∷ h) e ≡ cond (eqb (door h k) e) Open (state_of h e)
unfolding gone
state_released h k e g w = changed h (door h k) e 0 (holder (released k ∷ h) e) g (holder_released h k e w)

pub state_freed : (h : History) (d e : ℕ) → gone h d ≡ false → state_of (freed d ∷ h) e ≡ cond (eqb d e) Open (state_of h e)
unfolding gone
state_freed h d e g = changed h d e 0 (holder (freed d ∷ h) e) g (holder_freed h d e)

pub state_struck : (h : History) (k e : ℕ) → holds h k ≡ true → state_of (struck k ∷ h) e ≡ cond (eqb (door h k) e) Struck (state_of h e)
unfolding gone
state_struck h k e w = ap (λ m. cond (eqb (door h k) e || gone h e) Struck (hold m)) (holder_struck h k e w) ∙ go (eqb (door h k) e)
  where
    go : (b : Bool) → cond (b || gone h e) Struck (hold (cond b 0 (holder h e))) ≡ cond b Struck (state_of h e)
    go true = refl
    go false = refl
