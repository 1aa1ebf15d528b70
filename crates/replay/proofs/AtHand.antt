-- The claims at hand after one more deed.
use Rattle.std.proofs.Common.{◌≡◌, ℕ, zero, suc, ◌<◌, ◌≤◌, true, false, not, ◌&&◌, ◌||◌, eqb, leb, List, [], ◌∷◌, ◌++◌, length, get_or, set, Some, None, Option, sym, refl, ap, ◌∙◌, subst, ⊎_elim, arith}
use Rattle.std.proofs.lemmas.List.{get_or_append_left, get_or_past, get_or_push, get_or-set_same, get_or-set_other, length_push, length-set, set-get_or}
use Rattle.std.proofs.lemmas.Bool.{eq-eqb, ne_eqb, le-leb, lt-leb, not_from_true, not_from_false, and_from, and_right, and_left, or_left, cases_eq, cases_lt}
use Rattle.level.specs.declared.claims.Claim.{Claim}
use Rattle.level.specs.View.{claim_door, claim_serial}
use Rattle.replay.specs.History.{History, claimed, claims, granted, nowhere, door, shown, out}
use Rattle.replay.specs.State.{AtHand, Tokens, token, spent}
use Rattle.replay.proofs.Claims.{door_kept, door_new, granted_more}

kept : (h h' : History) (k : ℕ) (o : Option Claim) → shown h' k ≡ shown h k → door h' k ≡ door h k → AtHand h k o → AtHand h' k o
kept h h' k None e q t = e ∙ t
kept h h' k (Some c) e q t = (e ∙ t.0, t.1 ∙ sym q, t.2)

-- a deed that neither grants nor shows a claim
pub tokens_same : (h h' : History) (ts : List (Option Claim)) → claims h' ≡ claims h → ((k : ℕ) → shown h' (suc k) ≡ shown h (suc k)) → Tokens h ts → Tokens h' ts
tokens_same h h' ts c e t = record {
  size = t.size ∙ ap length (sym c);
  each = λ j i. kept h h' (suc j) (get_or ts j None) (e j) (ap (λ l. get_or (nowhere ∷ l) (suc j) nowhere) c) (t.each j (subst (λ l. j < length l) c i));
}

-- one more claim is granted
pub tokens_claimed : (h : History) (ts : List (Option Claim)) (d : ℕ) (c : Claim) → shown h (suc (granted h)) ≡ false → claim_door c ≡ d → claim_serial c ≡ suc (granted h) → Tokens h ts → Tokens (claimed d ∷ h) (ts ++ (Some c ∷ []))
unfolding shown
tokens_claimed h ts d c new e f t = record {
  size = omega (arith, length_push ts (Some c), t.size, granted_more h d);
  each = λ j i. ⊎_elim
      (λ (l : j < granted h). subst (AtHand (claimed d ∷ h) (suc j)) (sym (get_or_append_left ts (Some c ∷ []) None j (omega (arith, t.size)))) (kept h (claimed d ∷ h) (suc j) (get_or ts j None) refl (door_kept h d (suc j) l) (t.each j l)))
      (λ (l : granted h ≤ j).
      let q : granted h ≡ j = omega (arith, granted_more h d) in
      subst (λ m. AtHand (claimed d ∷ h) (suc m) (get_or (ts ++ (Some c ∷ [])) m None)) q
      (subst (AtHand (claimed d ∷ h) (suc (granted h))) (sym (get_or_push ts (Some c) None (granted h) t.size)) (new, e ∙ sym (door_new h d), f)))
      (cases_lt j (granted h));
}

-- claim k is shown
pub tokens_shown : (h h' : History) (ts : List (Option Claim)) (k : ℕ) → claims h' ≡ claims h → ((j : ℕ) → shown h' j ≡ (eqb k j || shown h j)) → Tokens h ts → Tokens h' (spent ts k)
tokens_shown h h' ts zero c e t = tokens_same h h' ts c (λ j. e (suc j) ∙ ap (λ b. b || shown h (suc j)) (ne_eqb 0 (suc j) (λ z. omega arith))) t
tokens_shown h h' ts (suc i) c e t = record {
  size = length-set ts i None ∙ t.size ∙ ap length (sym c);
  each = λ j l.
      let inside : j < granted h = subst (λ x. j < length x) c l in
      ⊎_elim
      (λ (q : i ≡ j). subst (AtHand h' (suc j)) (sym (subst (λ z. get_or (set ts i None) z None ≡ None) q (get_or-set_same ts i None None (omega (arith, t.size))))) (e (suc j) ∙ or_left (eqb (suc i) (suc j)) (shown h (suc j)) (eq-eqb (suc i) (suc j) (ap suc q))))
      (λ (q : i ≡ j → ⊥). subst (AtHand h' (suc j)) (sym (get_or-set_other ts i j None None (λ z. q (sym z))))
      (kept h h' (suc j) (get_or ts j None) (e (suc j) ∙ ap (λ b. b || shown h (suc j)) (ne_eqb (suc i) (suc j) (λ z. q (omega arith)))) (ap (λ x. get_or (nowhere ∷ x) (suc j) nowhere) c) (t.each j inside)))
      (cases_eq i j);
}

-- a claim that is not at hand is not out
not_out : (h : History) (j : ℕ) (o : Option Claim) → o ≡ None → AtHand h (suc j) o → shown h (suc j) ≡ true
not_out h j None e t = t
not_out h j (Some c) e t = let z : ◌≡◌ {A = ℕ} 0 1 = cc in absurd (omega arith)

pub out_none : (h : History) (ts : List (Option Claim)) (k : ℕ) → Tokens h ts → token ts k ≡ None → out h k ≡ false
out_none h ts zero t e = refl
out_none h ts (suc j) t e =
    ⊎_elim
    (λ (i : j < granted h). and_right (leb 1 (suc j) && leb (suc j) (granted h)) (not (shown h (suc j))) (not_from_true (shown h (suc j)) (not_out h j (get_or ts j None) e (t.each j i))))
    (λ (i : granted h ≤ j). and_left (leb 1 (suc j) && leb (suc j) (granted h)) (not (shown h (suc j))) (and_right (leb 1 (suc j)) (leb (suc j) (granted h)) (lt-leb (suc j) (granted h) (omega arith))))
    (cases_lt j (granted h))

-- and a claim at hand is out, and on its door
at_hand : (h : History) (j : ℕ) (o : Option Claim) (c : Claim) → o ≡ Some c → AtHand h (suc j) o → (shown h (suc j) ≡ false) × (claim_door c ≡ door h (suc j)) × (claim_serial c ≡ suc j)
at_hand h j None c e t = let z : ◌≡◌ {A = ℕ} 0 1 = cc in absurd (omega arith)
at_hand h j (Some x) c e t = let q : x ≡ c = cc in subst (λ y. (shown h (suc j) ≡ false) × (claim_door y ≡ door h (suc j)) × (claim_serial y ≡ suc j)) q t

pub out_some : (h : History) (ts : List (Option Claim)) (k : ℕ) (c : Claim) → Tokens h ts → token ts k ≡ Some c → (out h k ≡ true) × (claim_door c ≡ door h k) × (claim_serial c ≡ k)
out_some h ts zero c t e = let z : ◌≡◌ {A = ℕ} 0 1 = cc in absurd (omega arith)
out_some h ts (suc j) c t e =
    ⊎_elim
    (λ (i : j < granted h).
    let w = at_hand h j (get_or ts j None) c e (t.each j i) in
    (and_from (leb 1 (suc j) && leb (suc j) (granted h)) (not (shown h (suc j))) (and_from (leb 1 (suc j)) (leb (suc j) (granted h)) (le-leb 1 (suc j) (omega arith)) (le-leb (suc j) (granted h) i)) (not_from_false (shown h (suc j)) w.0), w.1, w.2))
    (λ (i : granted h ≤ j). let n : None ≡ Some c = sym (get_or_past ts j None (omega (arith, t.size))) ∙ e in let z : ◌≡◌ {A = ℕ} 0 1 = cc in absurd (omega arith))
    (cases_lt j (granted h))

-- taking what is not at hand changes nothing
pub spent_none : (ts : List (Option Claim)) (k : ℕ) → token ts k ≡ None → spent ts k ≡ ts
spent_none ts zero e = refl
spent_none ts (suc j) e = ap (set ts j) (sym e) ∙ set-get_or ts j None
