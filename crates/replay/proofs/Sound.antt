-- A history in which every deed passed its checks, and that answers by the law make such a history.
use Rattle.std.proofs.Common.{◌≡◌, ℕ, Bool, true, false, cond, not, List, ◌++◌, length, Some, None, Option, sym, refl, ap, ◌∙◌, arith}
use Rattle.faults.specs.declared.Fault.{Fault}
use Rattle.faults.specs.declared.Refusal.TheVariants.{NotHolder}
use Rattle.level.specs.Checks.{refuses}
use Rattle.replay.specs.declared.calls.Answer.{Answer}
use Rattle.replay.specs.declared.calls.Answer.TheVariants.{Claimed, Granted, Refused, NotShown, OneWay as OneWayDone, Link as LinkDone}
use Rattle.replay.specs.declared.calls.Call.{Call}
use Rattle.replay.specs.declared.calls.Call.TheVariants.{Claim, Release, Strike, Free, Forbid, Favour, OneWay, Link}
use Rattle.replay.specs.History.{History, granting, refusing, deeds, holds, out, door}
use Rattle.replay.specs.Law.{Right, answer, showing, fault_of_claim, fault_of_show, fault_of_free, fault_of_forbid, fault_of_favour}
use Rattle.replay.specs.State.{Sound}

-- an answer is a grant, a refusal, or neither
abbrev pub outcome : Answer → ℕ
outcome (Claimed k) = 0
outcome Granted = 0
outcome (Refused f) = 1
outcome NotShown = 2
outcome (OneWayDone p o) = 3
outcome (LinkDone r o) = 3

-- what holds after grants, after refusals and before holds after any answer
pub by_outcome : (P : History → Type 0) (h : History) (c : Call) (r : Answer) → (outcome r ≡ 0 → P (granting c ++ h)) → (outcome r ≡ 1 → P (refusing c ++ h)) → P h → P (deeds c r ++ h)
by_outcome P h c (Claimed k) g f s = g refl
by_outcome P h c Granted g f s = g refl
by_outcome P h c (Refused x) g f s = f refl
by_outcome P h c NotShown g f s = s
by_outcome P h c (OneWayDone p o) g f s = s
by_outcome P h c (LinkDone r o) g f s = s

-- a grant comes where no check applies
pub none_applies : (o : Option Fault) (grant r : Answer) → r ≡ answer o grant → outcome r ≡ 0 → o ≡ None
none_applies None grant r e t = refl
none_applies (Some f) grant r e t = absurd (omega (arith, sym t ∙ ap outcome e))

showing_out : (b : Bool) (x r : Answer) (k : ℕ) → r ≡ cond b x NotShown → outcome r ≡ k → (k ≡ 2 → ⊥) → (b ≡ true) × (r ≡ x)
showing_out true x r k e t n = (refl, e)
showing_out false x r k e t n = absurd (n (sym t ∙ ap outcome e))

holds_since : (b : Bool) (d : ℕ) → refuses (not b) NotHolder d ≡ None → b ≡ true
holds_since true d e = refl
holds_since false d e = let z : ◌≡◌ {A = ℕ} 0 1 = cc in absurd (omega arith)

-- a claim shown with success was out and held its door
pub shown_well : (h : History) (k : ℕ) (r : Answer) → r ≡ showing h k → outcome r ≡ 0 → (out h k ≡ true) × (holds h k ≡ true)
shown_well h k r e t =
    let o = showing_out (out h k) (answer (fault_of_show h k) Granted) r 0 e t (λ z. omega arith) in
    (o.0, holds_since (holds h k) (door h k) (none_applies (fault_of_show h k) Granted r o.1 t))

pub shown_refused : (h : History) (k : ℕ) (r : Answer) → r ≡ showing h k → outcome r ≡ 1 → out h k ≡ true
shown_refused h k r e t = (showing_out (out h k) (answer (fault_of_show h k) Granted) r 1 e t (λ z. omega arith)).0

-- one more answer by the law
pub sound_more : (ls : List (List ℕ)) (h : History) (c : Call) (r : Answer) → Sound ls h → Right ls h c r → Sound ls (deeds c r ++ h)
sound_more ls h (Claim d) r s e =
    by_outcome (Sound ls) h (Claim d) r (λ t. (none_applies (fault_of_claim (length ls) h d) (Claimed _) r e t, s)) (λ t. s) s
sound_more ls h (Release k) r s e =
    by_outcome (Sound ls) h (Release k) r (λ t. let w = shown_well h k r e t in (w.0, w.1, s)) (λ t. (shown_refused h k r e t, s)) s
sound_more ls h (Strike k) r s e =
    by_outcome (Sound ls) h (Strike k) r (λ t. let w = shown_well h k r e t in (w.0, w.1, s)) (λ t. (shown_refused h k r e t, s)) s
sound_more ls h (Free d) r s e =
    by_outcome (Sound ls) h (Free d) r (λ t. (none_applies (fault_of_free (length ls) h d) Granted r e t, s)) (λ t. s) s
sound_more ls h (Forbid a b) r s e =
    by_outcome (Sound ls) h (Forbid a b) r (λ t. (none_applies (fault_of_forbid (length ls) h a b) Granted r e t, s)) (λ t. s) s
sound_more ls h (Favour a b) r s e =
    by_outcome (Sound ls) h (Favour a b) r (λ t. (none_applies (fault_of_favour ls h a b) Granted r e t, s)) (λ t. s) s
sound_more ls h (OneWay x o m) r s e = by_outcome (Sound ls) h (OneWay x o m) r (λ t. s) (λ t. s) s
sound_more ls h (Link o m) r s e = by_outcome (Sound ls) h (Link o m) r (λ t. s) (λ t. s) s
