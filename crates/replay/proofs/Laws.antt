-- The law of a run follows where every call is answered right.
use Rattle.std.proofs.Common.{◌≡◌, ℕ, zero, suc, ◌<◌, ◌≤◌, Bool, true, false, cond, not, ◌&&◌, ◌||◌, eqb, ◌⊎◌, ◌↔◌, List, ◌∷◌, ◌++◌, length, is_some, Some, None, Ok, Err, vec_items, Option, sym, refl, ap, ◌∙◌, subst, inl, inr, ⊎_elim, arith}
use Rattle.std.proofs.lemmas.Bool.{true≢false, and_parts, and_from, or_left, or_right, eqb-true, eq-eqb, not-true, not_from_false, cond-true, cases_lt}
use Rattle.faults.specs.declared.Fault.{Fault}
use Rattle.faults.specs.declared.Refusal.TheVariants.{NotHolder}
use Rattle.level.specs.Checks.{refuses}
use Rattle.matching.specs.Linkings.{unlinked, listed, accept, counts_one_way, exit, entrance, partner, Linking}
use Rattle.matching.specs.Lists.{row, place}
use Rattle.replay.specs.declared.calls.Answer.{Answer}
use Rattle.replay.specs.declared.calls.Answer.TheVariants.{Claimed, Granted, Refused, NotShown, OneWay as OneWayDone, Link as LinkDone}
use Rattle.replay.specs.declared.calls.Call.{Call}
use Rattle.replay.specs.declared.calls.Call.TheVariants.{Claim, Release, Strike, Free, Forbid, Favour, OneWay, Link}
use Rattle.replay.specs.History.{History, struck, wasted, granting, refusing, deeds, call, said, before, claims, granted, door, latest, ended, holds, out, gone, lists, forbidden, favours}
use Rattle.replay.specs.Law.{Right, Answered, Moment, Off, Same, Law, LinkAnswer, OneWayAnswer, linking, answer, showing, fault_of_claim, fault_of_show, fault_of_free, fault_of_forbid, fault_of_favour}
use Rattle.replay.specs.State.{Sound}
use Rattle.replay.proofs.Live.{forbidden_live, favours_live, forbidden_table, favours_table}
use Rattle.replay.proofs.Moments.{wanted, gone_listed, gone_row}
use Rattle.replay.proofs.Sound.{by_outcome, sound_more, shown_well}

-- what is so at every moment
moment : (ls : List (List ℕ)) (h : History) → Sound ls h → Moment ls h
moment ls h s = record { wanted = wanted ls h; pairs = forbidden_live ls h s; liked = favours_live ls h s; pair_table = forbidden_table ls h s; favour_table = favours_table ls h s }

-- a strike is granted exactly where its claim holds its door
strike_law : (h : History) (k : ℕ) (r : Answer) → r ≡ showing h k → (r ≡ Granted) ↔ ((out h k ≡ true) × (latest h (door h k) ≡ k) × (ended h k ≡ false))
strike_law h k r e = (
  (λ g.
      let w = shown_well h k Granted (sym g ∙ e) refl in
      let p = and_parts (eqb (latest h (door h k)) k) (not (ended h k)) w.1 in
      (w.0, eqb-true (latest h (door h k)) k p.0, not-true (ended h k) p.1)),
  (λ w.
      let t : holds h k ≡ true = and_from (eqb (latest h (door h k)) k) (not (ended h k)) (eq-eqb (latest h (door h k)) k w.1) (not_from_false (ended h k) w.2) in
      e ∙ cond-true (out h k) (answer (fault_of_show h k) Granted) NotShown w.0 ∙ ap (λ b. answer (refuses (not b) NotHolder (door h k)) Granted) t),
)

-- a struck door stays struck
gone_more : (h : History) (c : Call) (r : Answer) (d : ℕ) → gone h d ≡ true → gone (deeds c r ++ h) d ≡ true
unfolding gone
gone_more h c r d g = by_outcome (λ x. gone x d ≡ true) h c r (λ _. granted_too c) (λ _. refused_too c) g
  where
    granted_too : (x : Call) → gone (granting x ++ h) d ≡ true
    granted_too (Claim e) = g
    granted_too (Release k) = g
    granted_too (Strike k) = or_right (eqb (door h k) d) (gone h d) g
    granted_too (Free e) = g
    granted_too (Forbid a b) = g
    granted_too (Favour a b) = g
    granted_too (OneWay s o m) = g
    granted_too (Link o m) = g

    refused_too : (x : Call) → gone (refusing x ++ h) d ≡ true
    refused_too (Claim e) = g
    refused_too (Release k) = g
    refused_too (Strike k) = g
    refused_too (Free e) = g
    refused_too (Forbid a b) = g
    refused_too (Favour a b) = g
    refused_too (OneWay s o m) = g
    refused_too (Link o m) = g

struck_now : (h : History) (k : ℕ) → gone (struck k ∷ h) (door h k) ≡ true
unfolding gone
struck_now h k = or_left (eqb (door h k) (door h k)) (gone h (door h k)) (eq-eqb (door h k) (door h k) refl)

none_listed : (o : Option ℕ) → is_some o ≡ false → o ≡ None
none_listed None e = refl
none_listed (Some p) e = absurd (true≢false e)

off : (ls : List (List ℕ)) (h : History) (d : ℕ) → gone h d ≡ true → Off (lists ls h) d
unfolding listed
off ls h d g = record { empty = gone_row ls h d g; nowhere = λ x. none_listed (place (row (lists ls h) x) d) ((gone_listed ls h d g).1 x) }

-- a refused edit at most spends a claim
unchanged : (ls : List (List ℕ)) (h : History) → Same ls h h
unchanged ls h = record { rows = refl; grants = refl; struck = λ d. refl; holders = λ d. refl; holding = λ k. refl; pairs = refl; liked = refl }

spent_only : (ls : List (List ℕ)) (h : History) (k : ℕ) → Same ls h (wasted k ∷ h)
unfolding lists claims gone latest ended forbidden favours
spent_only ls h k = record { rows = refl; grants = refl; struck = λ d. refl; holders = λ d. refl; holding = λ k. refl; pairs = refl; liked = refl }

same : (ls : List (List ℕ)) (h : History) (c : Call) → Same ls h (refusing c ++ h)
same ls h (Claim d) = unchanged ls h
same ls h (Release k) = spent_only ls h k
same ls h (Strike k) = spent_only ls h k
same ls h (Free d) = unchanged ls h
same ls h (Forbid a b) = unchanged ls h
same ls h (Favour a b) = unchanged ls h
same ls h (OneWay s o m) = unchanged ls h
same ls h (Link o m) = unchanged ls h

-- a linking that an answer gives is over the lists of the moment
pub record Over (ls : List (List ℕ)) (m : List ℕ) : Type 0 where
  pub partners : (x : ℕ) → (partner m x ≡ unlinked) ⊎ (listed ls x (partner m x) ≡ true)

no_linking : (r g : Answer) (o : Option Fault) (m : List ℕ) → linking g ≡ None → r ≡ answer o g → linking r ≡ Some m → ⊥
no_linking r g None m n e q = let z : ◌≡◌ {A = ℕ} 0 1 = cc (sym n ∙ ap linking (sym e) ∙ q) in omega arith
no_linking r g (Some f) m n e q = let z : ◌≡◌ {A = ℕ} 0 1 = cc (ap linking (sym e) ∙ q) in omega arith

no_showing : (r g : Answer) (b : Bool) (o : Option Fault) (m : List ℕ) → linking g ≡ None → r ≡ cond b (answer o g) NotShown → linking r ≡ Some m → ⊥
no_showing r g true o m n e q = no_linking r g o m n e q
no_showing r g false o m n e q = let z : ◌≡◌ {A = ℕ} 0 1 = cc (ap linking (sym e) ∙ q) in omega arith

counted_listed : (ls : List (List ℕ)) (sides : List ℕ) (x y : ℕ) → counts_one_way ls sides x y ≡ true → listed ls x y ≡ true
unfolding counts_one_way accept
counted_listed ls sides x y e =
    (and_parts (listed ls x y) (listed ls y x) (and_parts (listed ls x y && listed ls y x) (exit sides x && entrance sides y || entrance sides x && exit sides y) e).0).0

linking_over : (ls : List (List ℕ)) (pairs : ℕ → ℕ → Bool) (m : List ℕ) → ((x y : ℕ) → pairs x y ≡ true → listed ls x y ≡ true) → Linking ls pairs m → Over ls m
linking_over ls pairs m l k = record { partners = λ x. ⊎_elim (λ u. inl u) (λ p. inr (l x (partner m x) p)) (k.allowed x) }

one_way_over : (ls : List (List ℕ)) (sides output : List ℕ) (memory : ℕ) (r : Answer) (m : List ℕ) → OneWayAnswer ls sides output memory r → linking r ≡ Some m → Over ls m
one_way_over ls sides output memory (Claimed k) m w e = absurd w
one_way_over ls sides output memory Granted m w e = absurd w
one_way_over ls sides output memory (Refused f) m w e = absurd w
one_way_over ls sides output memory NotShown m w e = absurd w
one_way_over ls sides output memory (OneWayDone (Ok k) after) m w e =
    let q : vec_items after ≡ m = cc in
    subst (Over ls) q (linking_over ls (counts_one_way ls sides) (vec_items after) (counted_listed ls sides) w.1.2.linking)
one_way_over ls sides output memory (OneWayDone (Err f) after) m w e = let z : ◌≡◌ {A = ℕ} 0 1 = cc in absurd (omega arith)
one_way_over ls sides output memory (LinkDone r after) m w e = absurd w

accepted_listed : (ls : List (List ℕ)) (x y : ℕ) → accept ls x y ≡ true → listed ls x y ≡ true
unfolding accept
accepted_listed ls x y e = (and_parts (listed ls x y) (listed ls y x) e).0

link_over : (ls : List (List ℕ)) (output : List ℕ) (memory : ℕ) (r : Answer) (m : List ℕ) → LinkAnswer ls output memory r → linking r ≡ Some m → Over ls m
link_over ls output memory (Claimed k) m w e = absurd w
link_over ls output memory Granted m w e = absurd w
link_over ls output memory (Refused f) m w e = absurd w
link_over ls output memory NotShown m w e = absurd w
link_over ls output memory (OneWayDone r after) m w e = absurd w
link_over ls output memory (LinkDone (Ok k) after) m w e =
    let q : vec_items after ≡ m = cc in
    subst (Over ls) q (linking_over ls (accept ls) (vec_items after) (accepted_listed ls) w.1.1.linking)
link_over ls output memory (LinkDone (Err f) after) m w e = let z : ◌≡◌ {A = ℕ} 0 1 = cc in absurd (omega arith)

over : (ls : List (List ℕ)) (h : History) (c : Call) (r : Answer) (m : List ℕ) → Right ls h c r → linking r ≡ Some m → Over (lists ls h) m
over ls h (Claim d) r m e q = absurd (no_linking r (Claimed (suc (granted h))) (fault_of_claim (length ls) h d) m refl e q)
over ls h (Release k) r m e q = absurd (no_showing r Granted (out h k) (fault_of_show h k) m refl e q)
over ls h (Strike k) r m e q = absurd (no_showing r Granted (out h k) (fault_of_show h k) m refl e q)
over ls h (Free d) r m e q = absurd (no_linking r Granted (fault_of_free (length ls) h d) m refl e q)
over ls h (Forbid a b) r m e q = absurd (no_linking r Granted (fault_of_forbid (length ls) h a b) m refl e q)
over ls h (Favour a b) r m e q = absurd (no_linking r Granted (fault_of_favour ls h a b) m refl e q)
over ls h (OneWay s o n) r m e q = one_way_over (lists ls h) (vec_items s) (vec_items o) n r m e q
over ls h (Link o n) r m e q = link_over (lists ls h) (vec_items o) n r m e q

alone : (ls : List (List ℕ)) (h : History) (d : ℕ) (m : List ℕ) → gone h d ≡ true → Over (lists ls h) m → partner m d ≡ unlinked
alone ls h d m g o = ⊎_elim (λ u. u) (λ l. absurd (true≢false (sym l ∙ (gone_listed ls h d g).0 (partner m d)))) (o.partners d)

module _ (ls : List (List ℕ)) (calls : List Call) (answers : List Answer) (a : Answered ls calls answers) where
  sound_at : (i : ℕ) → i ≤ length calls → Sound ls (before calls answers i)
  unfolding before
  sound_at zero i = tt
  sound_at (suc j) i = sound_more ls (before calls answers j) (call calls j) (said answers j) (sound_at j (omega arith)) (a.right j (omega arith))

  gone_at : (i j k : ℕ) → i < j → call calls i ≡ Strike k → said answers i ≡ Granted → gone (before calls answers j) (door (before calls answers i) k) ≡ true
  unfolding before
  gone_at i zero k l e q = absurd (omega arith)
  gone_at i (suc j) k l e q =
      ⊎_elim
      (λ (n : i < j). gone_more (before calls answers j) (call calls j) (said answers j) (door (before calls answers i) k) (gone_at i j k n e q))
      (λ (n : j ≤ i). subst (λ z. gone (deeds (call calls z) (said answers z) ++ before calls answers z) (door (before calls answers i) k) ≡ true) (omega arith)
      (subst (λ z. gone (deeds z (said answers i) ++ before calls answers i) (door (before calls answers i) k) ≡ true) (sym e)
      (subst (λ z. gone (deeds (Strike k) z ++ before calls answers i) (door (before calls answers i) k) ≡ true) (sym q) (struck_now (before calls answers i) k))))
      (cases_lt i j)

  pub law : Law ls calls answers
  unfolding before
  law = record {
    answered = a;
    strikes = λ i k l e. strike_law (before calls answers i) k (said answers i) (subst (λ c. Right ls (before calls answers i) c (said answers i)) e (a.right i l));
    stays = λ i j k l n e q. off ls (before calls answers j) (door (before calls answers i) k) (gone_at i j k l e q);
    alone = λ i j k m l n e q w. alone ls (before calls answers j) (door (before calls answers i) k) m (gone_at i j k l e q) (over ls (before calls answers j) (call calls j) (said answers j) m (a.right j n) w);
    moments = λ i l. moment ls (before calls answers i) (sound_at i l);
    refused = λ i f l e. subst (λ r. Same ls (before calls answers i) (deeds (call calls i) r ++ before calls answers i)) (sym e) (same ls (before calls answers i) (call calls i));
    unshown = λ i l e. ap (λ r. deeds (call calls i) r ++ before calls answers i) e;
    linked = λ i r o l e. ap (λ r. deeds (call calls i) r ++ before calls answers i) e;
    kept = λ i o x m f l e q.
        let w = subst (λ r. Right ls (before calls answers i) (Link o m) r) q (subst (λ c. Right ls (before calls answers i) c (said answers i)) e (a.right i l)) in
        w.1.0;
    one_way_linked = λ i r o l e. ap (λ r. deeds (call calls i) r ++ before calls answers i) e;
    one_way_kept = λ i s o x m f l e q.
        let w = subst (λ r. Right ls (before calls answers i) (OneWay s o m) r) q (subst (λ c. Right ls (before calls answers i) c (said answers i)) e (a.right i l)) in
        w.1.0;
  }
