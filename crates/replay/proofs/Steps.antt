-- Each call keeps a level, its claims and the history together.
use Rattle.std.proofs.Common.{◌≡◌, ℕ, suc, ◌+◌, true, List, [], ◌∷◌, ◌++◌, length, Some, None, Ok, Err, vec_items, Option, Result, Vec, sym, refl, ap, ◌∙◌, subst, arith}
use Rattle.std.proofs.lemmas.Bool.{cond-true, cond-false}
use Rattle.std.specs.declared.alloc.Global.{Global}
use denote.Param.Members.{Once}
use denote.Ref.{MutBor}
use Rattle.faults.specs.declared.Fault.{Fault}
use Rattle.level.specs.declared.Level.{Level}
use Rattle.level.specs.declared.claims.Claim.{Claim as Token}
use Rattle.level.specs.Checks.{show_fault, free_fault, forbid_fault, favour_fault}
use Rattle.level.specs.Edits.{Answers, ClaimAnswers, ReleaseAnswers, StrikeAnswers, FreeAnswers, ForbidAnswers, FavourAnswers}
use Rattle.level.specs.Edits as edit
use Rattle.level.specs.View.{View, view, claim_door, claim_serial}
use Rattle.replay.specs.declared.calls.Answer.{Answer}
use Rattle.replay.specs.declared.calls.Answer.TheVariants.{Claimed, Granted, Refused, NotShown, OneWay as OneWayDone, Link as LinkDone}
use Rattle.replay.specs.declared.calls.Call.{Call}
use Rattle.replay.specs.declared.calls.Call.TheVariants.{Claim, Release, Strike, Free, Forbid, Favour, OneWay, Link}
use Rattle.replay.specs.declared.running.Run.{Run}
use Rattle.replay.specs.History.{History, claimed, released, struck, wasted, freed, forbade, favoured, deeds, claims, granted, door, shown, holds, out}
use Rattle.replay.specs.Law.{Right, LinkAnswer, OneWayAnswer, answer, showing, fault_of_claim, fault_of_show, fault_of_free, fault_of_forbid, fault_of_favour}
use Rattle.replay.specs.State.{Agrees, Tokens, State, Keeps, Edits, Shows, token, spent, edited}
use Rattle.replay.proofs.Agree.{claim_same, free_same, show_same, forbid_same, favour_same, agrees_claimed, agrees_freed, agrees_released, agrees_struck, agrees_forbade, agrees_favoured, agrees_wasted}
use Rattle.replay.proofs.AtHand.{tokens_same, tokens_claimed, tokens_shown, out_none, out_some, spent_none}
use Rattle.replay.proofs.Claims.{unborn, out_granted}
use Rattle.replay.proofs.Sound.{sound_more, shown_well}

module _ (ls : List (List ℕ)) (h : History) (run run' : Run) (st : State ls h run) where
  -- answered by the law, level and claims as they have to be
  goes_on : (c : Call) (r : Answer) → Right ls h c r → Agrees ls (deeds c r ++ h) (view run'.level) → Tokens (deeds c r ++ h) (vec_items run'.claims) → Right ls h c r × State ls (deeds c r ++ h) run'
  goes_on c r right a t = (right, record { few = st.few; sound = sound_more ls h c r st.sound right; agrees = a; tokens = t })

  -- an edit whose first fault, by the history, is o
  edits : (c : Call) (fault o : Option Fault) (w : View) (r : Result (Unit {0}) Fault) → Answers fault (view run.level) w r (view run'.level) → fault ≡ o
      → ((x : Answer) → x ≡ answer o Granted → Right ls h c x)
      → (o ≡ None → Agrees ls (deeds c Granted ++ h) w × Tokens (deeds c Granted ++ h) (vec_items run'.claims))
      → ((f : Fault) → Agrees ls (deeds c (Refused f) ++ h) (view run.level) × Tokens (deeds c (Refused f) ++ h) (vec_items run'.claims))
      → Right ls h c (edited r) × State ls (deeds c (edited r) ++ h) run'
  edits c fault o w (Ok u) a e right ok else' =
      let both = ok (sym e ∙ a.0) in
      goes_on c Granted (right Granted (ap (λ x. answer x Granted) (sym a.0 ∙ e))) (subst (Agrees ls (deeds c Granted ++ h)) (sym a.1) both.0) both.1
  edits c fault o w (Err f) a e right ok else' =
      goes_on c (Refused f) (right (Refused f) (ap (λ x. answer x Granted) (sym a.0 ∙ e))) (subst (Agrees ls (deeds c (Refused f) ++ h)) (sym a.1) (else' f).0) (else' f).1

-- a claim that is shown
show_too : (ls : List (List ℕ)) (h : History) (run : Run) (k : ℕ) (c : Token) → State ls h run → token (vec_items run.claims) k ≡ Some c → show_fault (view run.level) (claim_door c) (claim_serial c) ≡ fault_of_show h k
show_too ls h run k c st e =
    let o = out_some h (vec_items run.claims) k c st.tokens e in
    ap (λ d. show_fault (view run.level) d (claim_serial c)) o.1 ∙ ap (show_fault (view run.level) (door h k)) o.2
    ∙ show_same ls h (view run.level) st.few st.sound st.agrees k (out_granted h k o.0).0

holds_then : (h : History) (k : ℕ) → out h k ≡ true → fault_of_show h k ≡ None → holds h k ≡ true
holds_then h k o e = (shown_well h k Granted (sym (cond-true (out h k) (answer (fault_of_show h k) Granted) NotShown o ∙ ap (λ x. answer x Granted) e)) refl).1

-- a claim that is not at hand
not_shown : (h : History) (ts : List (Option Token)) (k : ℕ) → Tokens h ts → token ts k ≡ None → NotShown ≡ showing h k
not_shown h ts k t e = sym (cond-false (out h k) (answer (fault_of_show h k) Granted) NotShown (out_none h ts k t e))

module _ (run run' : Run) where
  -- a granted claim, and a refused one
  pub keeps_claim : (d n : ℕ) (c : Token) → ClaimAnswers (view run.level) d (Ok c) (view run'.level) → n ≡ (view run'.level).granted → vec_items run'.claims ≡ vec_items run.claims ++ (Some c ∷ []) → Keeps run (Claim d) (Claimed n) run'
  unfolding Keeps
  keeps_claim d m c a mine same ls h st =
      let v = view run.level in
      let none : fault_of_claim (length ls) h d ≡ None = sym (claim_same ls h v st.few st.sound st.agrees d) ∙ a.0 in
      let n : v.granted + 1 ≡ suc (granted h) = omega (arith, st.agrees.count) in
      goes_on ls h run run' st (Claim d) (Claimed m)
      (ap (λ k. Claimed k) (mine ∙ ap (λ w. w.granted) a.3 ∙ n) ∙ ap (λ o. answer o (Claimed (suc (granted h)))) (sym none))
      (subst (Agrees ls (claimed d ∷ h)) (sym a.3) (agrees_claimed ls h v st.few st.sound st.agrees d none))
      (subst (Tokens (claimed d ∷ h)) (sym same) (tokens_claimed h (vec_items run.claims) d c (unborn ls h st.few st.sound (suc (granted h)) (omega arith)).1 a.1 (a.2 ∙ n) st.tokens))

  pub keeps_refused : (d : ℕ) (f : Fault) → ClaimAnswers (view run.level) d (Err f) (view run'.level) → vec_items run'.claims ≡ vec_items run.claims → Keeps run (Claim d) (Refused f) run'
  unfolding Keeps
  keeps_refused d f a same ls h st =
      goes_on ls h run run' st (Claim d) (Refused f)
      (ap (λ o. answer o (Claimed (suc (granted h)))) (sym a.0 ∙ claim_same ls h (view run.level) st.few st.sound st.agrees d))
      (subst (Agrees ls h) (sym a.1) st.agrees)
      (subst (Tokens h) (sym same) st.tokens)

  module _ (same : vec_items run'.claims ≡ vec_items run.claims) where
    pub keeps_free : (d : ℕ) (r : Result (Unit {0}) Fault) → FreeAnswers (view run.level) d r (view run'.level) → Keeps run (Free d) (edited r) run'
    unfolding Keeps claims shown
    keeps_free d r a ls h st =
        let v = view run.level in
        edits ls h run run' st (Free d) (free_fault v d) (fault_of_free (length ls) h d) (edit.released v d) r a (free_same ls h v st.few st.sound st.agrees d) (λ x e. e)
        (λ o. (agrees_freed ls h v st.few st.sound st.agrees d o, subst (Tokens (freed d ∷ h)) (sym same) (tokens_same h (freed d ∷ h) (vec_items run.claims) refl (λ k. refl) st.tokens)))
        (λ f. (st.agrees, subst (Tokens h) (sym same) st.tokens))

    pub keeps_forbid : (a b : ℕ) (r : Result (Unit {0}) Fault) → ForbidAnswers (view run.level) a b r (view run'.level) → Keeps run (Forbid a b) (edited r) run'
    unfolding Keeps claims shown
    keeps_forbid a b r w ls h st =
        let v = view run.level in
        edits ls h run run' st (Forbid a b) (forbid_fault v a b) (fault_of_forbid (length ls) h a b) (edit.forbade v a b) r w (forbid_same ls h v st.few st.sound st.agrees a b) (λ x e. e)
        (λ o. (agrees_forbade ls h v st.few st.sound st.agrees a b, subst (Tokens (forbade a b ∷ h)) (sym same) (tokens_same h (forbade a b ∷ h) (vec_items run.claims) refl (λ k. refl) st.tokens)))
        (λ f. (st.agrees, subst (Tokens h) (sym same) st.tokens))

    pub keeps_favour : (a b : ℕ) (r : Result (Unit {0}) Fault) → FavourAnswers (view run.level) a b r (view run'.level) → Keeps run (Favour a b) (edited r) run'
    unfolding Keeps claims shown
    keeps_favour a b r w ls h st =
        let v = view run.level in
        edits ls h run run' st (Favour a b) (favour_fault v a b) (fault_of_favour ls h a b) (edit.favoured v a b) r w (favour_same ls h v st.few st.sound st.agrees a b) (λ x e. e)
        (λ o. (agrees_favoured ls h v st.few st.sound st.agrees a b, subst (Tokens (favoured a b ∷ h)) (sym same) (tokens_same h (favoured a b ∷ h) (vec_items run.claims) refl (λ k. refl) st.tokens)))
        (λ f. (st.agrees, subst (Tokens h) (sym same) st.tokens))

  module _ (k : ℕ) (left : vec_items run'.claims ≡ spent (vec_items run.claims) k) where
    keeps_released : (c : Token) (r : Result (Unit {0}) Fault) → token (vec_items run.claims) k ≡ Some c → ReleaseAnswers (view run.level) c r (view run'.level) → Keeps run (Release k) (edited r) run'
    unfolding Keeps claims shown
    keeps_released c r e a ls h st =
        let v = view run.level in
        let ts = vec_items run.claims in
        let o = out_some h ts k c st.tokens e in
        edits ls h run run' st (Release k) (show_fault v (claim_door c) (claim_serial c)) (fault_of_show h k) (edit.released v (claim_door c)) r a (show_too ls h run k c st e)
        (λ x q. q ∙ sym (cond-true (out h k) (answer (fault_of_show h k) Granted) NotShown o.0))
        (λ n. (subst (λ d. Agrees ls (released k ∷ h) (edit.released v d)) (sym o.1) (agrees_released ls h v st.few st.sound st.agrees k o.0 (holds_then h k o.0 n)), subst (Tokens (released k ∷ h)) (sym left) (tokens_shown h (released k ∷ h) ts k refl (λ j. refl) st.tokens)))
        (λ f. (agrees_wasted ls h v st.few st.sound st.agrees k, subst (Tokens (wasted k ∷ h)) (sym left) (tokens_shown h (wasted k ∷ h) ts k refl (λ j. refl) st.tokens)))

    keeps_struck : (c : Token) (r : Result (Unit {0}) Fault) → token (vec_items run.claims) k ≡ Some c → StrikeAnswers (view run.level) c r (view run'.level) → Keeps run (Strike k) (edited r) run'
    unfolding Keeps claims shown
    keeps_struck c r e a ls h st =
        let v = view run.level in
        let ts = vec_items run.claims in
        let o = out_some h ts k c st.tokens e in
        edits ls h run run' st (Strike k) (show_fault v (claim_door c) (claim_serial c)) (fault_of_show h k) (edit.struck_out v (claim_door c)) r a (show_too ls h run k c st e)
        (λ x q. q ∙ sym (cond-true (out h k) (answer (fault_of_show h k) Granted) NotShown o.0))
        (λ n. (subst (λ d. Agrees ls (struck k ∷ h) (edit.struck_out v d)) (sym o.1) (agrees_struck ls h v st.few st.sound st.agrees k o.0 (holds_then h k o.0 n)), subst (Tokens (struck k ∷ h)) (sym left) (tokens_shown h (struck k ∷ h) ts k refl (λ j. refl) st.tokens)))
        (λ f. (agrees_wasted ls h v st.few st.sound st.agrees k, subst (Tokens (wasted k ∷ h)) (sym left) (tokens_shown h (wasted k ∷ h) ts k refl (λ j. refl) st.tokens)))

    module _ (none : token (vec_items run.claims) k ≡ None) (stays : run'.level ≡ run.level) where
      unshown : (c : Call) → (ls : List (List ℕ)) (h : History) → Right ls h c NotShown → State ls h run → Right ls h c NotShown × State ls h run'
      unshown c ls h right st =
          goes_on ls h run run' st c NotShown right (subst (λ l. Agrees ls h (view l)) (sym stays) st.agrees) (subst (Tokens h) (sym (left ∙ spent_none (vec_items run.claims) k none)) st.tokens)

      keeps_unreleased : Keeps run (Release k) NotShown run'
      unfolding Keeps
      keeps_unreleased ls h st = unshown (Release k) ls h (not_shown h (vec_items run.claims) k st.tokens none) st

      keeps_unstruck : Keeps run (Strike k) NotShown run'
      unfolding Keeps
      keeps_unstruck ls h st = unshown (Strike k) ls h (not_shown h (vec_items run.claims) k st.tokens none) st

-- what an edit answers with a claim, and leaves of the level
abbrev Means : Type 1
Means = View → Token → Result (Unit {0}) Fault → View → Type 0

module _ {F : Type 0} (g : Once F (MutBor Level × (Token × Unit {0})) (Result (Unit {0}) Fault × (MutBor Level × Unit {0}))) (edit : F) (run run' : Run) (k : ℕ) where
  pub shows_some : (c : Token) (r : Result (Unit {0}) Fault) (shown left : MutBor Level) (a : Answer) → a ≡ edited r → token (vec_items run.claims) k ≡ Some c → vec_items run'.claims ≡ spent (vec_items run.claims) k
      → shown.now ≡ run.level → g.post edit (shown, (c, tt)) (r, (left, tt)) → left.now ≡ run'.level → Shows g edit run k a run'
  shows_some c r shown left a q e s f p b = record {
    left = s;
    none = λ w. let z : ◌≡◌ {A = ℕ} 0 1 = cc in absurd (omega arith);
    some = λ d w. let same : c ≡ d = cc in subst (λ x. (r' : Result (Unit {0}) Fault) × Edits g edit run.level x r' run'.level × (a ≡ edited r')) same (r, record { shown = shown; shows = f; left = left; met = p; leaves = b }, q);
  }

  -- it does what the edit does, or nothing where the claim is not at hand
  shown_by : (means : Means) (a : Answer) (P : Answer → Type 0) → Shows g edit run k a run'
      → ((shown left : MutBor Level) (c : Token) (r : Result (Unit {0}) Fault) → g.post edit (shown, (c, tt)) (r, (left, tt)) → means (view shown.now) c r (view left.now))
      → ((c : Token) (r : Result (Unit {0}) Fault) → token (vec_items run.claims) k ≡ Some c → means (view run.level) c r (view run'.level) → P (edited r))
      → (token (vec_items run.claims) k ≡ None → run'.level ≡ run.level → P NotShown) → P a
  shown_by means a P s does some none = go (token (vec_items run.claims) k) refl
    where
      go : (t : Option Token) → token (vec_items run.claims) k ≡ t → P a
      go None e = let n = s.none e in subst P (sym n.0) (none e n.1)
      go (Some c) e =
          let n = s.some c e in
          let m = does n.1.shown n.1.left c n.0 n.1.met in
          subst P (sym n.2) (some c n.0 e (subst (λ l. means (view run.level) c n.0 (view l)) n.1.leaves (subst (λ l. means (view l) c n.0 (view n.1.left.now)) n.1.shows m)))

  pub keeps_release : (a : Answer) → Shows g edit run k a run'
      → ((shown left : MutBor Level) (c : Token) (r : Result (Unit {0}) Fault) → g.post edit (shown, (c, tt)) (r, (left, tt)) → ReleaseAnswers (view shown.now) c r (view left.now))
      → Keeps run (Release k) a run'
  keeps_release a s does = shown_by (λ v c r v'. ReleaseAnswers v c r v') a (λ x. Keeps run (Release k) x run') s does (keeps_released run run' k s.left) (keeps_unreleased run run' k s.left)

  pub keeps_strike : (a : Answer) → Shows g edit run k a run'
      → ((shown left : MutBor Level) (c : Token) (r : Result (Unit {0}) Fault) → g.post edit (shown, (c, tt)) (r, (left, tt)) → StrikeAnswers (view shown.now) c r (view left.now))
      → Keeps run (Strike k) a run'
  keeps_strike a s does = shown_by (λ v c r v'. StrikeAnswers v c r v') a (λ x. Keeps run (Strike k) x run') s does (keeps_struck run run' k s.left) (keeps_unstruck run run' k s.left)

module _ (run : Run) where
  -- a one-way linking
  pub keeps_one_way : (s o : Vec ℕ Global) (sides output : List ℕ) (m : ℕ) (r : Answer) → sides ≡ vec_items s → output ≡ vec_items o → OneWayAnswer (view run.level).lists sides output m r → Keeps run (OneWay s o m) r run
  unfolding Keeps
  keeps_one_way s o sides output m (Claimed k) x y w ls h st = absurd w
  keeps_one_way s o sides output m Granted x y w ls h st = absurd w
  keeps_one_way s o sides output m (Refused f) x y w ls h st = absurd w
  keeps_one_way s o sides output m NotShown x y w ls h st = absurd w
  keeps_one_way s o sides output m (OneWayDone p after) x y w ls h st =
      goes_on ls h run run st (OneWay s o m) (OneWayDone p after)
      (subst (λ l. OneWayAnswer l (vec_items s) (vec_items o) m (OneWayDone p after)) st.agrees.rows
      (subst (λ l. OneWayAnswer (view run.level).lists l (vec_items o) m (OneWayDone p after)) x (subst (λ l. OneWayAnswer (view run.level).lists sides l m (OneWayDone p after)) y w)))
      st.agrees st.tokens
  keeps_one_way s o sides output m (LinkDone r after) x y w ls h st = absurd w

  -- a linking of all doors
  pub keeps_link : (o : Vec ℕ Global) (output : List ℕ) (m : ℕ) (r : Answer) → output ≡ vec_items o → LinkAnswer (view run.level).lists output m r → Keeps run (Link o m) r run
  unfolding Keeps
  keeps_link o output m (Claimed k) y w ls h st = absurd w
  keeps_link o output m Granted y w ls h st = absurd w
  keeps_link o output m (Refused f) y w ls h st = absurd w
  keeps_link o output m NotShown y w ls h st = absurd w
  keeps_link o output m (OneWayDone p after) y w ls h st = absurd w
  keeps_link o output m (LinkDone r after) y w ls h st =
      goes_on ls h run run st (Link o m) (LinkDone r after)
      (subst (λ l. LinkAnswer l (vec_items o) m (LinkDone r after)) st.agrees.rows (subst (λ l. LinkAnswer (view run.level).lists l m (LinkDone r after)) y w))
      st.agrees st.tokens
