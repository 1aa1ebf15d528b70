-- A run on its way: what the calls so far have led to.
use Rattle.std.proofs.Common.{◌≡◌, ℕ, zero, suc, ◌+◌, ◌<◌, ◌≤◌, true, List, [], ◌∷◌, ◌++◌, length, IfOk, Ok, Err, vec_items, Option, Result, Vec, sym, refl, ap, ◌∙◌, subst, ⊎_elim, add-one, arith}
use Rattle.std.proofs.lemmas.List.{get_or_append_left, get_or_push, length_push}
use Rattle.std.proofs.lemmas.Bool.{cases_lt}
use Rattle.std.specs.declared.alloc.AllocError.{AllocError}
use Rattle.std.specs.declared.alloc.Global.{Global}
use Rattle.level.specs.View.{view, fresh}
use Rattle.matching.proofs.Rows.{lawful_facts}
use Rattle.matching.specs.Lists.{lawful}
use Rattle.replay.specs.declared.calls.Answer.{Answer}
use Rattle.replay.specs.declared.calls.Answer.TheVariants.{NotShown}
use Rattle.replay.specs.declared.calls.Call.{Call}
use Rattle.replay.specs.declared.running.Run.{Run}
use Rattle.replay.specs.History.{deeds, call, said, before, claims}
use Rattle.replay.specs.Law.{Right, Answered, Law}
use Rattle.replay.specs.State.{Agrees, State, Keeps}
use Rattle.replay.proofs.Agree.{agrees_none}
use Rattle.replay.proofs.Laws.{law}

-- the first i calls are answered right, and level and claims are as their history says
pub record Going (ls : List (List ℕ)) (calls : List Call) (answers : List Answer) (i : ℕ) (run : Run) : Type 0 where
  pub size : length answers ≡ i
  pub right : (j : ℕ) → j < i → Right ls (before calls answers j) (call calls j) (said answers j)
  pub state : State ls (before calls answers i) run

-- over any lists on which the run began
unfoldable pub Led : Run → List Call → List Answer → ℕ → Run → Type 0
Led first calls answers i run = (ls : List (List ℕ)) → State ls [] first → Going ls calls answers i run

-- an answer more changes no moment before it
before_push : (calls : List Call) (answers : List Answer) (r : Answer) (j : ℕ) → j ≤ length answers → before calls (answers ++ (r ∷ [])) j ≡ before calls answers j
unfolding before
before_push calls answers r zero i = refl
before_push calls answers r (suc j) i = cc (get_or_append_left answers (r ∷ []) NotShown j i, before_push calls answers r j (omega arith))

pub led_none : (run : Run) (calls : List Call) (answers : List Answer) → answers ≡ [] → Led run calls answers 0 run
unfolding Led before
led_none run calls answers e ls st = subst (λ l. Going ls calls l 0 run) (sym e) (record { size = refl; right = λ j i. absurd (omega arith); state = st })

module _ (ls : List (List ℕ)) (calls : List Call) (answers : List Answer) (i : ℕ) (run run' : Run) (g : Going ls calls answers i run) where
  going_more : (r : Answer) → Keeps run (call calls i) r run' → Going ls calls (answers ++ (r ∷ [])) (suc i) run'
  unfolding Keeps before
  going_more r k =
      let next = k ls (before calls answers i) g.state in
      let now = before_push calls answers r i (omega (arith, g.size)) in
      let last : said (answers ++ (r ∷ [])) i ≡ r = get_or_push answers r NotShown i g.size in
      record {
        size = omega (arith, length_push answers r, g.size);
        right = λ j l. ⊎_elim
            (λ (m : j < i).
            subst (λ h. Right ls h (call calls j) (said (answers ++ (r ∷ [])) j)) (sym (before_push calls answers r j (omega (arith, g.size))))
            (subst (Right ls (before calls answers j) (call calls j)) (sym (get_or_append_left answers (r ∷ []) NotShown j (omega (arith, g.size)))) (g.right j m)))
            (λ (m : i ≤ j).
            subst (λ z. Right ls (before calls (answers ++ (r ∷ [])) z) (call calls z) (said (answers ++ (r ∷ [])) z)) (omega arith)
            (subst (λ h. Right ls h (call calls i) (said (answers ++ (r ∷ [])) i)) (sym now) (subst (Right ls (before calls answers i) (call calls i)) (sym last) next.0)))
            (cases_lt j i);
        state = subst (λ x. State ls (deeds (call calls i) x ++ before calls (answers ++ (r ∷ [])) i) run') (sym last) (subst (λ h. State ls (deeds (call calls i) r ++ h) run') (sym now) next.1);
      }

pub led_more : (first run run' : Run) (calls : List Call) (answers answers' : List Answer) (i : ℕ) (c : Call) (r : Answer)
    → c ≡ call calls i → answers' ≡ answers ++ (r ∷ []) → Keeps run c r run' → Led first calls answers i run → Led first calls answers' (i + 1) run'
unfolding Led
led_more first run run' calls answers answers' i c r e q k l ls st =
    subst (λ n. Going ls calls answers' n run') (sym (add-one i))
    (subst (λ x. Going ls calls x (suc i) run') (sym q) (going_more ls calls answers i run run' (l ls st) r (subst (λ x. Keeps run x r run') e k)))

-- so a whole run keeps the law
pub led_all : (first run : Run) (calls : List Call) (answers : List Answer) (i : ℕ) → i ≡ length calls → Led first calls answers i run → (ls : List (List ℕ)) → State ls [] first → Law ls calls answers
unfolding Led
led_all first run calls answers i e l ls st = let g = l ls st in law ls calls answers (record { each = g.size ∙ e; right = λ j n. g.right j (omega arith) })

-- a new level with no claims
pub state_none : (ls : List (List ℕ)) (run : Run) → lawful ls ≡ true → view run.level ≡ fresh ls → vec_items run.claims ≡ [] → State ls [] run
unfolding claims
state_none ls run w e q = record {
  few = (lawful_facts ls w).few;
  sound = tt;
  agrees = subst (Agrees ls []) (sym e) (agrees_none ls);
  tokens = record { size = ap length q; each = λ j i. absurd (omega arith) };
}
