-- The partners that the program writes down are the result of the run.
use Rattle.std.proofs.Common.{◌≡◌, ℕ, suc, ◌+◌, ◌≤◌, List, length, get_or, set, None, sym, refl, ap, ◌∙◌, subst, ⊎_elim, arith}
use Rattle.std.proofs.lemmas.Bool.{cases_lt}
use Rattle.matching.specs.Lists.{Lawful}
use Rattle.matching.specs.Linkings.{unlinked, partner}
use Rattle.matching.specs.Proposals.{Asking, Runs, ResultOf, OneWayResult}
use Rattle.matching.proofs.Bridge.{link_none, link_some}
use Rattle.matching.proofs.Endings.{one_way_result}
use Rattle.matching.proofs.Runs.{holds, no_list, run_under}
use Rattle.matching.proofs.Turns.{Spread, spread_skip, spread_more, spread_all}
use Rattle.linker.specs.Turns.{state_of, Going}

-- the partners of the doors below y are written down, whatever run led to `held`
abbrev pub Telling : List ℕ → ℕ → List ℕ → Type 0
Telling held y m = (ls : List (List ℕ)) (sides : List ℕ) (k : ℕ) (s : Asking) → Lawful ls → Runs ls sides k s → s.held ≡ held → Spread s y m

module _ (held m : List ℕ) (y : ℕ) (t : Telling held y m) where
  -- y holds nobody
  pub telling_skip : get_or held y unlinked ≡ unlinked → Telling held (y + 1) m
  telling_skip i ls sides k s f r h =
      subst (λ v. Spread s v m) {x = suc y} (omega arith) (spread_skip s y m (t ls sides k s f r h) (link_none s.held y (ap (λ l. partner l y) h ∙ i)))

  -- y holds x
  pub telling_more : (x : ℕ) → x ≡ get_or held y unlinked → (x ≡ unlinked → ⊥) → length m ≡ length held → Telling held (y + 1) (set (set m y x) x y)
  telling_more x i n w ls sides k s f r h =
      let u = run_under ls sides f k s r in
      let e : holds s y ≡ x = link_some s.held y (λ o. n (i ∙ ap (λ l. partner l y) (sym h) ∙ o)) ∙ ap (λ l. partner l y) h ∙ sym i in
      let own : holds s y ≡ y → ⊥ = λ o. ⊎_elim (λ v. n (i ∙ ap (λ l. partner l y) (sym h) ∙ v.1)) (λ v. v.0 o) (u.written y) in
      subst (λ v. Spread s v (set (set m y x) x y)) {x = suc y} (omega arith)
      (subst (λ v. Spread s (suc y) (set (set m y v) v y)) e (spread_more ls sides f k s u y m (omega (arith, w, ap length h, u.long)) (t ls sides k s f r h) own))

-- at the end they are the result
pub telling_all : (held m : List ℕ) (y : ℕ) → Telling held y m → length held ≤ y → y ≤ length held → length m ≡ length held
    → (ls : List (List ℕ)) (sides : List ℕ) (k : ℕ) (s : Asking) → Lawful ls → Runs ls sides k s → s.held ≡ held → ResultOf ls s m
telling_all held m y t a b w ls sides k s f r h =
    let u = run_under ls sides f k s r in
    spread_all ls sides f k s u m (omega (arith, w, ap length h, u.long)) (subst (λ v. Spread s v m) (omega (arith, ap length h, u.long)) (t ls sides k s f r h))

-- when all exits are through, the partners are the one-way linking
pub going_all : (ls : List (List ℕ)) (sides : List ℕ) → Lawful ls → (d k : ℕ) (next held m : List ℕ) → d ≡ length ls → Going ls sides d None k next held
    → ((s : Asking) → Runs ls sides k s → s.held ≡ held → ResultOf ls s m) → OneWayResult ls sides m k
going_all ls sides f d k next held m e g r =
    one_way_result ls sides f k m (
      state_of g.asked held,
      g.run,
      λ x t o. ⊎_elim (λ b. g.through x (omega arith) (λ i. grind (arith, i)) t o) (λ b. omega (arith, no_list ls sides x b)) (cases_lt x (length ls)),
      r (state_of g.asked held) g.run refl,
    )

-- every door of the level has an entry in `held`
pub going_long : (ls : List (List ℕ)) (sides : List ℕ) → Lawful ls → (d k : ℕ) (next held : List ℕ) → Going ls sides d None k next held → length held ≡ length ls
going_long ls sides f d k next held g = (run_under ls sides f k (state_of g.asked held) g.run).long
