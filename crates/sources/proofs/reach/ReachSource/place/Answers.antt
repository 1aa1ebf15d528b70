use Rattle.std.proofs.Common.{◌≡◌, ℕ, Bool, true, false, ltb, List, Some, None, Option, sym, ◌∙◌, arith, rules}
use Rattle.std.specs.Bool.{then_some}
use Rattle.std.specs.Option.{MatchOption}
use Rattle.std.proofs.lemmas.Bool.{ltb-true, ltb-false}
use Rattle.matching.specs.Lists.{row, place}
use Rattle.matching.proofs.Reaching.{place_near, place_far}
use Rattle.sources.specs.Layers.{reached}
use Rattle.sources.proofs.reach.ReachSource.place.Goals as goal

module _ (k : ℕ) (ls : List (List ℕ)) (d y : ℕ) (r : Option ℕ) where
  tested : (p : ℕ) (b : Bool) → b ≡ ltb p k → Some p ≡ place (row ls d) y → r ≡ then_some b p → r ≡ place (row (reached k ls) d) y
  tested p true t e h = h ∙ place_near k ls d y p (sym e) (ltb-true p k (sym t))
  tested p false t e h = h ∙ place_far k ls d y (λ q f. let same : Some p ≡ Some q = e ∙ f in let one : p ≡ q = cc in omega (arith, ltb-false p k (sym t)))

  -- the place, where the test of the reach lets it through
  kept : (o : Option ℕ) (Q : ℕ → Bool → Type 0) → ((p : ℕ) (b : Bool) → Q p b → b ≡ ltb p k) → o ≡ place (row ls d) y → MatchOption o (r ≡ None) (λ p. (b : Bool) × Q p b × (r ≡ then_some b p)) → r ≡ place (row (reached k ls) d) y
  kept None Q f e h = h ∙ place_far k ls d y (λ q g. let bad : None ≡ Some q = e ∙ g in let none : ◌≡◌ {A = ℕ} 0 1 = cc in absurd (omega arith))
  kept (Some p) Q f e h = tested p h.0 (f p h.0 h.1) e h.2

pub returns : goal.returns
returns g c =
    kept c.args.self.now.reach (g.S.Source.lists c.args.self.now.below) c.args.door c.args.other c.filter.result c.place.result _ (λ p b q. search rules) c.place.ensures c.filter.ensures
