-- A door is on a list exactly where it has a place there.
use Rattle.std.proofs.Common.{◌≡◌, ℕ, Bool, eqb, List, is_some, Some, None, Decides, Option, refl, ◌∙◌, arith}
use Rattle.std.specs.List.{IsAnyAnswer, ContainsAt as Has}
use Rattle.std.proofs.lemmas.Bool.Decides.{same_from_decides, Decides-eqb}
use Rattle.std.proofs.lemmas.List.{get_or_default}
use Rattle.std.proofs.lemmas.List.Elements.{contains_decides}
use Rattle.matching.specs.Lists.{place, PlaceOf}
use Rattle.matching.proofs.Rows.{place_view}

has_from_view : (l : List ℕ) (y : ℕ) (o : Option ℕ) → PlaceOf l y o → Decides (is_some o) (Has l y)
has_from_view l y (Some p) v = (λ _. (p, v.0, λ d. get_or_default l p d 0 v.0 ∙ v.1), λ _. refl)
has_from_view l y None v = (λ e. absurd (grind arith), λ h. absurd (v h.0 h.1 (h.2 0)))

pub listed_decides : (l : List ℕ) (y : ℕ) → Decides (is_some (place l y)) (Has l y)
listed_decides l y = has_from_view l y (place l y) (place_view l y)

-- what a search answers
pub listed_same : (l : List ℕ) (y : ℕ) (b : Bool) → IsAnyAnswer (λ z t. eqb z y ≡ t) l b → b ≡ is_some (place l y)
listed_same l y b h = same_from_decides b (is_some (place l y)) (contains_decides eqb Decides-eqb l y b h) (listed_decides l y)
