-- Lists known by the places of their doors.
use Rattle.std.proofs.Common.{◌≡◌, ℕ, ◌<◌, List, length, get_or, Some, sym, refl, ◌∙◌, subst, arith}
use Rattle.std.proofs.lemmas.List.{ext_get_or}
use Rattle.matching.specs.Lists.{place, LawfulList, PlaceOf}
use Rattle.matching.proofs.Rows.{place_view, place_from}

-- lists of one length are the same where every door has the same place on both
pub same_by_places : (n d : ℕ) (l m : List ℕ) → LawfulList n d l → length l ≡ length m → ((y : ℕ) → y < n → place l y ≡ place m y) → l ≡ m
same_by_places n d l m law e same = ext_get_or 0 l m e (λ k h.
    let y = get_or l k 0 in
    let here : PlaceOf l y (Some k) = (h, refl, λ j i f. omega (arith, law.apart j k (omega arith) h f)) in
    let there : place m y ≡ Some k = sym (same y (law.known k h)) ∙ sym (place_from l y (Some k) here) in
    let view : PlaceOf m y (Some k) = subst (PlaceOf m y) there (place_view m y) in
    sym view.1)
