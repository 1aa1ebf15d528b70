-- What the edits make of the lists. A number past the last door has no list, so an edit of its list changes nothing.
use Rattle.std.specs.Prelude.{ℕ, cond, List, [], ◌∷◌, map, is_some, slice_set}
use Rattle.matching.specs.Lists.{row, place, without}

-- door y is taken off the list of door x
abbrev pub removed : ℕ → ℕ → List (List ℕ) → List (List ℕ)
removed x y ls = slice_set ls x (without y (row ls x))

-- a list with door y moved to its head; a list without y stays as it is
abbrev pub headed : ℕ → List ℕ → List ℕ
headed y l = cond (is_some (place l y)) (y ∷ without y l) l

-- door y is moved to the head of the list of door x
abbrev pub promoted : ℕ → ℕ → List (List ℕ) → List (List ℕ)
promoted x y ls = slice_set ls x (headed y (row ls x))

-- the list of door x is emptied
abbrev pub cleared : ℕ → List (List ℕ) → List (List ℕ)
cleared x ls = slice_set ls x []

-- the list of door x is emptied, and x is taken off every list
abbrev pub withdrawn : ℕ → List (List ℕ) → List (List ℕ)
withdrawn x ls = map (without x) (cleared x ls)
