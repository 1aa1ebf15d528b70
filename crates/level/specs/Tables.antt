-- What a table of live records holds, and what becomes of its records.
use Rattle.std.specs.Prelude.{Bool, cond, not, ◌&&◌, List, [], ◌∷◌, ◌++◌, length, nat_le}
use Rattle.std.specs.List.{list_any}

-- some record passes the test
abbrev pub among : {X : Type 0} → (X → Bool) → List X → Bool
among p xs = list_any p xs

-- there are 64 records, and none passes the test
abbrev pub full : {X : Type 0} → (X → Bool) → List X → Bool
full p xs = nat_le 64 (length xs) && not (among p xs)

-- the record x takes the place of the first that passes the test; where none does, it comes behind the last
abbrev pub noted : {X : Type 0} → (X → Bool) → X → List X → List X
noted p x [] = x ∷ []
noted p x (y ∷ ys) = cond (p y) (x ∷ ys) (y ∷ noted p x ys)

-- the record x comes behind the last, unless some record passes the test
abbrev pub added : {X : Type 0} → (X → Bool) → X → List X → List X
added p x xs = cond (among p xs) xs (xs ++ (x ∷ []))
