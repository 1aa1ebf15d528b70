-- The theory's own form of preferences, linkings and tables: numbers and functions of numbers. The definitions that contracts are
-- read by are in terms of lists; proofs turn those into this form.
use Rattle.std.specs.Prelude.{◌≡◌, ℕ, ◌<◌, ◌≤◌, ◌⊎◌}

-- r x y is the rank of y for x, the smaller the more wanted; r x x is the rank past the end of x's list.
-- x and y accept each other where r x y < r x x.
pub record Ranks (r : ℕ → ℕ → ℕ) : Type 0 where
  pub both : (x y : ℕ) → r x y < r x x → r y x < r y y
  pub apart : (x y z : ℕ) → r x y < r x x → r x y ≡ r x z → y ≡ z

-- m x is the partner of x, or x itself where x is unlinked
pub record Links (r : ℕ → ℕ → ℕ) (m : ℕ → ℕ) : Type 0 where
  pub mutual' : (x : ℕ) → m (m x) ≡ x
  pub accepts : (x : ℕ) → (m x ≡ x) ⊎ (r x (m x) < r x x)

-- x and y would both rather have each other
abbrev pub Blocked : (ℕ → ℕ → ℕ) → (ℕ → ℕ) → ℕ → ℕ → Type 0
Blocked r m x y = (r x y < r x (m x)) × (r y x < r y (m y))

abbrev pub Unblocked : (ℕ → ℕ → ℕ) → (ℕ → ℕ) → Type 0
Unblocked r m = (x y : ℕ) → r x y < r x (m x) → r y x < r y (m y) → ⊥

-- A table of who is still on whose list, by the last door g x on each list (x itself where x holds no proposal)
abbrev pub On : (ℕ → ℕ → ℕ) → (ℕ → ℕ) → ℕ → ℕ → Type 0
On r g x y = (r x y < r x x) × (r x y ≤ r x (g x)) × (r y x ≤ r y (g y))

-- every door's partner is within its table
abbrev pub Within : (ℕ → ℕ → ℕ) → (ℕ → ℕ) → (ℕ → ℕ) → Type 0
Within r g m = (x : ℕ) → r x (m x) ≤ r x (g x)
