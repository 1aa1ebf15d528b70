-- Tables after the proposals have ended: each door's first holds its proposal.
use Rattle.std.specs.Prelude.{◌≡◌, ℕ, ◌<◌, ◌≤◌, ◌⊎◌}
use Rattle.matching.specs.Ranks.{Links, Unblocked, On, Within}

-- f x is the first door on x's list, or x itself where no door is on it
pub record Firsts (r : ℕ → ℕ → ℕ) (g f : ℕ → ℕ) : Type 0 where
  pub first : (x : ℕ) → (f x ≡ x) ⊎ On r g x (f x)
  pub least : (x y : ℕ) → On r g x y → r x (f x) ≤ r x y

-- A settled table: f x is first and g x last on x's list, both x where it is empty, and each door is last on the list of its first
-- and first on the list of its last
pub record Settled (r : ℕ → ℕ → ℕ) (g f : ℕ → ℕ) : Type 0 where
  pub held : (x : ℕ) → (g x ≡ x) ⊎ (r x (g x) < r x x)
  pub last_of_first : (x : ℕ) → g (f x) ≡ x
  pub first_of_last : (x : ℕ) → f (g x) ≡ x
  pub ordered : (x : ℕ) → r x (f x) ≤ r x (g x)
  pub least : (x y : ℕ) → On r g x y → r x (f x) ≤ r x y

-- y is second on x's list: after the first, and before every other
abbrev pub Second : (ℕ → ℕ → ℕ) → (ℕ → ℕ) → (ℕ → ℕ) → ℕ → ℕ → Type 0
Second r g f x y = On r g x y × (r x (f x) < r x y) × ((z : ℕ) → On r g x z → r x (f x) < r x z → r x y ≤ r x z)

-- m is a stable linking whose pairs are all on the table's lists
pub record StableWithin (r : ℕ → ℕ → ℕ) (g m : ℕ → ℕ) : Type 0 where
  pub links : Links r m
  pub unblocked : Unblocked r m
  pub within : Within r g m

-- no door is on x's list
abbrev pub Empty : (ℕ → ℕ → ℕ) → (ℕ → ℕ) → ℕ → Type 0
Empty r g x = (y : ℕ) → On r g x y → ⊥
