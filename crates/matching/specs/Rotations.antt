-- Rotations of a settled table, and their elimination.
use Rattle.std.specs.Prelude.{◌≡◌, ℕ, suc, ◌+◌, ◌<◌, ◌⊎◌}
use Rattle.matching.specs.Settled.{Second}

-- h' takes each door at i to to i, and every other door where h takes it
pub record Moved (h : ℕ → ℕ) (at to : ℕ → ℕ) (h' : ℕ → ℕ) : Type 0 where
  pub moves : (i : ℕ) → h' (at i) ≡ to i
  pub stays : (x : ℕ) → (h' x ≡ h x) ⊎ ((i : ℕ) × (x ≡ at i))

-- The same, one door after another: h' after the first j of them
pub record PartMoved (h at to : ℕ → ℕ) (j : ℕ) (h' : ℕ → ℕ) : Type 0 where
  pub moves : (i : ℕ) → i < j → h' (at i) ≡ to i
  pub stays : (x : ℕ) → (h' x ≡ h x) ⊎ ((i : ℕ) × (i < j) × (x ≡ at i))

-- A rotation: the door after a i is the last on the list of the second on a i's list, and after some number of steps the doors come again
pub record Rotation (r : ℕ → ℕ → ℕ) (g f s : ℕ → ℕ) (a : ℕ → ℕ) (period : ℕ) : Type 0 where
  pub second : (i : ℕ) → Second r g f (a i) (s (a i))
  pub onward : (i : ℕ) → g (s (a i)) ≡ a (suc i)
  pub again : (i : ℕ) → a (i + period) ≡ a i
  pub some : 0 < period

-- Its elimination: every door after a i leaves the list of the second on a i's list, so that a i is last there
abbrev pub Eliminated : (ℕ → ℕ) → (ℕ → ℕ) → (ℕ → ℕ) → (ℕ → ℕ) → Type 0
Eliminated g s a g' = Moved g (λ i. s (a i)) a g'

-- and each a i has its second as its first from then on
abbrev pub Advanced : (ℕ → ℕ) → (ℕ → ℕ) → (ℕ → ℕ) → (ℕ → ℕ) → Type 0
Advanced f s a f' = Moved f a (λ i. s (a i)) f'

-- The search for a rotation: from each door to the last on the list of its second
abbrev pub Walk : (ℕ → ℕ) → (ℕ → ℕ) → (ℕ → ℕ) → Type 0
Walk g s p = (i : ℕ) → p (suc i) ≡ g (s (p i))

-- door x comes again in the walk p
abbrev pub ComesAgain : (ℕ → ℕ) → ℕ → Type 0
ComesAgain p x = (i : ℕ) × (k : ℕ) × (p i ≡ x) × (p (i + suc k) ≡ x)

-- s x is the second on the list of each door x with two doors or more on its list
abbrev pub Seconds : (ℕ → ℕ → ℕ) → (ℕ → ℕ) → (ℕ → ℕ) → (ℕ → ℕ) → Type 0
Seconds r g f s = (x : ℕ) → (f x ≡ g x) ⊎ Second r g f x (s x)
