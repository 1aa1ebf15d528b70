-- Which records of two doors a call speaks of.
use Rattle.std.specs.Prelude.{ℕ, Bool, ◌&&◌, ◌||◌, ◌==◌}
use Rattle.level.specs.declared.records.About.{About}
use Rattle.level.specs.declared.records.About.TheVariants.{Door, Either, Order}

-- the doors x and y are a and b, in this order
abbrev pub in_order : ℕ → ℕ → ℕ → ℕ → Bool
in_order a b x y = x == a && y == b

-- the doors x and y are a and b, in either order
abbrev pub joins : ℕ → ℕ → ℕ → ℕ → Bool
joins a b x y = in_order a b x y || in_order b a x y

-- door d is one of the doors x and y
abbrev pub names : ℕ → ℕ → ℕ → Bool
names d x y = x == d || y == d

-- a record of the doors x and y is meant
abbrev pub meant : About → ℕ → ℕ → Bool
meant (Door d) x y = names d x y
meant (Either a b) x y = joins a b x y
meant (Order a b) x y = in_order a b x y
