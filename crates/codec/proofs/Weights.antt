-- The sum that a block's check is made of.
use Rattle.std.proofs.Common.{◌≡◌, ℕ, ◌+◌, ◌*◌, ◌<◌, ◌≤◌, List, length, get_or, drop, mul-le-mul, add-one, arith}
use Rattle.std.proofs.lemmas.List.{at_drop_more, at_drop_all}
use Rattle.codec.specs.Blocks.{weighed}

-- one more byte counted
pub weighed_more : (k i : ℕ) (xs : List ℕ) → i < length xs → weighed k (drop i xs) ≡ k * get_or xs i 0 + weighed (k + 1) (drop (i + 1) xs)
unfolding weighed
weighed_more k i xs h = rw (add-one k) (at_drop_more (weighed k) xs i 0 h)

pub weighed_none : (k i : ℕ) (xs : List ℕ) → length xs ≤ i → weighed k (drop i xs) ≡ 0
unfolding weighed
weighed_none k i xs h = at_drop_all (weighed k) xs i h

-- a byte weighs at most 510 times 255
pub weight_bound : (k b : ℕ) → k ≤ 510 → b < 256 → k * b ≤ 130050
weight_bound k b h i = let j : b ≤ 255 = omega arith in mul-le-mul h j
