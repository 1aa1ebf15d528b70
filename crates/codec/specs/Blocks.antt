-- The level file: a header block and a block for each door, 512 bytes each.
use Rattle.std.specs.Prelude.{ℕ, suc, ◌+◌, ◌-◌, ◌*◌, ◌/◌, ◌%◌, List, [], ◌∷◌, ◌++◌, length, take, drop, replicate, slice_index}

-- the bytes weighed by their places: the first counts k times, the next k + 1 times, and so on
unfoldable pub weighed : ℕ → List ℕ → ℕ
weighed k [] = 0
weighed k (b ∷ bs) = k * b + weighed (suc k) bs

-- the check of a block: its first 510 bytes weighed by 1, 2, 3 and on, modulo 65521
unfoldable pub block_check : List ℕ → ℕ
block_check block = weighed 1 (take 510 block) % 65521

-- a number as two bytes, the low one first
abbrev pub low_high : ℕ → List ℕ
low_high n = n % 256 ∷ n / 256 ∷ []

-- so many zeros
abbrev pub zeros : ℕ → List ℕ
zeros k = replicate k 0

-- the first 510 bytes of a block that opens with these: zeros after them
unfoldable pub padded : List ℕ → List ℕ
padded bs = bs ++ zeros (510 - length bs)

-- the block that opens with these bytes: its last two are its check
unfoldable pub sealed : List ℕ → List ℕ
sealed bs = padded bs ++ low_high (block_check (padded bs))

-- how every file begins: the letters DOOR, then version 1
abbrev pub opening : List ℕ
opening = 0x44 ∷ 0x4F ∷ 0x4F ∷ 0x52 ∷ 1 ∷ []

-- the header of a file of n doors
unfoldable pub header : ℕ → List ℕ
header n = sealed (opening ++ n ∷ [])

-- the block of door d with the list l
unfoldable pub row_block : ℕ → List ℕ → List ℕ
row_block d l = sealed (0x52 ∷ d ∷ length l ∷ l)

-- the blocks of the doors d, d + 1 and on
unfoldable pub row_blocks : ℕ → List (List ℕ) → List ℕ
row_blocks d [] = []
row_blocks d (l ∷ ls) = row_block d l ++ row_blocks (suc d) ls

-- the file of these lists
unfoldable pub baking : List (List ℕ) → List ℕ
baking ls = header (length ls) ++ row_blocks 0 ls

-- block b of a file
unfoldable pub block_of : List ℕ → ℕ → List ℕ
block_of bytes b = take 512 (drop (512 * b) bytes)

-- the list in the block of a door
unfoldable pub list_in : List ℕ → List ℕ
list_in block = take (slice_index block 2) (drop 3 block)
