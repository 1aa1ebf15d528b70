-- What is said of a survey and its level file. Each line ends with a line feed.
use Rattle.std.specs.Prelude.{◌≡◌, ℕ, ◌/◌, Bool, cond, List, ◌++◌, length, codes, decimal, ◌↔◌, IsTrue, sum_by}
use Rattle.codec.specs.Blocks.{baking, block_check, block_of}
use Rattle.std.specs.List.{range_with_len, flat_map}

-- how many doors are listed in all
abbrev pub listed_in : List (List ℕ) → ℕ
listed_in ls = sum_by length ls

-- the whole blocks of a file
abbrev pub blocks_of : List ℕ → ℕ
blocks_of file = length file / 512

-- how many doors there are, how many are listed and how many blocks the file has
abbrev pub counts : List (List ℕ) → List ℕ → List ℕ
counts ls file =
    codes "doors " ++ (decimal (length ls) ++ (codes "\nlisted " ++ (decimal (listed_in ls) ++ (codes "\nblocks " ++ (decimal (blocks_of file) ++ codes "\n")))))

-- the check of a block, as its bytes give it
abbrev pub check_line : List ℕ → ℕ → List ℕ
check_line file block = codes "check " ++ (decimal block ++ (codes " " ++ (decimal (block_check (block_of file block)) ++ codes "\n")))

-- the checks of the first n blocks, a line each
abbrev pub check_lines : List ℕ → ℕ → List ℕ
check_lines file n = flat_map (check_line file) (range_with_len 0 n)

-- whether the same lists were read back
abbrev pub read_back : Bool → List ℕ
read_back same = cond same (codes "read back: same lists\n") (codes "read back: other lists\n")

-- the whole text: the same lists were read back where the file is the baking of the lists, and only there
abbrev pub Summary : List (List ℕ) → List ℕ → List ℕ → Type 0
Summary ls file text =
    (same : Bool) × (IsTrue same ↔ (file ≡ baking ls)) × (text ≡ (counts ls file ++ check_lines file (blocks_of file)) ++ read_back same)
