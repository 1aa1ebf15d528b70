-- What the check of a file finds, question by question, and which finding comes first.
use Rattle.std.specs.Prelude.{◌≡◌, ℕ, zero, suc, ◌+◌, ◌*◌, ◌/◌, ◌%◌, ◌<◌, Bool, cond, not, ◌&&◌, List, length, is_some, Some, None, Option, ◌==◌, nat_le, nat_lt, slice_index}
use Rattle.std.specs.List.{between}
use Rattle.std.specs.Option.{option_map}
use Rattle.faults.specs.declared.Refusal.{Refusal}
use Rattle.faults.specs.declared.Refusal.TheVariants.{WrongSize, FixedByte, BlockCheck, BadList, TooManyDoors}
use Rattle.faults.specs.declared.Layer.TheVariants.{File}
use Rattle.faults.specs.declared.Place.{Place}
use Rattle.faults.specs.declared.Place.TheVariants.{At, Byte}
use Rattle.faults.specs.declared.Fault.{Fault}
use Rattle.matching.specs.Lists.{place}
use Rattle.codec.specs.Blocks.{block_check, opening, block_of}

-- a fault of the file, at a byte of a block or of the file as a whole
abbrev pub in_file : Refusal → Place → Fault
in_file r p = record { refusal = r; layer = File; place = p }

-- nothing where the test holds, otherwise the refusal
abbrev pub unless : Bool → Refusal → Option Refusal
unless fine r = cond fine None (Some r)

-- byte i of the header: at most 96 doors at byte 5; elsewhere the opening, and zeros after it
unfoldable pub header_fault : List ℕ → ℕ → Option Refusal
header_fault block i = cond (i == 5) (unless (nat_le (slice_index block i) 96) TooManyDoors) (unless (slice_index block i == slice_index opening i) FixedByte)

-- y may come after the doors `before` on the list of door d among n: a door of the level, not d, and not listed yet
unfoldable pub may_follow : ℕ → ℕ → List ℕ → ℕ → Bool
may_follow n d before y = nat_lt y n && (not (y == d) && not (is_some (place before y)))

-- byte i of the block of door d among n: the mark, the door, the length of its list, the list, and zeros after it
unfoldable pub row_fault : ℕ → ℕ → List ℕ → ℕ → Option Refusal
row_fault n d block i =
    cond (i == 0) (unless (slice_index block i == 0x52) FixedByte)
    (cond (i == 1) (unless (slice_index block i == d) FixedByte)
    (cond (i == 2) (unless (nat_lt (slice_index block i) n) BadList)
    (cond (nat_lt i (3 + slice_index block 2)) (unless (may_follow n d (between 3 i block) (slice_index block i)) BadList)
    (unless (slice_index block i == 0) FixedByte))))

-- the last two bytes of a block are its check
unfoldable pub checked : List ℕ → Bool
checked block = slice_index block 510 == block_check block % 256 && slice_index block 511 == block_check block / 256

-- the questions about block b, in order: first its check, then byte 0, byte 1 and on
unfoldable pub block_finding : ℕ → List ℕ → (ℕ → Option Refusal) → ℕ → Option Fault
block_finding b block wrong zero = cond (checked block) None (Some (in_file BlockCheck (Byte b 510)))
block_finding b block wrong (suc i) = cond (nat_lt i 510) (option_map (λ r. in_file r (Byte b i)) (wrong i)) None

-- the number of doors that a file speaks of
abbrev pub doors : List ℕ → ℕ
doors bytes = slice_index bytes 5

-- question q about block b of a file. Block 0: is it all there, its own questions, and then the file's size
unfoldable pub finding : List ℕ → ℕ → ℕ → Option Fault
finding bytes zero zero = cond (nat_lt (length bytes) 512) (Some (in_file WrongSize (At 0))) None
finding bytes zero (suc q) =
    cond (nat_lt q 511) (block_finding 0 (block_of bytes 0) (header_fault (block_of bytes 0)) q)
    (cond (length bytes == 512 * (doors bytes + 1)) None (Some (in_file WrongSize (At 0))))
finding bytes (suc d) q = cond (nat_lt d (doors bytes)) (block_finding (suc d) (block_of bytes (suc d)) (row_fault (doors bytes) d (block_of bytes (suc d))) q) None

-- no question finds anything
abbrev pub Clean : (ℕ → Option Fault) → Type 0
Clean ask = (q : ℕ) → ask q ≡ None

-- the first question that finds something finds f
pub record First (ask : ℕ → Option Fault) (f : Fault) : Type 0 where
  pub question : ℕ
  pub found : ask question ≡ Some f
  pub before : (q : ℕ) → q < question → ask q ≡ None

-- a file in which no question about any block finds anything
abbrev pub NoFault : List ℕ → Type 0
NoFault bytes = (b : ℕ) → Clean (finding bytes b)

-- the first fault of a file: the first finding about the first block that has one
pub record FirstFault (bytes : List ℕ) (f : Fault) : Type 0 where
  pub block : ℕ
  pub first : First (finding bytes block) f
  pub before : (b : ℕ) → b < block → Clean (finding bytes b)
