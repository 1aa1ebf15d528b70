-- The text of a survey.
use Rattle.std.specs.Prelude.{◌≡◌, ℕ, ◌+◌, ◌^◌, ◌<◌, Bool, true, false, not, List, [], ◌∷◌, ◌++◌, map, length, take, Some, None, decimal, filter, Option, ◌==◌, ◌≢◌, slice_index_or}
use Rattle.std.specs.Int.Signed.{mag}
use Rattle.std.specs.Fmt.{signed_decimal}
use Rattle.std.specs.List.{AllByRecursion}
use Rattle.survey.specs.declared.Record.{Record}

-- a line that is passed over: empty, or one that begins with `#`
abbrev pub passed : List ℕ → Bool
passed [] = true
passed (c ∷ cs) = c == 35

-- the text of a record: east, north and kind, with one space between
abbrev pub record_text : Record → List ℕ
record_text r = signed_decimal r.east ++ (32 ∷ (signed_decimal r.north ++ (32 ∷ decimal r.kind)))

-- numbers that a record can hold: positions from -32768 to 32767, kinds below 256
pub record InRange (r : Record) : Type 0 where
  pub east : mag r.east < 2 ^ 15
  pub north : mag r.north < 2 ^ 15
  pub kind : r.kind < 2 ^ 8

-- a line is read as the record whose text it is
abbrev pub ReadsRecord : List ℕ → Option Record → Type 0
ReadsRecord line (Some r) = InRange r × (line ≡ record_text r)
ReadsRecord line None = (r : Record) → InRange r → line ≢ record_text r

-- the lines say these records: those that are not passed over are their texts, in order
pub record Says (ls : List (List ℕ)) (rs : List Record) : Type 0 where
  pub texts : filter (λ l. not (passed l)) ls ≡ map record_text rs
  pub in_range : AllByRecursion InRange rs

-- line n, counted from 1, is the first that is neither passed over nor a record's text
pub record MalformedAt (ls : List (List ℕ)) (n : ℕ) : Type 0 where
  pub before : List Record
  pub index : ℕ
  pub counted : n ≡ index + 1
  pub within : index < length ls
  pub says : Says (take index ls) before
  pub kept : passed (slice_index_or ls index []) ≡ false
  pub wrong : ReadsRecord (slice_index_or ls index []) None
