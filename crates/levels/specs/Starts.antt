-- The start of a file decides the verdict on it.
use Rattle.std.specs.Prelude.{ℕ, ◌+◌, ◌*◌, List, take, Result}
use Rattle.faults.specs.declared.Fault.{Fault}
use Rattle.lists.specs.declared.table.ListTable.{ListTable}
use Rattle.codec.specs.Verdicts.{Judged, Opened}

-- one byte more than the longest level file has: 96 doors and the header
abbrev pub enough : ℕ
enough = 512 * 97 + 1

-- what the check says of the first bytes of a file, however long, it says of the whole; and so does reading
abbrev pub StartDecides : Type 0
StartDecides =
    ((bytes : List ℕ) (verdict : Result ℕ Fault) → Judged (take enough bytes) verdict → Judged bytes verdict)
    × ((bytes : List ℕ) (read : Result ListTable Fault) → Opened (take enough bytes) read → Opened bytes read)
