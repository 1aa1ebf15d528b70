use Rattle.std.proofs.Common.{ℕ, List, take, Ok, Err, Result}
use Rattle.faults.specs.declared.Fault.{Fault}
use Rattle.lists.specs.declared.table.ListTable.{ListTable}
use Rattle.lists.specs.Tables.{lists}
use Rattle.codec.specs.Verdicts.{Judged, Opened, RefusedFor}
use Rattle.codec.proofs.Judging.{refused}
use Rattle.levels.specs.Starts.{enough}
use Rattle.levels.proofs.Longer.{whole_first, whole_file}
use Rattle.levels.proofs.start_decides.Goals as goal

whole_refused : (bytes : List ℕ) (f : Fault) → RefusedFor f (take enough bytes) → RefusedFor f bytes
whole_refused bytes f w = refused bytes f (whole_first bytes f w.0)

judged : (bytes : List ℕ) (verdict : Result ℕ Fault) → Judged (take enough bytes) verdict → Judged bytes verdict
judged bytes (Ok n) w = (w.0, w.1, w.2, whole_file bytes w.0 w.1 w.3)
judged bytes (Err f) w = whole_refused bytes f w

opened : (bytes : List ℕ) (read : Result ListTable Fault) → Opened (take enough bytes) read → Opened bytes read
opened bytes (Ok t) w = whole_file bytes (lists t) t.sound w
opened bytes (Err f) w = whole_refused bytes f w

pub returns : goal.returns
returns c = (judged, opened)
