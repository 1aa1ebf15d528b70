use Rattle.std.proofs.Common.{sym}
use Rattle.surveying.proofs.Lines.{read_all, read_passed, record_is_read, read_malformed}
use Rattle.surveying.proofs.reading.read_survey.Goals as goal

pub loop-line-preserved-then-passed_over : goal.loop-line-preserved-then-passed_over
loop-line-preserved-then-passed_over c = read_passed c.loop-line.invariant c.in-Some.after.now c.in-Some.ensures.0 c.in-Some.ensures.1 (sym c.if-passed_over.ensures)

pub loop-line-preserved : goal.loop-line-preserved
loop-line-preserved c =
    record_is_read c.loop-line.invariant c.in-Some.after.now c.in-Some.ensures.0 c.in-Some.ensures.1 _ c.in-Some-read_record.record (sym c.if-passed_over.ensures) c.in-Some-read_record.ensures
    c.in_ok-push.ensures.items
