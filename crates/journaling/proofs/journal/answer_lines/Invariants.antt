use Rattle.std.proofs.Common.{length, string_bytes}
use Rattle.journaling.proofs.Runs.{ToldTo}
use Rattle.journaling.proofs.journal.answer_lines.Given as goal

abbrev pub invariant-loop-call : goal.invariant-loop-call
invariant-loop-call l = ToldTo l.doors l.calls l.answers (length l.yielded) (string_bytes l.text) l.ledger
