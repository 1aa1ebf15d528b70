use Rattle.std.proofs.Common.{◌≡◌, ◌++◌, length, string_bytes}
use Rattle.surveying.specs.Summary.{check_lines}
use Rattle.surveying.proofs.report.add_checks.Given as goal

abbrev pub invariant-loop-block : goal.invariant-loop-block
invariant-loop-block l = string_bytes l.text ≡ string_bytes l.fn.text ++ check_lines l.file (length l.yielded)
