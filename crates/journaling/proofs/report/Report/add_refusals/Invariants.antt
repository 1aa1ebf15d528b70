use Rattle.std.proofs.Common.{◌≡◌, ◌-◌, ◌++◌, string_bytes}
use Rattle.std.specs.List.{range_with_len, flat_map}
use Rattle.journaling.specs.Answers.{tally}
use Rattle.journaling.specs.Summary.{refusal_line}
use Rattle.journaling.proofs.report.Report.add_refusals.Given as goal

abbrev pub invariant-loop-number : goal.invariant-loop-number
invariant-loop-number l = string_bytes l.text ≡ string_bytes l.initial.text ++ flat_map (λ v. refusal_line v (tally l.self.answers.now v)) (range_with_len 1 (l.number - 1))
