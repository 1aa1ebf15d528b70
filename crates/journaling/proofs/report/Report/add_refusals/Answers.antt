use Rattle.std.proofs.Common.{◌≡◌, ◌+◌, ◌-◌, ◌++◌, string_bytes, sym, ap, ◌∙◌, arith}
use Rattle.std.specs.List.{range_with_len, flat_map}
use Rattle.std.proofs.lemmas.List.{append-nil}
use Rattle.faults.specs.Number.{number}
use Rattle.journaling.specs.Answers.{tally}
use Rattle.journaling.specs.Summary.{refusal_line, refusal_lines}
use Rattle.journaling.proofs.Tallies.{lines_more, no_line}
use Rattle.journaling.proofs.report.Report.add_refusals.Goals as goal
use Rattle.journaling.proofs.report.Report.add_refusals.Goals.{in-Ok+in_ok-add_refusal, in_default}

pub loop-number-preserved : goal.loop-number-preserved
loop-number-preserved c =
    let answers = c.args.self.now.answers.now in
    let v = c.loop-number.number in
    let old = string_bytes c.loop-number.text in
    let first = c.loop-number.auto.number in
    lines_more (λ r. refusal_line r (tally answers r)) 1 (v - 1) (v + 1 - 1) v (string_bytes c.args.text.now) old (string_bytes c.match-try_from.text) (omega (arith, first)) (omega (arith, first)) c.loop-number.invariant
    (elim c.match-try_from.branch [
      | in-Ok+in_ok-add_refusal w ↦ ap string_bytes w.text-is ∙ w.in_ok-add_refusal.ensures ∙ ap (λ n. old ++ refusal_line (number w.in-Ok.refusal) n) w.count.ensures
          ∙ ap (λ r. old ++ refusal_line r (tally answers r)) w.in-Ok.ensures
      | in_default w ↦ ap string_bytes w.text-is ∙ sym (append-nil old) ∙ ap (λ l. old ++ l) (sym (no_line v answers first w.in_default.ensures.1))
    ])

pub returns : goal.returns
unfolding refusal_lines
returns c =
    let answers = c.args.self.now.answers.now in
    let last : c.loop-number.number - 1 ≡ 17 = omega arith in
    c.loop-number.invariant ∙ ap (λ n. string_bytes c.args.text.now ++ flat_map (λ r. refusal_line r (tally answers r)) (range_with_len 1 n)) last
