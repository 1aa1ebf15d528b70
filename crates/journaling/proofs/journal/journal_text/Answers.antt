use Rattle.std.proofs.Common.{◌≡◌, length, vec_items, string_bytes, sym, ap, ◌∙◌, subst}
use Rattle.std.proofs.lemmas.Result.{IfOk-weaker}
use Rattle.matching.proofs.Rows.{lawful_facts}
use Rattle.replay.specs.Law.{Answered, Law}
use Rattle.text.specs.Texts.{lines}
use Rattle.journaling.specs.Calls.{LineCalls}
use Rattle.journaling.specs.Journal.{Journal, journal_text}
use Rattle.journaling.proofs.Runs.{journal_told}
use Rattle.journaling.proofs.journal.journal_text.Goals as goal

pub run_text-requires : goal.run_text-requires
run_text-requires g c =
    let source = c.args.source.now in
    let ls = g.S.Source.lists source in
    let law = c.in_ok-answers.ensures in (
      ls,
      (lawful_facts ls (g.met.S.Source.sound source)).few,
      subst (λ x. Answered ls x c.as_slice-3.result.now) (c.as_slice.ensures.value ∙ sym c.as_slice-2.ensures.value)
          (subst (λ y. Answered ls c.as_slice.result.now y) (sym c.as_slice-3.ensures.value) law.answered),
    )

pub returns : goal.returns
returns g c =
    let ls = g.S.Source.lists c.args.source.now in
    let input = c.args.input.now in
    let calls = vec_items c.in_ok-calls.calls in
    let answers = vec_items c.in_ok-answers.answers in
    let doors = c.count-doors.ensures in
    IfOk-weaker c.run_text.result (λ s. string_bytes s ≡ journal_text c.count-doors.result c.as_slice-2.result.now c.as_slice-3.result.now) (λ s. Journal ls input (string_bytes s))
    (λ s e. journal_told ls input (string_bytes s) calls answers (subst (λ n. LineCalls n (lines input) calls) doors c.in_ok-calls.ensures)
    (subst (λ cs. Law ls cs answers) c.as_slice.ensures.value c.in_ok-answers.ensures)
    (e ∙ ap (λ n. journal_text n c.as_slice-2.result.now c.as_slice-3.result.now) doors ∙ ap (λ cs. journal_text (length ls) cs c.as_slice-3.result.now) c.as_slice-2.ensures.value ∙ ap (journal_text (length ls) calls) c.as_slice-3.ensures.value))
    c.run_text.ensures
