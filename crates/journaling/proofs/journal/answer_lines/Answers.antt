use Rattle.std.proofs.Common.{string_bytes, length, arith, rules}
use Rattle.std.proofs.lemmas.List.{length_push}
use Rattle.std.proofs.lemmas.Slice.Zip.{zip_turn, zip_end}
use Rattle.replay.specs.declared.calls.Answer.TheVariants.{NotShown}
use Rattle.replay.specs.declared.calls.Call.TheVariants.{Claim}
use Rattle.journaling.proofs.Runs.{told_none, told_more, told_all}
use Rattle.journaling.proofs.journal.answer_lines.Goals as goal

pub loop-call-init : goal.loop-call-init
loop-call-init c = told_none c.args.doors c.args.calls.now c.args.answers.now _ c.in_ok-ledger.ledger c.requires c.new-text.ensures.bytes c.in_ok-ledger.ensures

pub loop-call-preserved : goal.loop-call-preserved
loop-call-preserved c =
    let calls = c.args.calls.now in
    let answers = c.args.answers.now in
    let turn = zip_turn calls answers c.loop-call.yielded c.into_iter-call-iterator.result c.loop-call.call-iterator c.next.new.self c.next.result (search rules) (search rules) c.loop-call.yielded_by
    (c.in-Some.call, c.in-Some.answer) c.in-Some.is c.next.ensures.steps in
    rw length_push (told_more c.args.doors calls answers (length c.loop-call.yielded) (string_bytes c.loop-call.text) c.loop-call.ledger c.loop-call.invariant (string_bytes c.add_line.new.text) c.note.new.self
    c.deref.result.now c.in-Some.call.now c.in-Some.answer.now turn.1 (turn.2 (Claim 0)) (turn.3 NotShown) c.deref.ensures.value c.in_ok-add_line.ensures c.in_ok-note.ensures)

pub returns : goal.returns
returns c =
    let calls = c.args.calls.now in
    let answers = c.args.answers.now in
    let end = zip_end calls answers c.loop-call.yielded c.into_iter-call-iterator.result c.loop-call.call-iterator c.next.new.self c.next.result (search rules) (search rules) c.loop-call.yielded_by c.in-None.is c.next.ensures.steps in
    told_all c.args.doors calls answers (length c.loop-call.yielded) (string_bytes c.loop-call.text) c.loop-call.ledger c.loop-call.invariant (omega (arith, c.loop-call.invariant.answered.each))
