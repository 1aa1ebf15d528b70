use Rattle.std.proofs.Common.{true, false, ap, ◌∙◌, rules}
use Rattle.std.proofs.lemmas.List.{length_push}
use Rattle.text.specs.Lines.{partner}
use Rattle.text.proofs.Numbered.{pair_turn, pair_end}
use Rattle.text.proofs.Written.{written_more, written_all}
use Rattle.text.proofs.linking.LinkingDisplay.fmt.Goals as goal

pub loop-door-preserved : goal.loop-door-preserved
loop-door-preserved g c = λ plain.
    let i = c.loop-door.invariant plain in
    let ss = c.args.self.now.standing.now in
    let ps = c.args.self.now.partners.now in
    let turn = pair_turn ss ps c.loop-door.yielded c.into_iter-door-iterator.result c.loop-door.door-iterator c.next.new.self c.next.result (search rules) (search rules) (search rules) c.loop-door.yielded_by
    (c.in-Some.door, (c.in-Some.stands, c.in-Some.held)) c.in-Some.is c.next.ensures.steps in
    rw length_push (written_more i c.write.new.self c.in-Some.stands.now c.in-Some.door c.partner.result c.is_said-begun.result turn.0 turn.1 (turn.3 false) turn.2
    (c.partner.ensures ∙ ap partner (turn.4 0)) c.is_said-begun.ensures (c.in_ok-write.ensures.writes i.wrote.plain (λ j. true)))

pub returns-clause-writes : goal.returns-clause-writes
returns-clause-writes g c = λ plain ok.
    let ss = c.args.self.now.standing.now in
    let ps = c.args.self.now.partners.now in
    let end = pair_end ss ps c.loop-door.yielded c.into_iter-door-iterator.result c.loop-door.door-iterator c.next.new.self c.next.result (search rules) (search rules) (search rules) c.loop-door.yielded_by c.in-None.is c.next.ensures.steps in
    written_all (c.loop-door.invariant plain) end
