use Rattle.std.proofs.Output.{has_written_of_eq}
use Rattle.std.proofs.Common.{sym}
use Rattle.journaling.proofs.Heads.{linked_text_head}
use Rattle.journaling.proofs.answers.OneWayLineDisplay.fmt.Goals as goal

pub returns-clause-writes : goal.returns-clause-writes
returns-clause-writes g c = λ plain ok.
    let line = c.args.self.now in
    has_written_of_eq _ _ _ _ _ (sym (linked_text_head line.standing.now line.proposals line.partners.now)) (c.write.ensures.writes plain ok)
