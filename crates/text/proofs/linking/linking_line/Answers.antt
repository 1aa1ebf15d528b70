use Rattle.text.proofs.Written.{line_after}
use Rattle.text.proofs.linking.linking_line.Goals as goal

pub returns : goal.returns
returns c = rw (← line_after c.args.head.now c.args.standing.now c.args.partners.now c.is_empty.result c.is_empty.ensures) c.format.ensures.ok
