use Rattle.matching.proofs.Kept.{lawful_short}
use Rattle.matching.proofs.lawful_lists_are_short.Goals as goal

pub returns : goal.returns
returns c = lawful_short
