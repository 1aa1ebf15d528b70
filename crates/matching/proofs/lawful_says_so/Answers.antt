use Rattle.matching.proofs.Rows.{lawful_facts, lawful_from_facts}
use Rattle.matching.proofs.lawful_says_so.Goals as goal

pub returns : goal.returns
returns c = (lawful_facts, lawful_from_facts)
