use Rattle.matching.specs.Linkings.{accept, counts_one_way}
use Rattle.matching.proofs.Rows.{lawful_facts}
use Rattle.matching.proofs.Bridge.{accept_pairing, one_way_pairing}
use Rattle.matching.proofs.Decided.{stable_or_blocked}
use Rattle.matching.proofs.one_way.stable_or_blocking.Goals as goal

pub returns : goal.returns
returns c =
    record {
      any = λ ls m h l. stable_or_blocked ls (accept ls) m (lawful_facts ls h) (accept_pairing ls) l;
      one = λ ls sides m h l. stable_or_blocked ls (counts_one_way ls sides) m (lawful_facts ls h) (one_way_pairing ls sides) l;
    }
