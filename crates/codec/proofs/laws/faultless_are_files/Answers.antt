use Rattle.std.proofs.Common.{refl, ⊎_elim}
use Rattle.codec.specs.Blocks.{baking}
use Rattle.codec.proofs.Accepted.{accepted}
use Rattle.codec.proofs.Judging.{refused}
use Rattle.codec.proofs.Searches.{fault_or_none}
use Rattle.codec.proofs.laws.faultless_are_files.Goals as goal

pub returns : goal.returns
returns c = record {
  files = λ bytes none. ⊎_elim (λ w. absurd (none w.0 w.1)) (λ clean. let a = accepted bytes clean in (a.0, a.1, a.3)) (fault_or_none bytes);
  faultless = λ ls law f w. (refused (baking ls) f w).1 ls law refl;
}
