-- Level files that are written and read back.
use Rattle.std.proofs.Common.{◌≡◌, ◌↔◌, Bool, true, false, IsTrue, MatchResult, sym, ap, ℕ, ◌+◌, ◌*◌, List, ◌++◌, length, take, Ok, Err, Result, ◌∙◌}
use Rattle.std.proofs.lemmas.Bool.{both_ways}
use Rattle.std.proofs.lemmas.List.{take_at}
use Rattle.codec.specs.Blocks.{baking}
use Rattle.codec.specs.Verdicts.{Opened}
use Rattle.codec.proofs.Accepted.{short_from_lawful}
use Rattle.codec.proofs.Bakings.{baking_apart}
use Rattle.faults.specs.declared.Fault.{Fault}
use Rattle.lists.specs.Tables.{lists}
use Rattle.lists.specs.declared.table.ListTable.{ListTable}
use Rattle.matching.specs.Lists.{lawful}
use Rattle.matching.proofs.Rows.{lawful_facts}
use Rattle.sources.specs.Files.{Baked}

pub baked_whole : (ls : List (List ℕ)) (old new rest : List ℕ) (len : ℕ) (r : Result ℕ Fault) → Baked ls old new r → length old ≡ 512 * (length ls + 1) → length new ≡ len → take len (new ++ rest) ≡ baking ls
baked_whole ls old new rest len (Ok blocks) b size same = take_at new rest len same ∙ b.0
baked_whole ls old new rest len (Err f) b size same = absurd (b.0 size)

-- lists are read back from a file where it is their baking, and only there
pub read_back_where : (ls : List (List ℕ)) (law : lawful ls ≡ true) (file : List ℕ) (r : Result ListTable Fault) (same : Bool) → Opened file r
    → MatchResult r (λ table. IsTrue same ↔ (ls ≡ lists table)) (λ _. same ≡ false) → IsTrue same ↔ (file ≡ baking ls)
read_back_where ls law file (Ok table) same is m =
    (λ t. is ∙ ap baking (sym (m.0 t)), λ e. m.1 (baking_apart ls (lists table) (short_from_lawful ls (lawful_facts ls law)) (short_from_lawful (lists table) (lawful_facts (lists table) table.sound)) (sym e ∙ is)))
read_back_where ls law file (Err f) same is m = (λ t. absurd (both_ways same m t), λ e. absurd (is.1 ls law e))
