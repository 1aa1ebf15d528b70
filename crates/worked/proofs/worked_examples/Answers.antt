use Rattle.std.proofs.Common.{[], ◌∷◌, refl}
use Rattle.codec.specs.Blocks.{weighed, block_check, padded, sealed, header, row_block, row_blocks, baking, block_of}
use Rattle.lists.specs.Edits.{promoted}
use Rattle.matching.proofs.Worked.{works_out, worked}
use Rattle.matching.proofs.WorkedTables.{links, links_outcome, empties, empties_outcome}
use Rattle.matching.specs.Lists.{place}
use Rattle.sources.specs.Layers.{reached}
use Rattle.survey.proofs.Ground.{arch_law}
use Rattle.worked.specs.Examples.{ring, four_doors, six_doors}
use Rattle.worked.proofs.worked_examples.Goals as goal

-- for each linking who proposes in turn, and which rotations are eliminated
pub returns : goal.returns
unfolding links empties works_out place weighed block_check padded sealed header row_block row_blocks baking block_of
returns c =
    record {
      none_stable = empties_outcome ring (0 ∷ 1 ∷ 2 ∷ []) [] (record { door = 0; after = 0; period = 3 }) 0 refl;
      favoured = links_outcome (promoted 1 0 ring) (0 ∷ 1 ∷ 2 ∷ 3 ∷ []) [] refl;
      near = links_outcome (reached 1 ring) [] [] refl;
      nobody = links_outcome [] [] [] refl;
      turned = links_outcome four_doors (0 ∷ 1 ∷ 2 ∷ 3 ∷ []) (record { door = 0; after = 0; period = 2 } ∷ []) refl;
      four = worked four_doors (0 ∷ 0 ∷ 1 ∷ 1 ∷ []) (0 ∷ 1 ∷ []) (2 ∷ 3 ∷ 0 ∷ 1 ∷ []) refl refl;
      six = worked six_doors (0 ∷ 0 ∷ 0 ∷ 1 ∷ 1 ∷ 1 ∷ []) (0 ∷ 1 ∷ 2 ∷ 2 ∷ 0 ∷ 0 ∷ []) (4 ∷ 5 ∷ 3 ∷ 2 ∷ 0 ∷ 1 ∷ []) refl refl;
      arches = arch_law;
      checks = ((refl, refl), (refl, refl), (refl, refl));
      no_doors = (refl, refl);
    }
