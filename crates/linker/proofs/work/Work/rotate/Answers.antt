use Rattle.std.proofs.Common.{ℕ, List, sym, subst}
use Rattle.linker.specs.Meanings.{lists_in}
use Rattle.linker.specs.Holders.{Marked}
use Rattle.linker.specs.Rounds.{Cut, Keeps, Rotated}
use Rattle.linker.proofs.Cutting.{rotated}
use Rattle.linker.proofs.work.Work.rotate.Goals as goal

pub eliminate-requires : goal.eliminate-requires
eliminate-requires c = rw (c.rotation-rotation.ensures.second, c.rotation-rotation.ensures.doors) c.find_rotation-steps.ensures.rotates

pub returns-clause-rotated : goal.returns-clause-rotated
returns-clause-rotated c =
    let m = c.args.self.now.marks in
    let w = c.find_rotation-steps.new.self in
    let n = c.eliminate.new.self in
    let e = c.eliminate.ensures in
    let q = c.rotation-rotation.ensures.second in
    let doors : List ℕ = c.rotation-rotation.result.doors.now in
    subst (λ t. Rotated (lists_in t) c.args.d m.holder.now n.holder.now n.keep.now n.first.now w.second.now c.check_seconds.result) (sym e.tables)
    (rotated (lists_in m.tables) m.tables.sound.legal c.args.d m.holder.now m.keep.now m.first.now w.second.now n.holder.now n.keep.now n.first.now
    doors c.find_rotation-steps.ensures.lowered (subst (λ s. Cut (lists_in m.tables) m.holder.now n.holder.now s doors) q e.cut) (subst (λ t. Marked (lists_in t) n.holder.now n.keep.now n.first.now) e.tables n.marked)
    c.check_seconds.result (subst (λ s. Keeps doors s n.keep.now c.check_seconds.result) q c.check_seconds.ensures))
