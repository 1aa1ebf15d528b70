use Rattle.std.proofs.Common.{◌+◌, set, sym, subst, arith}
use Rattle.linker.specs.Tables.{ReadTo}
use Rattle.linker.proofs.Written.{written_more}
use Rattle.linker.proofs.reading.read_lists.Goals as goal

pub loop-x-preserved : goal.loop-x-preserved
loop-x-preserved g c =
    let s = c.args.source.now in
    let ls = g.S.Source.lists s in
    let at = c.loop-x in
    subst (λ v. ReadTo ls (at.x + 1) c.read_list.new.lists c.read_list.new.places (set at.sizes at.x v)) (sym c.length.ensures)
    (written_more ls c.count-count.result at.x at.lists at.places at.sizes c.read_list.new.lists c.read_list.new.places (g.met.S.Source.sound s)
    c.count-count.ensures (omega arith) (omega (arith, c.requires.sizes_room, c.count-count.ensures)) at.invariant c.read_list.ensures.read c.read_list.ensures.lists_before c.read_list.ensures.places_before)
