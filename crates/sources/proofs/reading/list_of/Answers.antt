use Rattle.std.proofs.Common.{take, sym, ap, ◌∙◌, arith}
use Rattle.sources.proofs.Asked.{read_listed, read_unlisted, read_all, row_short, place_short}
use Rattle.sources.proofs.reading.list_of.Goals as goal
use Rattle.sources.proofs.reading.list_of.Goals.{in-Some, in_default}

pub bounds-buffer-from : goal.bounds-buffer-from
bounds-buffer-from g c =
    let s = c.args.source.now in
    let near = place_short (g.S.Source.lists s) c.args.door c.loop-other.other c.in-Some.at (g.met.S.Source.sound s) (sym c.place.ensures ∙ c.in-Some.is) in
    omega (arith, near, c.from.ensures)

pub loop-other-preserved : goal.loop-other-preserved
loop-other-preserved g c =
    let s = c.args.source.now in
    let ls = g.S.Source.lists s in
    let law = g.met.S.Source.sound s in
    elim c.match-place.branch [
      | in-Some w ↦ rw (w.buffer-is, w.from.ensures) (read_listed ls c.args.door law c.loop-other.buffer c.loop-other.other c.loop-other.invariant w.in-Some.at (sym c.place.ensures ∙ w.in-Some.is))
      | in_default w ↦ rw w.buffer-is (read_unlisted ls c.args.door law c.loop-other.buffer c.loop-other.other c.loop-other.invariant (sym c.place.ensures ∙ w.in_default.is))
    ]

pub shared_ref_as_front-result : goal.shared_ref_as_front-result
shared_ref_as_front-result g c =
    let s = c.args.source.now in
    omega (arith, c.length.ensures, row_short (g.S.Source.lists s) c.args.door (g.met.S.Source.sound s), c.loop-other.invariant.whole)

pub returns : goal.returns
returns g c =
    let s = c.args.source.now in
    let ls = g.S.Source.lists s in
    ap (λ k. take k c.loop-other.buffer) (c.from-2.ensures ∙ c.length.ensures)
    ∙ read_all ls c.args.door c.loop-other.buffer c.loop-other.other (g.met.S.Source.sound s) c.loop-other.invariant (omega (arith, c.count-other-end.ensures))
