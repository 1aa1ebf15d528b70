use Rattle.std.proofs.Common.{sym, ◌∙◌, arith}
use Rattle.std.proofs.lemmas.List.{take-set-le}
use Rattle.linker.proofs.Written.{read_listed, read_unlisted, place_fits}
use Rattle.linker.proofs.reading.read_list.Goals as goal
use Rattle.linker.proofs.reading.read_list.Goals.{in-Some, in-None}

pub bounds-lists-base : goal.bounds-lists-base
bounds-lists-base g c =
    let s = c.args.source.now in
    omega (arith, c.requires.lists_room, place_fits (g.S.Source.lists s) c.args.x c.loop-y.y c.in-Some.at (g.met.S.Source.sound s) (sym c.place.ensures ∙ c.in-Some.is))

pub loop-y-preserved : goal.loop-y-preserved
loop-y-preserved g c =
    let s = c.args.source.now in
    let ls = g.S.Source.lists s in
    let law = g.met.S.Source.sound s in
    let base = c.args.base in
    let at = c.loop-y in
    elim c.match-place.branch [
      | in-Some w ↦
          let e = sym c.place.ensures ∙ w.in-Some.is in
          rw (w.lists-is, w.places-is) (
            read_listed ls c.args.x law base at.y at.lists at.places at.invariant.0 w.in-Some.at e
                (omega (arith, c.requires.lists_room, place_fits ls c.args.x at.y w.in-Some.at law e)) (omega (arith, c.requires.places_room, c.count-y-end.ensures)),
            take-set-le base at.lists _ _ (omega arith) ∙ at.invariant.1,
            take-set-le base at.places _ _ (omega arith) ∙ at.invariant.2,
          )
      | in-None w ↦
          rw (w.lists-is, w.places-is) (
            read_unlisted ls c.args.x law base at.y at.lists at.places at.invariant.0 (sym c.place.ensures ∙ w.in-None.is) (omega (arith, c.requires.places_room, c.count-y-end.ensures)),
            at.invariant.1,
            take-set-le base at.places _ _ (omega arith) ∙ at.invariant.2,
          )
    ]
