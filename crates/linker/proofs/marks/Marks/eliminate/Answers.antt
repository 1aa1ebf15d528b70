use Rattle.std.proofs.Common.{◌≡◌, ℕ, ◌+◌, ◌<◌, length, get_or, sym, ap, ◌∙◌, subst, arith}
use Rattle.matching.specs.Lists.{row}
use Rattle.matching.specs.TwoWay.{second, walk}
use Rattle.linker.specs.Meanings.{lists_in}
use Rattle.linker.specs.Holders.{ranks}
use Rattle.linker.specs.Rounds.{Cutting}
use Rattle.linker.proofs.Asked.{told_door}
use Rattle.linker.proofs.Standing.{told_rank, rank_own}
use Rattle.linker.proofs.Cutting.{second_near, second_door, cutting_none, cutting_more, cutting_all, cutting_marked}
use Rattle.linker.proofs.marks.Marks.eliminate.Goals as goal

pub loop-a-init : goal.loop-a-init
loop-a-init c =
    let (way, d, from, turn) = c.requires in (
      way,
      d,
      from,
      turn,
      cutting_none (lists_in c.args.self.now.tables) c.args.self.now.tables.sound.legal c.args.self.now.holder.now way d from c.args.rotation.second.now c.args.rotation.doors.now turn c.args.self.now.keep.now c.args.self.now.first.now c.args.self.now.marked,
    )

pub loop-a-preserved : goal.loop-a-preserved
loop-a-preserved c =
    let t = c.args.self.now.tables in
    let ls = lists_in t in
    let law = c.args.self.now.tables.sound.legal in
    let (way, d, from, turn, cut) = c.loop-a.invariant in
    let j : ℕ = c.loop-a.a-index in
    let x : ℕ = get_or c.args.rotation.doors.now j 0 in
    let p : ℕ = walk way.1 d (from + j) in
    let y : ℕ = c.door-b.result in
    let k : ℕ = c.second_place-k.result in
    let e : x ≡ p = turn.doors j c.loop-a-test.true in
    let s = second_door ls law c.args.self.now.holder.now way d from c.args.rotation.second.now c.args.rotation.doors.now turn j k c.loop-a-test.true c.second_place-k.ensures in
    let near = second_near ls law c.args.self.now.holder.now way d from c.args.rotation.second.now c.args.rotation.doors.now turn j in
    let small : k < length (row ls x) = subst (λ v. k < length (row ls v)) (sym e) (omega (arith, s.0, near, rank_own ls law p)) in
    let same : y ≡ second way.1 p = c.door-b.ensures ∙ told_door t x k small ∙ ap (λ v. get_or (row ls v) k 0) e ∙ s.1 in
    let rank : c.place.result ≡ ranks ls y x =
    c.place.ensures ∙ told_rank t x y (subst (λ v. ranks ls v y < ranks ls v v) (sym e) (subst (λ v. ranks ls p v < ranks ls p p) (sym same) near)) in (
      way,
      d,
      from,
      turn,
      rw (c.put.ensures, c.put-in-loop-a.ensures, c.put-in-loop-a-2.ensures)
          (cutting_more ls law c.args.self.now.holder.now way d from c.args.rotation.second.now c.args.rotation.doors.now turn c.args.self.now.keep.now c.args.self.now.first.now c.args.self.now.marked j x y k c.place.result
          c.loop-a.holder c.loop-a.keep c.loop-a.first e same s.0 rank cut),
    )

pub invariant_of-self : goal.invariant_of-self
invariant_of-self c =
    let ls = lists_in c.args.self.now.tables in
    let law = c.args.self.now.tables.sound.legal in
    let h = c.args.self.now.holder.now in
    let rot = c.args.rotation.doors.now in
    let (way, d, from, turn, cut) = c.loop-a.invariant in
    let all : Cutting ls way.1 d from (length rot) h c.args.self.now.first.now c.loop-a.holder c.loop-a.keep c.loop-a.first =
    subst (λ j. Cutting ls way.1 d from j h c.args.self.now.first.now c.loop-a.holder c.loop-a.keep c.loop-a.first) (omega arith) cut in
    record { marked = cutting_marked ls law h way d from c.args.rotation.second.now rot turn c.args.self.now.keep.now c.args.self.now.first.now c.args.self.now.marked c.loop-a.holder c.loop-a.keep c.loop-a.first all }

pub returns-clause-cut : goal.returns-clause-cut
returns-clause-cut c =
    let ls = lists_in c.args.self.now.tables in
    let law = c.args.self.now.tables.sound.legal in
    let h = c.args.self.now.holder.now in
    let rot = c.args.rotation.doors.now in
    let (way, d, from, turn, cut) = c.loop-a.invariant in
    let all : Cutting ls way.1 d from (length rot) h c.args.self.now.first.now c.loop-a.holder c.loop-a.keep c.loop-a.first =
    subst (λ j. Cutting ls way.1 d from j h c.args.self.now.first.now c.loop-a.holder c.loop-a.keep c.loop-a.first) (omega arith) cut in
    (way, d, from, turn, cutting_all ls law h way d from c.args.rotation.second.now rot turn c.args.self.now.keep.now c.args.self.now.first.now c.args.self.now.marked c.loop-a.holder c.loop-a.keep c.loop-a.first all)
