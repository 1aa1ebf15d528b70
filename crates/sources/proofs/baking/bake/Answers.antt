use Rattle.std.proofs.Common.{◌≡◌, ◌+◌, ◌*◌, ◌≤◌, length, take, ap, ◌∙◌, arith}
use borrow.Rule.Slice.PartMut.{same_len_mid}
use Rattle.std.proofs.lemmas.List.{length-take, length-drop, length-take-le}
use Rattle.codec.proofs.BakeLoop.{written_fits, bake_none, bake_more, bake_all}
use Rattle.matching.proofs.Rows.{lawful_facts}
use Rattle.sources.proofs.Asked.{row_short}
use Rattle.sources.proofs.baking.bake.Goals as goal

pub overflow_add-result : goal.overflow_add-result
overflow_add-result g c = omega (arith, c.count-count.ensures, (lawful_facts (g.S.Source.lists c.args.source.now) (g.met.S.Source.sound c.args.source.now)).few)

pub loop-door-init : goal.loop-door-init
loop-door-init g c =
    let room : 512 ≤ length c.args.out.now = omega arith in
    let fits : length (take 512 c.args.out.now) ≡ 512 = length-take-le 512 c.args.out.now room in (
      same_len_mid 0 512 c.args.out.now c.write_header.new.block c.write_header.auto.block ∙ c.if-out-from.false ∙ ap (λ k. 512 * (k + 1)) (c.from.ensures ∙ c.count-count.ensures),
      bake_none c.count-count.result (g.S.Source.lists c.args.source.now) c.write_header.new.block _ c.count-count.ensures
          (written_fits _ _ _ c.write_header.result c.write_header.ensures fits),
    )

pub loop-door-preserved : goal.loop-door-preserved
loop-door-preserved g c =
    let ls = g.S.Source.lists c.args.source.now in
    let list = c.list_of-list.result.now in
    let few : length list ≤ 96 = omega (arith, ap length c.list_of-list.ensures, row_short ls c.loop-door.door (g.met.S.Source.sound c.args.source.now)) in
    let room : 512 * (c.from-in-loop-door.result + 1) + 512 ≤ length c.loop-door.out = omega (arith, c.loop-door.invariant.0, c.from-in-loop-door.ensures, c.count-count.ensures) in (
      same_len_mid _ _ c.loop-door.out c.write_row.new.block c.write_row.auto.block ∙ c.loop-door.invariant.0,
      bake_more c.loop-door.door _ _ ls list c.loop-door.out c.write_row.new.block (ap (λ k. 512 * (k + 1)) c.from-in-loop-door.ensures) (omega arith) (omega (arith, c.count-count.ensures)) c.list_of-list.ensures (omega arith)
          (written_fits _ _ _ c.write_row.result c.write_row.ensures (simp (length-take, length-drop) (omega arith), omega arith)) c.loop-door.invariant.1,
    )

pub returns : goal.returns
returns g c = (
  bake_all c.loop-door.door (g.S.Source.lists c.args.source.now) c.loop-door.out (omega (arith, c.count-count.ensures)) (omega (arith, c.count-count.ensures, c.loop-door.invariant.0)) c.loop-door.invariant.1,
  ap (λ k. k + 1) c.count-count.ensures,
)
