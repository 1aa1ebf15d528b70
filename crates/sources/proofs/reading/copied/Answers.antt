use Rattle.std.proofs.Common.{sym, subst, arith}
use Rattle.lists.specs.Tables.{lists}
use Rattle.matching.proofs.Rows.{lawful_facts}
use Rattle.sources.proofs.Asked.{CopiedTo, copied_none, copied_put, copied_all}
use Rattle.sources.proofs.reading.copied.Goals as goal

pub loop-door-init : goal.loop-door-init
loop-door-init g c =
    let s = c.args.source.now in
    let ls = g.S.Source.lists s in
    subst (λ r. CopiedTo ls r 0) (sym c.empty-table.ensures)
    (copied_none ls _ (omega (arith, c.count-count.ensures, (lawful_facts ls (g.met.S.Source.sound s)).few)))

pub loop-door-preserved : goal.loop-door-preserved
loop-door-preserved g c =
    let s = c.args.source.now in
    let ls = g.S.Source.lists s in
    copied_put ls (lists c.loop-door.table) (lists c.put.new.self) c.loop-door.door c.list_of.result.now c.put.result (g.met.S.Source.sound s) c.loop-door.invariant
    (omega (arith, c.count-count.ensures)) c.list_of.ensures c.put.ensures.answer c.put.ensures.after

pub returns : goal.returns
returns g c =
    let s = c.args.source.now in
    copied_all (g.S.Source.lists s) (lists c.loop-door.table) c.loop-door.door c.loop-door.invariant (omega (arith, c.count-count.ensures))
