use Rattle.std.proofs.Common.{sym}
use Rattle.lists.proofs.Filling.{filled_none, more}
use Rattle.lists.proofs.row.Row.of.Goals as goal

pub loop-i-init : goal.loop-i-init
loop-i-init c = filled_none c.args.count c.args.own c.args.list.now

pub loop-i-preserved : goal.loop-i-preserved
loop-i-preserved c =
    rw c.from-in-loop-i.ensures (more c.args.count c.args.own c.args.list.now c.loop-i.places c.loop-i.i c.loop-i.invariant c.loop-i-test.true c.in-Ok.ensures.1
    c.if-door-count.false c.requires c.if-door-own.false (rw (← c.from.ensures) (sym c.if-is_some.ensures)))
