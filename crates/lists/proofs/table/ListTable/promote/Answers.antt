use Rattle.std.proofs.Common.{sym, ap, ◌∙◌, arith}
use Rattle.matching.specs.Lists.{without}
use Rattle.lists.specs.Rows.{row_list}
use Rattle.lists.specs.Tables.{lists}
use Rattle.lists.proofs.Edited.{room_without}
use Rattle.lists.proofs.Whole.{rows_length, rows_at}
use Rattle.lists.proofs.table.ListTable.promote.Goals as goal

pub insert-requires : goal.insert-requires
insert-requires c =
    let t = c.args.self.now in
    let n = rows_length row_list t.rows t.count (omega arith) in
    let room = room_without (lists t) c.args.door c.args.other c.without-list.result.items t.sound (omega (arith, n, c.if-door-self.false))
    (rw (← c.from.ensures) c.without-list.ensures ∙ ap (without c.args.other) (sym (rows_at row_list t.rows t.count (omega arith) c.args.door c.index-self-from.result c.if-door-self.false))) in
    (omega arith, (omega arith, room))
