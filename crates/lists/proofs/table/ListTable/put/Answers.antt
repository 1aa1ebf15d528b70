use Rattle.std.proofs.Common.{◌∙◌, refl, arith}
use Rattle.std.proofs.lemmas.List.{length-set}
use Rattle.lists.specs.Rows.{row_list}
use Rattle.lists.proofs.Whole.{rows_lawful}
use Rattle.lists.proofs.table.ListTable.put.Goals as goal

pub invariant_of-self-clause-sound : goal.invariant_of-self-clause-sound
invariant_of-self-clause-sound c =
    let t = c.args.self.now in
    rw c.from.ensures (rows_lawful row_list t.rows t.count (omega arith) c.args.door c.in-Some.row t.sound c.if-door-self.false (rw c.in-Some.ensures.same (c.in-Some.ensures.lawful.0 refl)))

pub invariant_of-self-clause-whole : goal.invariant_of-self-clause-whole
invariant_of-self-clause-whole c = length-set c.args.self.now.rows c.from.result c.in-Some.row ∙ c.args.self.now.whole
