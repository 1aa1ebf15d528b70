use Rattle.std.proofs.Common.{[], replicate, ap, ◌∙◌, rules, arith}
use Rattle.lists.specs.Rows.{row_list}
use Rattle.lists.proofs.Whole.{rows_empty, lawful_empty}
use Rattle.lists.proofs.table.ListTable.empty.Goals as goal

pub invariant_of-result-clause-sound : goal.invariant_of-result-clause-sound
invariant_of-result-clause-sound c =
    let made = c.from_fn.ensures.items in
    rw (rows_empty row_list c.from_fn.result c.min.result (omega (arith, c.min.ensures, made.long)) (λ i e h. let called = made.at i e (omega (arith, made.long)) in search rules))
    (lawful_empty c.min.result (omega (arith, c.min.ensures)))

pub returns : goal.returns
returns c =
    let made = c.from_fn.ensures.items in
    rows_empty row_list c.from_fn.result c.min.result (omega (arith, c.min.ensures, made.long)) (λ i e h. let called = made.at i e (omega (arith, made.long)) in search rules)
    ∙ ap (λ n. replicate n []) c.min.ensures
