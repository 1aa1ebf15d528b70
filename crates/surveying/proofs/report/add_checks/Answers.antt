use Rattle.std.proofs.Common.{◌≡◌, ◌++◌, length, string_bytes, codes, decimal, refl, ap, ◌∙◌, append_assoc, rules}
use Rattle.std.proofs.lemmas.List.{length_push}
use Rattle.surveying.specs.Summary.{check_line, check_lines}
use Rattle.surveying.proofs.Checks.{block_turn, block_end, checks_more}
use Rattle.surveying.proofs.report.add_checks.Goals as goal

pub loop-block-preserved : goal.loop-block-preserved
loop-block-preserved c =
    let file = c.args.file.now in
    let n = length c.loop-block.yielded in
    let turn = block_turn file c.loop-block.yielded c.into_iter-block-iterator.result c.loop-block.block-iterator c.next.new.self c.next.result (search rules) (search rules) (search rules)
    c.loop-block.yielded_by (c.in-Some.block, c.in-Some.bytes) c.in-Some.is c.next.ensures.steps in
    let line : codes "check " ++ (decimal c.in-Some.block ++ (codes " " ++ (decimal c.block_check.result ++ codes "\n"))) ≡ check_line file n = rw (turn.0, c.block_check.ensures, turn.1) refl in
    rw length_push (c.in_ok-writeln.ensures.bytes ∙ ap (λ l. string_bytes c.loop-block.text ++ l) line ∙ ap (λ t. t ++ check_line file n) c.loop-block.invariant
    ∙ append_assoc (string_bytes c.args.text.now) (check_lines file n) (check_line file n) ∙ ap (λ l. string_bytes c.args.text.now ++ l) (checks_more file n))
