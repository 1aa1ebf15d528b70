use Rattle.std.proofs.Common.{◌≡◌, ◌+◌, [], get_or, sym, ap, ◌∙◌, subst, arith, below_more, rules}
use Rattle.std.proofs.lemmas.Result.{err_from_is_err_and}
use Rattle.codec.specs.Blocks.{block_of}
use Rattle.codec.specs.Findings.{doors, row_fault, block_finding, Clean, First}
use Rattle.codec.proofs.Accepted.{accepted, block_doors}
use Rattle.codec.proofs.Blocks.{after_header, rows_count, row_is_block}
use Rattle.codec.proofs.Judging.{refused, headAsk, rowAsk, head_ask, row_ask, short_first, head_first, size_first, head_clean, row_first, none_found}
use Rattle.codec.proofs.verdict.check.Goals as goal
use Rattle.codec.proofs.verdict.check.Goals.{In_ok-doors, In-loop-i}

-- what the header says
doors_read : (c : In_ok-doors) → c.in_ok-doors.doors ≡ doors c.args.bytes.now
doors_read c = c.in_ok-doors.ensures.1 ∙ ap (λ b. get_or b 5 0) (c.blocks-2.ensures.each 0 (omega arith)) ∙ block_doors c.args.bytes.now

header_clean : (c : In_ok-doors) → Clean (headAsk c.args.bytes.now)
header_clean c = subst Clean (head_ask c.args.bytes.now (get_or c.blocks-2.result.now 0 []) (c.blocks-2.ensures.each 0 (omega arith))) c.in_ok-doors.ensures.0

-- the questions about the block that a turn reads
row_read : (c : In-loop-i) → c.in_ok-doors.doors ≡ doors c.args.bytes.now
    → block_finding (c.loop-i.i + 1) (get_or (after_header c.blocks-2.result.now) c.loop-i.i []) (row_fault c.in_ok-doors.doors c.loop-i.i (get_or (after_header c.blocks-2.result.now) c.loop-i.i [])) ≡ rowAsk c.args.bytes.now c.loop-i.i
row_read c e =
    let bytes = c.args.bytes.now in
    let blocks = c.blocks-2.result.now in
    let count = rows_count c.in_ok-doors.doors bytes blocks (omega arith) c.blocks-2.ensures.within c.blocks-2.ensures.whole in
    let here = row_is_block c.in_ok-doors.doors bytes blocks (omega arith) c.blocks-2.ensures.within c.blocks-2.ensures.whole c.loop-i.i (omega (arith, count)) c.blocks-2.ensures.each in
    row_ask bytes (get_or (after_header blocks) c.loop-i.i []) c.in_ok-doors.doors c.loop-i.i (c.loop-i.i + 1) e (omega arith) (here ∙ ap (block_of bytes) (omega arith))

pub returns-in_default : goal.returns-in_default
returns-in_default c = refused c.args.bytes.now c.wrong_size.result (short_first c.args.bytes.now c.wrong_size.result c.wrong_size.ensures (omega arith))

pub returns-in_err-doors : goal.returns-in_err-doors
returns-in_err-doors c =
    let p = err_from_is_err_and c.from_residual.result c.from_residual.ensures.1 in
    let f = c.in_err-doors.field-0.0 in
    let first = subst (λ ask. First ask f) (head_ask c.args.bytes.now (get_or c.blocks-2.result.now 0 []) (c.blocks-2.ensures.each 0 (omega arith))) c.in_err-doors.ensures in
    rw (p.1, p.2) (refused c.args.bytes.now f (head_first c.args.bytes.now f (omega arith) first))

pub returns-then-bytes-from : goal.returns-then-bytes-from
returns-then-bytes-from c =
    let h = (goal.at.returns-then-bytes-from c).In_ok-doors in
    let f = c.wrong_size-then-bytes-from.result in
    refused c.args.bytes.now f (size_first c.args.bytes.now f c.wrong_size-then-bytes-from.ensures (omega arith) (header_clean h) (λ e. omega (arith, e, doors_read h)))

pub returns-in_err-check_block : goal.returns-in_err-check_block
returns-in_err-check_block c =
    let h = (goal.at.returns-in_err-check_block c).In_ok-doors in
    let p = err_from_is_err_and c.from_residual-in_err-check_block.result c.from_residual-in_err-check_block.ensures.1 in
    let f = c.in_err-check_block.field-0.0 in
    let bytes = c.args.bytes.now in
    let blocks = c.blocks-2.result.now in
    let head = head_clean bytes (omega arith) (header_clean h) (omega (arith, doors_read h)) in
    let count = rows_count c.in_ok-doors.doors bytes blocks (omega arith) c.blocks-2.ensures.within c.blocks-2.ensures.whole in
    let found = c.in_err-check_block.ensures (row_fault c.in_ok-doors.doors c.loop-i.i (get_or (after_header blocks) c.loop-i.i [])) (λ i r e. search rules) in
    let first = subst (λ ask. First ask f) (row_read (goal.at.returns-in_err-check_block c).In-loop-i (doors_read h)) found in
    rw (p.1, p.2) (refused bytes f (row_first bytes f c.loop-i.i (omega (arith, doors_read h, count)) head c.loop-i.invariant first))

pub loop-i-preserved : goal.loop-i-preserved
loop-i-preserved c =
    let here = (goal.at.loop-i-preserved c).In-loop-i in
    let clean = c.in_ok-check_block.ensures (row_fault c.in_ok-doors.doors c.loop-i.i (get_or (after_header c.blocks-2.result.now) c.loop-i.i [])) (λ i r e. search rules) in
    below_more (λ e. Clean (rowAsk c.args.bytes.now e)) c.loop-i.i c.loop-i.invariant
    (subst Clean (row_read here (doors_read (goal.at.loop-i-preserved c).In_ok-doors)) clean)

pub returns : goal.returns
returns c =
    let h = (goal.at.returns c).In_ok-doors in
    let bytes = c.args.bytes.now in
    let head = head_clean bytes (omega arith) (header_clean h) (omega (arith, doors_read h)) in
    let count = rows_count c.in_ok-doors.doors bytes c.blocks-2.result.now (omega arith) c.blocks-2.ensures.within c.blocks-2.ensures.whole in
    let a = accepted bytes (none_found bytes head (λ e l. c.loop-i.invariant e (omega (arith, doors_read h, count)))) in
    (a.0, a.1, a.2 ∙ sym (doors_read h), a.3)
