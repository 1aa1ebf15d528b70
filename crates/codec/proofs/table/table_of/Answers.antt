use Rattle.std.proofs.Common.{◌≡◌, ℕ, suc, ◌+◌, ◌*◌, ◌<◌, min, List, [], length, set, ap, ◌∙◌, arith}
use Rattle.std.proofs.lemmas.List.{length-replicate, length-set}
use Rattle.lists.specs.Tables.{lists}
use Rattle.codec.specs.Blocks.{block_of, list_in}
use Rattle.codec.proofs.Blocks.{after_header, rows_count, row_is_block}
use Rattle.codec.proofs.Reading.{contents, put_takes, put_after, read_more}
use Rattle.codec.proofs.table.table_of.Goals as goal
use Rattle.codec.proofs.table.table_of.Goals.{After-blocks-2}

size : (c : After-blocks-2) → length c.args.bytes.now ≡ 512 * (c.args.n + 1)
size c = (contents c.args.n c.args.bytes.now c.requires).size

rows : (c : After-blocks-2) → length (after_header c.blocks-2.result.now) ≡ c.args.n
rows c = rows_count c.args.n c.args.bytes.now c.blocks-2.result.now (size c) c.blocks-2.ensures.within c.blocks-2.ensures.whole

pub slice_bounds-row-items-count : goal.slice_bounds-row-items-count
slice_bounds-row-items-count c = omega (arith, size (goal.at.slice_bounds-row-items-count c).After-blocks-2)

pub slice_bounds-row-items-start : goal.slice_bounds-row-items-start
slice_bounds-row-items-start c = omega (arith, size (goal.at.slice_bounds-row-items-start c).After-blocks-2)

pub loop-i-init : goal.loop-i-init
loop-i-init c =
    let few = (contents c.args.n c.args.bytes.now c.requires).few in
    record { count = ap length c.empty-table.ensures ∙ length-replicate {A = List ℕ} (min c.args.n 96) [] ∙ omega arith; read = λ e l. absurd (omega arith) }

pub overflow_cast-i : goal.overflow_cast-i
overflow_cast-i c = omega (arith, rows (goal.at.overflow_cast-i c).After-blocks-2)

pub loop-i-preserved : goal.loop-i-preserved
loop-i-preserved c =
    let h = (goal.at.loop-i-preserved c).After-blocks-2 in
    let n = c.args.n in
    let bytes = c.args.bytes.now in
    let d = c.loop-i.i in
    let list = c.list_in.result.now in
    let old = lists c.loop-i.table in
    let near : d < n = omega (arith, rows h) in
    let read : list ≡ list_in (block_of bytes (suc d)) =
    c.list_in.ensures ∙ ap list_in (row_is_block n bytes c.blocks-2.result.now (size h) c.blocks-2.ensures.within c.blocks-2.ensures.whole d near c.blocks-2.ensures.each) in
    let taken = put_takes c.put.result n (length old) d list (list_in (block_of bytes (suc d))) c.put.ensures.answer c.loop-i.invariant.count near read ((contents n bytes c.requires).each d near) in
    let after : lists c.put.new.self ≡ set old d list = put_after c.put.result (lists c.put.new.self) old d list c.put.ensures.after taken in
    record {
      count = ap length after ∙ length-set old d list ∙ c.loop-i.invariant.count;
      read = read_more old (lists c.put.new.self) list n d (λ e. list_in (block_of bytes (suc e))) c.loop-i.invariant.count near after read c.loop-i.invariant.read;
    }

pub returns : goal.returns
returns c =
    (contents c.args.n c.args.bytes.now c.requires).whole (lists c.loop-i.table) c.loop-i.invariant.count
    (λ d l. c.loop-i.invariant.read d (omega (arith, rows (goal.at.returns c).After-blocks-2)))
