use Rattle.std.proofs.Common.{Some, None, sym, arith}
use Rattle.codec.proofs.Questions.{check_first, byte_first, all_clean}
use Rattle.codec.proofs.verdict.check_block.Goals as goal

pub returns-then-not-is_sealed : goal.returns-then-not-is_sealed
returns-then-not-is_sealed g c = λ ask same. check_first c.args.number c.args.block.now ask c.refuses.result c.refuses.ensures c.if-not-is_sealed.ensures

pub returns-in-Some : goal.returns-in-Some
returns-in-Some g c = λ ask same.
    byte_first c.args.number c.args.block.now ask c.loop-i.i c.in-Some.refusal c.refuses-in-Some.result c.refuses-in-Some.ensures c.if-not-is_sealed.ensures c.loop-i-test.true
    (λ k l. sym (same k None (c.loop-i.invariant k l))) (sym (same c.loop-i.i (Some c.in-Some.refusal) c.in-Some.ensures))

pub returns : goal.returns
returns g c = λ ask same. all_clean c.args.number c.args.block.now ask c.if-not-is_sealed.ensures (λ k l. sym (same k None (c.loop-i.invariant k (omega arith))))
