use Rattle.std.proofs.Common.{get_or, set, sym, ap, ◌∙◌, subst, arith}
use Rattle.std.proofs.lemmas.List.{get_or_default}
use Rattle.linker.specs.Meanings.{lists_in}
use Rattle.linker.proofs.Standing.{tables_count}
use Rattle.linker.proofs.Ended.{Telling, telling_skip, telling_more, telling_all, going_all, going_long}
use Rattle.linker.proofs.exits.Exits.write_partners.Goals as goal
use Rattle.linker.proofs.exits.Exits.write_partners.Goals.{then-x, else-x}

pub overflow_cast-y : goal.overflow_cast-y
overflow_cast-y c =
    let s = c.args.self.now in
    omega (arith, c.loop-y-test.true, s.sided.tables.sound.legal.few, going_long (lists_in s.sided.tables) s.sided.sides.now s.sided.tables.sound.legal s.sided.tables.count s.made s.next.now s.held.now c.requires.going)

pub loop-y-preserved : goal.loop-y-preserved
loop-y-preserved c =
    let s = c.args.self.now in
    let held = s.held.now in
    let m = c.loop-y.out in
    let y = c.loop-y.y in
    let x = get_or_default held y 0 65535 c.loop-y-test.true in
    elim c.if-x.branch [
      | then-x w ↦ subst (Telling held _) (sym (w.out-is ∙ w.put-then-x.ensures ∙ ap (λ l. set l (get_or held y 0) y) w.put.ensures))
          (telling_more held m y c.loop-y.invariant (get_or held y 0) x w.if-x.true
          (omega (arith, c.requires.room, c.fill.ensures.len, c.loop-y.auto.out, tables_count s.sided.tables, going_long (lists_in s.sided.tables) s.sided.sides.now s.sided.tables.sound.legal s.sided.tables.count s.made s.next.now s.held.now c.requires.going)))
      | else-x w ↦ subst (Telling held _) (sym w.out-is) (telling_skip held m y c.loop-y.invariant (sym x ∙ w.if-x.false))
    ]

pub returns : goal.returns
returns c =
    let s = c.args.self.now in
    let t = s.sided.tables in
    let long = going_long (lists_in t) s.sided.sides.now t.sound.legal t.count s.made s.next.now s.held.now c.requires.going in
    going_all (lists_in t) s.sided.sides.now t.sound.legal t.count s.made s.next.now s.held.now c.loop-y.out (sym (tables_count t)) c.requires.going
    (λ a r h. telling_all s.held.now c.loop-y.out c.loop-y.y c.loop-y.invariant c.loop-y-test.false c.loop-y.auto.y-end
    (omega (arith, c.requires.room, c.fill.ensures.len, c.loop-y.auto.out, tables_count t, long)) (lists_in t) s.sided.sides.now s.made a t.sound.legal r h)
