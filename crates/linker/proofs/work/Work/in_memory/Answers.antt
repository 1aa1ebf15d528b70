use Rattle.std.proofs.Common.{◌≡◌, ◌∙◌, ⊎_elim, length, get_or, ap, arith}
use Rattle.std.proofs.lemmas.List.{get_or-set_same, get_or-set_other}
use Rattle.std.proofs.lemmas.Bool.{cases_eq}
use Rattle.matching.proofs.Runs.{same_everywhere}
use Rattle.linker.specs.Meanings.{lists_in}
use Rattle.linker.proofs.Asked.{told_size}
use Rattle.linker.proofs.Standing.{tables_count}
use Rattle.linker.proofs.Asking.{marked_start}
use Rattle.linker.proofs.work.Work.in_memory.Goals as goal

pub copy_from_slice-requires : goal.copy_from_slice-requires
copy_from_slice-requires c = omega (arith, c.args.tables.sized, c.split_at_mut-keep.ensures.front_len)

pub loop-x-preserved : goal.loop-x-preserved
loop-x-preserved c w b =
    let l = c.loop-x in
    ⊎_elim
    (λ (e : w ≡ l.x). rw e (get_or-set_same l.holder l.x l.x l.x (omega (arith, l.auto.holder, c.split_at_mut-holder.ensures.front_len))))
    (λ n. get_or-set_other l.holder l.x w l.x w n ∙ l.invariant w (omega arith))
    (cases_eq w l.x)

pub invariant_of-marks : goal.invariant_of-marks
invariant_of-marks c =
    let l = c.loop-x in
    let t = c.args.tables in
    let n = tables_count t in
    record {
      marked = (marked_start (lists_in t) t.sound.legal l.holder c.copy_from_slice.new.self c.fill.new.self (omega (arith, n, l.auto.holder, c.split_at_mut-holder.ensures.front_len))
          (omega (arith, n, c.copy_from_slice.ensures.len, c.split_at_mut-keep.ensures.front_len)) (omega (arith, n, c.fill.ensures.len, c.split_at_mut-first.ensures.front_len))
          (λ x b. (
            ap (λ v. get_or v x 0) c.copy_from_slice.ensures.after ∙ told_size t x (omega (arith, b, n)),
            l.invariant x (omega (arith, b, n)),
            ap (λ v. get_or v x 0) (c.fill.ensures.after (λ y e. e)) ∙ same_everywhere (length c.split_at_mut-first.result.0.now) 0 x,
          ))).0;
    }
