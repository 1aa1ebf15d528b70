use Rattle.std.proofs.Common.{sym, subst, ⊎_elim, arith}
use Rattle.std.proofs.lemmas.Bool.{cases_eq}
use Rattle.linker.specs.Meanings.{lists_in}
use Rattle.linker.specs.Rounds.{Single, HasTwo}
use Rattle.linker.proofs.work.Work.settle.Goals as goal

pub returns-clause-settled : goal.returns-clause-settled
returns-clause-settled c =
    let l = c.loop-self in
    let ls = lists_in l.self.marks.tables in
    let h = l.self.marks.holder.now in
    let low = l.invariant.1 in
    let one : Single ls h c.args.d = subst (HasTwo ls h c.args.d) c.loop-self-test.false c.has_two.ensures in
    record {
      marked = low.marked;
      way = low.way;
      ahead = low.ahead;
      single = λ x b. ⊎_elim (λ e. subst (Single ls h) (sym e) one) (λ n. low.single x (omega arith)) (cases_eq x c.args.d);
    }
