use Rattle.std.proofs.Common.{◌≡◌, length, sym, refl, ap, ◌∙◌, subst, arith}
use Rattle.std.proofs.lemmas.Result.{err_from_is_err_and}
use Rattle.linker.specs.Meanings.{lists_in}
use Rattle.linker.specs.Rounds.{Lowered}
use Rattle.linker.specs.Links.{LinkingFound, NoneFound, WritesTo}
use Rattle.linker.proofs.Standing.{tables_count}
use Rattle.linker.proofs.Concluding.{linking_found, none_found}
use Rattle.linker.proofs.twoway.link_tables.Goals as goal
use Rattle.linker.proofs.twoway.link_tables.Goals.{In_ok-reduce}

-- the level is settled in the end
the_end : (c : In_ok-reduce) → Lowered (lists_in c.reduce.new.self.marks.tables) (length (lists_in c.reduce.new.self.marks.tables)) c.reduce.new.self.marks.holder.now c.reduce.new.self.marks.keep.now
    c.reduce.new.self.marks.first.now c.reduce.new.self.walk.second.now
the_end c =
    let w = c.reduce.new.self in
    subst (λ d. Lowered (lists_in w.marks.tables) d w.marks.holder.now w.marks.keep.now w.marks.first.now w.walk.second.now) (sym (tables_count w.marks.tables)) c.in_ok-reduce.ensures.settled

-- how many doors the level has in the end
the_count : (c : In_ok-reduce) → length c.args.out.now ≡ length (lists_in c.reduce.new.self.marks.tables)
the_count c =
    let w = c.reduce.new.self in
    omega (arith, c.requires.written, tables_count w.marks.tables, ap (λ t. t.count) (c.reduce.ensures.tables ∙ c.propose_all.ensures.tables ∙ c.in_memory-work.ensures.tables))

pub returns-in_err-reduce : goal.returns-in_err-reduce
returns-in_err-reduce c =
    let t = c.reduce.new.self.marks.tables in
    let p = err_from_is_err_and c.from_residual.result c.from_residual.ensures.1 in
    rw p.1
    (subst (λ u. NoneFound (lists_in u)) (c.reduce.ensures.tables ∙ c.propose_all.ensures.tables ∙ c.in_memory-work.ensures.tables) (none_found (lists_in t) t.sound.legal c.in_err-reduce.ensures.settled), refl)

pub write_links-requires : goal.write_links-requires
write_links-requires c =
    let n = (goal.at.write_links-requires c).In_ok-reduce in
    the_count n ∙ sym (the_end n).marked.doors

pub returns : goal.returns
returns c =
    let w = c.reduce.new.self in
    let low = the_end (goal.at.returns c).In_ok-reduce in
    subst (λ t. LinkingFound (lists_in t) c.write_links.new.out) (c.reduce.ensures.tables ∙ c.propose_all.ensures.tables ∙ c.in_memory-work.ensures.tables)
    (linking_found (lists_in w.marks.tables) w.marks.tables.sound.legal w.marks.holder.now w.marks.keep.now w.marks.first.now w.walk.second.now c.write_links.new.out low
    (omega (arith, c.write_links.auto.out, the_count (goal.at.returns c).In_ok-reduce))
    (subst (λ d. WritesTo d w.marks.holder.now c.write_links.new.out) low.marked.doors c.write_links.ensures))
