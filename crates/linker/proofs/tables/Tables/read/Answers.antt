use Rattle.std.proofs.Common.{arith}
use Rattle.matching.proofs.Rows.{lawful_facts}
use Rattle.linker.proofs.Asked.{read_tables, read_sound}
use Rattle.linker.proofs.tables.Tables.read.Goals as goal

pub invariant_of-tables : goal.invariant_of-tables
invariant_of-tables g c =
    let ls = g.S.Source.lists c.args.source.now in
    record {
      sound = read_sound c.count-n.result ls c.read_lists.new.lists c.read_lists.new.places c.read_lists.new.sizes (lawful_facts ls (g.met.S.Source.sound c.args.source.now)) c.count-n.ensures
          (omega (arith, c.read_lists.auto.lists, c.split_at_mut-lists.ensures.front_len)) c.read_lists.ensures;
      sized = omega (arith, c.read_lists.auto.sizes, c.split_at_mut-sizes.ensures.front_len);
    }

pub returns-clause-lists : goal.returns-clause-lists
returns-clause-lists g c =
    let ls = g.S.Source.lists c.args.source.now in
    read_tables c.count-n.result ls c.read_lists.new.lists c.read_lists.new.places c.read_lists.new.sizes (lawful_facts ls (g.met.S.Source.sound c.args.source.now)) c.count-n.ensures
    (omega (arith, c.read_lists.auto.lists, c.split_at_mut-lists.ensures.front_len)) c.read_lists.ensures
