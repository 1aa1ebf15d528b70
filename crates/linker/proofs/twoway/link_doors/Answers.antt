use Rattle.std.proofs.Common.{subst}
use Rattle.linker.specs.Links.{DoorsLinked}
use Rattle.linker.proofs.twoway.link_doors.Goals as goal

pub returns : goal.returns
returns g c = subst (λ l. DoorsLinked l c.args.out.now c.link_tables.new.out c.link_tables.result) c.read-rest.ensures.lists c.link_tables.ensures
