use Rattle.std.proofs.Common.{arith}
use Rattle.std.proofs.lemmas.Bool.Decides.{nat_tests}
use Rattle.linker.proofs.Asked.{told_takes}
use Rattle.linker.proofs.exits.Sided.takes.Goals as goal

pub returns-then-is_entrance : goal.returns-then-is_entrance
returns-then-is_entrance c =
    let e = told_takes c.args.self.tables c.args.self.sides.now c.args.x c.args.y c.requires.asks c.requires.listed in
    grind (arith, nat_tests, e, c.is_entrance.ensures, c.place.ensures)

pub returns-else-is_entrance : goal.returns-else-is_entrance
returns-else-is_entrance c =
    let e = told_takes c.args.self.tables c.args.self.sides.now c.args.x c.args.y c.requires.asks c.requires.listed in
    grind (arith, nat_tests, e, c.is_entrance.ensures)
