use Rattle.std.proofs.Common.{rules}
use Rattle.surveying.proofs.Files.{read_back_where}
use Rattle.surveying.proofs.comparing.reads_back.Goals as goal

pub returns : goal.returns
returns g c =
    read_back_where (g.S.Source.lists c.args.source.now) (g.met.S.Source.sound c.args.source.now) c.args.file.now c.read.result c.is_ok_and.result c.read.ensures (search rules)
