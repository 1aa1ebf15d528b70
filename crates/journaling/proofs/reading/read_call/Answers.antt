use Rattle.std.proofs.Common.{◌-◌, [], ◌∷◌, length, get_or, take, drop, arith, rules}
use Rattle.std.proofs.lemmas.Result.{IfOk-weaker}
use Rattle.journaling.specs.Calls.{SaysCall, ReadsCall}
use Rattle.journaling.proofs.Texts.{after_one, after_two, one_byte, read_short}
use Rattle.journaling.proofs.reading.read_call.Goals as goal

pub returns-in-32 : goal.returns-in-32
returns-in-32 c =
    let line = c.args.line.now in
    read_short c.args.doors line c.read_edit.result (omega arith) (after_two line (get_or line 0 0) 32 (search rules) (search rules) (search rules))
    (c.read_edit.ensures c.args.doors (λ e. search rules))
