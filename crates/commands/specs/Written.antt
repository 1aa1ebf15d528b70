-- Commands as they are written.
use Rattle.std.specs.Prelude.{◌≡◌, ℕ, ◌<◌, List, ◌++◌, Some, None, codes, decimal, Option, ◌≢◌}
use Rattle.text.specs.Reads.{pair_text}
use Rattle.commands.specs.declared.reading.Command.{Command}
use Rattle.commands.specs.declared.reading.Command.TheVariants.{Strike, Forbid, Favour, Link}

-- the line that says a command: its letter, and each number after one space
abbrev pub command_text : Command → List ℕ
command_text (Strike a) = codes "s " ++ decimal a
command_text (Forbid a b) = codes "x " ++ pair_text a b
command_text (Favour a b) = codes "f " ++ pair_text a b
command_text Link = codes "l"

-- the numbers of a command are from 0 to 255
abbrev pub Bytes : Command → Type 0
Bytes (Strike a) = a < 256
Bytes (Forbid a b) = (a < 256) × (b < 256)
Bytes (Favour a b) = (a < 256) × (b < 256)
Bytes Link = Unit {0}

-- the line is just what is written of a command, or of none
abbrev pub ReadsCommand : List ℕ → Option Command → Type 0
ReadsCommand line (Some c) = Bytes c × (line ≡ command_text c)
ReadsCommand line None = (c : Command) → Bytes c → line ≢ command_text c
