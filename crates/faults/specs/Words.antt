-- The bytes that a fault is written with.
use Rattle.std.specs.Prelude.{ℕ, List, ◌++◌, codes, decimal}
use Rattle.faults.specs.Number.{number}
use Rattle.faults.specs.declared.Fault.{Fault}
use Rattle.faults.specs.declared.UnknownRefusal.{UnknownRefusal}
use Rattle.faults.specs.declared.Layer.{Layer}
use Rattle.faults.specs.declared.Layer.TheVariants.{File, Ground, Level, Linker, Console}
use Rattle.faults.specs.declared.Place.{Place}
use Rattle.faults.specs.declared.Place.TheVariants.{At, Byte}

-- the layer that refused, as a word
abbrev pub layer_word : Layer → List ℕ
layer_word File = codes "file"
layer_word Ground = codes "ground"
layer_word Level = codes "level"
layer_word Linker = codes "linker"
layer_word Console = codes "console"

-- one number, or a block and a byte
abbrev pub place_text : Place → List ℕ
place_text (At n) = decimal n
place_text (Byte block byte) = decimal block ++ (codes " " ++ decimal byte)

-- number, layer and place of a fault
abbrev pub refused_text : Fault → List ℕ
refused_text f = codes "refused " ++ (decimal (number f.refusal) ++ (codes " " ++ (layer_word f.layer ++ (codes " " ++ place_text f.place))))

-- that no refusal has a number
abbrev pub unknown_text : UnknownRefusal → List ℕ
unknown_text u = codes "no refusal has the number " ++ decimal u.0
