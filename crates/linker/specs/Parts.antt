-- What the parts of the linker's memory say.
use Rattle.std.specs.Prelude.{ℕ, Option, Result}
use Rattle.matching.specs.Holders.{Underway, OnTheWay}
use Rattle.linker.specs.Meanings.{lists_in}
use Rattle.linker.specs.Holders.{ranks, lasts, Settles}
use Rattle.linker.specs.Rounds.{Double, Lowered, LoweredTo, Rotated}
use Rattle.linker.specs.Turns.{Going}
use Rattle.linker.specs.declared.exits.Exits.{Exits}
use Rattle.linker.specs.declared.marks.Emptied.{Emptied}
use Rattle.linker.specs.declared.marks.Marks.{Marks}
use Rattle.linker.specs.declared.walk.Walk.{Walk}
use Rattle.linker.specs.declared.work.Work.{Work}

-- proposals are under way
abbrev pub UnderwayIn : Marks → Type 0
UnderwayIn m = Underway (lists_in m.tables) (ranks (lists_in m.tables)) (lasts m.holder.now)

-- nobody is on the list of z, or somebody holds z
abbrev pub SettlesIn : ℕ → Marks → Type 0
SettlesIn z m = Settles (lists_in m.tables) m.holder.now z

-- proposals and rotations led here
abbrev pub OnTheWayIn : Marks → Type 0
OnTheWayIn m = OnTheWay (lists_in m.tables) (ranks (lists_in m.tables)) (lasts m.holder.now)

-- two doors or more are on the list of d
abbrev pub DoubleIn : ℕ → Marks → Type 0
DoubleIn d m = Double (lists_in m.tables) m.holder.now d

-- a table on the way, with one door at most on the lists of the doors below d
abbrev pub LoweredBy : ℕ → Marks → Walk → Type 0
LoweredBy d m w = Lowered (lists_in m.tables) d m.holder.now m.keep.now m.first.now w.second.now

-- the same of all that the linker works on
abbrev pub LoweredIn : ℕ → Work → Type 0
LoweredIn d w = LoweredBy d w.marks w.walk

-- either that, or a list was emptied
abbrev pub SettledTo : ℕ → Work → Result (Unit {0}) Emptied → Type 0
SettledTo d w r = LoweredTo (lists_in w.marks.tables) d w.marks.holder.now w.marks.keep.now w.marks.first.now w.walk.second.now r

-- after the elimination of a rotation there is less to go, or a list was emptied
abbrev pub RotatedTo : ℕ → Work → Work → Result (Unit {0}) Emptied → Type 0
RotatedTo d w w' r =
    Rotated (lists_in w'.marks.tables) d w.marks.holder.now w'.marks.holder.now w'.marks.keep.now w'.marks.first.now w'.walk.second.now r

-- proposals led here: the exits below d are through but the one that asks next, the others have not begun
abbrev pub GoingBy : ℕ → Option ℕ → Exits → Type 0
GoingBy d asker e = Going (lists_in e.sided.tables) e.sided.sides.now d asker e.made e.next.now e.held.now
