-- The number of each refusal.
use Rattle.std.specs.Prelude.{◌≡◌, ◌≢◌, ℕ, Ok, Err, Result}
use Rattle.faults.specs.declared.Refusal.{Refusal}
use Rattle.faults.specs.declared.UnknownRefusal.{UnknownRefusal}
use Rattle.faults.specs.declared.Refusal.TheVariants.{NoSuchDoor, SameDoor, DoorGone, DoorHeld, NotListed, TableFull, WrongSize, BadSide, NoStableLinking, FixedByte, BlockCheck, BadList, BadKind, TooManyDoors, NotHolder, ClaimsSpent, UnreadLine}

abbrev pub number : Refusal → ℕ
number NoSuchDoor = 1
number SameDoor = 2
number DoorGone = 3
number DoorHeld = 4
number NotListed = 5
number TableFull = 6
number WrongSize = 7
number BadSide = 8
number NoStableLinking = 9
number FixedByte = 10
number BlockCheck = 11
number BadList = 12
number BadKind = 13
number TooManyDoors = 14
number NotHolder = 16
number ClaimsSpent = 17
number UnreadLine = 18

-- a number is read as the refusal that it stands for; otherwise no refusal has it
abbrev pub Numbers : ℕ → Result Refusal UnknownRefusal → Type 0
Numbers n (Ok refusal) = number refusal ≡ n
Numbers n (Err e) = (e ≡ record { 0 = n }) × ((refusal : Refusal) → number refusal ≢ n)

-- no two refusals have one number
abbrev pub NumbersDiffer : Type 0
NumbersDiffer = (a b : Refusal) → number a ≡ number b → a ≡ b
