-- What a refusal of a text says: its kind with a number and a name, and a line.
use Rattle.std.specs.Prelude.{ℕ, List, codes, Result, Ok, Err, ◌≡◌}
use Rattle.can_model.specs.declared.refusal.TextKind.{TextKind}
use Rattle.can_model.specs.declared.refusal.TextKind.TheVariants.{BadByte, OpenString, BadNumber, Unexpected, TooLarge, LateSignal, FormatVersion, UnknownName, SignalType, NotYet}
use Rattle.can_model.specs.declared.refusal.TextFault.{TextFault}
use Rattle.can_model.specs.declared.refusal.TextFault.TheVariants.{Fault, Memory}

-- the number under which reports name a kind
abbrev pub number_of : TextKind → ℕ
number_of BadByte = 1
number_of OpenString = 2
number_of BadNumber = 3
number_of Unexpected = 4
number_of TooLarge = 5
number_of LateSignal = 6
number_of FormatVersion = 7
number_of UnknownName = 8
number_of SignalType = 9
number_of NotYet = 25

-- the name that stands behind the number
abbrev pub name_of : TextKind → List ℕ
name_of BadByte = codes "BadByte"
name_of OpenString = codes "OpenString"
name_of BadNumber = codes "BadNumber"
name_of Unexpected = codes "Unexpected"
name_of TooLarge = codes "TooLarge"
name_of LateSignal = codes "LateSignal"
name_of FormatVersion = codes "FormatVersion"
name_of UnknownName = codes "UnknownName"
name_of SignalType = codes "SignalType"
name_of NotYet = codes "NotYet"

-- a kind at a line; line 0 is the text as a whole
pub record Refusal : Type 0 where
  pub kind : TextKind
  pub line : ℕ

-- what a reader returned, seen by a view, is what the definition gives, unless memory ran out
abbrev pub Gives : {X Y : Type 0} → (X → Y) → Result X TextFault → Result Y Refusal → Type 0
Gives view (Ok x) read = read ≡ Ok (view x)
Gives view (Err (Fault kind line)) read = read ≡ Err (record { kind = kind; line = line })
Gives view (Err Memory) read = Unit {0}
