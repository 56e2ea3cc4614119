-- What a refusal of a C text says: its kind with a number and a name, and a place.
use Rattle.std.specs.Prelude.{ℕ, List, codes, Result, Ok, Err, ◌≡◌}
use Rattle.c_text.specs.declared.place.Place.{Place}
use Rattle.c_text.specs.declared.refusal.CKind.{CKind}
use Rattle.c_text.specs.declared.refusal.CKind.TheVariants.{BadToken, Splice, OpenComment, BadDirective, UnknownHeader, MacroBody, Redefined, Unbalanced, Syntax, TooDeep, UnknownName, TypeMismatch, ConstWrite, Redeclared, ImpureCall, DeepCall, DuplicateCase, ReservedName}
use Rattle.c_text.specs.declared.refusal.CFault.{CFault}
use Rattle.c_text.specs.declared.refusal.CFault.TheVariants.{Fault, Memory}

-- the number under which reports name a kind
abbrev pub kind_number : CKind → ℕ
kind_number BadToken = 40
kind_number Splice = 41
kind_number OpenComment = 42
kind_number BadDirective = 43
kind_number UnknownHeader = 44
kind_number MacroBody = 45
kind_number Redefined = 46
kind_number Unbalanced = 47
kind_number Syntax = 48
kind_number TooDeep = 49
kind_number UnknownName = 50
kind_number TypeMismatch = 51
kind_number ConstWrite = 52
kind_number Redeclared = 53
kind_number ImpureCall = 54
kind_number DeepCall = 55
kind_number DuplicateCase = 56
kind_number ReservedName = 57

-- the name that stands behind the number
abbrev pub kind_name : CKind → List ℕ
kind_name BadToken = codes "BadToken"
kind_name Splice = codes "Splice"
kind_name OpenComment = codes "OpenComment"
kind_name BadDirective = codes "BadDirective"
kind_name UnknownHeader = codes "UnknownHeader"
kind_name MacroBody = codes "MacroBody"
kind_name Redefined = codes "Redefined"
kind_name Unbalanced = codes "Unbalanced"
kind_name Syntax = codes "Syntax"
kind_name TooDeep = codes "TooDeep"
kind_name UnknownName = codes "UnknownName"
kind_name TypeMismatch = codes "TypeMismatch"
kind_name ConstWrite = codes "ConstWrite"
kind_name Redeclared = codes "Redeclared"
kind_name ImpureCall = codes "ImpureCall"
kind_name DeepCall = codes "DeepCall"
kind_name DuplicateCase = codes "DuplicateCase"
kind_name ReservedName = codes "ReservedName"

-- a kind, and the bytes where it shows
pub record Refusal : Type 0 where
  pub kind : CKind
  pub place : Place

-- what a stage returned, seen by a view, is what the definition gives, unless memory ran out
abbrev pub Gives : {X Y : Type 0} → (X → Y) → Result X CFault → Result Y Refusal → Type 0
Gives view (Ok x) read = read ≡ Ok (view x)
Gives view (Err (Fault kind place)) read = read ≡ Err (record { kind = kind; place = place })
Gives view (Err Memory) read = Unit {0}
