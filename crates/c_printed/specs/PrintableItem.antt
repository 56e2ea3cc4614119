-- Which structs and functions are printed so that they read back.
use Rattle.std.specs.Prelude.{ℕ, ◌||◌, ◌&&◌, ◌==◌, Bool, false, not, nat_le, List, [], ◌∷◌, Option, Some, None}
use Rattle.std.specs.List.{AllByRecursion}
use Rattle.c_tree.specs.declared.item.CType.{CType}
use Rattle.c_tree.specs.declared.item.CType.TheVariants.{Void, Integer, Pointer}
use Rattle.c_tree.specs.declared.item.Target.{Target}
use Rattle.c_tree.specs.declared.item.Target.TheVariants.{Byte, Struct}
use Rattle.c_text.specs.Characters.{Pass}
use Rattle.c_tree.specs.BareStatement.{Actions}
use Rattle.c_tree.specs.BareUnit.{BareField, BareHead}
use Rattle.c_printed.specs.PrintedItem.{Field}
use Rattle.c_printed.specs.Printable.{IsFree, IsType, FitActions}

-- what may stand in a comment: bytes 32 to 126 but for `*`, `?` and a backslash
abbrev pub is_shown : ℕ → Bool
is_shown b = nat_le 32 b && (nat_le b 126 && not (b == 42 || (b == 63 || b == 92)))

abbrev pub IsShown : List ℕ → Type 0
IsShown t = Pass is_shown t

abbrev pub IsTarget : Target → Type 0
IsTarget Byte = Unit {0}
IsTarget (Struct tag) = IsFree tag

abbrev pub IsParameterType : CType → Type 0
IsParameterType Void = ⊥
IsParameterType (Integer s) = IsType s
IsParameterType (Pointer to constant) = IsTarget to

abbrev pub IsParameter : BareField → Type 0
IsParameter p = IsParameterType p.kind × IsFree p.name

abbrev pub IsIntegerType : CType → Type 0
IsIntegerType (Integer s) = IsType s
IsIntegerType t = ⊥

abbrev pub IsReturned : CType → Type 0
IsReturned Void = Unit {0}
IsReturned t = IsIntegerType t

pub record IsField (f : Field) : Type 0 where
  pub about : IsShown f.about
  pub kind : IsIntegerType f.named.kind
  pub name : IsFree f.named.name

pub record IsHead (h : BareHead) : Type 0 where
  pub returns : IsReturned h.returns
  pub name : IsFree h.name
  pub params : AllByRecursion IsParameter h.params

abbrev pub IsSome : List Field → Type 0
IsSome [] = ⊥
IsSome (f ∷ fs) = Unit {0}

abbrev pub FitsBody : Option Actions → Type 0
FitsBody None = Unit {0}
FitsBody (Some list) = FitActions false list
