-- Scopes (ISO/IEC 9899:1999, 6.2.1): which declaration a name stands for inside a function.
use Rattle.std.specs.Prelude.{ℕ, Bool, false, ◌==◌, List, [], ◌∷◌, ◌++◌, Option, None, is_some}
use Rattle.c_text.specs.declared.place.Place.{Place}
use Rattle.c_text.specs.declared.refusal.CKind.TheVariants.{Redeclared, ReservedName}
use Rattle.c_text.specs.Refusal.{Refusal}
use Rattle.c_tree.specs.declared.item.CType.{CType}
use Rattle.cg_out.specs.Words.{or_else, look_up}
use Rattle.c_types.specs.TypeFault.{when}

-- names with their types, in the order of their declarations
abbrev pub Declared : Type 0
Declared = List (List ℕ × CType)

-- what the innermost block declares so far, and what the blocks around it do, the outermost first
pub record Scope : Type 0 where
  pub outer : List Declared
  pub inner : Declared

-- the type that the innermost of these blocks gives a name, and else this one
abbrev pub innermost : List ℕ → List Declared → Option CType → Option CType
innermost name [] found = found
innermost name (block ∷ blocks) found = innermost name blocks (or_else (look_up name block) found)

-- the type of a local or a parameter, if the name stands for one
abbrev pub type_named : List ℕ → Scope → Option CType
type_named name scope = or_else (look_up name scope.inner) (innermost name scope.outer None)

-- behind a declaration in the innermost block
abbrev pub with_name : List ℕ × CType → Scope → Scope
with_name d scope = record { outer = scope.outer; inner = scope.inner ++ d ∷ [] }

abbrev pub behind : Declared → Scope → Scope
behind [] scope = scope
behind (d ∷ ds) scope = behind ds (with_name d scope)

-- at the beginning of a block
abbrev pub opened : Scope → Scope
opened scope = record { outer = scope.outer ++ scope.inner ∷ []; inner = [] }

-- names that begin with an underscore are not declared (7.1.3)
abbrev pub is_reserved : List ℕ → Bool
is_reserved [] = false
is_reserved (first ∷ rest) = first == 95

-- of a declaration, behind others of one scope
abbrev pub name_faults : List ℕ → Place → Declared → List Refusal
name_faults name place earlier = when (is_some (look_up name earlier)) Redeclared place ++ when (is_reserved name) ReservedName place
