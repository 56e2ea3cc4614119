-- What an expression is, and its faults (ISO/IEC 9899:1999, the constraints of 6.5).
use Rattle.std.specs.Prelude.{ℕ, Bool, true, false, not, ◌&&◌, ◌||◌, ◌==◌, List, [], ◌∷◌, ◌++◌, length, map, Option, Some, None}
use Rattle.c_text.specs.declared.place.Place.{Place}
use Rattle.c_text.specs.declared.refusal.CKind.{CKind}
use Rattle.c_text.specs.declared.refusal.CKind.TheVariants.{UnknownName, TypeMismatch, ImpureCall, DeepCall}
use Rattle.c_text.specs.declared.token.IntType.{IntType}
use Rattle.c_text.specs.declared.token.IntType.TheVariants.{Int, UnsignedChar}
use Rattle.c_text.specs.Refusal.{Refusal}
use Rattle.c_tree.specs.declared.expression.BinaryOp.{BinaryOp}
use Rattle.c_tree.specs.declared.expression.BinaryOp.TheVariants as op
use Rattle.c_tree.specs.declared.expression.Callee.{Callee}
use Rattle.c_tree.specs.declared.expression.Callee.TheVariants as callee
use Rattle.c_tree.specs.declared.expression.Expr.{Expr, Expr-F, fold-Expr}
use Rattle.c_tree.specs.declared.expression.ExprKind.{ExprKind, fold-ExprKind}
use Rattle.c_tree.specs.declared.expression.ExprKind.TheOpen.{ExprKind-F}
use Rattle.c_tree.specs.declared.expression.UnaryOp.{UnaryOp}
use Rattle.c_tree.specs.declared.expression.UnaryOp.TheVariants as sign
use Rattle.c_tree.specs.declared.item.CType.{CType}
use Rattle.c_tree.specs.declared.item.CType.TheVariants.{Void, Integer, Pointer}
use Rattle.c_tree.specs.declared.item.Field.{Field}
use Rattle.c_tree.specs.declared.item.Function.{Function}
use Rattle.c_tree.specs.declared.item.Target.TheVariants.{Byte, Struct}
use Rattle.cg_out.specs.Words.{look_up}
use Rattle.c_widths.specs.DataModel.{DataModel}
use Rattle.c_widths.specs.IntegerType.{type_of}
use Rattle.c_widths.specs.Promotion.{promote}
use Rattle.c_widths.specs.CommonType.{common_promoted}
use Rattle.c_widths.specs.ConstantType.{constant_type}
use Rattle.c_types.specs.TypeFault.{fault, when}
use Rattle.c_types.specs.Scope.{Scope, type_named}
use Rattle.c_types.specs.Setting.{Setting, declared_by}

-- ---- sorts

pub data Sort : Type 0 where
  -- an integer, and what cannot be told because a part has a fault
  number : Sort
  -- `NULL`
  null_pointer : Sort
  -- to `uint8_t`
  byte_pointer : Sort
  struct_pointer : Sort
  -- what a call of a void function gives
  void_value : Sort
  -- a function that is not called
  function_name : Sort

abbrev pub sort_of : CType → Sort
sort_of Void = void_value
sort_of (Integer s) = number
sort_of (Pointer Byte constant) = byte_pointer
sort_of (Pointer (Struct tag) constant) = struct_pointer

abbrev pub integer_type : DataModel → CType → Option IntType
integer_type m (Integer s) = Some (type_of m s)
integer_type m other = None

-- what an expression is, its type where it is an integer and that can be told, and its faults
pub record Found : Type 0 where
  pub sort : Sort
  pub type : Option IntType
  pub faults : List Refusal

abbrev pub found : Sort → Option IntType → List Refusal → Found
found sort type faults = record { sort = sort; type = type; faults = faults }

-- an integer of a type, or what cannot be told
abbrev pub number_found : Option IntType → List Refusal → Found
number_found type faults = found number type faults

-- ---- what is wanted of an expression

pub data Wanted : Type 0 where
  an_integer : Wanted
  anything : Wanted
  -- the name of a pointer to bytes, as `memset` takes
  a_byte_pointer : Wanted

abbrev pub mismatch : Place → List Refusal
mismatch place = fault TypeMismatch place ∷ []

-- where an integer is wanted
abbrev pub integer_faults : Sort → Place → List Refusal
integer_faults number place = []
integer_faults other place = mismatch place

-- of a name of this sort
abbrev pub name_misfit : Wanted → Sort → Place → List Refusal
name_misfit anything sort place = []
name_misfit an_integer sort place = integer_faults sort place
name_misfit a_byte_pointer byte_pointer place = []
name_misfit a_byte_pointer other place = mismatch place

-- of any other expression
abbrev pub misfit : Wanted → Sort → Place → List Refusal
misfit anything sort place = []
misfit an_integer sort place = integer_faults sort place
misfit a_byte_pointer sort place = mismatch place

-- of one that is an integer
abbrev pub number_misfit : Wanted → Place → List Refusal
number_misfit a_byte_pointer place = mismatch place
number_misfit other place = []

-- an expression with its parts in their places
abbrev pub Typing : Type 0
Typing = Wanted → Scope → Found

-- ---- constants and names (6.5.1)

-- where no type holds it, and where a pointer is wanted
abbrev pub constant_faults : Option IntType → Wanted → Place → List Refusal
constant_faults None wanted place = mismatch place
constant_faults (Some type) wanted place = number_misfit wanted place

-- a name that is no local: a function's, or unknown
abbrev pub no_local : Option Function → CKind
no_local (Some f) = TypeMismatch
no_local None = UnknownName

abbrev pub name_found : DataModel → Option CType → Option Function → Wanted → Place → Found
name_found m (Some type) function wanted place = found (sort_of type) (integer_type m type) (name_misfit wanted (sort_of type) place)
name_found m None (Some f) wanted place = found function_name None (name_misfit wanted function_name place)
name_found m None None wanted place = number_found None (fault UnknownName place ∷ [])

-- ---- elements (6.5.2.1)

abbrev pub bytes_faults : CType → Place → List Refusal
bytes_faults (Pointer Byte constant) place = []
bytes_faults other place = mismatch place

-- of the base of an element
abbrev pub element_faults : Option CType → Option Function → Place → List Refusal
element_faults (Some type) function place = bytes_faults type place
element_faults None function place = fault (no_local function) place ∷ []

-- ---- members (6.5.2.3)

-- the tag of the struct that a base points to
abbrev pub tag_of : CType → Option (List ℕ)
tag_of (Pointer (Struct tag) constant) = Some tag
tag_of other = None

-- a field of these
abbrev pub field_type : DataModel → Option CType → Option IntType
field_type m None = None
field_type m (Some type) = integer_type m type

abbrev pub unknown_field : Option CType → Place → List Refusal
unknown_field None place = fault UnknownName place ∷ []
unknown_field (Some type) place = []

-- a tag without a struct is told where the pointer is declared
abbrev pub type_among : DataModel → List ℕ → Option (List Field) → Option IntType
type_among m field None = None
type_among m field (Some fields) = field_type m (look_up field (declared_by fields))

abbrev pub faults_among : List ℕ → Option (List Field) → Place → List Refusal
faults_among field None place = []
faults_among field (Some fields) place = unknown_field (look_up field (declared_by fields)) place

abbrev pub tagged_type : Setting → Option (List ℕ) → List ℕ → Option IntType
tagged_type s None field = None
tagged_type s (Some tag) field = type_among s.model field (s.fields tag)

abbrev pub tagged_faults : Setting → Option (List ℕ) → List ℕ → Place → List Refusal
tagged_faults s None field place = mismatch place
tagged_faults s (Some tag) field place = faults_among field (s.fields tag) place

abbrev pub member_type : Setting → Option CType → List ℕ → Option IntType
member_type s None field = None
member_type s (Some type) field = tagged_type s (tag_of type) field

abbrev pub member_faults : Setting → Option CType → Option Function → List ℕ → Place → List Refusal
member_faults s None function field place = fault (no_local function) place ∷ []
member_faults s (Some type) function field place = tagged_faults s (tag_of type) field place

-- ---- calls (6.5.2.2)

abbrev pub is_pointer_type : CType → Bool
is_pointer_type (Pointer target constant) = true
is_pointer_type other = false

abbrev pub takes_pointer : List Field → Bool
takes_pointer [] = false
takes_pointer (p ∷ ps) = is_pointer_type p.kind || takes_pointer ps

abbrev pub result_sort : CType → Sort
result_sort Void = void_value
result_sort other = number

-- what a call gives, and its faults at its name: those ahead of a result that does not fit, and those behind
pub record Called : Type 0 where
  pub sort : Sort
  pub type : Option IntType
  pub ahead : List Refusal
  pub last : List Refusal

-- of what cannot be called
abbrev pub refused_call : List Refusal → Called
refused_call faults = record { sort = number; type = None; ahead = faults; last = [] }

-- a function with this declaration, whose definition calls or not
abbrev pub declared_call : DataModel → Option Function → Option Bool → ℕ → Place → Called
declared_call m (Some f) (Some deep) count place = record {
  sort = result_sort f.returns;
  type = integer_type m f.returns;
  ahead = when (not (count == length f.params)) TypeMismatch place;
  last = when (takes_pointer f.params) ImpureCall place ++ when deep DeepCall place;
}
declared_call m function deep count place = refused_call (fault UnknownName place ∷ [])

-- a local hides the function of its name
abbrev pub named_call : DataModel → Option CType → Option Function → Option Bool → ℕ → Place → Called
named_call m (Some type) function deep count place = refused_call (mismatch place)
named_call m None function deep count place = declared_call m function deep count place

abbrev pub called : Setting → Callee → ℕ → Place → Scope → Called
called s (callee.Name name) count place scope = named_call s.model (type_named name scope) (s.function name) (s.calls name) count place
called s callee.Memset count place scope = record { sort = number; type = None; ahead = []; last = fault ImpureCall place ∷ [] }

-- without its arguments
abbrev pub callee_found : Called → Wanted → Place → Found
callee_found c wanted place = found c.sort c.type (c.ahead ++ (misfit wanted c.sort place ++ c.last))

-- every argument is an integer
abbrev pub argument_faults : List Typing → Scope → List Refusal
argument_faults [] scope = []
argument_faults (a ∷ rest) scope = (a an_integer scope).faults ++ argument_faults rest scope

abbrev pub call_found : Found → List Refusal → Found
call_found c arguments = found c.sort c.type (c.faults ++ arguments)

-- ---- operators (6.5.3 to 6.5.14)

abbrev pub promoted : DataModel → Option IntType → Option IntType
promoted m None = None
promoted m (Some type) = Some (promote m type)

abbrev pub unary_type : DataModel → UnaryOp → Option IntType → Option IntType
unary_type m sign.Not type = Some Int
unary_type m other type = promoted m type

abbrev pub common_type : DataModel → Option IntType → Option IntType → Option IntType
common_type m (Some a) (Some b) = Some (common_promoted m a b)
common_type m a b = None

abbrev pub binary_type : DataModel → BinaryOp → Option IntType → Option IntType → Option IntType
binary_type m op.BitOr a b = common_type m a b
binary_type m op.BitXor a b = common_type m a b
binary_type m op.BitAnd a b = common_type m a b
binary_type m op.Add a b = common_type m a b
binary_type m op.Subtract a b = common_type m a b
binary_type m op.ShiftLeft a b = promoted m a
binary_type m op.ShiftRight a b = promoted m a
binary_type m comparison a b = Some Int

-- 6.5.9: a pointer may be compared with `NULL`
abbrev pub is_pointer : Sort → Bool
is_pointer null_pointer = true
is_pointer byte_pointer = true
is_pointer struct_pointer = true
is_pointer other = false

abbrev pub is_null : Sort → Bool
is_null null_pointer = true
is_null other = false

abbrev pub is_equality : BinaryOp → Bool
is_equality op.Equal = true
is_equality op.NotEqual = true
is_equality other = false

abbrev pub compares_pointer : BinaryOp → Sort → Sort → Bool
compares_pointer operator a b = is_equality operator && ((is_pointer a && is_pointer b) && (is_null a || is_null b))

abbrev pub operand_wanted : Bool → Wanted
operand_wanted true = anything
operand_wanted false = an_integer

abbrev pub binary_found : DataModel → BinaryOp → Wanted → Place → Found → Found → Found
binary_found m operator wanted place a b =
    number_found (binary_type m operator a.type b.type) (a.faults ++ (number_misfit wanted place ++ b.faults))

-- ---- one level

abbrev pub kind_step : Setting → ExprKind-F (Place → Typing) Typing → Place → Typing
kind_step s (ExprKind-F.Constant c) place wanted scope = number_found (constant_type s.model c) (constant_faults (constant_type s.model c) wanted place)
kind_step s (ExprKind-F.Name name) place wanted scope = name_found s.model (type_named name scope) (s.function name) wanted place
kind_step s ExprKind-F.Null place wanted scope = found null_pointer None (misfit wanted null_pointer place)
kind_step s (ExprKind-F.Member base field) place wanted scope =
    number_found (member_type s (type_named base scope) field)
    (member_faults s (type_named base scope) (s.function base) field place ++ number_misfit wanted place)
kind_step s (ExprKind-F.Element base index) place wanted scope =
    number_found (Some UnsignedChar)
    (element_faults (type_named base scope) (s.function base) place ++ (number_misfit wanted place ++ (index an_integer scope).faults))
kind_step s (ExprKind-F.Call function args) place wanted scope =
    call_found (callee_found (called s function (length args) place scope) wanted place) (argument_faults args scope)
kind_step s (ExprKind-F.Unary operator operand) place wanted scope =
    number_found (unary_type s.model operator (operand an_integer scope).type) (number_misfit wanted place ++ (operand an_integer scope).faults)
kind_step s (ExprKind-F.Cast to operand) place wanted scope =
    number_found (Some (type_of s.model to)) (number_misfit wanted place ++ (operand an_integer scope).faults)
kind_step s (ExprKind-F.Binary operator left right) place wanted scope =
    let operands = operand_wanted (compares_pointer operator (left anything scope).sort (right anything scope).sort) in
    binary_found s.model operator wanted place (left operands scope) (right operands scope)
kind_step s (ExprKind-F.Bracket inner) place wanted scope =
    found (inner anything scope).sort (inner anything scope).type (misfit wanted (inner anything scope).sort place ++ (inner anything scope).faults)

abbrev pub expr_step : Expr-F (Place → Typing) Typing → Typing
expr_step e = e.kind e.place

-- ---- whole expressions

abbrev pub typing : Setting → Expr → Typing
typing s = fold-Expr (Place → Typing) Typing (kind_step s) expr_step

abbrev pub kind_typing : Setting → ExprKind → Place → Typing
kind_typing s = fold-ExprKind (Place → Typing) Typing (kind_step s) expr_step

-- the faults of what is to be an integer
abbrev pub integer_value : Setting → Expr → Scope → List Refusal
integer_value s e scope = (typing s e an_integer scope).faults

abbrev pub all_arguments : Setting → List Expr → Scope → List Refusal
all_arguments s args = argument_faults (map (typing s) args)
