-- How parameters are cut (ISO/IEC 9899:1999, 6.7.5.3).
use Rattle.std.specs.Prelude.{ℕ, Bool, true, false, ◌==◌, ◌&&◌, not, List, [], ◌∷◌, Option, Some, None, Result, Ok, Err}
use Rattle.c_text.specs.declared.place.Place.{Place}
use Rattle.c_text.specs.declared.token.Spelled.TheVariants.{Exact}
use Rattle.c_text.specs.declared.token.Token.{Token}
use Rattle.c_text.specs.declared.token.TokenKind.{TokenKind}
use Rattle.c_text.specs.declared.token.TokenKind.TheVariants.{TypeName}
use Rattle.c_tree.specs.declared.symbol.Keyword.{Keyword}
use Rattle.c_tree.specs.declared.symbol.Keyword.TheVariants as key
use Rattle.c_tree.specs.declared.item.CType.TheVariants as t
use Rattle.c_tree.specs.declared.item.Target.{Target}
use Rattle.c_tree.specs.declared.item.Target.TheVariants as to
use Rattle.c_tree.specs.declared.item.Field.{Field}
use Rattle.c_text.specs.Refusal.{Refusal}
use Rattle.cg_out.specs.Words.{◌>>=◌}
use Rattle.c_tree.specs.Symbol.{keyword_of, name_of, is_star}
use Rattle.c_tree.specs.Brackets.{syntax}
use Rattle.c_tree.specs.ExpressionCut.{Delimited, Closed, parts}
use Rattle.c_tree.specs.StatementCut.{is_void}
use Rattle.c_tree.specs.DeclarationCut.{declared_as, integer}

abbrev pub is_byte : TokenKind → Bool
is_byte (TypeName (Exact width signed)) = width == 8 && not signed
is_byte other = false

abbrev pub pointer_by : Bool → Place → Bool → Target → List Token → Result Field Refusal
pointer_by false first constant target xs = Err (syntax first)
pointer_by true first constant target xs = declared_as first (t.Pointer target constant) xs

-- behind the tokens of what a pointer points to
abbrev pub pointer : Place → Bool → Target → List Token → Result Field Refusal
pointer first constant target [] = Err (syntax first)
pointer first constant target (s ∷ xs) = pointer_by (is_star s.kind) first constant target xs

abbrev pub struct_pointer_by : Option (List ℕ) → Place → Bool → List Token → Result Field Refusal
struct_pointer_by None first constant xs = Err (syntax first)
struct_pointer_by (Some tag) first constant xs = pointer first constant (to.Struct tag) xs

abbrev pub struct_pointer : Place → Bool → List Token → Result Field Refusal
struct_pointer first constant [] = Err (syntax first)
struct_pointer first constant (x ∷ xs) = struct_pointer_by (name_of x.kind) first constant xs

abbrev pub integer_parameter : Bool → Place → List Token → Result Field Refusal
integer_parameter true first xs = Err (syntax first)
integer_parameter false first xs = integer first xs

abbrev pub byte_pointer : Bool → Place → Bool → Token → List Token → Result Field Refusal
byte_pointer true first constant x xs = pointer first constant to.Byte xs
byte_pointer false first constant x xs = integer_parameter constant first (x ∷ xs)

-- a byte pointer has a star behind `uint8_t`
abbrev pub is_byte_pointer : Token → List Token → Bool
is_byte_pointer x [] = false
is_byte_pointer x (s ∷ xs) = is_byte x.kind && is_star s.kind

abbrev pub parameter_by : Option Keyword → Place → Bool → Token → List Token → Result Field Refusal
parameter_by (Some key.Struct) first constant x xs = struct_pointer first constant xs
parameter_by other first constant x xs = byte_pointer (is_byte_pointer x xs) first constant x xs

abbrev pub parameter_of : Place → Bool → List Token → Result Field Refusal
parameter_of first constant [] = Err (syntax first)
parameter_of first constant (x ∷ xs) = parameter_by (keyword_of x.kind) first constant x xs

abbrev pub maybe_const : Option Keyword → Token → List Token → Result Field Refusal
maybe_const (Some key.Const) x xs = parameter_of x.place true xs
maybe_const other x xs = parameter_of x.place false (x ∷ xs)

abbrev pub parameter : Delimited → Result Field Refusal
parameter ([], after) = Err (syntax after)
parameter (x ∷ xs, after) = maybe_const (keyword_of x.kind) x xs

abbrev pub each_parameter : List Delimited → Result (List Field) Refusal
each_parameter [] = Ok []
each_parameter (p ∷ ps) = do
  f ← parameter p
  fs ← each_parameter ps
  Ok (f ∷ fs)

abbrev pub unless_void : Bool → Closed → Result (List Field) Refusal
unless_void true c = Ok []
unless_void false c = each_parameter (parts c.close 0 c.inner)

abbrev pub is_void_alone : List Token → Bool
is_void_alone (x ∷ []) = is_void x.kind
is_void_alone xs = false

-- `void` alone, or one or more
abbrev pub parameters : Closed → Result (List Field) Refusal
parameters c = unless_void (is_void_alone c.inner) c
