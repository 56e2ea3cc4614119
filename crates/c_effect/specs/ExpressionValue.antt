-- The value of an expression (ISO/IEC 9899:1999, 6.5) in locals and objects: operands, arguments and an index are taken from the left, and the first undefined behaviour is the answer.
use Rattle.std.specs.Prelude.{Bool, true, false, if◌then◌else◌, List, [], ◌∷◌, map, Option, Some, None, Result, Ok, Err}
use Rattle.c_text.specs.declared.place.Place.{Place}
use Rattle.c_tree.specs.declared.expression.BinaryOp.{BinaryOp}
use Rattle.c_tree.specs.declared.expression.BinaryOp.TheVariants.{LogicalAnd, LogicalOr}
use Rattle.c_tree.specs.declared.expression.Callee.{Callee}
use Rattle.c_tree.specs.declared.expression.Callee.TheVariants.{Name, Memset}
use Rattle.c_tree.specs.declared.expression.Expr.{Expr, Expr-F, fold-Expr}
use Rattle.c_tree.specs.declared.expression.ExprKind.{ExprKind, fold-ExprKind}
use Rattle.c_tree.specs.declared.expression.ExprKind.TheOpen.{ExprKind-F}
use Rattle.c_mem.specs.declared.undefined.Undefined.TheVariants.{Indeterminate}
use Rattle.c_mem.specs.declared.objects.Object.{Object}
use Rattle.c_mem.specs.declared.objects.Pointer.TheVariants.{Null}
use Rattle.c_operators.specs.declared.value.TypedValue.{TypedValue}
use Rattle.c_operators.specs.declared.value.Value.{Value}
use Rattle.c_operators.specs.declared.value.Value.TheVariants.{Integer, Pointer as pointer}
use Rattle.c_operators.specs.Value.{typed, truth_value, number_of, is_true}
use Rattle.c_operators.specs.Sign.{signed, constant}
use Rattle.c_operators.specs.Operator.{applied}
use Rattle.c_widths.specs.DataModel.{DataModel}
use Rattle.c_widths.specs.IntegerType.{type_of}
use Rattle.c_widths.specs.Conversion.{convert}
use Rattle.cg_out.specs.Words.{◌>>=◌}
use Rattle.c_effect.specs.declared.state.Stop.{Stop}
use Rattle.c_effect.specs.Locals.{Block, read_local}
use Rattle.c_effect.specs.World.{World, stop, shown_at}
use Rattle.c_effect.specs.Loading.{element, member}

abbrev pub Meaning : Type 0
Meaning = List Block → List Object → Result Value Stop

abbrev pub integer : Result TypedValue Stop → Result Value Stop
integer (Ok v) = Ok (Integer v)
integer (Err s) = Err s

-- ---- `&&` and `||` (6.5.13, 6.5.14): the right side is taken only where it decides

abbrev pub is_logical : BinaryOp → Bool
is_logical LogicalAnd = true
is_logical LogicalOr = true
is_logical other = false

-- what the left side alone decides
abbrev pub decided : BinaryOp → Bool → Option Bool
decided LogicalAnd false = Some false
decided LogicalOr true = Some true
decided other left = None

abbrev pub by_right : Option Bool → Meaning → List Block → List Object → Result TypedValue Stop
by_right (Some is) right locals objects = Ok (truth_value is)
by_right None right locals objects = do
  b ← right locals objects
  Ok (truth_value (is_true b))

-- ---- the other forms

-- with the value of the left side
abbrev pub joined : DataModel → BinaryOp → Place → Value → Meaning → List Block → List Object → Result TypedValue Stop
joined m op place left right locals objects =
    if is_logical op then by_right (decided op (is_true left)) right locals objects else (do
      b ← right locals objects
      shown_at place (applied m op left b))

abbrev pub binary : DataModel → BinaryOp → Place → Meaning → Meaning → List Block → List Object → Result TypedValue Stop
binary m op place left right locals objects = do
  a ← left locals objects
  joined m op place a right locals objects

abbrev pub all_of : List Meaning → List Block → List Object → Result (List TypedValue) Stop
all_of [] locals objects = Ok []
all_of (first ∷ rest) locals objects = do
  x ← first locals objects
  xs ← all_of rest locals objects
  Ok (number_of x ∷ xs)

-- no unit without a fault takes the value of a void function, or of `memset`
abbrev pub given : Place → Option TypedValue → Result TypedValue Stop
given place (Some v) = Ok v
given place None = Err (stop Indeterminate place)

abbrev pub called : World → Place → Callee → List TypedValue → Result (Option TypedValue) Stop
called w place (Name function) args = w.calls place function args
called w place Memset args = Err (stop Indeterminate place)

abbrev pub kind_step : World → ExprKind-F (Place → Meaning) Meaning → Place → Meaning
kind_step w (ExprKind-F.Constant c) place locals objects = integer (shown_at place (constant w.model c))
kind_step w (ExprKind-F.Name name) place locals objects = shown_at place (read_local name locals)
kind_step w ExprKind-F.Null place locals objects = Ok (pointer Null)
kind_step w (ExprKind-F.Member base field) place locals objects = integer (shown_at place (member w base field locals objects))
kind_step w (ExprKind-F.Element base index) place locals objects = do
  i ← index locals objects
  integer (shown_at place (element base (number_of i).value locals objects))
kind_step w (ExprKind-F.Call function args) place locals objects = do
  xs ← all_of args locals objects
  v ← called w place function xs
  integer (given place v)
kind_step w (ExprKind-F.Unary op operand) place locals objects = do
  a ← operand locals objects
  integer (shown_at place (signed w.model op (number_of a)))
kind_step w (ExprKind-F.Cast to operand) place locals objects = do
  a ← operand locals objects
  Ok (Integer (typed (type_of w.model to) (convert w.model (type_of w.model to) (number_of a).value)))
kind_step w (ExprKind-F.Binary op left right) place locals objects = integer (binary w.model op place left right locals objects)
kind_step w (ExprKind-F.Bracket inner) place locals objects = inner locals objects

abbrev pub expr_step : Expr-F (Place → Meaning) Meaning → Meaning
expr_step e = e.kind e.place

abbrev pub value : World → Expr → Meaning
value w = fold-Expr (Place → Meaning) Meaning (kind_step w) expr_step

abbrev pub kind_value : World → ExprKind → Place → Meaning
kind_value w = fold-ExprKind (Place → Meaning) Meaning (kind_step w) expr_step

-- of several, one after another
abbrev pub values_of : World → List Expr → List Block → List Object → Result (List TypedValue) Stop
values_of w args = all_of (map (value w) args)

-- of an integer
abbrev pub number : World → Expr → List Block → List Object → Result TypedValue Stop
number w e locals objects = do
  v ← value w e locals objects
  Ok (number_of v)
