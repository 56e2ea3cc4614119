-- Statements that change locals and objects: assignments (ISO/IEC 9899:1999, 6.5.16), declarations with a value (6.7.8) and `memset` (7.21.6.1).
use Rattle.std.specs.Prelude.{ℕ, List, [], ◌∷◌, Option, Some, None, Result, Ok, Err, ℤ, pos, unsigned_abs}
use Rattle.c_text.specs.declared.place.Place.{Place}
use Rattle.c_text.specs.declared.token.IntType.{IntType}
use Rattle.c_text.specs.declared.token.IntType.TheVariants.{Int, UnsignedChar}
use Rattle.c_tree.specs.declared.expression.BinaryOp.{BinaryOp}
use Rattle.c_tree.specs.declared.expression.BinaryOp.TheVariants as op
use Rattle.c_tree.specs.declared.expression.Expr.{Expr}
use Rattle.c_tree.specs.declared.expression.ExprKind.{ExprKind, out-ExprKind}
use Rattle.c_tree.specs.declared.expression.ExprKind.TheOpen.{ExprKind-F}
use Rattle.c_tree.specs.declared.statement.AssignOp.{AssignOp}
use Rattle.c_tree.specs.declared.statement.AssignOp.TheVariants as assign
use Rattle.c_mem.specs.declared.undefined.Undefined.TheVariants.{Indeterminate}
use Rattle.c_mem.specs.declared.objects.Pointer.{Pointer}
use Rattle.c_mem.specs.Objects.{load, store, fill, byte_of}
use Rattle.c_operators.specs.declared.value.TypedValue.{TypedValue}
use Rattle.c_operators.specs.declared.value.Value.{Value}
use Rattle.c_operators.specs.Value.{typed, number_of, pointer_of}
use Rattle.c_operators.specs.Operator.{operate}
use Rattle.c_widths.specs.DataModel.{DataModel}
use Rattle.c_widths.specs.IntegerType.{size_type}
use Rattle.c_widths.specs.Conversion.{convert}
use Rattle.cg_out.specs.Words.{◌>>=◌}
use Rattle.c_effect.specs.declared.state.Held.TheVariants.{Integer as Number}
use Rattle.c_effect.specs.declared.state.Stop.{Stop}
use Rattle.c_effect.specs.Locals.{held_by, read_local, read_pointer, number_kind, set_local, declare_local}
use Rattle.c_effect.specs.World.{World, stop, shown_at}
use Rattle.c_effect.specs.Loading.{slot_at}
use Rattle.c_effect.specs.ExpressionValue.{value, number}
use Rattle.c_effect.specs.Ending.{Effect, after, goes_on, with_value, with_objects}

-- ---- assignments: the place's index, then the right side, then for a compound one the load and the operator, then conversion to the type of the place

abbrev pub operator_of : AssignOp → Option BinaryOp
operator_of assign.Set = None
operator_of assign.BitOr = Some op.BitOr
operator_of assign.BitAnd = Some op.BitAnd
operator_of assign.BitXor = Some op.BitXor
operator_of assign.Add = Some op.Add
operator_of assign.Subtract = Some op.Subtract
operator_of assign.ShiftLeft = Some op.ShiftLeft
operator_of assign.ShiftRight = Some op.ShiftRight

-- what is stored, by what is loaded there and the right side; the operator shows at its own place
abbrev pub assigned : DataModel → Option BinaryOp → Place → IntType → Result TypedValue Stop → TypedValue → Result ℤ Stop
assigned m None place kind loaded right = Ok (convert m kind right.value)
assigned m (Some op) place kind loaded right = do
  left ← loaded
  v ← shown_at place (operate m op left right)
  Ok (convert m kind v.value)

abbrev pub number_in : Result Value Stop → Result TypedValue Stop
number_in (Ok v) = Ok (number_of v)
number_in (Err s) = Err s

-- a number into a local of integers; no unit without a fault assigns to another
abbrev pub into_number : World → List ℕ → Place → Option BinaryOp → Place → Option IntType → TypedValue → Effect
into_number w name place op op_place None right locals objects = after (Err (stop Indeterminate place)) locals objects
into_number w name place op op_place (Some kind) right locals objects =
    with_value (assigned w.model op op_place kind (number_in (shown_at place (read_local name locals))) right) locals objects (λ z.
    goes_on (set_local name (Number kind (Some z)) locals) objects)

abbrev pub into_local : World → List ℕ → Place → Option BinaryOp → Place → Expr → Effect
into_local w name place op op_place right locals objects =
    with_value (number w right locals objects) locals objects (λ v.
    into_number w name place op op_place (number_kind (held_by name locals)) v locals objects)

abbrev pub typed_in : IntType → Result ℤ Stop → Result TypedValue Stop
typed_in kind (Ok z) = Ok (typed kind z)
typed_in kind (Err s) = Err s

-- into a cell of the object at a pointer
abbrev pub into_cell : DataModel → Pointer → ℤ → IntType → Place → Option BinaryOp → Place → TypedValue → Effect
into_cell m p cell kind place op op_place right locals objects =
    with_value (assigned m op op_place kind (typed_in kind (shown_at place (load objects p cell))) right) locals objects (λ z.
    with_objects place (store objects p cell z) locals objects)

abbrev pub into_element : World → List ℕ → Expr → Place → Option BinaryOp → Place → Expr → Effect
into_element w base index place op op_place right locals objects =
    with_value (number w index locals objects) locals objects (λ i.
    with_value (number w right locals objects) locals objects (λ v.
    with_value (shown_at place (read_pointer base locals)) locals objects (λ p.
    into_cell w.model p i.value UnsignedChar place op op_place v locals objects)))

abbrev pub into_member : World → List ℕ → List ℕ → Place → Option BinaryOp → Place → Expr → Effect
into_member w base field place op op_place right locals objects =
    with_value (number w right locals objects) locals objects (λ v.
    with_value (shown_at place (read_pointer base locals)) locals objects (λ p.
    with_value (shown_at place (slot_at w p field objects)) locals objects (λ s.
    into_cell w.model p (pos s.number) s.kind place op op_place v locals objects)))

-- a target of another form is in no unit
abbrev pub assign_to : World → ExprKind-F ExprKind Expr → Place → Option BinaryOp → Place → Expr → Effect
assign_to w (ExprKind-F.Name name) place op op_place right = into_local w name place op op_place right
assign_to w (ExprKind-F.Element base index) place op op_place right = into_element w base index place op op_place right
assign_to w (ExprKind-F.Member base field) place op op_place right = into_member w base field place op op_place right
assign_to w other place op op_place right = λ locals objects. after (Err (stop Indeterminate place)) locals objects

unfoldable pub assignment : World → Expr → AssignOp → Place → Expr → Effect
assignment w target op place right = assign_to w (out-ExprKind target.kind) target.place (operator_of op) place right

-- ---- declarations: the local is there without a value, also in its own value (6.2.1p7)

abbrev pub initialized : World → IntType → List ℕ → Option Expr → Effect
initialized w kind name None = goes_on
initialized w kind name (Some e) = λ locals objects.
    with_value (number w e locals objects) locals objects (λ v.
    goes_on (set_local name (Number kind (Some (convert w.model kind v.value))) locals) objects)

abbrev pub declaration : World → IntType → List ℕ → Option Expr → Effect
declaration w kind name e locals objects = initialized w kind name e (declare_local name (Number kind None) locals) objects

-- ---- `memset`: the value as an int and then an unsigned char, the length as a size_t

abbrev pub filling : DataModel → Place → Value → TypedValue → TypedValue → Effect
filling m place at byte length locals objects =
    with_objects place (fill objects (pointer_of at) (byte_of (convert m Int byte.value)) (unsigned_abs (convert m (size_type m) length.value))) locals objects

abbrev pub memset : World → Place → List Expr → Effect
memset w place (p ∷ b ∷ n ∷ []) locals objects =
    with_value (value w p locals objects) locals objects (λ at.
    with_value (number w b locals objects) locals objects (λ byte.
    with_value (number w n locals objects) locals objects (λ length.
    filling w.model place at byte length locals objects)))
memset w place args locals objects = after (Err (stop Indeterminate place)) locals objects
