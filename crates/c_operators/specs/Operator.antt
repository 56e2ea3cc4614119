-- What an operator gives between two values (ISO/IEC 9899:1999, 6.5.6 to 6.5.12), but for `&&` and `||`.
use Rattle.std.specs.Prelude.{Bool, true, false, if◌then◌else◌}
use Rattle.c_text.specs.declared.token.IntType.{IntType}
use Rattle.c_tree.specs.declared.expression.BinaryOp.{BinaryOp}
use Rattle.c_tree.specs.declared.expression.BinaryOp.TheVariants.{ShiftLeft, ShiftRight}
use Rattle.c_widths.specs.DataModel.{DataModel}
use Rattle.c_widths.specs.CommonType.{common_promoted}
use Rattle.c_widths.specs.Conversion.{convert}
use Rattle.c_operators.specs.declared.value.TypedValue.{TypedValue}
use Rattle.c_operators.specs.declared.value.Value.{Value}
use Rattle.c_operators.specs.declared.value.Value.TheVariants.{Integer}
use Rattle.c_operators.specs.Value.{Computed, pointer_of}
use Rattle.c_operators.specs.Sign.{in_promoted}
use Rattle.c_operators.specs.Shift.{shifted}
use Rattle.c_operators.specs.Arithmetic.{combined}
use Rattle.c_operators.specs.PointerEquality.{compared}

abbrev pub is_shift : BinaryOp → Bool
is_shift ShiftLeft = true
is_shift ShiftRight = true
is_shift other = false

abbrev pub shifted_from : DataModel → BinaryOp → TypedValue → TypedValue → Computed
shifted_from m op left right = shifted m op left.kind left.value right.value

abbrev pub combined_in : DataModel → BinaryOp → IntType → TypedValue → TypedValue → Computed
combined_in m op type left right = combined m op type (convert m type left.value) (convert m type right.value)

-- a shift promotes its left operand; every other operator takes both in their common type
unfoldable pub operate : DataModel → BinaryOp → TypedValue → TypedValue → Computed
operate m op left right =
    if is_shift op then shifted_from m op (in_promoted m left) right
    else combined_in m op (common_promoted m left.kind right.kind) left right

-- between any two values
abbrev pub applied : DataModel → BinaryOp → Value → Value → Computed
applied m op (Integer left) (Integer right) = operate m op left right
applied m op left right = compared op (pointer_of left) (pointer_of right)
