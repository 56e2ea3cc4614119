-- Constants and the operators before an operand (ISO/IEC 9899:1999, 6.4.4.1 and 6.5.3.3).
use Rattle.std.specs.Prelude.{pos, negsuc, neg_ℤ, ◌-ℤ◌, Option, Some, None, Ok, Err}
use Rattle.std.specs.Ordering.{int_eq}
use Rattle.c_text.specs.declared.token.Constant.{Constant}
use Rattle.c_text.specs.declared.token.IntType.{IntType}
use Rattle.c_tree.specs.declared.expression.UnaryOp.{UnaryOp}
use Rattle.c_tree.specs.declared.expression.UnaryOp.TheVariants.{Plus, Minus, Complement, Not}
use Rattle.c_mem.specs.declared.undefined.Undefined.TheVariants.{Overflow, Indeterminate}
use Rattle.c_widths.specs.DataModel.{DataModel}
use Rattle.c_widths.specs.Promotion.{promote}
use Rattle.c_widths.specs.Conversion.{convert}
use Rattle.c_widths.specs.ConstantType.{constant_type}
use Rattle.c_operators.specs.declared.value.TypedValue.{TypedValue}
use Rattle.c_operators.specs.Value.{Computed, typed, in_type, truth_value}

-- a number in the type that promotion gives its own
abbrev pub in_promoted : DataModel → TypedValue → TypedValue
in_promoted m v = typed (promote m v.kind) (convert m (promote m v.kind) v.value)

-- the operand is promoted, but for `!`, which asks whether it is 0; of a number in two's complement the other bits are -1 less the number
abbrev pub signed : DataModel → UnaryOp → TypedValue → Computed
signed m Plus v = Ok (in_promoted m v)
signed m Minus v = in_type m Overflow (promote m v.kind) (neg_ℤ (in_promoted m v).value)
signed m Complement v = Ok (typed (promote m v.kind) (convert m (promote m v.kind) (negsuc 0 -ℤ (in_promoted m v).value)))
signed m Not v = Ok (truth_value (int_eq v.value (pos 0)))

abbrev pub constant_in : Constant → Option IntType → Computed
constant_in c (Some type) = Ok (typed type (pos c.value))
constant_in c None = Err Indeterminate

-- a constant that no type holds has no value; no unit without a fault has one
abbrev pub constant : DataModel → Constant → Computed
constant m c = constant_in c (constant_type m c)
