-- Sums, differences, bits and comparisons of two numbers in their common type (ISO/IEC 9899:1999, 6.5.6 and 6.5.8 to 6.5.12).
use Rattle.std.specs.Prelude.{ℕ, not, ℤ, pos, ◌+ℤ◌, ◌-ℤ◌, int_lt, int_le, unsigned_abs, bit_and, bit_or, bit_xor, Ok, false}
use Rattle.std.specs.Ordering.{int_eq}
use Rattle.c_text.specs.declared.token.IntType.{IntType}
use Rattle.c_tree.specs.declared.expression.BinaryOp.{BinaryOp}
use Rattle.c_tree.specs.declared.expression.BinaryOp.TheVariants.{Add, Subtract, BitAnd, BitOr, BitXor, Equal, NotEqual, Less, Greater, LessEqual}
use Rattle.c_mem.specs.declared.undefined.Undefined.TheVariants.{Overflow}
use Rattle.c_widths.specs.DataModel.{DataModel}
use Rattle.c_widths.specs.IntegerType.{bits_of}
use Rattle.c_widths.specs.Conversion.{convert, wrap}
use Rattle.c_operators.specs.declared.value.TypedValue.{TypedValue}
use Rattle.c_operators.specs.Value.{Computed, typed, in_type, truth_value}

-- the bits of a number in a type, in two's complement, as a number
abbrev pub bits_in : DataModel → IntType → ℤ → ℕ
bits_in m type number = unsigned_abs (wrap false (bits_of m type) number)

-- the number that they are in the type
abbrev pub of_bits : DataModel → IntType → ℕ → TypedValue
of_bits m type bits = typed type (convert m type (pos bits))

abbrev pub combined : DataModel → BinaryOp → IntType → ℤ → ℤ → Computed
combined m Add type x y = in_type m Overflow type (x +ℤ y)
combined m Subtract type x y = in_type m Overflow type (x -ℤ y)
combined m BitAnd type x y = Ok (of_bits m type (bit_and (bits_in m type x) (bits_in m type y)))
combined m BitOr type x y = Ok (of_bits m type (bit_or (bits_in m type x) (bits_in m type y)))
combined m BitXor type x y = Ok (of_bits m type (bit_xor (bits_in m type x) (bits_in m type y)))
combined m Equal type x y = Ok (truth_value (int_eq x y))
combined m NotEqual type x y = Ok (truth_value (not (int_eq x y)))
combined m Less type x y = Ok (truth_value (int_lt x y))
combined m Greater type x y = Ok (truth_value (int_lt y x))
combined m LessEqual type x y = Ok (truth_value (int_le x y))
combined m other type x y = Ok (truth_value (int_le y x))
