-- Shifts (ISO/IEC 9899:1999, 6.5.7): of a number in its promoted type, by a count.
use Rattle.std.specs.Prelude.{ℕ, ◌/◌, ◌^◌, Bool, ◌&&◌, if◌then◌else◌, ℤ, pos, ◌*ℤ◌, int_lt, int_le, unsigned_abs, Ok, Err}
use Rattle.c_text.specs.declared.token.IntType.{IntType}
use Rattle.c_tree.specs.declared.expression.BinaryOp.{BinaryOp}
use Rattle.c_tree.specs.declared.expression.BinaryOp.TheVariants.{ShiftLeft}
use Rattle.c_mem.specs.declared.undefined.Undefined.TheVariants.{ShiftCount, ShiftOverflow, NegativeRightShift}
use Rattle.c_widths.specs.DataModel.{DataModel}
use Rattle.c_widths.specs.IntegerType.{bits_of, is_signed}
use Rattle.c_operators.specs.Value.{Computed, typed, in_type}

-- 6.5.7p3: from 0 to the width less 1
abbrev pub is_count : DataModel → IntType → ℤ → Bool
is_count m type count = int_le (pos 0) count && int_lt count (pos (bits_of m type))

-- 6.5.7p4
abbrev pub left_shifted : DataModel → IntType → ℤ → ℕ → Computed
left_shifted m type number count =
    if int_lt number (pos 0) && is_signed type then Err ShiftOverflow
    else in_type m ShiftOverflow type (number *ℤ pos (2 ^ count))

-- 6.5.7p5
abbrev pub right_shifted : IntType → ℤ → ℕ → Computed
right_shifted type number count =
    if int_lt number (pos 0) then Err NegativeRightShift
    else Ok (typed type (pos (unsigned_abs number / 2 ^ count)))

abbrev pub by : DataModel → BinaryOp → IntType → ℤ → ℕ → Computed
by m ShiftLeft type number count = left_shifted m type number count
by m other type number count = right_shifted type number count

-- a wrong count is told before all else
abbrev pub shifted : DataModel → BinaryOp → IntType → ℤ → ℤ → Computed
shifted m op type number count =
    if is_count m type count then by m op type number (unsigned_abs count)
    else Err ShiftCount
