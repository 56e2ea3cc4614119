-- Ranks and the promotion of small types (ISO/IEC 9899:1999, 6.3.1.1).
use Rattle.std.specs.Prelude.{ℕ, nat_lt, if◌then◌else◌}
use Rattle.c_text.specs.declared.token.IntType.{IntType}
use Rattle.c_text.specs.declared.token.IntType.TheVariants.{Bool, SignedChar, UnsignedChar, Short, UnsignedShort, Int, UnsignedInt, Long, UnsignedLong, LongLong, UnsignedLongLong}
use Rattle.c_widths.specs.DataModel.{DataModel}
use Rattle.c_widths.specs.IntegerType.{value_bits}

abbrev pub rank : IntType → ℕ
rank Bool = 0
rank SignedChar = 1
rank UnsignedChar = 1
rank Short = 2
rank UnsignedShort = 2
rank Int = 3
rank UnsignedInt = 3
rank Long = 4
rank UnsignedLong = 4
rank LongLong = 5
rank UnsignedLongLong = 5

-- a type of lower rank than int becomes int where int holds all its values, and else unsigned int
abbrev pub promote : DataModel → IntType → IntType
promote m type =
    if nat_lt (rank type) 3 then (if nat_lt (value_bits m type) m.int then Int else UnsignedInt)
    else type
