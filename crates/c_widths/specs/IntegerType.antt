-- The eleven types of integers under a data model (ISO/IEC 9899:1999, 6.2.5), and those that names of headers stand for (7.17, 7.18.1.1).
use Rattle.std.specs.Prelude.{ℕ, ◌-◌, Bool, true, false, ◌==◌, if◌then◌else◌}
use Rattle.c_text.specs.declared.token.IntType.{IntType}
use Rattle.c_text.specs.declared.token.IntType.TheVariants.{Bool as Boolean, SignedChar, UnsignedChar, Short, UnsignedShort, Int, UnsignedInt, Long, UnsignedLong, LongLong, UnsignedLongLong}
use Rattle.c_text.specs.declared.token.Spelled.{Spelled}
use Rattle.c_text.specs.declared.token.Spelled.TheVariants.{Exact, Size, Plain}
use Rattle.c_widths.specs.DataModel.{DataModel}

-- ---- 6.2.5

abbrev pub is_signed : IntType → Bool
is_signed SignedChar = true
is_signed Short = true
is_signed Int = true
is_signed Long = true
is_signed LongLong = true
is_signed other = false

-- how many bits it has, the sign among them
abbrev pub bits_of : DataModel → IntType → ℕ
bits_of m Boolean = 1
bits_of m SignedChar = 8
bits_of m UnsignedChar = 8
bits_of m Short = 16
bits_of m UnsignedShort = 16
bits_of m Int = m.int
bits_of m UnsignedInt = m.int
bits_of m Long = m.long
bits_of m UnsignedLong = m.long
bits_of m LongLong = 64
bits_of m UnsignedLongLong = 64

-- without the sign
abbrev pub value_bits : DataModel → IntType → ℕ
value_bits m type = if is_signed type then bits_of m type - 1 else bits_of m type

-- the unsigned type of the same width
abbrev pub unsigned_of : IntType → IntType
unsigned_of SignedChar = UnsignedChar
unsigned_of Short = UnsignedShort
unsigned_of Int = UnsignedInt
unsigned_of Long = UnsignedLong
unsigned_of LongLong = UnsignedLongLong
unsigned_of other = other

-- ---- 7.18.1.1: int where it has the width, else the first other type that has it

abbrev pub signed_exact : DataModel → ℕ → IntType
signed_exact m width =
    if width == m.int then Int
    else if width == 8 then SignedChar
    else if width == 16 then Short
    else if width == m.long then Long
    else LongLong

unfoldable pub exact_type : DataModel → ℕ → Bool → IntType
exact_type m width signed = if signed then signed_exact m width else unsigned_of (signed_exact m width)

-- ---- 7.17: the unsigned type of the width of a pointer

unfoldable pub size_type : DataModel → IntType
size_type m = if m.pointer == m.int then UnsignedInt else UnsignedLong

-- ---- what a spelling stands for

abbrev pub type_of : DataModel → Spelled → IntType
type_of m (Exact width signed) = exact_type m width signed
type_of m Size = size_type m
type_of m (Plain type) = type
