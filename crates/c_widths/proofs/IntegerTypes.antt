-- Worked values of the types of integers, each by computation.
use Rattle.std.proofs.Common.{◌≡◌, refl, ℕ, Bool, false, pos, negsuc, Some, None}
use Rattle.c_text.specs.declared.token.Constant.{Constant}
use Rattle.c_text.specs.declared.token.IntType.TheVariants.{Bool as Boolean, SignedChar, UnsignedChar, UnsignedShort, Int, UnsignedInt, Long, UnsignedLong, LongLong, UnsignedLongLong}
use Rattle.c_widths.specs.DataModel.{ilp32, lp64}
use Rattle.c_widths.specs.IntegerType.{exact_type, size_type}
use Rattle.c_widths.specs.Promotion.{promote}
use Rattle.c_widths.specs.Conversion.{convert, wrap}
use Rattle.c_widths.specs.CommonType.{common_promoted}
use Rattle.c_widths.specs.ConstantType.{constant_type}

-- ---- promotion

unsigned_short : promote ilp32 UnsignedShort ≡ Int
unsigned_short = refl

boolean : promote lp64 Boolean ≡ Int
boolean = refl

-- ---- common types

int_and_unsigned_char : common_promoted lp64 Int UnsignedChar ≡ Int
int_and_unsigned_char = refl

-- long holds all values of unsigned int under one model alone
unsigned_int_and_long_32 : common_promoted ilp32 UnsignedInt Long ≡ UnsignedLong
unsigned_int_and_long_32 = refl

unsigned_int_and_long_64 : common_promoted lp64 UnsignedInt Long ≡ Long
unsigned_int_and_long_64 = refl

long_long_and_unsigned_long_64 : common_promoted lp64 LongLong UnsignedLong ≡ UnsignedLongLong
long_long_and_unsigned_long_64 = refl

-- ---- conversion

to_boolean : convert lp64 Boolean (negsuc 6) ≡ pos 1
to_boolean = refl

to_unsigned_char : convert lp64 UnsignedChar (negsuc 0) ≡ pos 255
unfolding wrap
to_unsigned_char = refl

to_signed_char : convert lp64 SignedChar (pos 200) ≡ negsuc 55
unfolding wrap
to_signed_char = refl

-- ---- types of headers

uint64_32 : exact_type ilp32 64 false ≡ UnsignedLongLong
unfolding exact_type
uint64_32 = refl

uint64_64 : exact_type lp64 64 false ≡ UnsignedLong
unfolding exact_type
uint64_64 = refl

size_32 : size_type ilp32 ≡ UnsignedInt
unfolding size_type
size_32 = refl

size_64 : size_type lp64 ≡ UnsignedLong
unfolding size_type
size_64 = refl

-- ---- constants

abbrev spelled : ℕ → ℕ → Bool → ℕ → Constant
spelled value base unsigned longs = record { value = value; base = base; unsigned = unsigned; longs = longs }

decimal_32 : constant_type ilp32 (spelled 2147483648 10 false 0) ≡ Some LongLong
unfolding constant_type wrap
decimal_32 = refl

decimal_64 : constant_type lp64 (spelled 2147483648 10 false 0) ≡ Some Long
unfolding constant_type wrap
decimal_64 = refl

hexadecimal_32 : constant_type ilp32 (spelled 4294967295 16 false 0) ≡ Some UnsignedInt
unfolding constant_type wrap
hexadecimal_32 = refl

hexadecimal_long_64 : constant_type lp64 (spelled 18446744073709551615 16 false 1) ≡ Some UnsignedLong
unfolding constant_type wrap
hexadecimal_long_64 = refl

-- 2 ^ 63 is no value of a signed type, and a decimal constant without `u` has no other
decimal_too_large : constant_type lp64 (spelled 9223372036854775808 10 false 0) ≡ None
unfolding constant_type wrap
decimal_too_large = refl
