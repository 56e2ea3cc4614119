-- The common type of two operands (ISO/IEC 9899:1999, 6.3.1.8).
use Rattle.std.specs.Prelude.{Bool, true, false, nat_lt, nat_le, if◌then◌else◌}
use Rattle.c_text.specs.declared.token.IntType.{IntType}
use Rattle.c_widths.specs.DataModel.{DataModel}
use Rattle.c_widths.specs.IntegerType.{is_signed, bits_of, unsigned_of}
use Rattle.c_widths.specs.Promotion.{rank, promote}

abbrev pub greater_rank : IntType → IntType → IntType
greater_rank a b = if nat_lt (rank a) (rank b) then b else a

-- of an unsigned and a signed type: the unsigned one where its rank is not less, else the signed one where it holds all values of the other, else the unsigned type of the signed one's width
abbrev pub of_both_signs : DataModel → IntType → IntType → IntType
of_both_signs m unsigned signed =
    if nat_le (rank signed) (rank unsigned) then unsigned
    else if nat_lt (bits_of m unsigned) (bits_of m signed) then signed
    else unsigned_of signed

abbrev pub by_signs : DataModel → Bool → Bool → IntType → IntType → IntType
by_signs m true false a b = of_both_signs m b a
by_signs m false true a b = of_both_signs m a b
by_signs m same other a b = greater_rank a b

-- of two promoted types
abbrev pub common : DataModel → IntType → IntType → IntType
common m a b = by_signs m (is_signed a) (is_signed b) a b

-- of two types as they stand
abbrev pub common_promoted : DataModel → IntType → IntType → IntType
common_promoted m a b = common m (promote m a) (promote m b)
