-- The type of a constant (ISO/IEC 9899:1999, 6.4.4.1): the first of its list that holds it.
use Rattle.std.specs.Prelude.{pos, ℤ, ◌==◌, nat_le, if◌then◌else◌, List, [], ◌∷◌, ◌++◌, Option, Some, None}
use Rattle.c_text.specs.declared.token.Constant.{Constant}
use Rattle.c_text.specs.declared.token.IntType.{IntType}
use Rattle.c_text.specs.declared.token.IntType.TheVariants.{Int, UnsignedInt, Long, UnsignedLong, LongLong, UnsignedLongLong}
use Rattle.c_widths.specs.DataModel.{DataModel}
use Rattle.c_widths.specs.Conversion.{holds}

-- the types of one rank: unsigned alone behind `u`, signed alone for a decimal constant, and both for all others
abbrev pub of_rank : Constant → IntType → IntType → List IntType
of_rank c signed unsigned =
    if c.unsigned then unsigned ∷ []
    else if c.base == 10 then signed ∷ []
    else signed ∷ unsigned ∷ []

-- from the rank that its suffix begins with
abbrev pub types_of : Constant → List IntType
types_of c =
    (if c.longs == 0 then of_rank c Int UnsignedInt else [])
    ++ ((if nat_le c.longs 1 then of_rank c Long UnsignedLong else [])
    ++ of_rank c LongLong UnsignedLongLong)

abbrev pub first_that_holds : DataModel → ℤ → List IntType → Option IntType
first_that_holds m number [] = None
first_that_holds m number (type ∷ types) = if holds m type number then Some type else first_that_holds m number types

-- none where no type of the list holds it
unfoldable pub constant_type : DataModel → Constant → Option IntType
constant_type m c = first_that_holds m (pos c.value) (types_of c)
