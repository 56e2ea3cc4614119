-- Numbers with their types, and what an expression gives (ISO/IEC 9899:1999, 6.5).
use Rattle.std.specs.Prelude.{Bool, not, ◌&&◌, if◌then◌else◌, ℤ, pos, Result, Ok, Err}
use Rattle.std.specs.Ordering.{int_eq}
use Rattle.c_text.specs.declared.token.IntType.{IntType}
use Rattle.c_text.specs.declared.token.IntType.TheVariants.{Int}
use Rattle.c_mem.specs.declared.undefined.Undefined.{Undefined}
use Rattle.c_mem.specs.declared.objects.Pointer.{Pointer}
use Rattle.c_mem.specs.declared.objects.Pointer.TheVariants.{Null}
use Rattle.c_widths.specs.DataModel.{DataModel}
use Rattle.c_widths.specs.IntegerType.{is_signed}
use Rattle.c_widths.specs.Conversion.{convert, holds}
use Rattle.c_operators.specs.declared.value.TypedValue.{TypedValue}
use Rattle.c_operators.specs.declared.value.Value.{Value}
use Rattle.c_operators.specs.declared.value.Value.TheVariants.{Integer, Pointer as pointer}

-- what an operator gives, or what is undefined
abbrev pub Computed : Type 0
Computed = Result TypedValue Undefined

abbrev pub typed : IntType → ℤ → TypedValue
typed type number = record { kind = type; value = number }

-- 6.5p5: a result in its type, where an unsigned type takes it modulo its range; what is undefined where a signed type does not hold it
abbrev pub in_type : DataModel → Undefined → IntType → ℤ → Computed
in_type m fault type number =
    if is_signed type && not (holds m type number) then Err fault
    else Ok (typed type (convert m type number))

-- 6.5.8p6, 6.5.9p3: the int 1 or 0
abbrev pub truth_value : Bool → TypedValue
truth_value is = typed Int (if is then pos 1 else pos 0)

-- ---- the two kinds of values; each definition has some answer for the other kind

abbrev pub number_of : Value → TypedValue
number_of (Integer number) = number
number_of (pointer p) = typed Int (pos 0)

abbrev pub pointer_of : Value → Pointer
pointer_of (Integer number) = Null
pointer_of (pointer p) = p

-- 6.5.13p3, 6.8.4.1p2: it compares unequal to 0
abbrev pub is_true : Value → Bool
is_true v = not (int_eq (number_of v).value (pos 0))
