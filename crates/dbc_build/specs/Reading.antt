-- What the values of attributes, choices and limits mean.
use Rattle.std.specs.Prelude.{ℕ, Bool, false, ◌&&◌, ◌||◌, ◌==◌, if◌then◌else◌, List, [], ◌∷◌, codes, ℤ, pos, int_le, unsigned_abs, nat_abs, Option, Some, None, option_and_then, filter_map}
use Rattle.limit_fraction.specs.declared.number.Decimal.{Decimal}
use Rattle.limit_fraction.specs.Decimal.{whole_of}
use Rattle.can_model.specs.declared.database.Choice.{Choice}
use Rattle.can_model.specs.RawValue.{is_raw}
use Rattle.dbc_reader.specs.declared.statement.ChoicePair.{ChoicePair}
use Rattle.dbc_reader.specs.declared.statement.Value.{Value}
use Rattle.dbc_reader.specs.declared.statement.Value.TheVariants as values

-- the attributes that count
abbrev pub cycle_attribute : List ℕ
cycle_attribute = codes "GenMsgCycleTime"

abbrev pub start_attribute : List ℕ
start_attribute = codes "GenSigStartValue"

abbrev pub message_name_attribute : List ℕ
message_name_attribute = codes "SystemMessageLongSymbol"

abbrev pub signal_name_attribute : List ℕ
signal_name_attribute = codes "SystemSignalLongSymbol"

-- a string that is not empty replaces the name that is written
abbrev pub long_name : List ℕ → Option Value → List ℕ
long_name name (Some (values.String (b ∷ bs))) = b ∷ bs
long_name name value = name

-- the whole number that a value is, from -2^64 to 2^64
abbrev pub whole_in : Option Value → Option ℤ
whole_in (Some (values.Number d)) = whole_of d
whole_in value = None

-- a cycle is a whole number from 1 to 4294967295
abbrev pub cycle_from : Option ℤ → Option ℕ
cycle_from (Some z) = if int_le (pos 1) z && int_le z (pos 4294967295) then Some (nat_abs z) else None
cycle_from None = None

-- the value, where it is a raw one of a signal of this length and sign
abbrev pub raw_in : ℕ → Bool → ℤ → Option ℤ
raw_in len signed z = if is_raw len signed z then Some z else None

abbrev pub initial_from : ℕ → Bool → Option ℤ → Option ℤ
initial_from len signed value = option_and_then (raw_in len signed) value

-- a choice of this name, where there is a value
abbrev pub choice_named : List ℕ → Option ℤ → Option Choice
choice_named name (Some v) = Some (record { value = v; name = name })
choice_named name None = None

-- choices whose value is no raw one are left out
abbrev pub choice_from : ℕ → Bool → ChoicePair → Option Choice
choice_from len signed pair = choice_named pair.text (option_and_then (raw_in len signed) (whole_of pair.value))

abbrev pub choices_from : ℕ → Bool → Option (List ChoicePair) → List Choice
choices_from len signed (Some pairs) = filter_map (choice_from len signed) pairs
choices_from len signed None = []

-- 1 and 2 are the two lengths of IEEE 754 numbers
abbrev pub is_float_type : Option ℕ → Bool
is_float_type (Some n) = n == 1 || n == 2
is_float_type None = false

abbrev pub is_zero : Decimal → Bool
is_zero d = unsigned_abs d.mantissa == 0

-- 0 and 0 are no limits
abbrev pub limit_from : Decimal → Decimal → Decimal → Option Decimal
limit_from low high limit = if is_zero low && is_zero high then None else Some limit
