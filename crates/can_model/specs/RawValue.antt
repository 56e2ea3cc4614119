-- The values that the bits of a signal can hold.
use Rattle.std.specs.Prelude.{ℕ, ◌-◌, ◌^◌, Bool, true, false, ◌&&◌, nat_le, if◌then◌else◌, ℤ, pos, neg_ℤ, ◌-ℤ◌, int_le}

-- from 1 to 64 bits
abbrev pub has_bits : ℕ → Bool
has_bits len = nat_le 1 len && nat_le len 64

-- the least value of so many bits, as two's complement where they are signed
abbrev pub lowest : ℕ → Bool → ℤ
lowest len true = neg_ℤ (pos (2 ^ (len - 1)))
lowest len false = pos 0

abbrev pub greatest : ℕ → Bool → ℤ
greatest len true = pos (2 ^ (len - 1)) -ℤ pos 1
greatest len false = pos (2 ^ len) -ℤ pos 1

-- a value of so many bits
abbrev pub is_raw : ℕ → Bool → ℤ → Bool
is_raw len signed v = has_bits len && (int_le (lowest len signed) v && int_le v (greatest len signed))

-- how many bits a C field has for a signal of so many bits: the fewest of 8, 16, 32 and 64 that hold it
abbrev pub field_bits : ℕ → ℕ
field_bits len = if nat_le len 8 then 8 else if nat_le len 16 then 16 else if nat_le len 32 then 32 else 64

-- a value of a signal's field, which may be wider than the signal
abbrev pub is_field_value : ℕ → Bool → ℤ → Bool
is_field_value len signed v = is_raw (field_bits len) signed v
