-- The bytes of a message and the values of its signals.
use Rattle.std.specs.Prelude.{◌≡◌, ◌↔◌, ℕ, zero, suc, ◌+◌, ◌-◌, ◌*◌, ◌/◌, ◌%◌, ◌^◌, ◌<◌, Bool, true, not, ◌&&◌, ◌==◌, if◌then◌else◌, List, length, get_or, ℤ, pos, negsuc, ◌-ℤ◌, Option, Some, None, slice_get, IsSomeAnd}
use Rattle.std.specs.List.{AllByRecursion}
use Rattle.can_model.specs.declared.database.Message.{Message}
use Rattle.can_model.specs.declared.database.Signal.{Signal}
use Rattle.can_model.specs.Place.{place_of, IsAt}
use Rattle.can_model.specs.Active.{value_at, IsActive}

-- bit k is 1, where bit 0 is the least significant
abbrev pub has_bit : ℕ → ℕ → Bool
has_bit n k = n / 2 ^ k % 2 == 1

-- the same of a number in two's complement
abbrev pub has_bit_in : ℤ → ℕ → Bool
has_bit_in (pos n) k = has_bit n k
has_bit_in (negsuc n) k = not (has_bit n k)

-- the bit at a place is 1
abbrev pub is_one : List ℕ → ℕ → Bool
is_one bytes p = has_bit (get_or bytes (p / 8) 0) (p % 8)

-- ---- from values to bytes

-- an active signal has its bit k at place p, and bit k of its value is 1
abbrev pub IsSet : Message → List (Option ℤ) → ℕ → Type 0
IsSet m values p =
    (i : ℕ) × (k : ℕ) × IsActive m values i × IsSomeAnd (slice_get m.signals i) (λ s. (k < s.length) × IsAt s k p)
    × IsSomeAnd (value_at values i) (λ v. has_bit_in v k ≡ true)

-- these are the bytes of the message where its signals have these values: what no active signal sets is 0
pub record IsFrame (m : Message) (values : List (Option ℤ)) (bytes : List ℕ) : Type 0 where
  pub size : length bytes ≡ m.length
  pub are_bytes : AllByRecursion (λ b. b < 256) bytes
  pub bits : (p : ℕ) → p < 8 * m.length → (is_one bytes p ≡ true) ↔ IsSet m values p

-- ---- from bytes to values

-- the sum of 2^k over the first so many bits k that are 1
abbrev pub sum_of_bits : (ℕ → Bool) → ℕ → ℕ
sum_of_bits bit zero = 0
sum_of_bits bit (suc n) = sum_of_bits bit n + (if bit n then 2 ^ n else 0)

-- bit k of the signal in these bytes
abbrev pub signal_bit : List ℕ → Signal → ℕ → Bool
signal_bit bytes s k = is_one bytes (place_of s k)

-- the signal's value in these bytes, as two's complement where it is signed
abbrev pub value_in : List ℕ → Signal → ℤ
value_in bytes s =
    pos (sum_of_bits (signal_bit bytes s) s.length) -ℤ pos (if s.signed && signal_bit bytes s (s.length - 1) then 2 ^ s.length else 0)

-- these are the values of the message's signals in these bytes: each active signal has one, and no other has
pub record AreRawValues (m : Message) (bytes : List ℕ) (values : List (Option ℤ)) : Type 0 where
  pub size : length values ≡ length m.signals
  pub active : (i : ℕ) → IsActive m values i → IsSomeAnd (slice_get m.signals i) (λ s. value_at values i ≡ Some (value_in bytes s))
  pub inactive : (i : ℕ) → ¬ IsActive m values i → value_at values i ≡ None
