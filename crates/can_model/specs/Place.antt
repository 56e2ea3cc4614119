-- Where the bits of a signal stand in a frame. Place n is bit n % 8 of byte n / 8, where bit 0 is the least significant.
use Rattle.std.specs.Prelude.{◌≡◌, ℕ, ◌+◌, ◌-◌, ◌*◌, ◌/◌, ◌%◌, ◌<◌, ◌≤◌, true, if◌then◌else◌, MatchBool}
use Rattle.can_model.specs.declared.database.Signal.{Signal}
use Rattle.can_model.specs.RawValue.{has_bits}

-- how many bits stand ahead of a place where each byte is read from its most significant bit on
abbrev pub rank : ℕ → ℕ
rank p = 8 * (p / 8) + (7 - p % 8)

-- bit k of the signal is at place p: from the start up, or for Motorola from the start, its most significant bit, down in that order
abbrev pub IsAt : Signal → ℕ → ℕ → Type 0
IsAt s k p = MatchBool s.motorola (rank p + (k + 1) ≡ rank s.start + s.length) (p ≡ s.start + k)

-- the place of bit k
abbrev pub place_of : Signal → ℕ → ℕ
place_of s k = if s.motorola then rank (rank s.start + (s.length - (k + 1))) else s.start + k

-- one of the signal's bits is at place p; a signal of no bits or of more than 64 has no places
abbrev pub HasPlace : Signal → ℕ → Type 0
HasPlace s p = (has_bits s.length ≡ true) × ((k : ℕ) × (k < s.length) × IsAt s k p)

-- one place has bits of both signals
abbrev pub SharePlace : Signal → Signal → Type 0
SharePlace a b = (p : ℕ) × HasPlace a p × HasPlace b p

-- a signal of 1 to 64 bits that stands within so many bytes
pub record IsPlaced (s : Signal) (bytes : ℕ) : Type 0 where
  pub bits : has_bits s.length ≡ true
  pub start : s.start ≤ 65535
  pub inside : (k : ℕ) → k < s.length → place_of s k < 8 * bytes
