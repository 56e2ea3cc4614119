-- Digits and signs.
use Rattle.std.specs.Prelude.{◌≡◌, ℕ, ◌+◌, ◌-◌, ◌*◌, ◌^◌, ◌≤◌, ◌⊎◌, unsigned_abs, Bool, true, false, List, [], ◌∷◌, IsTrue, ℤ, pos, neg_ℤ}
use Rattle.std.specs.List.{list_all}
use Rattle.std.specs.Char.{is_ascii_digit}

-- each byte is a digit
abbrev pub AreDigits : List ℕ → Type 0
AreDigits ds = IsTrue (list_all is_ascii_digit ds)

-- the number that digits write after those of n
abbrev pub value_after : ℕ → List ℕ → ℕ
value_after n [] = n
value_after n (d ∷ ds) = value_after (n * 10 + (d - 48)) ds

-- n, or -n after a minus
abbrev pub signed : Bool → ℕ → ℤ
signed false n = pos n
signed true n = neg_ℤ (pos n)

-- however many tens are taken off, at least 29 digits are left
pub record IsLong (n : ℕ) : Type 0 where
  pub long : (m z : ℕ) → n ≡ m * 10 ^ z → 10 ^ 28 ≤ m

-- y is x, or both are 2^100 or more in size
abbrev pub IsAlike : ℤ → ℤ → Type 0
IsAlike x y = (y ≡ x) ⊎ ((2 ^ 100 ≤ unsigned_abs x) × (2 ^ 100 ≤ unsigned_abs y))
