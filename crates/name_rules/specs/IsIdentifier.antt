-- What every identifier is.
use Rattle.std.specs.Prelude.{◌≡◌, ℕ, Bool, true, ◌||◌, ◌==◌, List, [], ◌∷◌}
use Rattle.std.specs.List.{AllByRecursion}
use Rattle.std.specs.Char.{is_ascii_digit, is_ascii_lowercase}

-- a small letter, a digit or `_`
abbrev pub is_identifier_byte : ℕ → Bool
is_identifier_byte b = is_ascii_lowercase b || is_ascii_digit b || b == 95

-- a small letter first, and then small letters, digits and `_`
abbrev pub IsIdentifier : List ℕ → Type 0
IsIdentifier [] = ⊥
IsIdentifier (b ∷ bs) = (is_ascii_lowercase b ≡ true) × AllByRecursion (λ c. is_identifier_byte c ≡ true) bs
