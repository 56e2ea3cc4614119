-- The characters that tokens begin and go on with (ISO/IEC 9899:1999, 5.2.1 and 6.4).
use Rattle.std.specs.Prelude.{◌≡◌, ℕ, Bool, true, false, ◌||◌, ◌&&◌, ◌==◌, nat_le, List, [], ◌∷◌}
use Rattle.std.specs.List.{AllByRecursion}

-- the end of a line
abbrev pub is_line_end : ℕ → Bool
is_line_end b = b == 10

-- white space (6.4): a blank, a line end, either tab, a form feed or a carriage return
abbrev pub is_blank : ℕ → Bool
is_blank b = b == 32 || (nat_le 9 b && nat_le b 13)

-- a nondigit (6.4.2.1): a letter or the underscore
abbrev pub is_letter : ℕ → Bool
is_letter b = (nat_le 97 b && nat_le b 122) || (nat_le 65 b && nat_le b 90) || b == 95

-- a digit (6.4.2.1)
abbrev pub is_digit : ℕ → Bool
is_digit b = nat_le 48 b && nat_le b 57

-- what a name goes on with (6.4.2.1): nondigits and digits
abbrev pub goes_on : ℕ → Bool
goes_on b = is_letter b || is_digit b

-- there is a first byte, and it passes
abbrev pub first_passes : (ℕ → Bool) → List ℕ → Bool
first_passes p [] = false
first_passes p (b ∷ bs) = p b

-- the first byte is this one
abbrev pub first_is : ℕ → List ℕ → Bool
first_is c bs = first_passes (λ b. b == c) bs

-- each byte passes
abbrev pub Pass : (ℕ → Bool) → List ℕ → Type 0
Pass p bs = AllByRecursion (λ b. p b ≡ true) bs

-- a name (6.4.2.1)
abbrev pub IsName : List ℕ → Type 0
IsName [] = ⊥
IsName (b ∷ bs) = (is_letter b ≡ true) × Pass goes_on bs
