-- How a number is spelled: an optional sign, digits with an optional point, and an optional exponent.
use Rattle.std.specs.Prelude.{◌≡◌, ◌≢◌, ℕ, Bool, true, false, ◌⊎◌, List, [], ◌∷◌, ◌++◌, length, ℤ, pos, ◌-ℤ◌}
use Rattle.limit_fraction.specs.Number.{Number, units}
use Rattle.limit_fraction.specs.Digits.{AreDigits, value_after, signed}

-- a sign, which may be left out, and whether it is a minus
abbrev pub IsSign : List ℕ → Bool → Type 0
IsSign bs negative = ((bs ≡ []) × (negative ≡ false)) ⊎ ((bs ≡ 43 ∷ []) × (negative ≡ false)) ⊎ ((bs ≡ 45 ∷ []) × (negative ≡ true))

-- at least one digit in all, before and behind a point, which may be left out where no digit follows
pub record IsSignificand (bs whole fraction : List ℕ) : Type 0 where
  pub text : ((bs ≡ whole) × (fraction ≡ [])) ⊎ (bs ≡ whole ++ 46 ∷ fraction)
  pub whole_is : AreDigits whole
  pub fraction_is : AreDigits fraction
  pub some : whole ++ fraction ≢ []

-- nothing, or `e` or `E`, an optional sign and at least one digit
pub record IsMarked (bs : List ℕ) (exponent : ℤ) : Type 0 where
  pub mark : ℕ
  pub sign : List ℕ
  pub digits : List ℕ
  pub negative : Bool
  pub text : bs ≡ mark ∷ sign ++ digits
  pub mark_is : (mark ≡ 101) ⊎ (mark ≡ 69)
  pub sign_is : IsSign sign negative
  pub digits_are : AreDigits digits
  pub some : digits ≢ []
  pub value : exponent ≡ signed negative (value_after 0 digits)

-- an exponent, which may be left out
abbrev pub IsExponent : List ℕ → ℤ → Type 0
IsExponent bs exponent = ((bs ≡ []) × (exponent ≡ pos 0)) ⊎ IsMarked bs exponent

-- the bytes spell the number
pub record Spells (bs : List ℕ) (n : Number) : Type 0 where
  pub sign : List ℕ
  pub significand : List ℕ
  pub tail : List ℕ
  pub negative : Bool
  pub before_point : List ℕ
  pub behind_point : List ℕ
  pub exponent : ℤ
  pub text : bs ≡ sign ++ (significand ++ tail)
  pub sign_is : IsSign sign negative
  pub significand_is : IsSignificand significand before_point behind_point
  pub tail_is : IsExponent tail exponent
  pub value : n ≡ units (exponent -ℤ pos (length behind_point)) (signed negative (value_after 0 (before_point ++ behind_point)))
