-- Worked values of the reading, by computation.
use Rattle.std.proofs.Common.{◌≡◌, ℕ, pos, negsuc, codes, refl, option_map, Option, Some, None, List}
use native.Mathlib.Decide.{dec_lt, ℕ_discrete}
use Rattle.limit_fraction.specs.Number.{Number, units}
use Rattle.limit_fraction.specs.Decimal.{number_of, kept_parts}
use Rattle.limit_fraction.specs.Reading.{decimal_of, without_tens}

abbrev reads : List ℕ → Option Number
reads bs = option_map number_of (decimal_of bs)

point : reads (codes "229.52") ≡ Some (units (negsuc 1) (pos 22952))
unfolding decimal_of without_tens kept_parts dec_lt ℕ_discrete
point = refl

trailing_zero : reads (codes "0.10e1") ≡ Some (units (pos 0) (pos 1))
unfolding decimal_of without_tens kept_parts dec_lt ℕ_discrete
trailing_zero = refl

minus_zero : reads (codes "-0.00") ≡ Some (units (pos 0) (pos 0))
unfolding decimal_of without_tens kept_parts dec_lt ℕ_discrete
minus_zero = refl

far_zero : reads (codes "0e999") ≡ Some (units (pos 0) (pos 0))
unfolding decimal_of without_tens kept_parts dec_lt ℕ_discrete
far_zero = refl

plus : reads (codes "+.5E-3") ≡ Some (units (negsuc 3) (pos 5))
unfolding decimal_of without_tens kept_parts dec_lt ℕ_discrete
plus = refl

minus : reads (codes "-12.e2") ≡ Some (units (pos 2) (negsuc 11))
unfolding decimal_of without_tens kept_parts dec_lt ℕ_discrete
minus = refl

whole : reads (codes "2200") ≡ Some (units (pos 2) (pos 22))
unfolding decimal_of without_tens kept_parts dec_lt ℕ_discrete
whole = refl

greatest_exponent : reads (codes "1000e397") ≡ Some (units (pos 400) (pos 1))
unfolding decimal_of without_tens kept_parts dec_lt ℕ_discrete
greatest_exponent = refl

no_digit : reads (codes ".") ≡ None
unfolding decimal_of without_tens kept_parts dec_lt ℕ_discrete
no_digit = refl

no_exponent : reads (codes "1e") ≡ None
unfolding decimal_of without_tens kept_parts dec_lt ℕ_discrete
no_exponent = refl

two_signs : reads (codes "+-1") ≡ None
unfolding decimal_of without_tens kept_parts dec_lt ℕ_discrete
two_signs = refl

long : reads (codes "12345678901234567890123456789") ≡ None
unfolding decimal_of without_tens kept_parts dec_lt ℕ_discrete
long = refl

past_the_greatest : reads (codes "1000e398") ≡ None
unfolding decimal_of without_tens kept_parts dec_lt ℕ_discrete
past_the_greatest = refl

space : reads (codes " 1") ≡ None
unfolding decimal_of without_tens kept_parts dec_lt ℕ_discrete
space = refl
