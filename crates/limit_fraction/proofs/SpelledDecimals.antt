-- The decimal of a text is the one decimal that the text spells.
use Rattle.std.proofs.Common.{◌≡◌, ℕ, List, Option, Some, None, Result, Ok, Err, IfOk, sym, ap, ◌∙◌, refl}
use Rattle.limit_fraction.specs.declared.number.Decimal.{Decimal}
use Rattle.limit_fraction.specs.Number.{Number}
use Rattle.limit_fraction.specs.Reading.{number_in, kept, decimal_of, IsSpelled}
use Rattle.limit_fraction.proofs.Spelled.{spelled_from_read}
use Rattle.limit_fraction.proofs.ReadBack.{read_from_spelled}
use Rattle.limit_fraction.proofs.Wholes.{Answers}
use Rattle.limit_fraction.proofs.Unique.{same_from_kept, kept_from_same}

pub IsSpelled-decimal_of : (bs : List ℕ) (d : Decimal) → decimal_of bs ≡ Some d → IsSpelled bs d
unfolding decimal_of
IsSpelled-decimal_of bs d h = at (number_in bs) refl h
  where
    at : (o : Option Number) → number_in bs ≡ o → kept o ≡ Some d → IsSpelled bs d
    at None is same = cc
    at (Some n) is same = (n, spelled_from_read bs n is, same_from_kept n.mantissa n.exponent d same)

pub decimal_of-IsSpelled : (bs : List ℕ) (d : Decimal) → IsSpelled bs d → decimal_of bs ≡ Some d
unfolding decimal_of
decimal_of-IsSpelled bs d (n, spells, same) = ap kept (read_from_spelled bs n spells) ∙ kept_from_same n d same

-- ---- an answer by the reading is an answer by the spelling

pub spelled-answer : {E : Type 0} (bs : List ℕ) (r : Result Decimal E) → Answers r (decimal_of bs) → IfOk r (λ d. IsSpelled bs d)
spelled-answer bs (Ok d) h = IsSpelled-decimal_of bs d h
spelled-answer bs (Err e) h = tt

pub only-answer : {E : Type 0} (bs : List ℕ) (r : Result Decimal E) → Answers r (decimal_of bs) → (d : Decimal) → IsSpelled bs d → r ≡ Ok d
only-answer bs (Ok read) h d is = let same : Some read ≡ Some d = sym h ∙ decimal_of-IsSpelled bs d is in cc
only-answer bs (Err e) h d is = let same : None ≡ Some d = sym h ∙ decimal_of-IsSpelled bs d is in cc
