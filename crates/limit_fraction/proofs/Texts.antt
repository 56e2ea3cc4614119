-- Digits at the front of a text.
use Rattle.std.proofs.Common.{◌≡◌, ℕ, ◌+◌, ◌-◌, ◌*◌, ◌<◌, ◌≤◌, min, ◌&&◌, ⊎_elim, Bool, true, false, List, [], ◌∷◌, ◌++◌, ◌==◌, length, get_or, drop, arith, sym, ap, ◌∙◌, refl}
use Rattle.std.specs.Char.{is_ascii_digit}
use Rattle.std.specs.List.{list_all}
use Rattle.std.proofs.lemmas.Bool.{cases_lt}
use Rattle.std.proofs.lemmas.Bool.Decides.{nat_tests}
use Rattle.std.proofs.lemmas.List.{at_drop_more}
use Rattle.limit_fraction.specs.Digits.{value_after, IsLong}
use Rattle.limit_fraction.specs.Reading.{digits_of, fraction_of}
use Rattle.limit_fraction.proofs.Tens.{IsLong-more}

pub digit_below : (b : ℕ) → is_ascii_digit b ≡ true → b - 48 < 10
digit_below b h = grind (arith, nat_tests)

pub IsLong-after : (n : ℕ) (bs : List ℕ) → IsLong n → IsLong (value_after n (digits_of bs))
IsLong-after n [] h = h
IsLong-after n (b ∷ bs) h =
    elim (is_ascii_digit b) as (λ t. is_ascii_digit b ≡ t → IsLong (value_after n (digits_of (b ∷ bs)))) [
      | true ↦ λ e. rw e (IsLong-after (n * 10 + (b - 48)) bs (IsLong-more n (b - 48) (digit_below b e) h))
      | false ↦ λ e. rw e h
    ] refl

pub IsLong-fraction : (n : ℕ) (bs : List ℕ) → IsLong n → IsLong (value_after n (fraction_of bs))
IsLong-fraction n [] h = h
IsLong-fraction n (b ∷ bs) h =
    elim (b == 46) as (λ t. (b == 46) ≡ t → IsLong (value_after n (fraction_of (b ∷ bs)))) [
      | true ↦ λ e. rw e (IsLong-after n bs h)
      | false ↦ λ e. rw e h
    ] refl

pub value_after-append : (n : ℕ) (xs ys : List ℕ) → value_after n (xs ++ ys) ≡ value_after (value_after n xs) ys
value_after-append n [] ys = refl
value_after-append n (x ∷ xs) ys = value_after-append (n * 10 + (x - 48)) xs ys

-- the number is long where it is so with the digit at i
pub IsLong-at : (bs : List ℕ) (i v : ℕ) → i < length bs → is_ascii_digit (get_or bs i 0) ≡ true → IsLong (v * 10 + (get_or bs i 0 - 48)) → IsLong (value_after v (digits_of (drop i bs)))
IsLong-at bs i v within digit h =
    rw (at_drop_more digits_of bs i 0 within, digit) (IsLong-after _ (drop (i + 1) bs) h)

pub value_after-grows : (n : ℕ) (ds : List ℕ) → n ≤ value_after n ds
value_after-grows n [] = omega arith
value_after-grows n (d ∷ ds) = omega (arith, value_after-grows (n * 10 + (d - 48)) ds)

-- a value that is cut off on the way is cut off at the end
pub value_after-cut : (limit n m : ℕ) (ds : List ℕ) → n ≡ min m limit → min (value_after n ds) limit ≡ min (value_after m ds) limit
value_after-cut limit n m ds e =
    ⊎_elim (λ far. omega (arith, value_after-grows n ds, value_after-grows m ds))
    (λ near. let same : n ≡ m = omega arith in ap (λ x. min (value_after x ds) limit) same) (cases_lt limit m)

-- the same one digit on
pub value_after-cut_at : (bs : List ℕ) (i v x limit : ℕ) → i < length bs → x ≡ min (v * 10 + (get_or bs i 0 - 48)) limit → min (value_after x (drop (i + 1) bs)) limit ≡ min (value_after v (drop i bs)) limit
value_after-cut_at bs i v x limit within e =
    value_after-cut limit x (v * 10 + (get_or bs i 0 - 48)) (drop (i + 1) bs) e
    ∙ sym (at_drop_more (λ ds. min (value_after v ds) limit) bs i 0 within)

pub list_all-at : (p : ℕ → Bool) (bs : List ℕ) (i : ℕ) → i < length bs → p (get_or bs i 0) ≡ true → list_all p (drop (i + 1) bs) ≡ list_all p (drop i bs)
list_all-at p bs i within passes = sym (at_drop_more (list_all p) bs i 0 within ∙ ap (λ t. t && list_all p (drop (i + 1) bs)) passes)
