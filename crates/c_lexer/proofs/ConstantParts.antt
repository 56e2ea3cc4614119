-- The parts of an integer constant.
use Rattle.std.proofs.Common.{get_or, drop-cons, ◌≡◌, ℕ, suc, ◌+◌, ◌*◌, ◌^◌, ◌<◌, ◌≤◌, Bool, true, false, cond, nat_lt, List, [], ◌∷◌, length, take, drop, take_while, Some, None, refl, ap, ◌∙◌, arith}
use Rattle.std.specs.Char.{digit_value}
use Rattle.std.specs.Str.Parse.{AllDigits, digits_value, digits_value_after}
use Rattle.std.proofs.lemmas.Bool.Decides.{nat_tests}
use Rattle.std.proofs.lemmas.List.{nil_from_length}
use Rattle.std.proofs.lemmas.List.Sums.{take_while-cons}
use Rattle.std.proofs.Math.Nat.{le-mul_of_pos_right}
use Rattle.c_text.specs.IntegerConstant.{Suffix, suffix_of, value_limit, in_base, constant_from, constant_in}
use Rattle.c_lexer.proofs.Lengths.{take-take_while}
use Rattle.c_text.proofs.Constants.{constant, from-digits}

-- ---- digits

-- more digits give no less
pub after-le : (base n : ℕ) (ds : List ℕ) → 1 ≤ base → n ≤ digits_value_after base n ds
after-le base n [] h = omega arith
after-le base n (d ∷ ds) h =
    let step : n ≤ n * base = le-mul_of_pos_right n h in
    let more = after-le base (n * base + digit_value d) ds h in
    omega arith

-- one digit more makes the value too large
pub large-behind : (base value i digit : ℕ) (ds : List ℕ) → 1 ≤ base → i < length ds → digit ≡ digit_value (get_or ds i 0) → 2 ^ 64 ≤ value * base + digit → 2 ^ 64 ≤ digits_value_after base value (drop i ds)
large-behind base value i digit ds b lt e large =
    let more = after-le base (value * base + digit_value (get_or ds i 0)) (drop (suc i) ds) b in
    rw (drop-cons ds i 0) (omega arith)

ltb-digit : (n base : ℕ) → nat_lt n base ≡ true → n < base
ltb-digit n base h = grind (arith, nat_tests)

-- the digits at the front are digits
pub front-digits : (base : ℕ) (bs : List ℕ) → AllDigits base (take_while (in_base base) bs)
front-digits base [] = tt
front-digits base (b ∷ bs) = rw take_while-cons (chosen (in_base base b) refl (front-digits base bs))
  where
    chosen : (r : Bool) → in_base base b ≡ r → AllDigits base (take_while (in_base base) bs) → AllDigits base (cond r (b ∷ take_while (in_base base) bs) [])
    chosen true e ih = (ltb-digit (digit_value b) base e, ih)
    chosen false e ih = tt

-- ---- with a suffix

pub from-no_suffix : (base : ℕ) (ds : List ℕ) → constant_from base ds None ≡ None
from-no_suffix base [] = refl
from-no_suffix base (d ∷ ds) = refl

pub from-large : (base : ℕ) (ds : List ℕ) (s : Suffix) → 2 ^ 64 ≤ digits_value base ds → constant_from base ds (Some s) ≡ None
unfolding value_limit
from-large base [] s h = refl
from-large base (d ∷ ds) s h =
    let e : nat_lt (digits_value base (d ∷ ds)) (2 ^ 64) ≡ false = grind (arith, nat_tests) in
    rw e refl

-- ---- the whole

-- digits of so many bytes and a suffix, with a value below 2^64
pub constant_in-read : (base count v : ℕ) (bs : List ℕ) (s : Suffix) → count ≡ length (take_while (in_base base) bs) → 0 < count → suffix_of (drop count bs) ≡ Some s
    → v ≡ digits_value base (take count bs) → v < 2 ^ 64 → constant_in base bs ≡ Some (constant v base s)
constant_in-read base count v bs s e some x is small =
    let ds : take count bs ≡ take_while (in_base base) bs = rw (e, take-take_while) refl in
    let same : v ≡ digits_value base (take_while (in_base base) bs) = is ∙ ap (digits_value base) ds in
    rw (← e, x, same) (from-digits base (take_while (in_base base) bs) s (omega arith) (omega arith))

pub constant_in-large : (base count : ℕ) (bs : List ℕ) (s : Suffix) → count ≡ length (take_while (in_base base) bs) → suffix_of (drop count bs) ≡ Some s
    → 2 ^ 64 ≤ digits_value base (take count bs) → constant_in base bs ≡ None
constant_in-large base count bs s e x large =
    let ds : take count bs ≡ take_while (in_base base) bs = rw (e, take-take_while) refl in
    rw (← e, x) (from-large base (take_while (in_base base) bs) s (rw (← ds) large))

pub constant_in-no_suffix : (base count : ℕ) (bs : List ℕ) → count ≡ length (take_while (in_base base) bs) → suffix_of (drop count bs) ≡ None → constant_in base bs ≡ None
constant_in-no_suffix base count bs e x = rw (← e, x) (from-no_suffix base (take_while (in_base base) bs))

pub constant_in-no_digit : (base count : ℕ) (bs : List ℕ) → count ≡ length (take_while (in_base base) bs) → count ≡ 0 → constant_in base bs ≡ None
constant_in-no_digit base count bs e none = rw (nil_from_length (take_while (in_base base) bs) (omega arith)) refl
