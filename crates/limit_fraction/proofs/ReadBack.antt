-- What is spelled is read: no part of a spelling goes on where the next begins.
use Rattle.std.proofs.Common.{◌≡◌, ◌≢◌, ℕ, ◌+◌, ◌==◌, ◌&&◌, Bool, true, false, ◌⊎◌, inl, inr, List, [], ◌∷◌, ◌++◌, length, ℤ, pos, ◌-ℤ◌, Some, option_map, refl, sym, ap, ◌∙◌, subst, arith, append_assoc, length-append}
use Rattle.std.specs.List.{list_all}
use Rattle.std.specs.Char.{is_ascii_digit}
use Rattle.std.proofs.lemmas.Bool.Decides.{nat_tests}
use Rattle.std.proofs.lemmas.List.{nil_from_length}
use Rattle.limit_fraction.specs.Number.{Number, units}
use Rattle.limit_fraction.specs.Digits.{AreDigits, value_after, signed}
use Rattle.limit_fraction.specs.Spelling.{IsSign, IsSignificand, IsExponent, Spells}
use Rattle.limit_fraction.specs.Reading.{sign_of, digits_of, after_digits, fraction_of, after_fraction, size_of, exponent_of, number_from, number_behind, number_in}

pub first_digit : (d : ℕ) (ds : List ℕ) → AreDigits (d ∷ ds) → is_ascii_digit d ≡ true
first_digit d ds h = at (is_ascii_digit d) (list_all is_ascii_digit ds) h
  where
    at : (t u : Bool) → (t && u) ≡ true → t ≡ true
    at true u e = refl
    at false u e = cc

pub next_digits : (d : ℕ) (ds : List ℕ) → AreDigits (d ∷ ds) → AreDigits ds
next_digits d ds h = at (is_ascii_digit d) (list_all is_ascii_digit ds) h
  where
    at : (t u : Bool) → (t && u) ≡ true → u ≡ true
    at true u e = e
    at false u e = cc

-- no sign, no digit, no point stands in front
abbrev NoSign : List ℕ → Type 0
NoSign bs = sign_of bs ≡ (false, bs)

record NoDigit (bs : List ℕ) : Type 0 where
  none : digits_of bs ≡ []
  all : after_digits bs ≡ bs

record NoPoint (bs : List ℕ) : Type 0 where
  none : fraction_of bs ≡ []
  all : after_fraction bs ≡ bs

digits_of-append : (ds rest : List ℕ) → AreDigits ds → NoDigit rest → digits_of (ds ++ rest) ≡ ds
digits_of-append [] rest are ends = ends.none
digits_of-append (d ∷ ds) rest are ends = rw (first_digit d ds are) (ap (λ xs. d ∷ xs) (digits_of-append ds rest (next_digits d ds are) ends))

after_digits-append : (ds rest : List ℕ) → AreDigits ds → NoDigit rest → after_digits (ds ++ rest) ≡ rest
after_digits-append [] rest are ends = ends.all
after_digits-append (d ∷ ds) rest are ends = rw (first_digit d ds are) (after_digits-append ds rest (next_digits d ds are) ends)

NoSign-digit : (d : ℕ) (bs : List ℕ) → is_ascii_digit d ≡ true → NoSign (d ∷ bs)
NoSign-digit d bs digit =
    let not_minus : (d == 45) ≡ false = grind (arith, nat_tests) in
    let not_plus : (d == 43) ≡ false = grind (arith, nat_tests) in
    rw (not_minus, not_plus) refl

NoSign-digits : (ds : List ℕ) → AreDigits ds → ds ≢ [] → NoSign ds
NoSign-digits [] are some = absurd (some refl)
NoSign-digits (d ∷ ds) are some = NoSign-digit d ds (first_digit d ds are)

sign_of-append : (sign rest : List ℕ) (negative : Bool) → IsSign sign negative → NoSign rest → sign_of (sign ++ rest) ≡ (negative, rest)
sign_of-append sign rest negative (inl (nil, plus)) none = rw (nil, plus) none
sign_of-append sign rest negative (inr (inl (one, plus))) none = rw (one, plus) refl
sign_of-append sign rest negative (inr (inr (one, minus))) none = rw (one, minus) refl

-- ---- the exponent

size_of-digits : (ds : List ℕ) → AreDigits ds → ds ≢ [] → size_of ds ≡ Some (value_after 0 ds)
size_of-digits [] are some = absurd (some refl)
size_of-digits (d ∷ ds) are some = rw are refl

record TailReads (tail : List ℕ) (x : ℤ) : Type 0 where
  no_digit : NoDigit tail
  no_point : NoPoint tail
  value : exponent_of tail ≡ Some x

marked_reads : (mark : ℕ) (xs : List ℕ) (x : ℤ) → (mark ≡ 101) ⊎ (mark ≡ 69) → option_map (signed (sign_of xs).0) (size_of (sign_of xs).1) ≡ Some x → TailReads (mark ∷ xs) x
marked_reads mark xs x (inl is) value = subst (λ b. TailReads (b ∷ xs) x) (sym is) (record { no_digit = record { none = refl; all = refl }; no_point = record { none = refl; all = refl }; value = value })
marked_reads mark xs x (inr is) value = subst (λ b. TailReads (b ∷ xs) x) (sym is) (record { no_digit = record { none = refl; all = refl }; no_point = record { none = refl; all = refl }; value = value })

tail_reads : (tail : List ℕ) (x : ℤ) → IsExponent tail x → TailReads tail x
tail_reads tail x (inl (nil, zero_is)) = rw (nil, zero_is) (record { no_digit = record { none = refl; all = refl }; no_point = record { none = refl; all = refl }; value = refl })
tail_reads tail x (inr marked) =
    let sign = sign_of-append marked.sign marked.digits marked.negative marked.sign_is (NoSign-digits marked.digits marked.digits_are marked.some) in
    subst (λ bs. TailReads bs x) (sym marked.text)
    (marked_reads marked.mark (marked.sign ++ marked.digits) x marked.mark_is
    (rw (sign, size_of-digits marked.digits marked.digits_are marked.some) (ap Some (sym marked.value))))

-- ---- the digits and the point

record PartsRead (bs whole fraction tail : List ℕ) : Type 0 where
  digits : digits_of bs ≡ whole
  fraction_is : fraction_of (after_digits bs) ≡ fraction
  tail_is : after_fraction (after_digits bs) ≡ tail
  no_sign : NoSign bs

parts_read : (bs whole fraction tail : List ℕ) → IsSignificand bs whole fraction → NoDigit tail → NoPoint tail → PartsRead (bs ++ tail) whole fraction tail
parts_read bs whole fraction tail is ends no_point = at is.text
  where
    unsigned : (ds rest : List ℕ) → AreDigits ds → (ds ≡ [] → NoSign rest) → NoSign (ds ++ rest)
    unsigned [] rest are none = none refl
    unsigned (d ∷ ds) rest are none = NoSign-digit d (ds ++ rest) (first_digit d ds are)

    at : ((bs ≡ whole) × (fraction ≡ [])) ⊎ (bs ≡ whole ++ 46 ∷ fraction) → PartsRead (bs ++ tail) whole fraction tail
    at (inl (plain, none)) =
        let after : after_digits (whole ++ tail) ≡ tail = after_digits-append whole tail is.whole_is ends in
        rw (plain, none) (record {
          digits = digits_of-append whole tail is.whole_is ends;
          fraction_is = rw after no_point.none;
          tail_is = rw after no_point.all;
          no_sign = unsigned whole tail is.whole_is (λ nil. absurd (is.some (rw (nil, none) refl)));
        })
    at (inr point) =
        let ends_point : NoDigit (46 ∷ fraction ++ tail) = record { none = refl; all = refl } in
        let after : after_digits (whole ++ (46 ∷ fraction ++ tail)) ≡ 46 ∷ fraction ++ tail = after_digits-append whole (46 ∷ fraction ++ tail) is.whole_is ends_point in
        rw (point, append_assoc) (record {
          digits = digits_of-append whole (46 ∷ fraction ++ tail) is.whole_is ends_point;
          fraction_is = rw after (digits_of-append fraction tail is.fraction_is ends);
          tail_is = rw after (after_digits-append fraction tail is.fraction_is ends);
          no_sign = unsigned whole (46 ∷ fraction ++ tail) is.whole_is (λ _. refl);
        })

-- ---- the whole

number_from-some : (negative : Bool) (whole fraction tail : List ℕ) (x : ℤ) → whole ++ fraction ≢ [] → exponent_of tail ≡ Some x
    → number_from negative whole fraction tail ≡ Some (units (x -ℤ pos (length fraction)) (signed negative (value_after 0 (whole ++ fraction))))
number_from-some negative whole fraction tail x some is = at (length whole + length fraction == 0) refl
  where
    none : (length whole + length fraction == 0) ≡ true → whole ++ fraction ≡ []
    none e = nil_from_length (whole ++ fraction) (grind (arith, nat_tests, length-append whole fraction))

    at : (t : Bool) → (length whole + length fraction == 0) ≡ t → number_from negative whole fraction tail ≡ Some (units (x -ℤ pos (length fraction)) (signed negative (value_after 0 (whole ++ fraction))))
    at true e = absurd (some (none e))
    at false e = rw (e, is) refl

pub read_from_spelled : (bs : List ℕ) (n : Number) → Spells bs n → number_in bs ≡ Some n
read_from_spelled bs n s =
    let tail = tail_reads s.tail s.exponent s.tail_is in
    let parts = parts_read s.significand s.before_point s.behind_point s.tail s.significand_is tail.no_digit tail.no_point in
    let sign : sign_of bs ≡ (s.negative, s.significand ++ s.tail) = rw s.text (sign_of-append s.sign (s.significand ++ s.tail) s.negative s.sign_is parts.no_sign) in
    (λ i. number_behind (sign i).0 (sign i).1)
    ∙ (λ i. number_from s.negative (parts.digits i) (parts.fraction_is i) (parts.tail_is i))
    ∙ number_from-some s.negative s.before_point s.behind_point s.tail s.exponent s.significand_is.some tail.value
    ∙ ap Some (sym s.value)
