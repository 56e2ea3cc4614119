-- What is read is spelled: each part of the reading is a part of the spelling.
use Rattle.std.proofs.Common.{◌≡◌, ◌≢◌, ℕ, ◌+◌, ◌==◌, ◌||◌, Bool, true, false, ◌⊎◌, inl, inr, List, [], ◌∷◌, ◌++◌, length, ℤ, pos, ◌-ℤ◌, Option, Some, None, option_map, if◌then◌else◌, refl, sym, ap, ◌∙◌, append_assoc, length-append}
use Rattle.std.specs.List.{list_all}
use Rattle.std.specs.Char.{is_ascii_digit}
use Rattle.std.proofs.lemmas.Bool.{eqb-true, false≢true}
use Rattle.limit_fraction.specs.Number.{Number, units}
use Rattle.limit_fraction.specs.Digits.{AreDigits, value_after, signed}
use Rattle.limit_fraction.specs.Spelling.{IsSign, IsMarked, IsExponent, Spells}
use Rattle.limit_fraction.specs.Reading.{sign_of, digits_of, after_digits, fraction_of, after_fraction, size_of, exponent_of, number_from, number_in}

-- ---- the sign

pub record SignAt (bs : List ℕ) : Type 0 where
  pub sign : List ℕ
  pub text : bs ≡ sign ++ (sign_of bs).1
  pub sign_is : IsSign sign (sign_of bs).0

pub sign_at : (bs : List ℕ) → SignAt bs
sign_at [] = record { sign = []; text = refl; sign_is = inl (refl, refl) }
sign_at (b ∷ bs) =
    elim (b == 45) as (λ t. (b == 45) ≡ t → SignAt (b ∷ bs)) [
      | true ↦ λ minus. record { sign = 45 ∷ []; text = rw minus (ap (λ x. x ∷ bs) (eqb-true b 45 minus)); sign_is = rw minus (inr (inr (refl, refl))) }
      | false ↦ λ not_minus. elim (b == 43) as (λ t. (b == 43) ≡ t → SignAt (b ∷ bs)) [
        | true ↦ λ plus. record { sign = 43 ∷ []; text = rw (not_minus, plus) (ap (λ x. x ∷ bs) (eqb-true b 43 plus)); sign_is = rw (not_minus, plus) (inr (inl (refl, refl))) }
        | false ↦ λ not_plus. record { sign = []; text = rw (not_minus, not_plus) refl; sign_is = rw (not_minus, not_plus) (inl (refl, refl)) }
      ] refl
    ] refl

-- ---- the digits

pub digits-after : (bs : List ℕ) → digits_of bs ++ after_digits bs ≡ bs
digits-after [] = refl
digits-after (b ∷ bs) =
    elim (is_ascii_digit b) as (λ t. is_ascii_digit b ≡ t → digits_of (b ∷ bs) ++ after_digits (b ∷ bs) ≡ b ∷ bs) [
      | true ↦ λ e. rw e (ap (λ xs. b ∷ xs) (digits-after bs))
      | false ↦ λ e. rw e refl
    ] refl

pub digits-are : (bs : List ℕ) → AreDigits (digits_of bs)
digits-are [] = refl
digits-are (b ∷ bs) =
    elim (is_ascii_digit b) as (λ t. is_ascii_digit b ≡ t → AreDigits (digits_of (b ∷ bs))) [
      | true ↦ λ e. rw e (rw e (digits-are bs))
      | false ↦ λ e. rw e refl
    ] refl

pub fraction-are : (bs : List ℕ) → AreDigits (fraction_of bs)
fraction-are [] = refl
fraction-are (b ∷ bs) =
    elim (b == 46) as (λ t. (b == 46) ≡ t → AreDigits (fraction_of (b ∷ bs))) [
      | true ↦ λ e. rw e (digits-are bs)
      | false ↦ λ e. rw e refl
    ] refl

-- the digits and a point in front of a text, and what follows them
pub record SignificandAt (bs : List ℕ) : Type 0 where
  pub front : List ℕ
  pub text : bs ≡ front ++ after_fraction (after_digits bs)
  pub cases : ((front ≡ digits_of bs) × (fraction_of (after_digits bs) ≡ [])) ⊎ (front ≡ digits_of bs ++ 46 ∷ fraction_of (after_digits bs))

pub significand_at : (bs : List ℕ) → SignificandAt bs
significand_at bs = at (after_digits bs) refl
  where
    plain : (rest : List ℕ) → after_digits bs ≡ rest → fraction_of rest ≡ [] → after_fraction rest ≡ rest → SignificandAt bs
    plain rest is none same = record {
      front = digits_of bs;
      text = sym (digits-after bs) ∙ ap (λ xs. digits_of bs ++ xs) (is ∙ sym same ∙ ap after_fraction (sym is));
      cases = inl (refl, ap fraction_of is ∙ none);
    }

    at : (rest : List ℕ) → after_digits bs ≡ rest → SignificandAt bs
    at [] is = plain [] is refl refl
    at (b ∷ rest) is =
        elim (b == 46) as (λ t. (b == 46) ≡ t → SignificandAt bs) [
          | false ↦ λ e. plain (b ∷ rest) is (rw e refl) (rw e refl)
          | true ↦ λ e.
              let fraction : fraction_of (after_digits bs) ≡ digits_of rest = ap fraction_of is ∙ rw e refl in
              let tail : after_fraction (after_digits bs) ≡ after_digits rest = ap after_fraction is ∙ rw e refl in
              record {
                front = digits_of bs ++ 46 ∷ fraction_of (after_digits bs);
                text = sym (digits-after bs) ∙ ap (λ xs. digits_of bs ++ xs) (is ∙ ap (λ x. x ∷ rest) (eqb-true b 46 e) ∙ ap (λ xs. 46 ∷ xs) (sym (digits-after rest) ∙ (λ i. sym fraction i ++ sym tail i))) ∙ sym (append_assoc (digits_of bs) (46 ∷ fraction_of (after_digits bs)) (after_fraction (after_digits bs)));
                cases = inr refl;
              }
        ] refl

-- ---- the exponent

pub record SizeIs (ds : List ℕ) (n : ℕ) : Type 0 where
  pub some : ds ≢ []
  pub digits : AreDigits ds
  pub value : value_after 0 ds ≡ n

size_is : (ds : List ℕ) (n : ℕ) → size_of ds ≡ Some n → SizeIs ds n
size_is [] n h = cc
size_is (d ∷ ds) n h = at (list_all is_ascii_digit (d ∷ ds)) refl h
  where
    at : (t : Bool) → list_all is_ascii_digit (d ∷ ds) ≡ t → (if t then Some (value_after 0 (d ∷ ds)) else None) ≡ Some n → SizeIs (d ∷ ds) n
    at true digits is = record { some = λ nil. cc; digits = digits; value = cc }
    at false digits is = cc

mark_is : (b : ℕ) → (b == 101 || b == 69) ≡ true → (b ≡ 101) ⊎ (b ≡ 69)
mark_is b h = at (b == 101) refl h
  where
    at : (t : Bool) → (b == 101) ≡ t → (t || b == 69) ≡ true → (b ≡ 101) ⊎ (b ≡ 69)
    at true small is = inl (eqb-true b 101 small)
    at false small is = inr (eqb-true b 69 is)

pub exponent_is : (bs : List ℕ) (x : ℤ) → exponent_of bs ≡ Some x → IsExponent bs x
exponent_is [] x h = inl (refl, cc)
exponent_is (b ∷ bs) x h = at (b == 101 || b == 69) refl h
  where
    marked : (size : Option ℕ) → size_of (sign_of bs).1 ≡ size → option_map (signed (sign_of bs).0) size ≡ Some x → (b ≡ 101) ⊎ (b ≡ 69) → IsMarked (b ∷ bs) x
    marked None is none mark = cc
    marked (Some n) is same mark =
        let split = sign_at bs in
        let size = size_is (sign_of bs).1 n is in
        record {
          mark = b;
          sign = split.sign;
          digits = (sign_of bs).1;
          negative = (sign_of bs).0;
          text = ap (λ xs. b ∷ xs) split.text;
          mark_is = mark;
          sign_is = split.sign_is;
          digits_are = size.digits;
          some = size.some;
          value = sym (ap (signed (sign_of bs).0) size.value ∙ cc);
        }

    at : (t : Bool) → (b == 101 || b == 69) ≡ t → (if t then option_map (signed (sign_of bs).0) (size_of (sign_of bs).1) else None) ≡ Some x → IsExponent (b ∷ bs) x
    at true mark is = inr (marked (size_of (sign_of bs).1) refl is (mark_is b mark))
    at false mark is = cc

-- ---- the whole

record NumberIs (negative : Bool) (whole fraction tail : List ℕ) (n : Number) : Type 0 where
  exponent : ℤ
  some : whole ++ fraction ≢ []
  tail_is : exponent_of tail ≡ Some exponent
  value : n ≡ units (exponent -ℤ pos (length fraction)) (signed negative (value_after 0 (whole ++ fraction)))

number_is : (negative : Bool) (whole fraction tail : List ℕ) (n : Number) → number_from negative whole fraction tail ≡ Some n → NumberIs negative whole fraction tail n
number_is negative whole fraction tail n h = at (length whole + length fraction == 0) (exponent_of tail) refl refl h
  where
    some_digit : (length whole + length fraction == 0) ≡ false → whole ++ fraction ≢ []
    some_digit differs nil = false≢true (sym differs ∙ rw (← length-append whole fraction, nil) refl)

    at : (t : Bool) (o : Option ℤ) → (length whole + length fraction == 0) ≡ t → exponent_of tail ≡ o
        → (if t then None else option_map (λ x. units (x -ℤ pos (length fraction)) (signed negative (value_after 0 (whole ++ fraction)))) o) ≡ Some n
        → NumberIs negative whole fraction tail n
    at true o none is same = cc
    at false None some is same = cc
    at false (Some x) some is same = record { exponent = x; some = some_digit some; tail_is = is; value = cc }

pub spelled_from_read : (bs : List ℕ) (n : Number) → number_in bs ≡ Some n → Spells bs n
spelled_from_read bs n h =
    let behind = (sign_of bs).1 in
    let split = sign_at bs in
    let front = significand_at behind in
    let read = number_is (sign_of bs).0 (digits_of behind) (fraction_of (after_digits behind)) (after_fraction (after_digits behind)) n h in
    record {
      sign = split.sign;
      significand = front.front;
      tail = after_fraction (after_digits behind);
      negative = (sign_of bs).0;
      before_point = digits_of behind;
      behind_point = fraction_of (after_digits behind);
      exponent = read.exponent;
      text = split.text ∙ ap (λ xs. split.sign ++ xs) front.text;
      sign_is = split.sign_is;
      significand_is = record { text = front.cases; whole_is = digits-are behind; fraction_is = fraction-are (after_digits behind); some = read.some };
      tail_is = exponent_is (after_fraction (after_digits behind)) read.exponent read.tail_is;
      value = read.value;
    }
