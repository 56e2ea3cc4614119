-- Each rule keeps the bytes that an identifier may have, and none but the last leaves a line or a digit in front.
use Rattle.std.proofs.Common.{◌≡◌, ℕ, zero, suc, ◌-◌, Bool, true, false, cond, ◌||◌, ◌&&◌, eqb, List, [], ◌∷◌, map, take, length, get_or, refl, sym, ap, ◌∙◌, arith}
use Rattle.std.specs.List.{AllByRecursion}
use Rattle.std.specs.Char.{is_ascii_digit, is_ascii_alphanumeric, is_ascii_lowercase, to_ascii_lowercase}
use Rattle.std.proofs.lemmas.Bool.Decides.{nat_tests}
use Rattle.name_rules.specs.Identifier.{cleaned_byte, is_break, first_or_zero, broken, unrun, without_first_line, without_last_line, begun, cut_short, identifier_of}
use Rattle.name_rules.specs.IsIdentifier.{is_identifier_byte, IsIdentifier}

-- a letter, a digit or a line
abbrev is_word_byte : ℕ → Bool
is_word_byte b = is_ascii_alphanumeric b || eqb b 95

abbrev All : (ℕ → Bool) → List ℕ → Type 0
All p bs = AllByRecursion (λ b. p b ≡ true) bs

cleaned-word : (b : ℕ) → is_word_byte (cleaned_byte b) ≡ true
cleaned-word b = elim (is_ascii_alphanumeric b) as (λ r. is_ascii_alphanumeric b ≡ r → is_word_byte (cond r b 95) ≡ true) [ true ↦ λ e. ap (λ (x : Bool). x || eqb b 95) e | false ↦ λ e. refl ] refl

all-map : (p q : ℕ → Bool) (f : ℕ → ℕ) → ((b : ℕ) → p b ≡ true → q (f b) ≡ true) → (bs : List ℕ) → All p bs → All q (map f bs)
all-map p q f h [] a = tt
all-map p q f h (b ∷ bs) a = (h b a.0, all-map p q f h bs a.1)

all-take : (p : ℕ → Bool) (n : ℕ) (bs : List ℕ) → All p bs → All p (take n bs)
all-take p zero bs a = tt
all-take p (suc n) [] a = tt
all-take p (suc n) (b ∷ bs) a = (a.0, all-take p n bs a.1)

all-cleaned : (bs : List ℕ) → All is_word_byte (map cleaned_byte bs)
all-cleaned [] = tt
all-cleaned (b ∷ bs) = (cleaned-word b, all-cleaned bs)

all-broken : (before : ℕ) (bs : List ℕ) → All is_word_byte bs → All is_word_byte (broken before bs)
all-broken before [] a = tt
all-broken before (b ∷ bs) a =
    elim (is_break before b (first_or_zero bs)) as (λ r. All is_word_byte (cond r (95 ∷ b ∷ broken b bs) (b ∷ broken b bs))) [
      | true ↦ (refl, (a.0, all-broken b bs a.1))
      | false ↦ (a.0, all-broken b bs a.1)
    ]

all-unrun : (bs : List ℕ) → All is_word_byte bs → All is_word_byte (unrun bs)
all-unrun [] a = tt
all-unrun (b ∷ bs) a =
    elim (eqb b 95 && eqb (first_or_zero bs) 95) as (λ r. All is_word_byte (cond r (unrun bs) (b ∷ unrun bs))) [
      | true ↦ all-unrun bs a.1
      | false ↦ (a.0, all-unrun bs a.1)
    ]

all-without_first : (bs : List ℕ) → All is_word_byte bs → All is_word_byte (without_first_line bs)
all-without_first [] a = tt
all-without_first (b ∷ bs) a = elim (eqb b 95) as (λ r. All is_word_byte (cond r bs (b ∷ bs))) [ true ↦ a.1 | false ↦ a ]

all-without_last : (bs : List ℕ) → All is_word_byte bs → All is_word_byte (without_last_line bs)
all-without_last bs a =
    elim (eqb (get_or bs (length bs - 1) 0) 95) as (λ r. All is_word_byte (cond r (take (length bs - 1) bs) bs)) [ true ↦ all-take is_word_byte (length bs - 1) bs a | false ↦ a ]

lower-identifier : (b : ℕ) → is_word_byte b ≡ true → is_identifier_byte (to_ascii_lowercase b) ≡ true
lower-identifier b h = grind (arith, nat_tests)

-- ---- the first byte is no line

both_lines : (x y : ℕ) → (eqb x 95 && eqb y 95) ≡ true → y ≡ x
both_lines x y e = grind (arith, nat_tests)

-- a run of lines begins as it did
first-unrun : (bs : List ℕ) → first_or_zero (unrun bs) ≡ first_or_zero bs
first-unrun [] = refl
first-unrun (b ∷ bs) =
    elim (eqb b 95 && eqb (first_or_zero bs) 95) as (λ r. (eqb b 95 && eqb (first_or_zero bs) 95) ≡ r → first_or_zero (cond r (unrun bs) (b ∷ unrun bs)) ≡ b) [
      | true ↦ λ e. first-unrun bs ∙ both_lines b (first_or_zero bs) e
      | false ↦ λ e. refl
    ] refl

-- the text begins with no line
abbrev NoLine : List ℕ → Type 0
NoLine bs = eqb (first_or_zero bs) 95 ≡ false

no_line-unrun : (bs : List ℕ) → NoLine (without_first_line (unrun bs))
no_line-unrun [] = refl
no_line-unrun (b ∷ bs) =
    elim (eqb b 95 && eqb (first_or_zero bs) 95) as (λ r. (eqb b 95 && eqb (first_or_zero bs) 95) ≡ r → NoLine (without_first_line (cond r (unrun bs) (b ∷ unrun bs)))) [
      | true ↦ λ e. no_line-unrun bs
      | false ↦ λ e. elim (eqb b 95) as (λ r. (r && eqb (first_or_zero bs) 95) ≡ false → eqb b 95 ≡ r → NoLine (cond r (unrun bs) (b ∷ unrun bs))) [
        | true ↦ λ f g. ap (λ (x : ℕ). eqb x 95) (first-unrun bs) ∙ f
        | false ↦ λ f g. g
      ] e refl
    ] refl

no_line-take : (n : ℕ) (bs : List ℕ) → NoLine bs → NoLine (take n bs)
no_line-take zero bs h = refl
no_line-take (suc n) [] h = refl
no_line-take (suc n) (b ∷ bs) h = h

no_line-without_last : (bs : List ℕ) → NoLine bs → NoLine (without_last_line bs)
no_line-without_last bs h = elim (eqb (get_or bs (length bs - 1) 0) 95) as (λ r. NoLine (cond r (take (length bs - 1) bs) bs)) [ true ↦ no_line-take (length bs - 1) bs h | false ↦ h ]

no_line-lower : (bs : List ℕ) → All is_word_byte bs → NoLine bs → NoLine (map to_ascii_lowercase bs)
no_line-lower [] a h = refl
no_line-lower (b ∷ bs) a h = grind (arith, nat_tests)

-- ---- the whole

letter_left : (x y z : Bool) → (x || y || z) ≡ true → y ≡ false → z ≡ false → x ≡ true
letter_left true y z e f g = refl
letter_left false y z e f g = sym (λ i. f i || g i) ∙ e

begun-identifier : (bs : List ℕ) → All is_identifier_byte bs → NoLine bs → IsIdentifier (begun bs)
begun-identifier [] a h = (refl, tt)
begun-identifier (b ∷ bs) a h =
    elim (is_ascii_digit b) as (λ r. is_ascii_digit b ≡ r → IsIdentifier (cond r (120 ∷ b ∷ bs) (b ∷ bs))) [
      | true ↦ λ e. (refl, a)
      | false ↦ λ e. (letter_left (is_ascii_lowercase b) (is_ascii_digit b) (eqb b 95) a.0 e h, a.1)
    ] refl

take-identifier : (n : ℕ) (bs : List ℕ) → IsIdentifier bs → IsIdentifier (take (suc n) bs)
take-identifier n [] h = h
take-identifier n (b ∷ bs) h = (h.0, all-take is_identifier_byte n bs h.1)

cut-identifier : (bs : List ℕ) → IsIdentifier bs → IsIdentifier (cut_short bs)
unfolding cut_short
cut-identifier bs h = take-identifier 127 bs h

pub identifier_of-IsIdentifier : (text : List ℕ) → IsIdentifier (identifier_of text)
identifier_of-IsIdentifier text =
    let runs = unrun (broken 0 (map cleaned_byte text)) in
    let words : All is_word_byte runs = all-unrun (broken 0 (map cleaned_byte text)) (all-broken 0 (map cleaned_byte text) (all-cleaned text)) in
    let inner = without_first_line runs in
    let bytes : All is_word_byte (without_last_line inner) = all-without_last inner (all-without_first runs words) in
    let first : NoLine (without_last_line inner) = no_line-without_last inner (no_line-unrun (broken 0 (map cleaned_byte text))) in
    let small = map to_ascii_lowercase (without_last_line inner) in
    cut-identifier (begun small)
    (begun-identifier small (all-map is_word_byte is_identifier_byte to_ascii_lowercase lower-identifier (without_last_line inner) bytes) (no_line-lower (without_last_line inner) bytes first))
