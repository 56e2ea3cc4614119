-- Limits depend on the numbers alone, not on how they are written: all are compared in one unit below them.
use Rattle.std.proofs.Common.{◌≡◌, ℕ, suc, ◌+◌, ◌*◌, ◌^◌, ◌<◌, ◌≤◌, ◌↔◌, ⊎_elim, ℤ, pos, negsuc, neg_ℤ, ◌+ℤ◌, ◌-ℤ◌, ◌*ℤ◌, ◌≤ℤ◌, Option, Some, None, sym, ap, ◌∙◌, subst, arith}
use Rattle.std.specs.Int.{int_min}
use Rattle.std.proofs.lemmas.Int.{ints, clamps}
use Rattle.std.proofs.lemmas.Bool.{cases_lt}
use borrow.Author.Differences.{up, down, sum_is_lem}
use Rattle.std.proofs.lemmas.Nat.{pow-add, mul-le}
use Rattle.std.proofs.Math.Nat.{mul_assoc}
use Rattle.std.proofs.Math.IntN.{neg_ℤ-neg_ℤ}
use Rattle.limit_fraction.specs.declared.number.Decimal.{Decimal}
use Rattle.limit_fraction.specs.Number.{Number, natural, in_unit, common_unit, times, plus, IsSame, IsAtMost}
use Rattle.limit_fraction.specs.Decimal.{number_of}
use Rattle.limit_fraction.specs.Limits.{physical, MeetsMinimum, MeetsMaximum, MeetsLimits}
use Rattle.limit_fraction.proofs.Tens.{tens_pos}
use Rattle.limit_fraction.proofs.Units.{gap, in_unit-above}
use Rattle.limit_fraction.proofs.Quotients.{iff_then, iff_back, neg-times, times-neg}

times_assoc : (z : ℤ) (j k : ℕ) → z *ℤ pos (j * k) ≡ (z *ℤ pos j) *ℤ pos k
times_assoc (pos n) j k = ap pos (sym (mul_assoc n j k))
times_assoc (negsuc n) j k = ap (λ (m : ℕ). neg_ℤ (pos m)) (sym (mul_assoc (suc n) j k)) ∙ sym (neg-times (pos (suc n * j)) k)

-- in a lower unit there are so many times more
rescaled : (low unit : ℤ) (n : Number) → low ≤ℤ unit → unit ≤ℤ n.exponent → in_unit low n ≡ in_unit unit n *ℤ pos (10 ^ natural (unit -ℤ low))
rescaled low unit n below above =
    let j = natural (n.exponent -ℤ unit) in
    let k = natural (unit -ℤ low) in
    let upper : n.exponent ≡ unit +ℤ pos j = gap unit n.exponent above in
    let lower : unit ≡ low +ℤ pos k = gap low unit below in
    let whole : n.exponent ≡ low +ℤ pos (j + k) = omega (arith, ints) in
    in_unit-above low n (j + k) whole ∙ ap (λ p. n.mantissa *ℤ pos p) (pow-add 10 j k) ∙ times_assoc n.mantissa (10 ^ j) (10 ^ k)

-- a positive factor keeps the order
cancelled : (m n p : ℕ) → 0 < p → m * p ≤ n * p → m ≤ n
cancelled m n p h le = ⊎_elim (λ lt. absurd (omega (arith, mul-le (n + 1) p m p (omega arith) (omega arith)))) (λ ge. ge) (cases_lt n m)

ordered : (a b : ℤ) (p : ℕ) → 0 < p → ((a *ℤ pos p) ≤ℤ (b *ℤ pos p)) ↔ (a ≤ℤ b)
ordered a b p h = (
  (λ le.
      let products : (up a + down b) * p ≤ (up b + down a) * p = omega (arith, ints) in
      let sides : up a + down b ≤ up b + down a = cancelled (up a + down b) (up b + down a) p h products in
      omega (arith, ints)),
  (λ le.
      let sides : up a + down b ≤ up b + down a = omega (arith, ints) in
      let products : (up a + down b) * p ≤ (up b + down a) * p = mul-le (up a + down b) p (up b + down a) p sides (omega arith) in
      omega (arith, ints)),
)

plus_times : (a b : ℤ) (p : ℕ) → (a +ℤ b) *ℤ pos p ≡ a *ℤ pos p +ℤ b *ℤ pos p
plus_times a b p = omega (arith, ints, ap (λ n. n * p) (sum_is_lem a b))

times_through : (v m : ℤ) (p : ℕ) → (v *ℤ m) *ℤ pos p ≡ v *ℤ (m *ℤ pos p)
times_through (pos a) (pos b) p = ap pos (mul_assoc a b p)
times_through (pos a) (negsuc b) p = neg-times (pos (a * suc b)) p ∙ ap (λ (n : ℕ). neg_ℤ (pos n)) (mul_assoc a (suc b) p) ∙ sym (times-neg (pos a) (pos (suc b * p)))
times_through (negsuc a) (pos b) p = neg-times (pos (suc a * b)) p ∙ ap (λ (n : ℕ). neg_ℤ (pos n)) (mul_assoc (suc a) b p)
times_through (negsuc a) (negsuc b) p = ap pos (mul_assoc (suc a) (suc b) p) ∙ sym (neg-neg a (suc b * p)) ∙ sym (times-neg (negsuc a) (pos (suc b * p)))
  where
    neg-neg : (a n : ℕ) → neg_ℤ (negsuc a *ℤ pos n) ≡ pos (suc a * n)
    neg-neg a n = neg_ℤ-neg_ℤ (pos (suc a * n))

-- ---- the lesser of two

min_first : (a b : ℤ) → int_min a b ≤ℤ a
min_first a b = omega (arith, ints, clamps)

min_second : (a b : ℤ) → int_min a b ≤ℤ b
min_second a b = omega (arith, ints, clamps)

below_min : (low a b : ℤ) → low ≤ℤ a → low ≤ℤ b → low ≤ℤ int_min a b
below_min low a b ha hb = omega (arith, ints, clamps)

through : (a b c : ℤ) → a ≤ℤ b → b ≤ℤ c → a ≤ℤ c
through a b c h k = omega (arith, ints)

-- ---- in a low unit

at_most_low : (low : ℤ) (a b : Number) → low ≤ℤ a.exponent → low ≤ℤ b.exponent → IsAtMost a b ↔ (in_unit low a ≤ℤ in_unit low b)
at_most_low low a b ha hb =
    let unit = common_unit a b in
    let below = below_min low a.exponent b.exponent ha hb in
    let k = natural (unit -ℤ low) in
    rw (rescaled low unit a below (min_first a.exponent b.exponent), rescaled low unit b below (min_second a.exponent b.exponent)) (iff_back (ordered (in_unit unit a) (in_unit unit b) (10 ^ k) (tens_pos k)))

same_low : (low : ℤ) (a b : Number) → low ≤ℤ a.exponent → low ≤ℤ b.exponent → IsSame a b → in_unit low a ≡ in_unit low b
same_low low a b ha hb same =
    let unit = common_unit a b in
    let below = below_min low a.exponent b.exponent ha hb in
    rescaled low unit a below (min_first a.exponent b.exponent) ∙ ap (λ z. z *ℤ pos (10 ^ natural (unit -ℤ low))) same ∙ sym (rescaled low unit b below (min_second a.exponent b.exponent))

plus_low : (low : ℤ) (a b : Number) → low ≤ℤ a.exponent → low ≤ℤ b.exponent → in_unit low (plus a b) ≡ in_unit low a +ℤ in_unit low b
plus_low low a b ha hb =
    let unit = common_unit a b in
    let below = below_min low a.exponent b.exponent ha hb in
    let k = natural (unit -ℤ low) in
    in_unit-above low (plus a b) k (gap low unit below)
    ∙ plus_times (in_unit unit a) (in_unit unit b) (10 ^ k)
    ∙ (λ i. sym (rescaled low unit a below (min_first a.exponent b.exponent)) i +ℤ sym (rescaled low unit b below (min_second a.exponent b.exponent)) i)

physical_low : (low : ℤ) (factor offset : Number) (v : ℤ) → low ≤ℤ factor.exponent → low ≤ℤ offset.exponent
    → in_unit low (physical factor offset v) ≡ v *ℤ in_unit low factor +ℤ in_unit low offset
physical_low low factor offset v hf ho =
    plus_low low (times v factor) offset hf ho ∙ ap (λ z. z +ℤ in_unit low offset) (times_through v factor.mantissa (10 ^ natural (factor.exponent -ℤ low)))

-- ---- the limits of the same numbers

-- a unit at or below all of these exponents
record Lowest (a b c d e : ℤ) : Type 0 where
  unit : ℤ
  at_a : unit ≤ℤ a
  at_b : unit ≤ℤ b
  at_c : unit ≤ℤ c
  at_d : unit ≤ℤ d
  at_e : unit ≤ℤ e

lowest : (a b c d e : ℤ) → Lowest a b c d e
lowest a b c d e =
    let bc = int_min b c in
    let de = int_min d e in
    let rest = int_min bc de in
    let all = int_min a rest in
    let in_bc = through all rest bc (min_second a rest) (min_first bc de) in
    let in_de = through all rest de (min_second a rest) (min_second bc de) in
    record {
      unit = all;
      at_a = min_first a rest;
      at_b = through all bc b in_bc (min_first b c);
      at_c = through all bc c in_bc (min_second b c);
      at_d = through all de d in_de (min_first d e);
      at_e = through all de e in_de (min_second d e);
    }

module _ (factor offset factor' offset' : Number) (same_factor : IsSame factor factor') (same_offset : IsSame offset offset') (v : ℤ) (n : Number) where
  same_value : (l : Lowest n.exponent factor.exponent offset.exponent factor'.exponent offset'.exponent) → in_unit l.unit (physical factor offset v) ≡ in_unit l.unit (physical factor' offset' v)
  same_value l =
      physical_low l.unit factor offset v l.at_b l.at_c
      ∙ (λ i. v *ℤ same_low l.unit factor factor' l.at_b l.at_d same_factor i +ℤ same_low l.unit offset offset' l.at_c l.at_e same_offset i)
      ∙ sym (physical_low l.unit factor' offset' v l.at_d l.at_e)

  same_at_most : (l : Lowest n.exponent factor.exponent offset.exponent factor'.exponent offset'.exponent) → IsAtMost n (physical factor offset v) ↔ IsAtMost n (physical factor' offset' v)
  same_at_most l =
      let first = below_min l.unit factor.exponent offset.exponent l.at_b l.at_c in
      let second = below_min l.unit factor'.exponent offset'.exponent l.at_d l.at_e in
      iff_then (subst (λ z. IsAtMost n (physical factor offset v) ↔ (in_unit l.unit n ≤ℤ z)) (same_value l) (at_most_low l.unit n (physical factor offset v) l.at_a first))
      (iff_back (at_most_low l.unit n (physical factor' offset' v) l.at_a second))

  same_at_least : (l : Lowest n.exponent factor.exponent offset.exponent factor'.exponent offset'.exponent) → IsAtMost (physical factor offset v) n ↔ IsAtMost (physical factor' offset' v) n
  same_at_least l =
      let first = below_min l.unit factor.exponent offset.exponent l.at_b l.at_c in
      let second = below_min l.unit factor'.exponent offset'.exponent l.at_d l.at_e in
      iff_then (subst (λ z. IsAtMost (physical factor offset v) n ↔ (z ≤ℤ in_unit l.unit n)) (same_value l) (at_most_low l.unit (physical factor offset v) n first l.at_a))
      (iff_back (at_most_low l.unit (physical factor' offset' v) n second l.at_a))

pub same_limits : (factor offset factor' offset' : Number) → IsSame factor factor' → IsSame offset offset' → (minimum maximum : Option Decimal) (v : ℤ)
    → MeetsLimits factor offset minimum maximum v → MeetsLimits factor' offset' minimum maximum v
same_limits factor offset factor' offset' f o minimum maximum v meets =
    record { at_least = least minimum meets.at_least; at_most = most maximum meets.at_most }
  where
    least : (minimum : Option Decimal) → MeetsMinimum minimum (physical factor offset v) → MeetsMinimum minimum (physical factor' offset' v)
    least None h = tt
    least (Some m) h = (same_at_most factor offset factor' offset' f o v (number_of m) (lowest m.exponent factor.exponent offset.exponent factor'.exponent offset'.exponent)).0 h

    most : (maximum : Option Decimal) → MeetsMaximum maximum (physical factor offset v) → MeetsMaximum maximum (physical factor' offset' v)
    most None h = tt
    most (Some m) h = (same_at_least factor offset factor' offset' f o v (number_of m) (lowest m.exponent factor.exponent offset.exponent factor'.exponent offset'.exponent)).0 h
