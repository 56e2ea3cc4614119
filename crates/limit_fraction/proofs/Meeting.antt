-- Where factor and offset share their unit, the value of v is `v * factor + offset` units, which 128 bits hold.
use Rattle.std.proofs.Common.{◌≡◌, ◌+◌, ◌^◌, ◌<◌, ◌≤◌, ◌↔◌, ℤ, pos, neg_ℤ, FitsSigned, ◌+ℤ◌, ◌-ℤ◌, ◌*ℤ◌, ◌≤ℤ◌, unsigned_abs, Option, sym, subst, arith}
use Rattle.std.specs.Int.{w128}
use Rattle.std.proofs.lemmas.Int.{ints, clamps, unsigned_abs-mul, fits_signed_from_abs}
use Rattle.std.proofs.lemmas.Nat.{mul-le}
use Rattle.limit_fraction.specs.declared.number.Decimal.{Decimal}
use Rattle.limit_fraction.specs.Number.{common_unit, units, plus}
use Rattle.limit_fraction.specs.Limits.{physical, MeetsMinimum, MeetsMaximum, MeetsLimits}
use Rattle.limit_fraction.proofs.Signs.{abs-neg}
use Rattle.limit_fraction.proofs.Units.{lesser_first, lesser_second}

plus-is : (e a b : ℤ) → plus (units e a) (units e b) ≡ units e (a +ℤ b)
plus-is e a b =
    let same : e ≡ e +ℤ pos 0 = omega (arith, ints) in
    let unit : common_unit (units e a) (units e b) ≡ e = omega (arith, ints, clamps) in
    (λ i. units (unit i) (lesser_first (units e a) (units e b) 0 same i +ℤ lesser_second (units e b) (units e a) 0 same i))

pub physical-is : (e factor offset v : ℤ) → physical (units e factor) (units e offset) v ≡ units e (v *ℤ factor +ℤ offset)
physical-is e factor offset v = plus-is e (v *ℤ factor) offset

abs-plus : (a b : ℤ) → unsigned_abs (a +ℤ b) ≤ unsigned_abs a + unsigned_abs b
abs-plus a b = omega (arith, ints)

pub small_value : (v factor offset : ℤ) → unsigned_abs v ≤ 2 ^ 64 → unsigned_abs factor < 2 ^ 60 → unsigned_abs offset < 2 ^ 100 → unsigned_abs (v *ℤ factor +ℤ offset) < 2 ^ 126
small_value v factor offset hv hf ho =
    omega (arith, abs-plus (v *ℤ factor) offset, unsigned_abs-mul v factor, mul-le (unsigned_abs v) (unsigned_abs factor) (2 ^ 64) (2 ^ 60) hv (omega arith))

pub moved_fits : (a b : ℤ) → unsigned_abs a ≤ 2 ^ 126 → unsigned_abs b < 2 ^ 100 → FitsSigned w128 (a -ℤ b)
moved_fits a b ha hb = fits_signed_from_abs w128 (a -ℤ b) (omega (arith, abs-plus a (neg_ℤ b), abs-neg b))

-- the limits in whole units are the limits
pub meets_limits : (e factor offset v least greatest : ℤ) (minimum maximum : Option Decimal)
    → (MeetsMinimum minimum (units e (v *ℤ factor +ℤ offset)) ↔ (least ≤ℤ (v *ℤ factor +ℤ offset)))
    → (MeetsMaximum maximum (units e (v *ℤ factor +ℤ offset)) ↔ ((v *ℤ factor +ℤ offset) ≤ℤ greatest))
    → (((least -ℤ offset) ≤ℤ (v *ℤ factor)) × ((v *ℤ factor) ≤ℤ (greatest -ℤ offset))) ↔ MeetsLimits (units e factor) (units e offset) minimum maximum v
meets_limits e factor offset v least greatest minimum maximum low high = (
  (λ h. record {
    at_least = subst (MeetsMinimum minimum) (sym (physical-is e factor offset v)) (low.1 (omega (arith, ints, h.0)));
    at_most = subst (MeetsMaximum maximum) (sym (physical-is e factor offset v)) (high.1 (omega (arith, ints, h.1)));
  }),
  (λ m.
      let above : least ≤ℤ (v *ℤ factor +ℤ offset) = low.0 (subst (MeetsMinimum minimum) (physical-is e factor offset v) m.at_least) in
      let below : (v *ℤ factor +ℤ offset) ≤ℤ greatest = high.0 (subst (MeetsMaximum maximum) (physical-is e factor offset v) m.at_most) in
      (omega (arith, ints), omega (arith, ints))),
)
