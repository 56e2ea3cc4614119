-- A scale has the numbers of its factor and its offset, since the unit is at or below the exponent of each that is not 0.
use Rattle.std.proofs.Common.{◌≡◌, ℕ, suc, ◌==◌, ◌↔◌, ◌⊎◌, inl, inr, Bool, true, false, ℤ, pos, negsuc, ◌-ℤ◌, ◌*ℤ◌, ◌≤ℤ◌, unsigned_abs, Option, refl, sym, ap, ◌∙◌, subst, arith}
use Rattle.std.proofs.lemmas.Int.{ints, clamps}
use Rattle.std.proofs.lemmas.Bool.{eqb-true}
use Rattle.limit_fraction.specs.declared.number.Decimal.{Decimal}
use Rattle.limit_fraction.specs.declared.scaling.UnitScale.{UnitScale}
use Rattle.limit_fraction.specs.Number.{Number, natural, in_unit, common_unit, units, IsSame}
use Rattle.limit_fraction.specs.Unit.{is_zero, unit_of}
use Rattle.limit_fraction.specs.Scale.{factor_of, offset_of, IsScaled}
use Rattle.limit_fraction.specs.Limits.{MeetsLimits}
use Rattle.limit_fraction.proofs.Units.{gap, in_unit-above, lesser_first, greater_second}
use Rattle.limit_fraction.proofs.SameLimits.{same_limits}

zero_times : (z : ℤ) (k : ℕ) → z ≡ pos 0 → z *ℤ pos k ≡ pos 0
zero_times z k e = ap (λ x. x *ℤ pos k) e ∙ ap pos (omega arith)

zero_from_abs : (z : ℤ) → (unsigned_abs z == 0) ≡ true → z ≡ pos 0
zero_from_abs (pos n) h = ap pos (eqb-true n 0 h)
zero_from_abs (negsuc n) h = absurd (omega (arith, eqb-true (suc n) 0 h))

IsSame-in_unit : (u : ℤ) (n : Number) → (n.mantissa ≡ pos 0) ⊎ (u ≤ℤ n.exponent) → IsSame (units u (in_unit u n)) n
IsSame-in_unit u n (inl none) = zero_times _ _ (zero_times n.mantissa _ none) ∙ sym (zero_times n.mantissa _ none)
IsSame-in_unit u n (inr below) =
    let k = natural (n.exponent -ℤ u) in
    let above = gap u n.exponent below in
    lesser_first (units u (in_unit u n)) n k above ∙ in_unit-above u n k above ∙ sym (greater_second (units u (in_unit u n)) n k above)

unit-factor : (factor offset : Number) → (factor.mantissa ≡ pos 0) ⊎ (unit_of factor offset ≤ℤ factor.exponent)
unit-factor factor offset = at (is_zero factor) (is_zero offset) refl refl
  where
    at : (t u : Bool) → is_zero factor ≡ t → is_zero offset ≡ u → (factor.mantissa ≡ pos 0) ⊎ (unit_of factor offset ≤ℤ factor.exponent)
    at true u none e = inl (zero_from_abs factor.mantissa none)
    at false true some none = inr (rw (some, none) (omega (arith, ints)))
    at false false some other = inr (rw (some, other) (omega (arith, ints, clamps)))

unit-offset : (factor offset : Number) → (offset.mantissa ≡ pos 0) ⊎ (unit_of factor offset ≤ℤ offset.exponent)
unit-offset factor offset = at (is_zero factor) (is_zero offset) refl refl
  where
    at : (t u : Bool) → is_zero factor ≡ t → is_zero offset ≡ u → (offset.mantissa ≡ pos 0) ⊎ (unit_of factor offset ≤ℤ offset.exponent)
    at t true e none = inl (zero_from_abs offset.mantissa none)
    at true false none some = inr (rw (none, some) (omega (arith, ints)))
    at false false other some = inr (rw (other, some) (omega (arith, ints, clamps)))

-- ---- as an answer

pub IsSame-factor : (factor offset : Number) (s : UnitScale) → IsScaled factor offset s → IsSame (factor_of s) factor
IsSame-factor factor offset s is =
    subst (λ n. IsSame n factor) (λ i. units (sym is.unit i) (sym is.factor_is i)) (IsSame-in_unit (unit_of factor offset) factor (unit-factor factor offset))

pub IsSame-offset : (factor offset : Number) (s : UnitScale) → IsScaled factor offset s → IsSame (offset_of s) offset
IsSame-offset factor offset s is =
    subst (λ n. IsSame n offset) (λ i. units (sym is.unit i) (sym is.offset_is i)) (IsSame-in_unit (unit_of factor offset) offset (unit-offset factor offset))

pub MeetsLimits-scale : (factor offset : Number) (s : UnitScale) → IsScaled factor offset s → (minimum maximum : Option Decimal) (v : ℤ) → MeetsLimits (factor_of s) (offset_of s) minimum maximum v ↔ MeetsLimits factor offset minimum maximum v
MeetsLimits-scale factor offset s is minimum maximum v =
    let f = IsSame-factor factor offset s is in
    let o = IsSame-offset factor offset s is in
    (same_limits (factor_of s) (offset_of s) factor offset f o minimum maximum v, same_limits factor offset (factor_of s) (offset_of s) (IsSame-turned (factor_of s) factor f) (IsSame-turned (offset_of s) offset o) minimum maximum v)
  where
    IsSame-turned : (a b : Number) → IsSame a b → IsSame b a
    IsSame-turned a b same = let unit : common_unit a b ≡ common_unit b a = omega (arith, ints, clamps) in sym (subst (λ u. in_unit u a ≡ in_unit u b) unit same)
