-- A decimal with its sign turned.
use Rattle.std.specs.Prelude.{◌≡◌, zero, suc, ◌%◌, ◌^◌, ℤ, pos, negsuc, neg_ℤ, unsigned_abs}
use Rattle.std.proofs.Common.{refl, sym, ap, subst, ◌∙◌, ◌<◌}
use Rattle.limit_fraction.specs.Number.{IsKept}
use Rattle.limit_fraction.specs.declared.number.Decimal.{Decimal}

-- a number and what it is with its sign turned are of one size
same_size : (z : ℤ) → unsigned_abs (neg_ℤ z) ≡ unsigned_abs z
same_size (pos zero) = refl
same_size (pos (suc n)) = refl
same_size (negsuc n) = refl

pub still_kept : (mantissa exponent : ℤ) → IsKept mantissa exponent → IsKept (neg_ℤ mantissa) exponent
still_kept m e kept = record {
  trimmed = λ h. let old = kept.trimmed (sym (ap (λ k. k % 10) (same_size m)) ∙ h) in (ap neg_ℤ old.0, old.1);
  short = subst (λ k. k < 10 ^ 28) (sym (same_size m)) kept.short;
  near = kept.near;
}

abbrev pub negated : Decimal → Decimal
negated d = record { mantissa = neg_ℤ d.mantissa; exponent = d.exponent; kept = still_kept d.mantissa d.exponent d.kept }
