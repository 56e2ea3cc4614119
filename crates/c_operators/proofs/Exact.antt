-- The types of exact widths and the type of sizes (ISO/IEC 9899:1999, 7.18.1.1 and 7.17) under each model: rows that compute.
use Rattle.std.proofs.Common.{◌≡◌, ℕ, ◌+◌, ◌-◌, ◌*◌, ◌%◌, ◌^◌, ◌<◌, ◌≤◌, true, false, refl, sym, ap, subst, ◌∙◌, arith, Ok, pos, ℤ, inl, inr}
use Rattle.std.specs.Prelude.{◌⊎◌}
use Rattle.std.proofs.Math.Pow.{shl_lt, mod-mod-pow}
use Rattle.c_text.specs.declared.token.IntType.{IntType}
use Rattle.c_text.specs.declared.token.IntType.TheVariants as t
use Rattle.c_tree.specs.declared.expression.BinaryOp.TheVariants as o
use Rattle.c_widths.specs.DataModel.{DataModel, ilp32, lp64}
use Rattle.c_widths.specs.IntegerType.{bits_of, value_bits, exact_type, size_type}
use Rattle.c_widths.specs.Promotion.{promote}
use Rattle.c_widths.specs.CommonType.{common_promoted}
use Rattle.c_widths.specs.Conversion.{convert, wrap}
use Rattle.c_operators.specs.Value.{typed}
use Rattle.c_operators.specs.Operator.{operate}
use Rattle.c_operators.proofs.Models.{IsOneOf, for_each}
use Rattle.c_operators.proofs.Numbers.{Fits, Wraps, fits-at, unsigned-fits, operate-ShiftLeft, operate-ShiftLeft-wraps}

-- ---- the four widths

abbrev pub IsWidth : ℕ → Type 0
IsWidth w = (w ≡ 8) ⊎ ((w ≡ 16) ⊎ ((w ≡ 32) ⊎ (w ≡ 64)))

-- what the four keep, each width keeps
pub for_width : (P : ℕ → Type 0) → P 8 → P 16 → P 32 → P 64 → (w : ℕ) → IsWidth w → P w
for_width P a b c d w (inl e) = subst P (sym e) a
for_width P a b c d w (inr (inl e)) = subst P (sym e) b
for_width P a b c d w (inr (inr (inl e))) = subst P (sym e) c
for_width P a b c d w (inr (inr (inr e))) = subst P (sym e) d

pub width-low : (w : ℕ) → IsWidth w → 8 ≤ w
width-low = for_width (λ w. 8 ≤ w) (omega arith) (omega arith) (omega arith) (omega arith)

pub width-high : (w : ℕ) → IsWidth w → w ≤ 64
width-high = for_width (λ w. w ≤ 64) (omega arith) (omega arith) (omega arith) (omega arith)

-- ---- the unsigned type of a width, and what promotion makes of it

pub record Unsigned (m : DataModel) (w : ℕ) : Type 0 where
  pub promoted : IntType
  pub promotes : promote m (exact_type m w false) ≡ promoted
  pub stays : promote m promoted ≡ promoted
  pub joins : common_promoted m promoted promoted ≡ promoted
  pub both : common_promoted m (exact_type m w false) (exact_type m w false) ≡ promoted
  pub with_int : common_promoted m promoted t.Int ≡ promoted
  pub wide : w ≤ value_bits m promoted
  pub counts : w ≤ bits_of m promoted
  pub converts : (z : ℤ) → convert m (exact_type m w false) z ≡ wrap false w z
  -- a shift by up to seven stays within it, or wraps
  pub shifts : (w + 7 ≤ value_bits m promoted) ⊎ Wraps m promoted

unsigned-ilp32 : (w : ℕ) → IsWidth w → Unsigned ilp32 w
unfolding exact_type
unsigned-ilp32 = for_width (Unsigned ilp32)
    (record { promoted = t.Int; promotes = refl; stays = refl; joins = refl; both = refl; with_int = refl; wide = omega arith; counts = omega arith; converts = λ z. refl; shifts = inl (omega arith) })
    (record { promoted = t.Int; promotes = refl; stays = refl; joins = refl; both = refl; with_int = refl; wide = omega arith; counts = omega arith; converts = λ z. refl; shifts = inl (omega arith) })
    (record { promoted = t.UnsignedInt; promotes = refl; stays = refl; joins = refl; both = refl; with_int = refl; wide = omega arith; counts = omega arith; converts = λ z. refl; shifts = inr (record { unsigned = refl; wraps = λ z. refl }) })
    (record { promoted = t.UnsignedLongLong; promotes = refl; stays = refl; joins = refl; both = refl; with_int = refl; wide = omega arith; counts = omega arith; converts = λ z. refl; shifts = inr (record { unsigned = refl; wraps = λ z. refl }) })

unsigned-lp64 : (w : ℕ) → IsWidth w → Unsigned lp64 w
unfolding exact_type
unsigned-lp64 = for_width (Unsigned lp64)
    (record { promoted = t.Int; promotes = refl; stays = refl; joins = refl; both = refl; with_int = refl; wide = omega arith; counts = omega arith; converts = λ z. refl; shifts = inl (omega arith) })
    (record { promoted = t.Int; promotes = refl; stays = refl; joins = refl; both = refl; with_int = refl; wide = omega arith; counts = omega arith; converts = λ z. refl; shifts = inl (omega arith) })
    (record { promoted = t.UnsignedInt; promotes = refl; stays = refl; joins = refl; both = refl; with_int = refl; wide = omega arith; counts = omega arith; converts = λ z. refl; shifts = inr (record { unsigned = refl; wraps = λ z. refl }) })
    (record { promoted = t.UnsignedLong; promotes = refl; stays = refl; joins = refl; both = refl; with_int = refl; wide = omega arith; counts = omega arith; converts = λ z. refl; shifts = inr (record { unsigned = refl; wraps = λ z. refl }) })

pub unsigned-at : (m : DataModel) → IsOneOf m → (w : ℕ) → IsWidth w → Unsigned m w
unsigned-at m one w h = for_each (λ m. Unsigned m w) (unsigned-ilp32 w h) (unsigned-lp64 w h) m one

pub exact-byte : (m : DataModel) → IsOneOf m → exact_type m 8 false ≡ t.UnsignedChar
unfolding exact_type
exact-byte = for_each (λ m. exact_type m 8 false ≡ t.UnsignedChar) refl refl

-- a number of a width stays as it is
pub exact-fits : (m : DataModel) → IsOneOf m → (w n : ℕ) → IsWidth w → n < 2 ^ w → convert m (exact_type m w false) (pos n) ≡ pos n
exact-fits m one w n iw h = (unsigned-at m one w iw).converts (pos n) ∙ unsigned-fits w n h

-- ---- the signed type of a width

pub record Signed (m : DataModel) (w : ℕ) : Type 0 where
  pub promoted : IntType
  pub promotes : promote m (exact_type m w true) ≡ promoted
  pub stays : promote m promoted ≡ promoted
  pub joins : common_promoted m promoted promoted ≡ promoted
  pub both : common_promoted m (exact_type m w true) (exact_type m w true) ≡ promoted
  pub wide : w ≤ bits_of m promoted
  pub converts : (z : ℤ) → convert m (exact_type m w true) z ≡ wrap true w z
  pub wraps : (z : ℤ) → convert m promoted z ≡ wrap true (bits_of m promoted) z

signed-ilp32 : (w : ℕ) → IsWidth w → Signed ilp32 w
unfolding exact_type
signed-ilp32 = for_width (Signed ilp32)
    (record { promoted = t.Int; promotes = refl; stays = refl; joins = refl; both = refl; wide = omega arith; converts = λ z. refl; wraps = λ z. refl })
    (record { promoted = t.Int; promotes = refl; stays = refl; joins = refl; both = refl; wide = omega arith; converts = λ z. refl; wraps = λ z. refl })
    (record { promoted = t.Int; promotes = refl; stays = refl; joins = refl; both = refl; wide = omega arith; converts = λ z. refl; wraps = λ z. refl })
    (record { promoted = t.LongLong; promotes = refl; stays = refl; joins = refl; both = refl; wide = omega arith; converts = λ z. refl; wraps = λ z. refl })

signed-lp64 : (w : ℕ) → IsWidth w → Signed lp64 w
unfolding exact_type
signed-lp64 = for_width (Signed lp64)
    (record { promoted = t.Int; promotes = refl; stays = refl; joins = refl; both = refl; wide = omega arith; converts = λ z. refl; wraps = λ z. refl })
    (record { promoted = t.Int; promotes = refl; stays = refl; joins = refl; both = refl; wide = omega arith; converts = λ z. refl; wraps = λ z. refl })
    (record { promoted = t.Int; promotes = refl; stays = refl; joins = refl; both = refl; wide = omega arith; converts = λ z. refl; wraps = λ z. refl })
    (record { promoted = t.Long; promotes = refl; stays = refl; joins = refl; both = refl; wide = omega arith; converts = λ z. refl; wraps = λ z. refl })

pub signed-at : (m : DataModel) → IsOneOf m → (w : ℕ) → IsWidth w → Signed m w
signed-at m one w h = for_each (λ m. Signed m w) (signed-ilp32 w h) (signed-lp64 w h) m one

-- ---- the type of sizes

pub record Sizes (m : DataModel) : Type 0 where
  pub promotes : promote m (size_type m) ≡ size_type m
  pub joins : common_promoted m (size_type m) t.UnsignedInt ≡ size_type m
  pub wide : 32 ≤ value_bits m (size_type m)
  pub all_bits : value_bits m (size_type m) ≡ bits_of m (size_type m)

pub sizes : (m : DataModel) → IsOneOf m → Sizes m
unfolding size_type
sizes = for_each Sizes
    (record { promotes = refl; joins = refl; wide = omega arith; all_bits = refl })
    (record { promotes = refl; joins = refl; wide = omega arith; all_bits = refl })

-- a length below 2 ^ 32 is one
pub size-fits : (m : DataModel) → IsOneOf m → (n : ℕ) → n < 2 ^ 32 → Fits m (size_type m) n
size-fits m one n h = fits-at m (size_type m) n 32 h (sizes m one).wide

-- ---- left shifts whose low bits are wanted

-- what a shift of x by s gives, and its low b bits
pub record Shifted (m : DataModel) (w x s b : ℕ) : Type 0 where
  pub kind : IntType
  pub number : ℕ
  pub is : operate m o.ShiftLeft (typed (exact_type m w false) (pos x)) (typed t.UnsignedChar (pos s)) ≡ Ok (typed kind (pos number))
  pub low : number % 2 ^ b ≡ x * 2 ^ s % 2 ^ b

low-of-low : (m : DataModel) (k : IntType) (x s b : ℕ) → b ≤ bits_of m k → x * 2 ^ s % 2 ^ bits_of m k % 2 ^ b ≡ x * 2 ^ s % 2 ^ b
low-of-low m k x s b le =
    let e : bits_of m k ≡ bits_of m k - b + b = omega arith in
    ap (λ c. x * 2 ^ s % 2 ^ c % 2 ^ b) e ∙ mod-mod-pow (x * 2 ^ s) (bits_of m k - b) b

-- of v bits, by less than the width
by-shifts : (m : DataModel) (w x s v b : ℕ) (u : Unsigned m w) → x < 2 ^ v → v ≤ w → s < w → b ≤ w → v + s ≤ w + 7 → (w + 7 ≤ value_bits m u.promoted) ⊎ Wraps m u.promoted → Shifted m w x s b
by-shifts m w x s v b u hx hv hs hb sum (inl room) = record {
  kind = u.promoted;
  number = x * 2 ^ s;
  is = operate-ShiftLeft m (exact_type m w false) t.UnsignedChar u.promoted x s u.promotes (fits-at m u.promoted x v hx (omega (arith, u.wide)))
      (fits-at m u.promoted (x * 2 ^ s) (v + s) (shl_lt v s hx) (omega arith)) (omega (arith, u.counts));
  low = refl;
}
by-shifts m w x s v b u hx hv hs hb sum (inr wraps) = record {
  kind = u.promoted;
  number = x * 2 ^ s % 2 ^ bits_of m u.promoted;
  is = operate-ShiftLeft-wraps m (exact_type m w false) t.UnsignedChar u.promoted x s u.promotes wraps (fits-at m u.promoted x v hx (omega (arith, u.wide))) (omega (arith, u.counts));
  low = low-of-low m u.promoted x s b (omega (arith, u.counts));
}

-- a number of the width, by up to seven: its low byte
pub shifted : (m : DataModel) → IsOneOf m → (w x s : ℕ) → IsWidth w → x < 2 ^ w → s < 8 → Shifted m w x s 8
shifted m one w x s iw hx hs =
    let least : 8 ≤ w = width-low w iw in
    by-shifts m w x s w 8 (unsigned-at m one w iw) hx (omega arith) (omega arith) (omega arith) (omega arith) (Unsigned.shifts (unsigned-at m one w iw))

-- a byte, by less than the width: the low bits of the width
pub raised : (m : DataModel) → IsOneOf m → (w x s : ℕ) → IsWidth w → x < 2 ^ 8 → s < w → Shifted m w x s w
raised m one w x s iw hx hs =
    let least : 8 ≤ w = width-low w iw in
    by-shifts m w x s 8 w (unsigned-at m one w iw) hx (omega arith) (omega arith) (omega arith) (omega arith) (Unsigned.shifts (unsigned-at m one w iw))
