-- Constants of the unsigned type of a width (ISO/IEC 9899:1999, 6.4.4.1) beside values of that type, under each model: rows that compute.
use Rattle.std.proofs.Common.{◌≡◌, ℕ, ◌^◌, ◌<◌, ◌≤◌, true, false, List, [], ◌∷◌, refl, arith, pos}
use Rattle.c_text.specs.declared.token.IntType.{IntType}
use Rattle.c_text.specs.declared.token.IntType.TheVariants as t
use Rattle.c_widths.specs.DataModel.{DataModel, ilp32, lp64}
use Rattle.c_widths.specs.IntegerType.{value_bits, exact_type}
use Rattle.c_widths.specs.CommonType.{common_promoted}
use Rattle.c_widths.specs.ConstantType.{types_of}
use Rattle.c_mem.specs.declared.objects.Object.{Object}
use Rattle.c_operators.proofs.Models.{IsOneOf, for_each}
use Rattle.c_operators.proofs.Exact.{IsWidth, for_width}
use Rattle.c_operators.proofs.Numbers.{Fits, fits-at, constant-first}
use Rattle.c_effect.specs.Locals.{Block}
use Rattle.c_effect.specs.World.{World}
use Rattle.c_effect.proofs.Expressions.{Gives, gives-Constant}
use Rattle.c_effect.proofs.Placeless.{no_place, grown}
use Rattle.gen_pack.specs.PackTree.{longs_of}
use Rattle.gen_unpack.specs.UnpackTree.{of_width}

pub record Suffixed (m : DataModel) (w : ℕ) : Type 0 where
  pub kind : IntType
  pub others : List IntType
  pub types : (n base : ℕ) → types_of (record { value = n; base = base; unsigned = true; longs = longs_of w }) ≡ kind ∷ others
  -- with a value of the width, and with another constant
  pub joins : common_promoted m (exact_type m w false) kind ≡ kind
  pub both : common_promoted m kind kind ≡ kind
  pub wide : w ≤ value_bits m kind

suffixed-ilp32 : (w : ℕ) → IsWidth w → Suffixed ilp32 w
unfolding exact_type
suffixed-ilp32 = for_width (Suffixed ilp32)
    (record { kind = t.UnsignedInt; others = t.UnsignedLong ∷ t.UnsignedLongLong ∷ []; types = λ n base. refl; joins = refl; both = refl; wide = omega arith })
    (record { kind = t.UnsignedInt; others = t.UnsignedLong ∷ t.UnsignedLongLong ∷ []; types = λ n base. refl; joins = refl; both = refl; wide = omega arith })
    (record { kind = t.UnsignedLong; others = t.UnsignedLongLong ∷ []; types = λ n base. refl; joins = refl; both = refl; wide = omega arith })
    (record { kind = t.UnsignedLongLong; others = []; types = λ n base. refl; joins = refl; both = refl; wide = omega arith })

suffixed-lp64 : (w : ℕ) → IsWidth w → Suffixed lp64 w
unfolding exact_type
suffixed-lp64 = for_width (Suffixed lp64)
    (record { kind = t.UnsignedInt; others = t.UnsignedLong ∷ t.UnsignedLongLong ∷ []; types = λ n base. refl; joins = refl; both = refl; wide = omega arith })
    (record { kind = t.UnsignedInt; others = t.UnsignedLong ∷ t.UnsignedLongLong ∷ []; types = λ n base. refl; joins = refl; both = refl; wide = omega arith })
    (record { kind = t.UnsignedLong; others = t.UnsignedLongLong ∷ []; types = λ n base. refl; joins = refl; both = refl; wide = omega arith })
    (record { kind = t.UnsignedLongLong; others = []; types = λ n base. refl; joins = refl; both = refl; wide = omega arith })

pub suffixed-at : (m : DataModel) → IsOneOf m → (w : ℕ) → IsWidth w → Suffixed m w
suffixed-at m one w iw = for_each (λ m. Suffixed m w) (suffixed-ilp32 w iw) (suffixed-lp64 w iw) m one

pub suffixed-fits : (m : DataModel) (one : IsOneOf m) (w : ℕ) (iw : IsWidth w) (n : ℕ) → n < 2 ^ w → Fits m (Suffixed.kind (suffixed-at m one w iw)) n
suffixed-fits m one w iw n h = let f = suffixed-at m one w iw in fits-at m f.kind n w h f.wide

-- such a constant, where its number is one of the width
pub gives-of-width : (w : World) (one : IsOneOf w.model) (locals : List Block) (objects : List Object) (width : ℕ) (iw : IsWidth width) (n base : ℕ) → n < 2 ^ width
    → Gives w locals objects (grown (of_width width n base)) (Suffixed.kind (suffixed-at w.model one width iw)) (pos n)
gives-of-width w one locals objects width iw n base h =
    let f = suffixed-at w.model one width iw in
    gives-Constant w locals objects no_place (record { value = n; base = base; unsigned = true; longs = longs_of width }) f.kind (pos n)
    (constant-first w.model (record { value = n; base = base; unsigned = true; longs = longs_of width }) f.kind f.others (f.types n base) (suffixed-fits w.model one width iw n h))
