-- What the expression of a helper gives (ISO/IEC 9899:1999, 6.5.4, 6.5.7 and 6.5.10), from what its three parameters hold: step by step, for any data model.
use Rattle.std.proofs.Common.{◌≡◌, ℕ, ◌*◌, ◌/◌, ◌%◌, ◌^◌, ◌<◌, ◌≤◌, false, List, refl, ap, ◌∙◌, arith, Ok, pos, inl}
use Rattle.std.specs.Prelude.{codes, bit_and}
use Rattle.std.proofs.lemmas.Nat.{and_le_l}
use Rattle.std.proofs.Math.Nat.{mod-lt, mod-eq_of_lt}
use Rattle.std.proofs.Math.Pow.{pow_pos, pow_mono, shr_le}
use Rattle.c_text.specs.declared.token.IntType.{IntType}
use Rattle.c_text.specs.declared.token.IntType.TheVariants as t
use Rattle.c_text.specs.declared.token.Spelled.TheVariants.{Exact}
use Rattle.c_tree.specs.declared.expression.BinaryOp.{BinaryOp}
use Rattle.c_tree.specs.declared.expression.BinaryOp.TheVariants as o
use Rattle.c_tree.specs.declared.expression.Expr.{Expr}
use Rattle.c_widths.specs.DataModel.{DataModel}
use Rattle.c_widths.specs.IntegerType.{exact_type}
use Rattle.c_widths.specs.CommonType.{common_promoted}
use Rattle.c_widths.specs.Conversion.{convert}
use Rattle.c_mem.specs.declared.objects.Object.{Object}
use Rattle.c_operators.specs.declared.value.Value.TheVariants.{Integer}
use Rattle.c_operators.specs.Value.{typed}
use Rattle.c_operators.specs.Operator.{operate}
use Rattle.c_operators.proofs.Models.{IsOneOf}
use Rattle.c_operators.proofs.Numbers.{low-bits, fits-at, fits-Int, operate-BitAnd, operate-ShiftRight, promote-UnsignedChar}
use Rattle.c_operators.proofs.Exact.{width-low, unsigned-at, exact-byte, exact-fits, shifted, raised}
use Rattle.c_effect.specs.Locals.{Block, read_local}
use Rattle.c_effect.specs.World.{World}
use Rattle.c_effect.specs.ExpressionValue.{is_logical}
use Rattle.c_effect.proofs.Expressions.{Gives, gives-Name, gives-Binary, gives-Bracket, gives-Cast}
use Rattle.shift_helpers.specs.declared.helper.HelperKind.{HelperKind}
use Rattle.shift_helpers.specs.declared.helper.HelperKind.TheVariants as h
use Rattle.shift_helpers.specs.HelperResult.{IsWidth, result, taken_width, given_width, shift_limit}
use Rattle.shift_helpers.specs.HelperTree.{nowhere, name_of, cast_of, packed, unpacked, returned}

-- the three parameters hold numbers
pub record Held (m : DataModel) (locals : List Block) (w x s y : ℕ) : Type 0 where
  pub value : read_local (codes "value") locals ≡ Ok (Integer (typed (exact_type m w false) (pos x)))
  pub shift : read_local (codes "shift") locals ≡ Ok (Integer (typed (exact_type m 8 false) (pos s)))
  pub mask : read_local (codes "mask") locals ≡ Ok (Integer (typed (exact_type m 8 false) (pos y)))

and-below : (y m w : ℕ) → y < 2 ^ w → bit_and y m < 2 ^ w
and-below y m w h = omega (arith, and_le_l y m)

module _ (v : World) (one : IsOneOf v.model) (locals : List Block) (objects : List Object) where
  both : common_promoted v.model (exact_type v.model 8 false) (exact_type v.model 8 false) ≡ t.Int
  both = rw (exact-byte v.model one, promote-UnsignedChar v.model one) refl

  -- two bytes
  and-bytes : (x y : ℕ) → x < 2 ^ 8 → y < 2 ^ 8
      → operate v.model o.BitAnd (typed (exact_type v.model 8 false) (pos x)) (typed (exact_type v.model 8 false) (pos y)) ≡ Ok (typed t.Int (pos (bit_and x y)))
  and-bytes x y hx hy = operate-BitAnd v.model _ _ t.Int x y both (fits-Int v.model one x 8 hx (omega arith)) (fits-Int v.model one y 8 hy (omega arith))

  -- a number whose low bits are known, in the type of a width
  keeps : (w number low : ℕ) → IsWidth w → number % 2 ^ w ≡ low → convert v.model (exact_type v.model w false) (pos number) ≡ pos low
  keeps w number low iw e = (unsigned-at v.model one w iw).converts (pos number) ∙ low-bits w number ∙ ap pos e

  -- (uintW_t)(left op right), of natural numbers
  casts : (w : ℕ) (op : BinaryOp) (l r : Expr) (a b kind : IntType) (x y number low : ℕ) → is_logical op ≡ false
      → Gives v locals objects l a (pos x) → Gives v locals objects r b (pos y) → operate v.model op (typed a (pos x)) (typed b (pos y)) ≡ Ok (typed kind (pos number))
      → convert v.model (exact_type v.model w false) (pos number) ≡ pos low
      → Gives v locals objects (cast_of w op l r) (exact_type v.model w false) (pos low)
  casts w op l r a b kind x y number low plain hl hr h e =
      gives-Cast v locals objects nowhere (Exact w false) _ kind (pos number) (pos low)
      (gives-Bracket v locals objects nowhere _ kind (pos number) (gives-Binary v locals objects nowhere op l r a b kind (pos x) (pos y) (pos number) plain hl hr h)) e

  named : (name : List ℕ) (kind : IntType) (x : ℕ) → read_local name locals ≡ Ok (Integer (typed kind (pos x))) → Gives v locals objects (name_of name) kind (pos x)
  named name kind x h = gives-Name v locals objects nowhere name kind (pos x) h

  -- where the low byte of what the shift gives is known
  packs : (op : BinaryOp) (w x s mask number low : ℕ) (kind : IntType) → is_logical op ≡ false → Held v.model locals w x s mask → mask < 2 ^ 8 → low < 2 ^ 8 → number % 2 ^ 8 ≡ low
      → operate v.model op (typed (exact_type v.model w false) (pos x)) (typed (exact_type v.model 8 false) (pos s)) ≡ Ok (typed kind (pos number))
      → Gives v locals objects (packed op) (exact_type v.model 8 false) (pos (bit_and low mask))
  unfolding packed
  packs op w x s mask number low kind plain has hm hl e h =
      let byte = exact_type v.model 8 false in
      let moved = casts 8 op _ _ (exact_type v.model w false) byte kind x s number low plain (named (codes "value") _ x has.value) (named (codes "shift") _ s has.shift) h (keeps 8 number low (inl refl) e) in
      casts 8 o.BitAnd _ _ byte byte t.Int low mask (bit_and low mask) (bit_and low mask) refl moved (named (codes "mask") _ mask has.mask) (and-bytes low mask hl hm)
      (exact-fits v.model one 8 (bit_and low mask) (inl refl) (and-below low mask 8 hl))

  -- where the low bits of what the shift gives are known
  unpacks : (op : BinaryOp) (w x s mask number low : ℕ) (kind : IntType) → is_logical op ≡ false → IsWidth w → Held v.model locals 8 x s mask → x < 2 ^ 8 → mask < 2 ^ 8 → number % 2 ^ w ≡ low
      → operate v.model op (typed (exact_type v.model w false) (pos (bit_and x mask))) (typed (exact_type v.model 8 false) (pos s)) ≡ Ok (typed kind (pos number))
      → Gives v locals objects (unpacked w op) (exact_type v.model w false) (pos low)
  unfolding unpacked
  unpacks op w x s mask number low kind plain iw has hx hm e h =
      let byte = exact_type v.model 8 false in
      let small : bit_and x mask < 2 ^ 8 = and-below x mask 8 hx in
      let wide : 2 ^ 8 ≤ 2 ^ w = pow_mono {i = 8} (width-low w iw) in
      let kept = casts w o.BitAnd _ _ byte byte t.Int x mask (bit_and x mask) (bit_and x mask) refl (named (codes "value") _ x has.value) (named (codes "mask") _ mask has.mask) (and-bytes x mask hx hm)
      (exact-fits v.model one w (bit_and x mask) iw (omega arith)) in
      casts w op _ _ (exact_type v.model w false) byte kind (bit_and x mask) s number low plain kept (named (codes "shift") _ s has.shift) h (keeps w number low iw e)

  -- what each helper returns
  pub gives-returned : (kind : HelperKind) (w x s mask : ℕ) → IsWidth w → Held v.model locals (taken_width kind w) x s mask
      → x < 2 ^ taken_width kind w → s < shift_limit kind w → mask < 2 ^ 8
      → Gives v locals objects (returned kind w) (exact_type v.model (given_width kind w) false) (pos (result kind w x s mask))
  unfolding returned result
  gives-returned h.PackLeft w x s mask iw has hx hs hm =
      let r = shifted v.model one w x s iw hx hs in
      packs o.ShiftLeft w x s mask r.number (x * 2 ^ s % 2 ^ 8) r.kind refl has hm (mod-lt (x * 2 ^ s) (pow_pos 8)) r.low (rw (exact-byte v.model one) r.is)
  gives-returned h.PackRight w x s mask iw has hx hs hm =
      let f = unsigned-at v.model one w iw in
      packs o.ShiftRight w x s mask (x / 2 ^ s) (x / 2 ^ s % 2 ^ 8) f.promoted refl has hm (mod-lt (x / 2 ^ s) (pow_pos 8)) refl
      (operate-ShiftRight v.model (exact_type v.model w false) (exact_type v.model 8 false) f.promoted x s f.promotes (fits-at v.model f.promoted x w hx f.wide) (omega (arith, f.counts)))
  gives-returned h.UnpackLeft w x s mask iw has hx hs hm =
      let r = raised v.model one w (bit_and x mask) s iw (and-below x mask 8 hx) hs in
      unpacks o.ShiftLeft w x s mask r.number (bit_and x mask * 2 ^ s % 2 ^ w) r.kind refl iw has hx hm r.low (rw (exact-byte v.model one) r.is)
  gives-returned h.UnpackRight w x s mask iw has hx hs hm =
      let f = unsigned-at v.model one w iw in
      let least : 8 ≤ w = width-low w iw in
      let y = bit_and x mask in
      let byte : y < 2 ^ 8 = and-below x mask 8 hx in
      let wide : 2 ^ 8 ≤ 2 ^ w = pow_mono {i = 8} least in
      let le : y / 2 ^ s ≤ y = shr_le y s in
      unpacks o.ShiftRight w x s mask (y / 2 ^ s) (y / 2 ^ s) f.promoted refl iw has hx hm (mod-eq_of_lt (omega arith))
      (operate-ShiftRight v.model (exact_type v.model w false) (exact_type v.model 8 false) f.promoted y s f.promotes (fits-at v.model f.promoted y 8 byte (omega (arith, f.wide))) (omega (arith, f.counts)))

-- and that it is of its width
pub result-below : (kind : HelperKind) (w x s mask : ℕ) → IsWidth w → x < 2 ^ taken_width kind w → result kind w x s mask < 2 ^ given_width kind w
unfolding result
result-below h.PackLeft w x s mask iw hx = and-below _ mask 8 (mod-lt (x * 2 ^ s) (pow_pos 8))
result-below h.PackRight w x s mask iw hx = and-below _ mask 8 (mod-lt (x / 2 ^ s) (pow_pos 8))
result-below h.UnpackLeft w x s mask iw hx = mod-lt (bit_and x mask * 2 ^ s) (pow_pos w)
result-below h.UnpackRight w x s mask iw hx =
    let byte : bit_and x mask < 2 ^ 8 = and-below x mask 8 hx in
    let wide : 2 ^ 8 ≤ 2 ^ w = pow_mono {i = 8} (width-low w iw) in
    let le : bit_and x mask / 2 ^ s ≤ bit_and x mask = shr_le (bit_and x mask) s in
    omega arith
