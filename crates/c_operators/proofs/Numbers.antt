-- Natural numbers that fit a type (ISO/IEC 9899:1999, 6.2.6.2): conversion leaves them, and operators give what they give without a type.
use Rattle.std.proofs.Common.{◌≡◌, ℕ, zero, suc, ◌+◌, ◌-◌, ◌*◌, ◌/◌, ◌%◌, ◌^◌, ◌<◌, ◌≤◌, Bool, true, false, not, ◌&&◌, if◌then◌else◌, refl, ap, ◌∙◌, arith, Ok, List, ◌∷◌, pos, negsuc, ℤ, ◌+ℤ◌}
use Rattle.std.specs.Prelude.{◌-ℤ◌, int_lt, int_le, unsigned_abs, bit_and, bit_or, bit_xor, leb}
use Rattle.std.specs.Ordering.{int_eq}
use Rattle.std.proofs.Math.Nat.{mod-eq_of_lt, pow-suc}
use Rattle.std.proofs.Math.Pow.{pow_mono}
use Rattle.std.proofs.lemmas.Bool.Decides.{nat_tests}
use Rattle.std.proofs.lemmas.Int.{ints}
use Rattle.std.proofs.lemmas.Nat.{and_le_l, or_lt, xor_lt}
use Rattle.c_text.specs.declared.token.Constant.{Constant}
use Rattle.c_text.specs.declared.token.IntType.{IntType}
use Rattle.c_text.specs.declared.token.IntType.TheVariants as t
use Rattle.c_tree.specs.declared.expression.BinaryOp.TheVariants as o
use Rattle.c_tree.specs.declared.expression.UnaryOp.TheVariants as u
use Rattle.c_mem.specs.declared.undefined.Undefined.{Undefined}
use Rattle.c_mem.specs.declared.undefined.Undefined.TheVariants.{ShiftOverflow, Overflow}
use Rattle.c_widths.specs.DataModel.{DataModel}
use Rattle.c_widths.specs.IntegerType.{is_signed, bits_of, value_bits}
use Rattle.c_widths.specs.Promotion.{promote}
use Rattle.c_widths.specs.CommonType.{common_promoted}
use Rattle.c_widths.specs.Conversion.{convert, wrap, holds}
use Rattle.c_widths.specs.ConstantType.{types_of, constant_type}
use Rattle.c_operators.specs.Value.{typed, in_type}
use Rattle.c_operators.specs.Sign.{signed, constant}
use Rattle.c_operators.specs.Shift.{is_count, right_shifted}
use Rattle.c_operators.specs.Arithmetic.{bits_in}
use Rattle.c_operators.specs.Operator.{operate}
use Rattle.c_operators.proofs.Models.{IsOneOf, int_is}

-- ---- a number that fits

pub record Fits (m : DataModel) (k : IntType) (n : ℕ) : Type 0 where
  pub below : n < 2 ^ value_bits m k

-- a number of w bits fits each type with as many value bits
pub fits-at : (m : DataModel) (k : IntType) (n w : ℕ) → n < 2 ^ w → w ≤ value_bits m k → Fits m k n
fits-at m k n w h le = let p : 2 ^ w ≤ 2 ^ value_bits m k = pow_mono le in record { below = omega arith }

pub fits-Int : (m : DataModel) → IsOneOf m → (n w : ℕ) → n < 2 ^ w → w ≤ 31 → Fits m t.Int n
fits-Int m one n w h le = let e : m.int ≡ 32 = int_is m one in fits-at m t.Int n w h (omega arith)

pub fits-UnsignedInt : (m : DataModel) → IsOneOf m → (n w : ℕ) → n < 2 ^ w → w ≤ 32 → Fits m t.UnsignedInt n
fits-UnsignedInt m one n w h le = let e : m.int ≡ 32 = int_is m one in fits-at m t.UnsignedInt n w h (omega arith)

-- ---- conversion (6.3.1.3)

pub unsigned-fits : (b n : ℕ) → n < 2 ^ b → wrap false b (pos n) ≡ pos n
unfolding wrap
unsigned-fits b n h = ap pos (mod-eq_of_lt h)

above : (a b : ℕ) → a < b → leb b a ≡ false
above a b h = grind (arith, nat_tests)

pub signed-fits : (b n : ℕ) → n < 2 ^ (b - 1) → wrap true b (pos n) ≡ pos n
unfolding wrap
signed-fits b n h =
    let le : 2 ^ (b - 1) ≤ 2 ^ b = pow_mono (omega arith) in
    let e : n % 2 ^ b ≡ n = mod-eq_of_lt (omega arith) in
    rw (e, above n (2 ^ (b - 1)) h) refl

pub convert-fits : (m : DataModel) (k : IntType) (n : ℕ) → Fits m k n → convert m k (pos n) ≡ pos n
convert-fits m t.Bool zero h = refl
convert-fits m t.Bool (suc zero) h = refl
convert-fits m t.Bool (suc (suc n)) h = absurd (omega (arith, h.below))
convert-fits m t.SignedChar n h = signed-fits 8 n h.below
convert-fits m t.UnsignedChar n h = unsigned-fits 8 n h.below
convert-fits m t.Short n h = signed-fits 16 n h.below
convert-fits m t.UnsignedShort n h = unsigned-fits 16 n h.below
convert-fits m t.Int n h = signed-fits m.int n h.below
convert-fits m t.UnsignedInt n h = unsigned-fits m.int n h.below
convert-fits m t.Long n h = signed-fits m.long n h.below
convert-fits m t.UnsignedLong n h = unsigned-fits m.long n h.below
convert-fits m t.LongLong n h = signed-fits 64 n h.below
convert-fits m t.UnsignedLongLong n h = unsigned-fits 64 n h.below

pub unsigned_char-fits : (m : DataModel) (n : ℕ) → n < 2 ^ 8 → convert m t.UnsignedChar (pos n) ≡ pos n
unsigned_char-fits m n h = convert-fits m t.UnsignedChar n (record { below = h })

pub int_eq-same : (z : ℤ) → int_eq z z ≡ true
int_eq-same (pos n) = grind (arith, nat_tests)
int_eq-same (negsuc n) = grind (arith, nat_tests)

pub holds-fits : (m : DataModel) (k : IntType) (n : ℕ) → Fits m k n → holds m k (pos n) ≡ true
holds-fits m k n h = rw (convert-fits m k n h) (int_eq-same (pos n))

-- to an unsigned type of w bits: the low bits
pub low-bits : (w n : ℕ) → wrap false w (pos n) ≡ pos (n % 2 ^ w)
unfolding wrap
low-bits w n = refl

-- an unsigned type that takes numbers modulo a power of two; `_Bool` does not
pub record Wraps (m : DataModel) (k : IntType) : Type 0 where
  pub unsigned : is_signed k ≡ false
  pub wraps : (z : ℤ) → convert m k z ≡ wrap false (bits_of m k) z

-- ---- negative numbers, and what a signed type makes of its high half

signed-fits-below : (b n : ℕ) → n < 2 ^ b → wrap true (suc b) (negsuc n) ≡ negsuc n
unfolding wrap
signed-fits-below b n h =
    let two : 2 ^ suc b ≡ 2 ^ b + 2 ^ b = omega (arith, pow-suc 2 b) in
    let e : n % 2 ^ suc b ≡ n = mod-eq_of_lt (omega arith) in
    let p : suc b - 1 ≡ b = omega arith in
    let w : leb (2 ^ b) (2 ^ suc b - 1 - n) ≡ true = grind (arith, nat_tests) in
    rw (e, p, w) (omega (arith, ints))

pub negative-fits : (w n : ℕ) → 0 < w → n < 2 ^ (w - 1) → wrap true w (negsuc n) ≡ negsuc n
negative-fits zero n a h = absurd (omega arith)
negative-fits (suc b) n a h = let e : suc b - 1 ≡ b = omega arith in signed-fits-below b n (rw e at h)

high-half : (b n : ℕ) → 2 ^ b ≤ n → n < 2 ^ suc b → wrap true (suc b) (pos n) ≡ negsuc (2 ^ suc b - 1 - n)
unfolding wrap
high-half b n le h =
    let e : n % 2 ^ suc b ≡ n = mod-eq_of_lt h in
    let p : suc b - 1 ≡ b = omega arith in
    let w : leb (2 ^ b) n ≡ true = grind (arith, nat_tests) in
    rw (e, p, w) (omega (arith, ints))

-- n from 2 ^ (w - 1) on, of w bits, is n less 2 ^ w
pub wrap-high_half : (w n : ℕ) → 0 < w → 2 ^ (w - 1) ≤ n → n < 2 ^ w → wrap true w (pos n) ≡ negsuc (2 ^ w - 1 - n)
wrap-high_half zero n a le h = absurd (omega arith)
wrap-high_half (suc b) n a le h = let e : suc b - 1 ≡ b = omega arith in high-half b n (rw e at le) h

-- ---- bits of a number

bits-above : (m : DataModel) (k : IntType) → value_bits m k ≤ bits_of m k
bits-above m t.Bool = omega arith
bits-above m t.SignedChar = omega arith
bits-above m t.UnsignedChar = omega arith
bits-above m t.Short = omega arith
bits-above m t.UnsignedShort = omega arith
bits-above m t.Int = omega arith
bits-above m t.UnsignedInt = omega arith
bits-above m t.Long = omega arith
bits-above m t.UnsignedLong = omega arith
bits-above m t.LongLong = omega arith
bits-above m t.UnsignedLongLong = omega arith

pub bits_in-fits : (m : DataModel) (k : IntType) (n : ℕ) → Fits m k n → bits_in m k (pos n) ≡ n
bits_in-fits m k n h =
    let le : 2 ^ value_bits m k ≤ 2 ^ bits_of m k = pow_mono (bits-above m k) in
    ap unsigned_abs (unsigned-fits (bits_of m k) n (omega (arith, h.below)))

-- ---- a result in its type

and-false : (b : Bool) → (b && false) ≡ false
and-false true = refl
and-false false = refl

pub in_type-fits : (m : DataModel) (fault : Undefined) (k : IntType) (z : ℤ) → convert m k z ≡ z → in_type m fault k z ≡ Ok (typed k z)
in_type-fits m fault k z h = rw (h, int_eq-same z, and-false (is_signed k)) refl

-- ---- shifts (6.5.7)

pub count-fits : (m : DataModel) (k : IntType) (c : ℕ) → c < bits_of m k → is_count m k (pos c) ≡ true
count-fits m k c h = grind (arith, nat_tests)

pub not-negative : (n : ℕ) → int_lt (pos n) (pos 0) ≡ false
not-negative n = grind (arith, nat_tests)

right-is : (k : IntType) (n c : ℕ) → right_shifted k (pos n) c ≡ Ok (typed k (pos (n / 2 ^ c)))
right-is k n c = rw (not-negative n) refl

pub operate-ShiftRight : (m : DataModel) (a b p : IntType) (n c : ℕ) → promote m a ≡ p → Fits m p n → c < bits_of m p
    → operate m o.ShiftRight (typed a (pos n)) (typed b (pos c)) ≡ Ok (typed p (pos (n / 2 ^ c)))
unfolding operate
operate-ShiftRight m a b p n c e h below =
    rw (e, convert-fits m p n h, count-fits m p c below) (right-is p n c)

pub operate-ShiftLeft : (m : DataModel) (a b p : IntType) (n c : ℕ) → promote m a ≡ p → Fits m p n → Fits m p (n * 2 ^ c) → c < bits_of m p
    → operate m o.ShiftLeft (typed a (pos n)) (typed b (pos c)) ≡ Ok (typed p (pos (n * 2 ^ c)))
unfolding operate
operate-ShiftLeft m a b p n c e h after below =
    rw (e, convert-fits m p n h, count-fits m p c below, not-negative n)
    (in_type-fits m ShiftOverflow p (pos (n * 2 ^ c)) (convert-fits m p (n * 2 ^ c) after))

pub operate-ShiftLeft-wraps : (m : DataModel) (a b p : IntType) (n c : ℕ) → promote m a ≡ p → Wraps m p → Fits m p n → c < bits_of m p
    → operate m o.ShiftLeft (typed a (pos n)) (typed b (pos c)) ≡ Ok (typed p (pos (n * 2 ^ c % 2 ^ bits_of m p)))
unfolding operate wrap
operate-ShiftLeft-wraps m a b p n c e w h below =
    rw (e, convert-fits m p n h, count-fits m p c below, not-negative n, w.unsigned, w.wraps (pos (n * 2 ^ c))) refl

-- ---- bits (6.5.10 to 6.5.12)

pub operate-BitAnd : (m : DataModel) (a b k : IntType) (x y : ℕ) → common_promoted m a b ≡ k → Fits m k x → Fits m k y
    → operate m o.BitAnd (typed a (pos x)) (typed b (pos y)) ≡ Ok (typed k (pos (bit_and x y)))
unfolding operate
operate-BitAnd m a b k x y e hx hy =
    rw (e, convert-fits m k x hx, convert-fits m k y hy, bits_in-fits m k x hx, bits_in-fits m k y hy)
    (ap (λ z. Ok (typed k z)) (convert-fits m k (bit_and x y) (record { below = omega (arith, hx.below, and_le_l x y) })))

pub operate-BitOr : (m : DataModel) (a b k : IntType) (x y : ℕ) → common_promoted m a b ≡ k → Fits m k x → Fits m k y
    → operate m o.BitOr (typed a (pos x)) (typed b (pos y)) ≡ Ok (typed k (pos (bit_or x y)))
unfolding operate
operate-BitOr m a b k x y e hx hy =
    rw (e, convert-fits m k x hx, convert-fits m k y hy, bits_in-fits m k x hx, bits_in-fits m k y hy)
    (ap (λ z. Ok (typed k z)) (convert-fits m k (bit_or x y) (record { below = or_lt (value_bits m k) x y hx.below hy.below })))

pub operate-BitXor : (m : DataModel) (a b k : IntType) (x y : ℕ) → common_promoted m a b ≡ k → Fits m k x → Fits m k y
    → operate m o.BitXor (typed a (pos x)) (typed b (pos y)) ≡ Ok (typed k (pos (bit_xor x y)))
unfolding operate
operate-BitXor m a b k x y e hx hy =
    rw (e, convert-fits m k x hx, convert-fits m k y hy, bits_in-fits m k x hx, bits_in-fits m k y hy)
    (ap (λ z. Ok (typed k z)) (convert-fits m k (bit_xor x y) (record { below = xor_lt (value_bits m k) x y hx.below hy.below })))

-- ---- sums and differences (6.5.6), of any two numbers of the common type

pub operate-Add : (m : DataModel) (a b k : IntType) (x y : ℤ) → common_promoted m a b ≡ k → convert m k x ≡ x → convert m k y ≡ y → convert m k (x +ℤ y) ≡ x +ℤ y
    → operate m o.Add (typed a x) (typed b y) ≡ Ok (typed k (x +ℤ y))
unfolding operate
operate-Add m a b k x y e hx hy h = rw (e, hx, hy) (in_type-fits m Overflow k (x +ℤ y) h)

pub operate-Subtract : (m : DataModel) (a b k : IntType) (x y : ℤ) → common_promoted m a b ≡ k → convert m k x ≡ x → convert m k y ≡ y → convert m k (x -ℤ y) ≡ x -ℤ y
    → operate m o.Subtract (typed a x) (typed b y) ≡ Ok (typed k (x -ℤ y))
unfolding operate
operate-Subtract m a b k x y e hx hy h = rw (e, hx, hy) (in_type-fits m Overflow k (x -ℤ y) h)

difference : (x y : ℕ) → y ≤ x → pos x -ℤ pos y ≡ pos (x - y)
difference x y le = omega (arith, ints)

-- of natural numbers, where nothing is below 0
pub operate-Subtract-fits : (m : DataModel) (a b k : IntType) (x y : ℕ) → common_promoted m a b ≡ k → Fits m k x → y ≤ x
    → operate m o.Subtract (typed a (pos x)) (typed b (pos y)) ≡ Ok (typed k (pos (x - y)))
operate-Subtract-fits m a b k x y e hx le =
    let small : x - y < 2 ^ value_bits m k = omega (arith, hx.below) in
    let hy : Fits m k y = record { below = omega (arith, hx.below) } in
    operate-Subtract m a b k (pos x) (pos y) e (convert-fits m k x hx) (convert-fits m k y hy) (rw (difference x y le) (convert-fits m k (x - y) (record { below = small })))
    ∙ rw (difference x y le) refl

-- ---- comparisons (6.5.8, 6.5.9), of any two numbers of the common type

pub operate-Equal : (m : DataModel) (a b k : IntType) (x y : ℤ) → common_promoted m a b ≡ k → convert m k x ≡ x → convert m k y ≡ y
    → operate m o.Equal (typed a x) (typed b y) ≡ Ok (typed t.Int (if int_eq x y then pos 1 else pos 0))
unfolding operate
operate-Equal m a b k x y e hx hy = rw (e, hx, hy) refl

pub operate-NotEqual : (m : DataModel) (a b k : IntType) (x y : ℤ) → common_promoted m a b ≡ k → convert m k x ≡ x → convert m k y ≡ y
    → operate m o.NotEqual (typed a x) (typed b y) ≡ Ok (typed t.Int (if not (int_eq x y) then pos 1 else pos 0))
unfolding operate
operate-NotEqual m a b k x y e hx hy = rw (e, hx, hy) refl

pub operate-Less : (m : DataModel) (a b k : IntType) (x y : ℤ) → common_promoted m a b ≡ k → convert m k x ≡ x → convert m k y ≡ y
    → operate m o.Less (typed a x) (typed b y) ≡ Ok (typed t.Int (if int_lt x y then pos 1 else pos 0))
unfolding operate
operate-Less m a b k x y e hx hy = rw (e, hx, hy) refl

pub operate-Greater : (m : DataModel) (a b k : IntType) (x y : ℤ) → common_promoted m a b ≡ k → convert m k x ≡ x → convert m k y ≡ y
    → operate m o.Greater (typed a x) (typed b y) ≡ Ok (typed t.Int (if int_lt y x then pos 1 else pos 0))
unfolding operate
operate-Greater m a b k x y e hx hy = rw (e, hx, hy) refl

pub operate-LessEqual : (m : DataModel) (a b k : IntType) (x y : ℤ) → common_promoted m a b ≡ k → convert m k x ≡ x → convert m k y ≡ y
    → operate m o.LessEqual (typed a x) (typed b y) ≡ Ok (typed t.Int (if int_le x y then pos 1 else pos 0))
unfolding operate
operate-LessEqual m a b k x y e hx hy = rw (e, hx, hy) refl

pub operate-GreaterEqual : (m : DataModel) (a b k : IntType) (x y : ℤ) → common_promoted m a b ≡ k → convert m k x ≡ x → convert m k y ≡ y
    → operate m o.GreaterEqual (typed a x) (typed b y) ≡ Ok (typed t.Int (if int_le y x then pos 1 else pos 0))
unfolding operate
operate-GreaterEqual m a b k x y e hx hy = rw (e, hx, hy) refl

-- ---- operators before an operand (6.5.3.3)

pub signed-Minus : (m : DataModel) (k p : IntType) (n : ℕ) → promote m k ≡ p → convert m p (pos (suc n)) ≡ pos (suc n) → convert m p (negsuc n) ≡ negsuc n
    → signed m u.Minus (typed k (pos (suc n))) ≡ Ok (typed p (negsuc n))
signed-Minus m k p n e h g = rw (e, h) (in_type-fits m Overflow p (negsuc n) g)

other-bits : (n : ℕ) → negsuc 0 -ℤ pos n ≡ negsuc n
other-bits n = omega (arith, ints)

-- of a signed type: -1 less the number
pub signed-Complement : (m : DataModel) (k p : IntType) (n : ℕ) → promote m k ≡ p → convert m p (pos n) ≡ pos n → convert m p (negsuc n) ≡ negsuc n
    → signed m u.Complement (typed k (pos n)) ≡ Ok (typed p (negsuc n))
signed-Complement m k p n e h g = rw (e, h, other-bits n, g) refl

-- of an unsigned type: the other bits
pub signed-Complement-wraps : (m : DataModel) (k p : IntType) (n : ℕ) → promote m k ≡ p → Wraps m p → Fits m p n
    → signed m u.Complement (typed k (pos n)) ≡ Ok (typed p (pos (2 ^ bits_of m p - 1 - n)))
unfolding wrap
signed-Complement-wraps m k p n e w h =
    let le : 2 ^ value_bits m p ≤ 2 ^ bits_of m p = pow_mono (bits-above m p) in
    let low : n % 2 ^ bits_of m p ≡ n = mod-eq_of_lt (omega (arith, h.below)) in
    rw (e, convert-fits m p n h, other-bits n, w.wraps (negsuc n), low) refl

-- ---- constants (6.4.4.1)

-- the first type of a constant's list, where it fits it
pub constant-first : (m : DataModel) (c : Constant) (k : IntType) (others : List IntType) → types_of c ≡ k ∷ others → Fits m k c.value
    → constant m c ≡ Ok (typed k (pos c.value))
unfolding constant_type
constant-first m c k others e h = rw (e, holds-fits m k c.value h) refl

pub constant-int : (m : DataModel) → IsOneOf m → (n : ℕ) → n < 2 ^ 31 → constant m (record { value = n; base = 10; unsigned = false; longs = 0 }) ≡ Ok (typed t.Int (pos n))
constant-int m one n h = constant-first m (record { value = n; base = 10; unsigned = false; longs = 0 }) t.Int _ refl (fits-Int m one n 31 h (omega arith))

pub constant-unsigned : (m : DataModel) → IsOneOf m → (n base : ℕ) → n < 2 ^ 32 → constant m (record { value = n; base = base; unsigned = true; longs = 0 }) ≡ Ok (typed t.UnsignedInt (pos n))
constant-unsigned m one n base h = constant-first m (record { value = n; base = base; unsigned = true; longs = 0 }) t.UnsignedInt _ refl (fits-UnsignedInt m one n 32 h (omega arith))

-- with `ul`, where a long holds it, and with `ull`
pub constant-unsigned_long : (m : DataModel) (n base : ℕ) → n < 2 ^ m.long → constant m (record { value = n; base = base; unsigned = true; longs = 1 }) ≡ Ok (typed t.UnsignedLong (pos n))
constant-unsigned_long m n base h = constant-first m (record { value = n; base = base; unsigned = true; longs = 1 }) t.UnsignedLong _ refl (record { below = h })

pub constant-unsigned_long_long : (m : DataModel) (n base : ℕ) → n < 2 ^ 64 → constant m (record { value = n; base = base; unsigned = true; longs = 2 }) ≡ Ok (typed t.UnsignedLongLong (pos n))
constant-unsigned_long_long m n base h = constant-first m (record { value = n; base = base; unsigned = true; longs = 2 }) t.UnsignedLongLong _ refl (record { below = h })

-- ---- unsigned char, which becomes int

pub promote-UnsignedChar : (m : DataModel) → IsOneOf m → promote m t.UnsignedChar ≡ t.Int
promote-UnsignedChar m one = let e : m.int ≡ 32 = int_is m one in rw e refl

pub operate-BitOr-bytes : (m : DataModel) → IsOneOf m → (x y : ℕ) → x < 2 ^ 8 → y < 2 ^ 8
    → operate m o.BitOr (typed t.UnsignedChar (pos x)) (typed t.UnsignedChar (pos y)) ≡ Ok (typed t.Int (pos (bit_or x y)))
operate-BitOr-bytes m one x y hx hy =
    operate-BitOr m t.UnsignedChar t.UnsignedChar t.Int x y (rw (promote-UnsignedChar m one) refl) (fits-Int m one x 8 hx (omega arith)) (fits-Int m one y 8 hy (omega arith))
