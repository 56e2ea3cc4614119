-- The sign of a number of n bits, carried up to a width and read as two's complement of that width.
use Rattle.std.proofs.Common.{◌≡◌, ℕ, zero, suc, ◌+◌, ◌-◌, ◌*◌, ◌^◌, ◌<◌, ◌≤◌, Bool, true, false, inl, inr, refl, sym, ap, ◌∙◌, arith, pos, negsuc}
use Rattle.std.specs.Prelude.{bit_or, nat_lt, if◌then◌else◌, ◌-ℤ◌}
use Rattle.std.specs.Int.{bit_at}
use Rattle.std.proofs.lemmas.Nat.{pow-add, or_shifted, or_comm}
use Rattle.std.proofs.lemmas.Nat.Bits.{bit_at_cat_high}
use Rattle.std.proofs.lemmas.Bool.Decides.{nat_tests, leb_tells}
use Rattle.std.proofs.lemmas.Int.{ints}
use Rattle.std.proofs.Math.Nat.{pow-suc}
use Rattle.std.proofs.Math.Pow.{pow_mono, pow_pos}
use Rattle.c_widths.specs.Conversion.{wrap}
use Rattle.c_operators.proofs.Numbers.{signed-fits, negative-fits, wrap-high_half}
use Rattle.gen_unpack.proofs.SegmentParts.{bit-above}
use Rattle.gen_unpack.proofs.Sums.{number_of}

-- ---- the top bit

halves : (n : ℕ) → 0 < n → 2 ^ n ≡ 2 ^ (n - 1) + 2 ^ (n - 1)
halves n h = let e : n ≡ suc (n - 1) = omega arith in ap (λ k. 2 ^ k) e ∙ (let p = pow-suc 2 (n - 1) in omega arith)

top-set : (x n : ℕ) → 0 < n → bit_at x (n - 1) ≡ 1 → 2 ^ (n - 1) ≤ x
top-set x n h e = elim (leb_tells (2 ^ (n - 1)) x) [
  | inl a ↦ a.1
  | inr a ↦ (let z = bit-above x (n - 1) (n - 1) (omega (arith, a.1)) (omega arith) in absurd (omega arith))
]

high-bit : (n x : ℕ) → 2 ^ n ≤ x → x < 2 ^ n + 2 ^ n → bit_at x n ≡ 1
high-bit n x le lt =
    let is : x ≡ 1 * 2 ^ n + (x - 2 ^ n) = omega arith in
    let z : n - n ≡ 0 = omega arith in
    ap (λ y. bit_at y n) is ∙ bit_at_cat_high 1 n (x - 2 ^ n) n (omega arith) (omega arith) ∙ rw z refl

top-clear : (x n : ℕ) → 0 < n → x < 2 ^ n → bit_at x (n - 1) ≡ 0 → x < 2 ^ (n - 1)
top-clear x n h lt e = elim (leb_tells (2 ^ (n - 1)) x) [
  | inr a ↦ omega (arith, a.1)
  | inl a ↦ (let one = high-bit (n - 1) x a.1 (omega (arith, halves n h)) in absurd (omega arith))
]

-- ---- the bits above

minus-one : (a b c : ℕ) → 0 < a → a * b ≡ c → (a - 1) * b ≡ c - b
minus-one zero b c h e = absurd (omega arith)
minus-one (suc a) b c h e = let p : suc a - 1 ≡ a = omega arith in rw p (let q : suc a * b ≡ a * b + b = grind arith in omega arith)

-- joined to a number, they are added to it
pub with-upper : (w n x : ℕ) → n ≤ w → x < 2 ^ n → bit_or x (2 ^ w - 2 ^ n) ≡ 2 ^ w - 2 ^ n + x
with-upper w n x le h =
    let e : (2 ^ (w - n) - 1) * 2 ^ n ≡ 2 ^ w - 2 ^ n = (let p : 2 ^ (w - n) * 2 ^ n ≡ 2 ^ w = sym (pow-add 2 (w - n) n) ∙ ap (λ k. 2 ^ k) (let q : w - n + n ≡ w = omega arith in q) in
    let z : 0 < 2 ^ (w - n) = pow_pos (w - n) in
    minus-one (2 ^ (w - n)) (2 ^ n) (2 ^ w) z p) in
    or_comm x (2 ^ w - 2 ^ n) ∙ rw (sym e) (or_shifted (2 ^ (w - n) - 1) n x h)

-- ---- with its sign carried up, where it does not fill the width

abbrev pub carried : ℕ → ℕ → Bool → Bool → ℕ → ℕ
carried w n true true x = 2 ^ w - 2 ^ n + x
carried w n shorter top x = x

-- what two's complement takes off
abbrev pub sign_of : ℕ → Bool → ℕ
sign_of n top = if top then 2 ^ n else 0

pub record IsSigned (w n : ℕ) (shorter top : Bool) (x : ℕ) : Type 0 where
  pub small : carried w n shorter top x < 2 ^ w
  pub wraps : wrap true w (pos (carried w n shorter top x)) ≡ pos x -ℤ pos (sign_of n top)
  pub stays : wrap true w (pos x -ℤ pos (sign_of n top)) ≡ pos x -ℤ pos (sign_of n top)

pub nothing-off : (x : ℕ) → pos x -ℤ pos 0 ≡ pos x
nothing-off x = omega (arith, ints)

taken-off : (x p : ℕ) → x < p → pos x -ℤ pos p ≡ negsuc (p - 1 - x)
taken-off x p h = omega (arith, ints)

carried-clear : (w n : ℕ) (shorter : Bool) (x : ℕ) → carried w n shorter false x ≡ x
carried-clear w n true x = refl
carried-clear w n false x = refl

signed-clear : (w n : ℕ) (shorter : Bool) (x : ℕ) → 0 < n → n ≤ w → x < 2 ^ n → bit_at x (n - 1) ≡ 0 → IsSigned w n shorter false x
signed-clear w n shorter x some le small top =
    let clear : x < 2 ^ (n - 1) = top-clear x n some small top in
    let p : 2 ^ (n - 1) ≤ 2 ^ (w - 1) = pow_mono {i = n - 1} {j = w - 1} (omega arith) in
    let q : 2 ^ n ≤ 2 ^ w = pow_mono {i = n} {j = w} le in
    let same : carried w n shorter false x ≡ x = carried-clear w n shorter x in
    let fits : wrap true w (pos x) ≡ pos x = signed-fits w x (omega arith) in
    record { small = rw same (omega arith); wraps = rw (same, nothing-off x) fits; stays = rw (nothing-off x) fits }

carried-wraps : (w n : ℕ) (shorter : Bool) (x : ℕ) → nat_lt n w ≡ shorter → 0 < n → n ≤ w → x < 2 ^ n → 2 ^ (n - 1) ≤ x → wrap true w (pos (carried w n shorter true x)) ≡ negsuc (2 ^ n - 1 - x)
carried-wraps w n true x is some le small set =
    let lt : n < w = grind (arith, nat_tests) in
    let p : 2 ^ n ≤ 2 ^ (w - 1) = pow_mono {i = n} {j = w - 1} (omega arith) in
    let two = halves w (omega arith) in
    let y : ℕ = 2 ^ w - 2 ^ n + x in
    let e : 2 ^ w - 1 - y ≡ 2 ^ n - 1 - x = omega arith in
    wrap-high_half w y (omega arith) (omega arith) (omega arith) ∙ ap negsuc e
carried-wraps w n false x is some le small set =
    let ge : w ≤ n = grind (arith, nat_tests) in
    let e : n ≡ w = omega arith in
    let low : 2 ^ (w - 1) ≤ x = (let p : 2 ^ (w - 1) ≡ 2 ^ (n - 1) = ap (λ k. 2 ^ (k - 1)) (sym e) in omega arith) in
    let high : 2 ^ n ≡ 2 ^ w = ap (λ k. 2 ^ k) e in
    wrap-high_half w x (omega arith) low (omega arith) ∙ ap (λ k. negsuc (k - 1 - x)) (sym high)

carried-small : (w n : ℕ) (shorter : Bool) (x : ℕ) → n ≤ w → x < 2 ^ n → carried w n shorter true x < 2 ^ w
carried-small w n true x le small = let q : 2 ^ n ≤ 2 ^ w = pow_mono {i = n} {j = w} le in omega arith
carried-small w n false x le small = let q : 2 ^ n ≤ 2 ^ w = pow_mono {i = n} {j = w} le in omega arith

signed-set : (w n : ℕ) (shorter : Bool) (x : ℕ) → nat_lt n w ≡ shorter → 0 < n → n ≤ w → x < 2 ^ n → bit_at x (n - 1) ≡ 1 → IsSigned w n shorter true x
signed-set w n shorter x is some le small top =
    let set : 2 ^ (n - 1) ≤ x = top-set x n some top in
    let p : 2 ^ (n - 1) ≤ 2 ^ (w - 1) = pow_mono {i = n - 1} {j = w - 1} (omega arith) in
    let two = halves n some in
    let off : pos x -ℤ pos (2 ^ n) ≡ negsuc (2 ^ n - 1 - x) = taken-off x (2 ^ n) small in
    record {
      small = carried-small w n shorter x le small;
      wraps = carried-wraps w n shorter x is some le small set ∙ sym off;
      stays = rw off (negative-fits w (2 ^ n - 1 - x) (omega arith) (omega arith));
    }

pub is-signed : (w n : ℕ) (shorter top : Bool) (x : ℕ) → nat_lt n w ≡ shorter → 0 < n → n ≤ w → x < 2 ^ n → bit_at x (n - 1) ≡ number_of top → IsSigned w n shorter top x
is-signed w n shorter true x is some le small e = signed-set w n shorter x is some le small e
is-signed w n shorter false x is some le small e = signed-clear w n shorter x some le small e
