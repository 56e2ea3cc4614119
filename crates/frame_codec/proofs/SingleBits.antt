-- Single bits: of a byte where a power of two is put in, and of a number in two's complement.
use Rattle.std.proofs.Common.{◌≡◌, ℕ, zero, suc, ◌*◌, ◌/◌, ◌%◌, ◌^◌, ◌<◌, Bool, true, false, refl, sym, ap, ◌∙◌, arith, max, List, [], ◌∷◌, length, get_or, set}
use Rattle.std.proofs.lemmas.List.{get_or-set_same, get_or-set_other}
use Rattle.std.proofs.lemmas.Bool.Decides.{nat_tests}
use Rattle.std.proofs.lemmas.Nat.Bits.{bit_at_or, bit_at-pow_same, bit_at-pow_other, bit_at-lt}
use Rattle.std.proofs.Math.Nat.{mod-eq_of_lt}
use Rattle.std.proofs.Math.Pow.{pow-lt}
use Rattle.std.specs.Prelude.{◌||◌, ◌==◌, bit_or}
use Rattle.std.specs.Int.{bit_at}
use Rattle.std.proofs.lemmas.Nat.{or_lt}
use Rattle.frame_codec.specs.Ones.{AreBytes}
use Rattle.can_model.specs.Frame.{has_bit, is_one}

or_true : (b : Bool) → true ≡ (b || true)
or_true true = refl
or_true false = refl

or_false : (b : Bool) → b ≡ (b || false)
or_false true = refl
or_false false = refl

-- what a byte has where bit j was put in
bit_put : (b j i : ℕ) → has_bit (bit_or b (2 ^ j)) i ≡ (has_bit b i || i == j)
bit_put b j i = by (i == j) refl where
  low : bit_at b i < 2
  low = bit_at-lt b i

  by : (t : Bool) → (i == j) ≡ t → has_bit (bit_or b (2 ^ j)) i ≡ (has_bit b i || t)
  by true e =
      let same : j ≡ i = grind (arith, nat_tests) in
      let is : bit_at (bit_or b (2 ^ j)) i ≡ max (bit_at b i) 1 = bit_at_or b (2 ^ j) i ∙ ap (λ n. max (bit_at b i) n) (ap (λ k. bit_at (2 ^ k) i) same ∙ bit_at-pow_same i) in
      let one : max (bit_at b i) 1 ≡ 1 = omega arith in
      ap (λ n. n == 1) (is ∙ one) ∙ or_true (has_bit b i)
  by false e =
      let other : bit_at (2 ^ j) i ≡ 0 = bit_at-pow_other j i (λ same. absurd (grind (arith, nat_tests))) in
      let is : bit_at (bit_or b (2 ^ j)) i ≡ max (bit_at b i) 0 = bit_at_or b (2 ^ j) i ∙ ap (λ n. max (bit_at b i) n) other in
      let same : max (bit_at b i) 0 ≡ bit_at b i = omega arith in
      ap (λ n. n == 1) (is ∙ same) ∙ or_false (has_bit b i)

same_rest : (p q : ℕ) → p / 8 ≡ q / 8 → (p % 8 == q % 8) ≡ (p == q)
same_rest p q e = by (p == q) refl where
  by : (t : Bool) → (p == q) ≡ t → (p % 8 == q % 8) ≡ t
  by true is = let same : p ≡ q = grind (arith, nat_tests) in let one : p % 8 ≡ q % 8 = ap (λ n. n % 8) same in grind (arith, nat_tests)
  by false is = grind (arith, nat_tests)

-- what bytes have where the bit at place q was put in
pub one_put : (bytes : List ℕ) (q p : ℕ) → q / 8 < length bytes → is_one (set bytes (q / 8) (bit_or (get_or bytes (q / 8) 0) (2 ^ (q % 8)))) p ≡ (is_one bytes p || p == q)
one_put bytes q p lt = by (p / 8 == q / 8) refl where
  new : List ℕ
  new = set bytes (q / 8) (bit_or (get_or bytes (q / 8) 0) (2 ^ (q % 8)))

  by : (t : Bool) → (p / 8 == q / 8) ≡ t → is_one new p ≡ (is_one bytes p || p == q)
  by true e =
      let same : p / 8 ≡ q / 8 = grind (arith, nat_tests) in
      let is : get_or new (p / 8) 0 ≡ bit_or (get_or bytes (p / 8) 0) (2 ^ (q % 8)) = ap (λ k. get_or new k 0) same ∙ get_or-set_same bytes (q / 8) (bit_or (get_or bytes (q / 8) 0) (2 ^ (q % 8))) 0 lt ∙ ap (λ k. bit_or (get_or bytes k 0) (2 ^ (q % 8))) (sym same) in
      ap (λ b. has_bit b (p % 8)) is ∙ bit_put (get_or bytes (p / 8) 0) (q % 8) (p % 8) ∙ ap (λ t. is_one bytes p || t) (same_rest p q same)
  by false e =
      let is : get_or new (p / 8) 0 ≡ get_or bytes (p / 8) 0 = get_or-set_other bytes (q / 8) (p / 8) _ 0 (λ same. absurd (grind (arith, nat_tests))) in
      let other : (p == q) ≡ false = grind (arith, nat_tests) in
      ap (λ b. has_bit b (p % 8)) is ∙ or_false (is_one bytes p) ∙ ap (λ t. is_one bytes p || t) (sym other)

-- a one that is shifted within a byte
pub one_shifted : (j : ℕ) → j < 8 → 1 * 2 ^ j % 256 ≡ 2 ^ j
one_shifted j lt = let below : 2 ^ j < 2 ^ 8 = pow-lt lt in ap (λ n. n % 256) (omega arith) ∙ mod-eq_of_lt below

-- bytes stay bytes where one is set
pub bytes_set : (xs : List ℕ) (i y : ℕ) → AreBytes xs → y < 256 → AreBytes (set xs i y)
bytes_set [] i y h lt k = h k
bytes_set (x ∷ xs) zero y h lt zero = lt
bytes_set (x ∷ xs) zero y h lt (suc k) = h (suc k)
bytes_set (x ∷ xs) (suc i) y h lt zero = h zero
bytes_set (x ∷ xs) (suc i) y h lt (suc k) = bytes_set xs i y (λ l. h (suc l)) lt k

pub bytes_put : (xs : List ℕ) (i j : ℕ) → AreBytes xs → j < 8 → AreBytes (set xs i (bit_or (get_or xs i 0) (2 ^ j)))
bytes_put xs i j h lt = let below : 2 ^ j < 2 ^ 8 = pow-lt lt in bytes_set xs i (bit_or (get_or xs i 0) (2 ^ j)) h (or_lt 8 (get_or xs i 0) (2 ^ j) (h i) below)
