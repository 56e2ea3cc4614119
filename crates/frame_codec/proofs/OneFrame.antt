-- A message has one frame for its values: the bits of two are the same. It has one list of raw values for its bytes: a selector on an active chain is active itself, so it has its value in these bytes, and the same signals are active under both lists.
use Rattle.std.proofs.Common.{◌≡◌, ℕ, zero, suc, ◌+◌, ◌*◌, ◌/◌, ◌%◌, ◌<◌, Bool, true, false, List, [], ◌∷◌, length, get_or, Option, Some, None, refl, sym, ap, subst, ◌∙◌, ℤ, arith}
use Rattle.std.proofs.lemmas.Bool.Decides.{nat_tests, Decides-int_eq}
use Rattle.std.proofs.lemmas.Grind.{same_number_lists}
use Rattle.std.proofs.lemmas.Nat.Bits.{bit_at-lt, same_from_bits_below}
use Rattle.std.specs.Int.{bit_at}
use Rattle.std.specs.List.{AllByRecursion}
use Rattle.std.specs.Ordering.{int_eq}
use Rattle.std.specs.Prelude.{◌==◌, slice_get, IsSomeAnd}
use Rattle.can_model.specs.declared.database.Message.{Message}
use Rattle.can_model.specs.declared.database.Signal.{Signal}
use Rattle.can_model.specs.Active.{lies_in, value_at, IsActive}
use Rattle.can_model.specs.Frame.{has_bit, is_one, value_in, IsFrame, AreRawValues}
use Rattle.can_model.proofs.Chains.{Asks, EndsAfter, signal_there, active-from_steps, steps-from_active}
use Rattle.can_model.proofs.Elements.{some_and}

-- ---- one frame

same_tests : (a b : Bool) → (a ≡ true → b ≡ true) → (b ≡ true → a ≡ true) → a ≡ b
same_tests true b f g = sym (f refl)
same_tests false true f g = g refl
same_tests false false f g = refl

below_256 : (xs : List ℕ) (i : ℕ) → AllByRecursion (λ b. b < 256) xs → get_or xs i 0 < 256
below_256 [] i all = omega arith
below_256 (x ∷ xs) zero all = all.0
below_256 (x ∷ xs) (suc i) all = below_256 xs i all.1

same_bit : (a b : ℕ) → a < 2 → b < 2 → (a == 1) ≡ (b == 1) → a ≡ b
same_bit a b la lb e = grind (arith, nat_tests)

pub one_frame : (m : Message) (values : List (Option ℤ)) (a b : List ℕ) → IsFrame m values a → IsFrame m values b → a ≡ b
one_frame m values a b f g = same_number_lists a b (f.size ∙ sym g.size) (λ n lt. same_from_bits_below 8 (get_or a n 0) (get_or b n 0) (below_256 a n f.are_bytes) (below_256 b n g.are_bytes) (bits n lt)) where
  size : length a ≡ m.length
  size = f.size

  at : (p : ℕ) → p < 8 * m.length → is_one a p ≡ is_one b p
  at p lt = same_tests (is_one a p) (is_one b p) (λ h. (g.bits p lt).1 ((f.bits p lt).0 h)) (λ h. (f.bits p lt).1 ((g.bits p lt).0 h))

  bits : (n : ℕ) → n < length a → (i : ℕ) → i < 8 → bit_at (get_or a n 0) i ≡ bit_at (get_or b n 0) i
  bits n lt i within =
      let byte : (8 * n + i) / 8 ≡ n = omega arith in
      let bit : (8 * n + i) % 8 ≡ i = omega arith in
      let is : has_bit (get_or a n 0) i ≡ has_bit (get_or b n 0) i = subst (λ k. has_bit (get_or a n 0) k ≡ has_bit (get_or b n 0) k) bit (subst (λ k. has_bit (get_or a k 0) ((8 * n + i) % 8) ≡ has_bit (get_or b k 0) ((8 * n + i) % 8)) byte (at (8 * n + i) (omega arith))) in
      same_bit (bit_at (get_or a n 0) i) (bit_at (get_or b n 0) i) (bit_at-lt (get_or a n 0) i) (bit_at-lt (get_or b n 0) i) is

-- ---- one list of raw values

-- what an active signal has in both
both_read : (m : Message) (bytes : List ℕ) (a b : List (Option ℤ)) (i : ℕ) (s : Signal) → AreRawValues m bytes a → AreRawValues m bytes b → slice_get m.signals i ≡ Some s → IsActive m a i → IsActive m b i → value_at a i ≡ value_at b i
both_read m bytes a b i s r t at x y =
    let left : value_at a i ≡ Some (value_in bytes s) = read a r x in
    let right : value_at b i ≡ Some (value_in bytes s) = read b t y in
    left ∙ sym right
  where
    read : (c : List (Option ℤ)) → AreRawValues m bytes c → IsActive m c i → value_at c i ≡ Some (value_in bytes s)
    read c h z =
        let there : (u : Signal) × (slice_get m.signals i ≡ Some u) × (value_at c i ≡ Some (value_in bytes u)) = some_and (λ u. value_at c i ≡ Some (value_in bytes u)) (slice_get m.signals i) (h.active i z) in
        let same : there.0 ≡ s = cc (sym there.1 ∙ at) in
        there.2 ∙ ap (λ u. Some (value_in bytes u)) same

-- a selector that both lists make active asks under both
both_ask : (n : ℕ) (m : Message) (bytes : List ℕ) (a b : List (Option ℤ)) (i j : ℕ) → AreRawValues m bytes a → AreRawValues m bytes b → Asks m.signals a i j → EndsAfter n m.signals a j → EndsAfter n m.signals b j → Asks m.signals b i j
both_ask n m bytes a b i j r t x h above =
    let there : (s : Signal) × (slice_get m.signals j ≡ Some s) = signal_there n m.signals a j h in
    let same : value_at a j ≡ value_at b j = both_read m bytes a b j there.0 r t there.1 (active-from_steps n m.signals a j h) (active-from_steps n m.signals b j above) in
    record { signal = x.signal; parent = x.parent; at = x.at; below = x.below; selector = x.selector; value = subst (λ o. IsSomeAnd o (λ v. lies_in x.parent.ranges v ≡ true)) same x.value }

both_end : (n : ℕ) (m : Message) (bytes : List ℕ) (a b : List (Option ℤ)) (i : ℕ) → AreRawValues m bytes a → AreRawValues m bytes b → EndsAfter n m.signals a i → EndsAfter n m.signals b i
both_end zero m bytes a b i r t h = h
both_end (suc n) m bytes a b i r t h =
    let above : EndsAfter n m.signals b h.0 = both_end n m bytes a b h.0 r t h.2 in
    (h.0, both_ask n m bytes a b i h.0 r t h.1 h.2 above, above)

-- the same signals are active
both_active : (m : Message) (bytes : List ℕ) (a b : List (Option ℤ)) (i : ℕ) → AreRawValues m bytes a → AreRawValues m bytes b → IsActive m a i → IsActive m b i × (value_at a i ≡ value_at b i)
both_active m bytes a b i r t h =
    let steps : (n : ℕ) × EndsAfter n m.signals a i = steps-from_active m.signals a i h in
    let other : IsActive m b i = active-from_steps steps.0 m.signals b i (both_end steps.0 m bytes a b i r t steps.1) in
    let there : (s : Signal) × (slice_get m.signals i ≡ Some s) = signal_there steps.0 m.signals a i steps.1 in
    (other, both_read m bytes a b i there.0 r t there.1 h other)

-- what no case can tell apart
same_option : (x y : Option ℤ) → ((x ≡ y → ⊥) → ⊥) → x ≡ y
same_option None None h = refl
same_option None (Some w) h = absurd (h (λ e. absurd (cc)))
same_option (Some v) None h = absurd (h (λ e. absurd (cc)))
same_option (Some v) (Some w) h = elim (int_eq v w) as (λ b. int_eq v w ≡ b → Some v ≡ Some w) [
  | true ↦ λ e. ap Some ((Decides-int_eq v w).0 e)
  | false ↦ λ e. absurd (h (λ same. let is : v ≡ w = cc in let told : int_eq v w ≡ true = (Decides-int_eq v w).1 is in absurd (cc)))
] refl

same_at : (m : Message) (bytes : List ℕ) (a b : List (Option ℤ)) (i : ℕ) → AreRawValues m bytes a → AreRawValues m bytes b → value_at a i ≡ value_at b i
same_at m bytes a b i r t = same_option (value_at a i) (value_at b i) (λ apart.
    apart (r.inactive i (λ x. apart (both_active m bytes a b i r t x).1) ∙ sym (t.inactive i (λ y. apart (sym (both_active m bytes b a i t r y).1)))))

same_values : (a b : List (Option ℤ)) → length a ≡ length b → ((i : ℕ) → value_at a i ≡ value_at b i) → a ≡ b
same_values [] [] e at = refl
same_values [] (y ∷ ys) e at = absurd (omega arith)
same_values (x ∷ xs) [] e at = absurd (omega arith)
same_values (x ∷ xs) (y ∷ ys) e at =
    let front : x ≡ y = at zero in
    let rest : xs ≡ ys = same_values xs ys (omega arith) (λ i. at (suc i)) in
    cc

pub one_reading : (m : Message) (bytes : List ℕ) (a b : List (Option ℤ)) → AreRawValues m bytes a → AreRawValues m bytes b → a ≡ b
one_reading m bytes a b r t = same_values a b (r.size ∙ sym t.size) (λ i. same_at m bytes a b i r t)
