-- In a database without a fault each signal stands within its message.
use Rattle.std.proofs.Common.{◌≡◌, ℕ, ◌+◌, ◌-◌, ◌*◌, ◌<◌, ◌≤◌, Bool, true, false, nat_lt, [], Some, refl, arith}
use Rattle.std.proofs.lemmas.Bool.Decides.{nat_tests}
use Rattle.std.specs.Prelude.{slice_get, MatchBool, if◌then◌else◌}
use Rattle.can_model.specs.declared.database.Message.{Message}
use Rattle.can_model.specs.declared.database.Signal.{Signal}
use Rattle.can_model.specs.declared.check_kind.CheckKind.{CheckKind}
use Rattle.can_model.specs.declared.check_kind.CheckKind.TheVariants.{MessageTooLong, SignalLength, SignalOutside}
use Rattle.can_model.specs.RawValue.{has_bits}
use Rattle.can_model.specs.Place.{rank, place_of, IsAt, HasPlace, IsPlaced}
use Rattle.can_model.specs.Validity.{Fault, signal, message, SignalHas, IsOfValidDatabase}
use Rattle.can_model.proofs.Elements.{and_some}

pub no_fault : (m : Message) (j : ℕ) (s : Signal) (kind : CheckKind) → IsOfValidDatabase m → slice_get m.signals j ≡ Some s → ¬ SignalHas m j s kind
no_fault m j s kind v at h =
    let f : Fault = record { kind = kind; line = s.line; message = m.name; signal = s.name } in
    v.2 (signal v.1 j) f (and_some _ (slice_get v.0.messages v.1) m v.3 (and_some _ (slice_get m.signals j) s at (h, refl)))

pub not_long : (m : Message) → IsOfValidDatabase m → m.length ≤ 2048
not_long m v = by (nat_lt 2048 m.length) refl where
  told : Fault
  told = record { kind = MessageTooLong; line = m.line; message = m.name; signal = [] }

  by : (b : Bool) → nat_lt 2048 m.length ≡ b → m.length ≤ 2048
  by true e = absurd (v.2 (message v.1) told (and_some _ (slice_get v.0.messages v.1) m v.3 (e, refl)))
  by false e = grind (arith, nat_tests)

some_bits : (m : Message) (j : ℕ) (s : Signal) → IsOfValidDatabase m → slice_get m.signals j ≡ Some s → has_bits s.length ≡ true
some_bits m j s v at = by (has_bits s.length) refl where
  by : (b : Bool) → has_bits s.length ≡ b → has_bits s.length ≡ true
  by true e = e
  by false e = absurd (no_fault m j s SignalLength v at e)

within_64 : (n : ℕ) → has_bits n ≡ true → (1 ≤ n) × (n ≤ 64)
within_64 n h = (grind (arith, nat_tests), grind (arith, nat_tests))

-- bit k is at the place that is told of it
pub at_place : (s : Signal) (k : ℕ) → k < s.length → IsAt s k (place_of s k)
at_place s k lt = by s.motorola where
  by : (b : Bool) → MatchBool b (rank (if b then rank (rank s.start + (s.length - (k + 1))) else s.start + k) + (k + 1) ≡ rank s.start + s.length) ((if b then rank (rank s.start + (s.length - (k + 1))) else s.start + k) ≡ s.start + k)
  by true = omega arith
  by false = refl

-- some bit is at the start
at_start : (s : Signal) → 1 ≤ s.length → (k : ℕ) × (k < s.length) × IsAt s k s.start
at_start s some = by s.motorola where
  by : (b : Bool) → (k : ℕ) × (k < s.length) × MatchBool b (rank s.start + (k + 1) ≡ rank s.start + s.length) (s.start ≡ s.start + k)
  by true = (s.length - 1, omega arith, omega arith)
  by false = (0, omega arith, omega arith)

place_within : (m : Message) (j : ℕ) (s : Signal) (p : ℕ) → IsOfValidDatabase m → slice_get m.signals j ≡ Some s → HasPlace s p → p < 8 * m.length
place_within m j s p v at has = by (nat_lt p (8 * m.length)) refl where
  by : (b : Bool) → nat_lt p (8 * m.length) ≡ b → p < 8 * m.length
  by true e = grind (arith, nat_tests)
  by false e = let behind : 8 * m.length ≤ p = grind (arith, nat_tests) in absurd (no_fault m j s SignalOutside v at (p, has, behind))

pub placed : (m : Message) (j : ℕ) (s : Signal) → IsOfValidDatabase m → slice_get m.signals j ≡ Some s → IsPlaced s m.length
placed m j s v at =
    let bits : has_bits s.length ≡ true = some_bits m j s v at in
    let sizes : (1 ≤ s.length) × (s.length ≤ 64) = within_64 s.length bits in
    let first : (k : ℕ) × (k < s.length) × IsAt s k s.start = at_start s sizes.0 in
    let start : s.start < 8 * m.length = place_within m j s s.start v at (bits, first) in
    let short : m.length ≤ 2048 = not_long m v in
    record {
      bits = bits;
      start = omega arith;
      inside = λ k lt. place_within m j s (place_of s k) v at (bits, (k, lt, at_place s k lt));
    }
