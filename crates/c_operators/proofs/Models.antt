-- A model of the list is one of two.
use Rattle.std.proofs.Common.{◌≡◌, ℕ, Bool, true, false, refl, sym, subst, arith, inl, inr}
use Rattle.std.specs.Prelude.{◌⊎◌, ◌||◌}
use Rattle.std.proofs.lemmas.Bool.Decides.{nat_tests}
use Rattle.c_widths.specs.DataModel.{DataModel, IsModel, model_of, is_listed, same_model, ilp32, lp64}

abbrev pub IsOneOf : DataModel → Type 0
IsOneOf m = (m ≡ ilp32) ⊎ (m ≡ lp64)

record Widths (m n : DataModel) : Type 0 where
  ints : m.int ≡ n.int
  longs : m.long ≡ n.long
  pointers : m.pointer ≡ n.pointer

same : (m n : DataModel) → Widths m n → m ≡ n
same m n w i = record { int = w.ints i; long = w.longs i; pointer = w.pointers i }

equal : (m n : DataModel) → same_model m n ≡ true → m ≡ n
equal m n h = same m n (record { ints = grind (arith, nat_tests, h); longs = grind (arith, nat_tests, h); pointers = grind (arith, nat_tests, h) })

either : (a b : Bool) → (a || (b || false)) ≡ true → (a ≡ true) ⊎ (b ≡ true)
either true b h = inl refl
either false true h = inr refl
either false false h = absurd (cc)

pub one_of : (int long pointer : ℕ) → IsModel int long pointer → IsOneOf (model_of int long pointer)
unfolding is_listed
one_of int long pointer h = elim (either (same_model (model_of int long pointer) ilp32) (same_model (model_of int long pointer) lp64) h.listed) [
  | inl e ↦ inl (equal (model_of int long pointer) ilp32 e)
  | inr e ↦ inr (equal (model_of int long pointer) lp64 e)
]

-- what both models keep, every model of the list keeps
pub for_each : (P : DataModel → Type 0) → P ilp32 → P lp64 → (m : DataModel) → IsOneOf m → P m
for_each P a b m (inl e) = subst P (sym e) a
for_each P a b m (inr e) = subst P (sym e) b

pub int_is : (m : DataModel) → IsOneOf m → m.int ≡ 32
int_is = for_each (λ m. m.int ≡ 32) refl refl
