-- Data models: how wide int, long and pointers are (ISO/IEC 9899:1999, 6.2.5). Every model has bytes of 8 bits, short of 16 and long long of 64.
use Rattle.std.specs.Prelude.{◌≡◌, ℕ, Bool, true, false, ◌&&◌, ◌||◌, ◌==◌, List, [], ◌∷◌}

-- widths in bits
pub record DataModel : Type 0 where
  pub int : ℕ
  pub long : ℕ
  pub pointer : ℕ

abbrev pub model_of : ℕ → ℕ → ℕ → DataModel
model_of int long pointer = record { int = int; long = long; pointer = pointer }

abbrev pub ilp32 : DataModel
ilp32 = model_of 32 32 32

abbrev pub lp64 : DataModel
lp64 = model_of 32 64 64

-- the closed list of all models, in the order in which they are asked
abbrev pub models : List DataModel
models = ilp32 ∷ lp64 ∷ []

abbrev pub same_model : DataModel → DataModel → Bool
same_model m n = m.int == n.int && (m.long == n.long && m.pointer == n.pointer)

abbrev pub is_among : DataModel → List DataModel → Bool
is_among m [] = false
is_among m (n ∷ ns) = same_model m n || is_among m ns

unfoldable pub is_listed : DataModel → Bool
is_listed m = is_among m models

-- the three widths are those of a model of the list
pub record IsModel (int long pointer : ℕ) : Type 0 where
  pub listed : is_listed (model_of int long pointer) ≡ true
