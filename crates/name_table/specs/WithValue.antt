-- A list of values by names, where the first entry of a name gets another value.
use Rattle.std.specs.Prelude.{ℕ, if◌then◌else◌, List, [], ◌∷◌, bytes_eq}

abbrev pub with_value : {A : Type 0} → List ℕ → A → List (List ℕ × A) → List (List ℕ × A)
with_value name a [] = []
with_value name a ((n, b) ∷ rest) = if bytes_eq n name then (n, a) ∷ rest else (n, b) ∷ with_value name a rest
