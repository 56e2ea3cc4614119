-- What more values by names add to those of a table.
use Rattle.std.specs.Prelude.{◌≡◌, ℕ, List, Option}
use Rattle.cg_out.specs.Words.{or_else, look_up}

-- what is known of a name, or else what these say of it
abbrev pub first_named : {A : Type 0} → (List ℕ → Option A) → List (List ℕ × A) → List ℕ → Option A
first_named known more name = or_else (known name) (look_up name more)

-- of names that have no value yet these get theirs
abbrev pub Adds : {A : Type 0} → List (List ℕ × A) → List (List ℕ × A) → List (List ℕ × A) → Type 0
Adds old more new = (name : List ℕ) → look_up name new ≡ first_named (λ n. look_up n old) more name
