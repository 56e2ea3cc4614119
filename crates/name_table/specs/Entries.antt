-- A table's entries, as pairs of a name and a value.
use Rattle.std.specs.Prelude.{ℕ, List, Option, Some, None}
use Rattle.std.specs.Borrow.{Bor}

abbrev pub named : {V : Type 0} → Bor (List ℕ) × V → List ℕ × V
named e = (e.0.now, e.1)

-- what is lent, where there is something
abbrev pub lent : {V : Type 0} → Option (Bor V) → Option V
lent None = None
lent (Some x) = Some x.now
