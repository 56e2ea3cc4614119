-- How segments are taken from a list, one after the other.
use Rattle.std.specs.Prelude.{◌≡◌, List, [], ◌∷◌, Option, Some, None}
use Rattle.bit_layout.specs.declared.walk.Segment.{Segment}

-- the first is taken and the others stay, or there was none
abbrev pub IsFirstTaken : Option Segment → List Segment → List Segment → Type 0
IsFirstTaken None old new = (old ≡ []) × (new ≡ [])
IsFirstTaken (Some g) old new = old ≡ g ∷ new
