-- Faults of types, as lists in the order of the tokens at which they show; at one token the lesser number stands first.
use Rattle.std.specs.Prelude.{Bool, true, false, List, [], ◌∷◌, Option, Some, None, Result, Ok, Err}
use Rattle.c_text.specs.declared.place.Place.{Place}
use Rattle.c_text.specs.declared.refusal.CKind.{CKind}
use Rattle.c_text.specs.Refusal.{Refusal}

abbrev pub fault : CKind → Place → Refusal
fault kind place = record { kind = kind; place = place }

-- this fault alone, where the test holds
abbrev pub when : Bool → CKind → Place → List Refusal
when true kind place = fault kind place ∷ []
when false kind place = []

abbrev pub first_of : List Refusal → Option Refusal
first_of [] = None
first_of (r ∷ rs) = Some r

-- what has no fault, or its first one
abbrev pub unless_refused : {A : Type 0} → List Refusal → A → Result A Refusal
unless_refused [] x = Ok x
unless_refused (r ∷ rs) x = Err r
