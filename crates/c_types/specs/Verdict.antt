-- What the code reports of a part of a unit, against the faults of that part.
use Rattle.std.specs.Prelude.{◌≡◌, List, [], Option, Some, Result, Ok, Err}
use Rattle.c_text.specs.declared.refusal.CFault.{CFault}
use Rattle.c_text.specs.declared.refusal.CFault.TheVariants.{Fault, Memory}
use Rattle.c_text.specs.declared.token.IntType.{IntType}
use Rattle.c_text.specs.Refusal.{Refusal}
use Rattle.c_types.specs.TypeFault.{fault, first_of}
use Rattle.c_types.specs.ExpressionTypes.{Found, Sort, number, null_pointer, byte_pointer, struct_pointer, void_value, function_name, Wanted, an_integer, anything, a_byte_pointer}
use Rattle.c_types.specs.declared.refusing.Sort.{Sort as CodeSort}
use Rattle.c_types.specs.declared.refusing.Sort.TheVariants as sort
use Rattle.c_types.specs.declared.refusing.Wanted.{Wanted as CodeWanted}
use Rattle.c_types.specs.declared.refusing.Wanted.TheVariants as wanted

abbrev pub sort_shown : CodeSort → Sort
sort_shown sort.Number = number
sort_shown sort.Null = null_pointer
sort_shown sort.Bytes = byte_pointer
sort_shown sort.Struct = struct_pointer
sort_shown sort.Void = void_value
sort_shown sort.Function = function_name

abbrev pub wanted_shown : CodeWanted → Wanted
wanted_shown wanted.AnInteger = an_integer
wanted_shown wanted.Anything = anything
wanted_shown wanted.ABytePointer = a_byte_pointer

-- the first of these faults is reported, unless memory ran out
unfoldable pub Refuses : CFault → List Refusal → Type 0
Refuses (Fault kind place) faults = first_of faults ≡ Some (fault kind place)
Refuses Memory faults = Unit {0}

-- there is no fault, or the first is reported
abbrev pub Passes : {A : Type 0} → Result A CFault → List Refusal → Type 0
Passes (Ok x) faults = faults ≡ []
Passes (Err e) faults = Refuses e faults

-- the same of an expression, whose type is told where it is an integer
abbrev pub Sees : Result (Option IntType) CFault → Found → Type 0
Sees (Ok type) f = (f.faults ≡ []) × (f.type ≡ type)
Sees (Err e) f = Refuses e f.faults
