-- A type of integers with a name behind it (ISO/IEC 9899:1999, 6.7), as fields and parameters have it.
use Rattle.std.specs.Prelude.{ℕ, List, [], ◌∷◌, drop, Option, Some, None, Result, Ok, Err}
use Rattle.c_text.specs.declared.place.Place.{Place}
use Rattle.c_text.specs.declared.token.Token.{Token}
use Rattle.c_tree.specs.declared.item.CType.{CType}
use Rattle.c_tree.specs.declared.item.CType.TheVariants as t
use Rattle.c_tree.specs.declared.item.Field.{Field}
use Rattle.c_text.specs.Refusal.{Refusal}
use Rattle.c_tree.specs.Symbol.{name_of}
use Rattle.c_tree.specs.Brackets.{syntax}
use Rattle.c_tree.specs.TypeName.{CountedType, front_type}

abbrev pub field : CType → List ℕ → Place → Field
field type name place = record { kind = type; name = name; place = place }

-- a type with its name, in tokens that begin at this place
abbrev pub named_by : Place → CType → Option (List ℕ) → Place → Result Field Refusal
named_by first type None place = Err (syntax first)
named_by first type (Some name) place = Ok (field type name place)

abbrev pub declared_as : Place → CType → List Token → Result Field Refusal
declared_as first type (x ∷ []) = named_by first type (name_of x.kind) x.place
declared_as first type ts = Err (syntax first)

-- a type of integers, with a name behind it
abbrev pub integer_by : Place → Option CountedType → List Token → Result Field Refusal
integer_by first None ts = Err (syntax first)
integer_by first (Some s) ts = declared_as first (t.Integer s.0) (drop s.1 ts)

abbrev pub integer : Place → List Token → Result Field Refusal
integer first ts = integer_by first (front_type ts) ts
