-- How structs are cut (ISO/IEC 9899:1999, 6.7.2.1).
use Rattle.std.specs.Prelude.{ℕ, ◌+◌, List, [], ◌∷◌, take, drop, Option, Some, None, Result, Ok, Err}
use Rattle.c_text.specs.declared.place.Place.{Place}
use Rattle.c_text.specs.declared.token.Token.{Token}
use Rattle.c_tree.specs.declared.symbol.Bracket.{Bracket}
use Rattle.c_tree.specs.declared.symbol.Bracket.TheVariants.{Brace}
use Rattle.c_tree.specs.declared.item.Field.{Field}
use Rattle.c_tree.specs.declared.item.Item.{Item}
use Rattle.c_tree.specs.declared.item.Item.TheVariants as item
use Rattle.c_text.specs.Refusal.{Refusal}
use Rattle.c_tree.specs.Sequence.{Reading, all_read, place_at}
use Rattle.cg_out.specs.Words.{◌>>=◌, counted}
use Rattle.c_tree.specs.Symbol.{name_of, is_semicolon}
use Rattle.c_tree.specs.Brackets.{opens, first_outside, syntax}
use Rattle.c_tree.specs.ExpressionCut.{Delimited, Closed, closed}
use Rattle.c_tree.specs.DeclarationCut.{integer}

-- one field, from the tokens before its semicolon
abbrev pub struct_field : Delimited → Result Field Refusal
struct_field ([], after) = Err (syntax after)
struct_field (x ∷ xs, after) = integer x.place (x ∷ xs)

-- the semicolon is that many tokens behind the first
abbrev pub field_at : Option ℕ → Reading Field
field_at None x xs = Err (syntax x.place)
field_at (Some i) x xs = counted i (struct_field (take i (x ∷ xs), place_at (drop i (x ∷ xs)) x.place))

abbrev pub each_field : Reading Field
each_field x xs = field_at (first_outside is_semicolon 0 0 (x ∷ xs)) x xs

-- one or more, each with its semicolon
abbrev pub fields_in : List Token → Place → Result (List Field) Refusal
fields_in [] after = Err (syntax after)
fields_in (x ∷ xs) after = all_read each_field 0 (x ∷ xs)

abbrev pub fields : Closed → Result (List Field) Refusal
fields c = fields_in c.inner c.close

abbrev pub struct_item : Place → Option (List ℕ) → Place → Option Bracket → Option Closed → Result Item Refusal
struct_item first (Some tag) place (Some Brace) (Some c) = do
  fs ← fields c
  Ok (item.Struct (record { tag = tag; fields = fs; place = place }))
struct_item first tag place open_kind c = Err (syntax first)

-- the tokens between `struct` and the semicolon
abbrev pub struct_of : Place → List Token → Result Item Refusal
struct_of first (x ∷ o ∷ xs) = struct_item first (name_of x.kind) x.place (opens o.kind) (closed xs)
struct_of first xs = Err (syntax first)

-- that many tokens stand between `struct` and the semicolon
abbrev pub struct_at : Option ℕ → Reading Item
struct_at None x xs = Err (syntax x.place)
struct_at (Some i) x xs = counted (i + 1) (struct_of x.place (take i xs))
