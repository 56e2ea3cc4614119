-- Units without their places.
use Rattle.std.specs.Prelude.{ℕ, Bool, List, map, Option, Some, None}
use Rattle.c_tree.specs.declared.item.CType.{CType}
use Rattle.c_tree.specs.declared.item.Field.{Field}
use Rattle.c_tree.specs.declared.item.Function.{Function}
use Rattle.c_tree.specs.declared.item.Item.{Item}
use Rattle.c_tree.specs.declared.item.Item.TheVariants as item
use Rattle.c_tree.specs.declared.item.Unit.{Unit as Whole}
use Rattle.c_tree.specs.declared.statement.Stmt.{Stmt}
use Rattle.c_tree.specs.BareStatement.{Actions, actions_of, bare_statement}

-- a field or a parameter: its type and its name
pub record BareField : Type 0 where
  pub kind : CType
  pub name : List ℕ

-- a prototype, or a definition with a body
pub record BareHead : Type 0 where
  pub fixed : Bool
  pub returns : CType
  pub name : List ℕ
  pub params : List BareField

pub data BareItem : Type 0 where
  struct : (tag : List ℕ) → (fields : List BareField) → BareItem
  function : BareHead → (body : Option Actions) → BareItem

abbrev pub bare_field : Field → BareField
bare_field f = record { kind = f.kind; name = f.name }

abbrev pub bare_body : Option (List Stmt) → Option Actions
bare_body None = None
bare_body (Some list) = Some (actions_of (map bare_statement list))

abbrev pub bare_head : Function → BareHead
bare_head f = record { fixed = f.fixed; returns = f.returns; name = f.name; params = map bare_field f.params }

abbrev pub bare_item : Item → BareItem
bare_item (item.Struct s) = struct s.tag (map bare_field s.fields)
bare_item (item.Function f) = function (bare_head f) (bare_body f.body)

-- the unit without its places: two are equal but for places where these are equal
abbrev pub bare_unit : Whole → List BareItem
bare_unit u = map bare_item u.items
