-- Trees without places made into expressions, statements and functions again, with one fixed place everywhere.
use Rattle.std.proofs.Common.{List, [], ◌∷◌, map, Option, Some, None}
use Rattle.std.specs.Prelude.{false}
use Rattle.c_text.specs.declared.place.Place.{Place}
use Rattle.c_tree.specs.declared.expression.Expr.{Expr}
use Rattle.c_tree.specs.declared.expression.ExprKind.{ExprKind, fold-ExprKind}
use Rattle.c_tree.specs.declared.expression.ExprKind.TheVariants as k
use Rattle.c_tree.specs.declared.statement.Stmt.{Stmt}
use Rattle.c_tree.specs.declared.statement.StmtKind.{StmtKind, fold-StmtKind}
use Rattle.c_tree.specs.declared.statement.StmtKind.TheVariants as s
use Rattle.c_tree.specs.declared.statement.SwitchPart.{SwitchPart, fold-SwitchPart}
use Rattle.c_tree.specs.declared.statement.SwitchPart.TheVariants as p
use Rattle.c_tree.specs.declared.item.Field.{Field}
use Rattle.c_tree.specs.declared.item.Function.{Function}
use Rattle.c_tree.specs.declared.item.Item.{Item}
use Rattle.c_tree.specs.declared.item.Item.TheVariants as item
use Rattle.c_tree.specs.BareExpression as x
use Rattle.c_tree.specs.BareExpression.{Tree, Trees}
use Rattle.c_tree.specs.BareStatement as a
use Rattle.c_tree.specs.BareStatement.{Action, Actions, Parts, BarePart}
use Rattle.c_tree.specs.BareUnit.{BareField, BareHead, BareItem}
use Rattle.c_tree.specs.BareUnit as u
use Rattle.c_effect.proofs.Equations.{node, stmt}

abbrev pub no_place : Place
no_place = record { header = false; line = 0; start = 0; end = 0 }

-- ---- expressions

abbrev mutual
  pub grown : Tree → Expr
  grown (x.constant c) = node no_place (k.Constant c)
  grown (x.name n) = node no_place (k.Name n)
  grown x.null = node no_place k.Null
  grown (x.member base field) = node no_place (k.Member base field)
  grown (x.element base index) = node no_place (k.Element base (grown index))
  grown (x.call function args) = node no_place (k.Call function (all_grown args))
  grown (x.unary op operand) = node no_place (k.Unary op (grown operand))
  grown (x.cast to operand) = node no_place (k.Cast to (grown operand))
  grown (x.binary op left right) = node no_place (k.Binary op (grown left) (grown right))
  grown (x.bracket inner) = node no_place (k.Bracket (grown inner))

  pub all_grown : Trees → List Expr
  all_grown x.none = []
  all_grown (x.more first rest) = grown first ∷ all_grown rest

abbrev pub bare_kind : ExprKind → Tree
bare_kind = fold-ExprKind Tree Tree x.kind_step x.expr_step

abbrev pub grown_option : Option Tree → Option Expr
grown_option None = None
grown_option (Some t) = Some (grown t)

-- an expression with the fixed place
abbrev pub placeless : Expr → Expr
placeless e = grown (x.bare_expression e)

abbrev pub placeless_option : Option Expr → Option Expr
placeless_option e = grown_option (a.bare_option e)

-- ---- statements

abbrev mutual
  pub grown_stmt : Action → Stmt
  grown_stmt (a.declare kind name value) = stmt no_place (s.Declare kind name (grown_option value))
  grown_stmt (a.assign target op value) = stmt no_place (s.Assign (grown target) op (grown value))
  grown_stmt (a.call function args) = stmt no_place (s.Call function (all_grown args))
  grown_stmt (a.discard name) = stmt no_place (s.Discard name)
  grown_stmt a.empty = stmt no_place s.Empty
  grown_stmt (a.block list) = stmt no_place (s.Block (grown_list list))
  grown_stmt (a.when condition taken) = stmt no_place (s.If (grown condition) (grown_stmt taken) None)
  grown_stmt (a.choose condition taken other) = stmt no_place (s.If (grown condition) (grown_stmt taken) (Some (grown_stmt other)))
  grown_stmt (a.return value) = stmt no_place (s.Return (grown_option value))
  grown_stmt a.break = stmt no_place s.Break
  grown_stmt (a.switch value parts) = stmt no_place (s.Switch (grown value) (grown_parts parts))

  pub grown_list : Actions → List Stmt
  grown_list a.no_more = []
  grown_list (a.then first rest) = grown_stmt first ∷ grown_list rest

  pub grown_parts : Parts → List SwitchPart
  grown_parts a.done = []
  grown_parts (a.label value rest) = p.Label (grown_option value) no_place ∷ grown_parts rest
  grown_parts (a.statement first rest) = p.Statement (grown_stmt first) ∷ grown_parts rest

abbrev pub grown_part : BarePart → SwitchPart
grown_part (a.a_label value) = p.Label (grown_option value) no_place
grown_part (a.a_statement first) = p.Statement (grown_stmt first)

abbrev pub bare_stmt_kind : StmtKind → Action
bare_stmt_kind = fold-StmtKind Action BarePart Action a.kind_step a.part_step a.stmt_step

abbrev pub bare_part : SwitchPart → BarePart
bare_part = fold-SwitchPart Action BarePart Action a.kind_step a.part_step a.stmt_step

abbrev pub placeless_stmt : Stmt → Stmt
placeless_stmt s = grown_stmt (a.bare_statement s)

-- ---- functions and units

abbrev pub grown_field : BareField → Field
grown_field f = record { kind = f.kind; name = f.name; place = no_place }

abbrev pub grown_body : Option Actions → Option (List Stmt)
grown_body None = None
grown_body (Some list) = Some (grown_list list)

abbrev pub grown_function : BareHead → Option Actions → Function
grown_function h body = record { fixed = h.fixed; returns = h.returns; name = h.name; params = map grown_field h.params; body = grown_body body; place = no_place; close = no_place }

abbrev pub grown_item : BareItem → Item
grown_item (u.struct tag fields) = item.Struct (record { tag = tag; fields = map grown_field fields; place = no_place })
grown_item (u.function h body) = item.Function (grown_function h body)

abbrev pub placeless_field : Field → Field
placeless_field f = grown_field (u.bare_field f)

abbrev pub placeless_function : Function → Function
placeless_function f = grown_function (u.bare_head f) (u.bare_body f.body)

abbrev pub placeless_items : List Item → List Item
placeless_items items = map grown_item (map u.bare_item items)
