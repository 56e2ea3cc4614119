-- The labels of a switch (ISO/IEC 9899:1999, 6.8.4.2): no two have one value in the promoted type of the controlling expression.
use Rattle.std.specs.Prelude.{Bool, true, false, List, [], ◌∷◌, ◌++◌, ℤ, pos, neg_ℤ, Option, Some, None}
use Rattle.std.specs.List.{list_any}
use Rattle.std.specs.Ordering.{int_eq}
use Rattle.c_text.specs.declared.place.Place.{Place}
use Rattle.c_text.specs.declared.refusal.CKind.TheVariants.{DuplicateCase}
use Rattle.c_text.specs.declared.token.IntType.{IntType}
use Rattle.c_text.specs.Refusal.{Refusal}
use Rattle.c_text.specs.declared.token.Constant.{Constant}
use Rattle.c_tree.specs.declared.expression.Expr.{Expr, Expr-F, fold-Expr}
use Rattle.c_tree.specs.declared.expression.ExprKind.TheOpen.{ExprKind-F}
use Rattle.c_tree.specs.declared.expression.UnaryOp.{UnaryOp}
use Rattle.c_tree.specs.declared.expression.UnaryOp.TheVariants.{Plus, Minus}
use Rattle.c_widths.specs.DataModel.{DataModel}
use Rattle.c_widths.specs.Conversion.{convert}
use Rattle.c_widths.specs.ConstantType.{constant_type}
use Rattle.c_types.specs.TypeFault.{when}

-- ---- the value of a constant with signs and brackets (6.6)

-- a number of a type
pub record Typed : Type 0 where
  pub type : IntType
  pub value : ℤ

abbrev pub constant_value : Option IntType → Constant → Option Typed
constant_value None c = None
constant_value (Some type) c = Some (record { type = type; value = pos c.value })

-- the type of a constant is promoted, so a sign keeps it
abbrev pub signed_value : DataModel → UnaryOp → Option Typed → Option Typed
signed_value m Plus value = value
signed_value m Minus (Some v) = Some (record { type = v.type; value = convert m v.type (neg_ℤ v.value) })
signed_value m other value = None

abbrev pub value_kind_step : DataModel → ExprKind-F (Option Typed) (Option Typed) → Option Typed
value_kind_step m (ExprKind-F.Constant c) = constant_value (constant_type m c) c
value_kind_step m (ExprKind-F.Unary sign operand) = signed_value m sign operand
value_kind_step m (ExprKind-F.Bracket inner) = inner
value_kind_step m other = None

abbrev pub value_expr_step : Expr-F (Option Typed) (Option Typed) → Option Typed
value_expr_step e = e.kind

abbrev pub case_value : DataModel → Expr → Option Typed
case_value m = fold-Expr (Option Typed) (Option Typed) (value_kind_step m) value_expr_step

-- ---- labels

-- the values of the labels so far, and whether there was a default
pub record Labels : Type 0 where
  pub values : List ℤ
  pub has_default : Bool

abbrev pub no_labels : Labels
no_labels = record { values = []; has_default = false }

-- in the type of the switch, where both are known
abbrev pub value_in : DataModel → Option IntType → Option Typed → Option ℤ
value_in m (Some type) (Some v) = Some (convert m type v.value)
value_in m type value = None

-- a number that an earlier label has
abbrev pub repeated_number : Option ℤ → Place → Labels → List Refusal
repeated_number None place labels = []
repeated_number (Some number) place labels = when (list_any (int_eq number) labels.values) DuplicateCase place

abbrev pub with_number : Option ℤ → Labels → Labels
with_number None labels = labels
with_number (Some number) labels = record { values = labels.values ++ number ∷ []; has_default = labels.has_default }

abbrev pub with_default : Labels → Labels
with_default labels = record { values = labels.values; has_default = true }

-- of `default`, or of a case
abbrev pub label_faults : DataModel → Option IntType → Option Expr → Place → Labels → List Refusal
label_faults m type None place labels = when labels.has_default DuplicateCase place
label_faults m type (Some e) place labels = repeated_number (value_in m type (case_value m e)) place labels

abbrev pub with_label : DataModel → Option IntType → Option Expr → Labels → Labels
with_label m type None labels = with_default labels
with_label m type (Some e) labels = with_number (value_in m type (case_value m e)) labels
