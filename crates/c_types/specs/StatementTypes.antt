-- The faults of statements, and what they declare (ISO/IEC 9899:1999, the constraints of 6.5.16, 6.7 and 6.8, and 7.21.6.1).
use Rattle.std.specs.Prelude.{ℕ, Bool, true, false, not, ◌==◌, List, [], ◌∷◌, ◌++◌, length, map, Option, Some, None}
use Rattle.c_text.specs.declared.place.Place.{Place}
use Rattle.c_text.specs.declared.refusal.CKind.TheVariants.{TypeMismatch, ConstWrite}
use Rattle.c_text.specs.declared.token.IntType.{IntType}
use Rattle.c_text.specs.declared.token.Spelled.{Spelled}
use Rattle.c_text.specs.Refusal.{Refusal}
use Rattle.c_tree.specs.declared.expression.Callee.{Callee}
use Rattle.c_tree.specs.declared.expression.Callee.TheVariants as callee
use Rattle.c_tree.specs.declared.expression.Expr.{Expr}
use Rattle.c_tree.specs.declared.expression.ExprKind.{ExprKind, out-ExprKind}
use Rattle.c_tree.specs.declared.expression.ExprKind.TheOpen.{ExprKind-F}
use Rattle.c_tree.specs.declared.item.CType.{CType}
use Rattle.c_tree.specs.declared.item.CType.TheVariants.{Integer, Pointer}
use Rattle.c_tree.specs.declared.item.Function.{Function}
use Rattle.c_tree.specs.declared.statement.Stmt.{Stmt, Stmt-F, fold-Stmt}
use Rattle.c_tree.specs.declared.statement.StmtKind.{StmtKind, fold-StmtKind}
use Rattle.c_tree.specs.declared.statement.StmtKind.TheOpen.{StmtKind-F}
use Rattle.c_tree.specs.declared.statement.SwitchPart.{SwitchPart, SwitchPart-F, fold-SwitchPart}
use Rattle.c_types.specs.TypeFault.{fault, when}
use Rattle.c_types.specs.Scope.{Declared, Scope, type_named, behind, opened, name_faults}
use Rattle.c_types.specs.Setting.{Setting}
use Rattle.c_types.specs.ExpressionTypes.{anything, a_byte_pointer, an_integer, promoted, no_local, mismatch, called, callee_found, call_found, typing, integer_value, all_arguments}
use Rattle.c_types.specs.SwitchLabels.{Labels, no_labels, with_label, label_faults}

-- in a function that returns this type
abbrev pub Checks : Type 0
Checks = CType → Scope → List Refusal

-- what a statement declares in the block that holds it, and its faults there
pub record Checked : Type 0 where
  pub declares : Declared
  pub faults : Checks

abbrev pub checked : Declared → Checks → Checked
checked declares faults = record { declares = declares; faults = faults }

-- statements in a row
abbrev pub in_order : List Checked → Checks
in_order [] returns scope = []
in_order (s ∷ rest) returns scope = s.faults returns scope ++ in_order rest returns (behind s.declares scope)

-- ---- declarations (6.7)

abbrev pub optional_value : Setting → Option Expr → Scope → List Refusal
optional_value s None scope = []
optional_value s (Some e) scope = integer_value s e scope

-- a local is declared in its own value (6.2.1p7)
abbrev pub declaration_faults : Setting → Spelled → List ℕ → Option Expr → Place → Scope → List Refusal
declaration_faults s kind name value place scope =
    name_faults name place scope.inner ++ optional_value s value (behind ((name, Integer kind) ∷ []) scope)

-- ---- assignments (6.5.16)

abbrev pub points_to_const : CType → Bool
points_to_const (Pointer target constant) = constant
points_to_const other = false

abbrev pub is_const : Option CType → Bool
is_const None = false
is_const (Some type) = points_to_const type

abbrev pub writes_const : ExprKind-F ExprKind Expr → Scope → Bool
writes_const (ExprKind-F.Member base field) scope = is_const (type_named base scope)
writes_const (ExprKind-F.Element base index) scope = is_const (type_named base scope)
writes_const other scope = false

abbrev pub store_faults : Setting → Expr → Expr → Place → Scope → List Refusal
store_faults s target value place scope =
    integer_value s target scope ++ (when (writes_const (out-ExprKind target.kind) scope) ConstWrite place ++ integer_value s value scope)

-- ---- calls (6.5.2.2) and `memset` (7.21.6.1)

abbrev pub names_const : ExprKind-F ExprKind Expr → Scope → Bool
names_const (ExprKind-F.Name name) scope = is_const (type_named name scope)
names_const other scope = false

-- a pointer to const that memory would be set through
abbrev pub sets_const : List Expr → Scope → Bool
sets_const [] scope = false
sets_const (e ∷ rest) scope = names_const (out-ExprKind e.kind) scope

-- the name of a pointer to bytes, and integers
abbrev pub memset_arguments : Setting → List Expr → Scope → List Refusal
memset_arguments s [] scope = []
memset_arguments s (e ∷ rest) scope = (typing s e a_byte_pointer scope).faults ++ all_arguments s rest scope

abbrev pub memset_faults : Setting → List Expr → Place → Scope → List Refusal
memset_faults s args place scope =
    when (not (length args == 3)) TypeMismatch place ++ (when (sets_const args scope) ConstWrite place ++ memset_arguments s args scope)

abbrev pub call_faults : Setting → Callee → List Expr → Place → Scope → List Refusal
call_faults s callee.Memset args place scope = memset_faults s args place scope
call_faults s (callee.Name name) args place scope =
    (call_found (callee_found (called s (callee.Name name) (length args) place scope) anything place) (all_arguments s args scope)).faults

-- ---- `(void)name;` and returns (6.8.6.4)

abbrev pub discard_faults : Option CType → Option Function → Place → List Refusal
discard_faults (Some type) function place = []
discard_faults None function place = fault (no_local function) place ∷ []

abbrev pub gives_value : CType → Bool
gives_value (Integer s) = true
gives_value other = false

abbrev pub return_faults : Setting → Option Expr → Bool → Place → Scope → List Refusal
return_faults s None gives place scope = when gives TypeMismatch place
return_faults s (Some e) true place scope = integer_value s e scope
return_faults s (Some e) false place scope = mismatch place ++ (typing s e anything scope).faults

-- ---- branches (6.8.4.1): without braces they are no blocks of their own

abbrev pub else_declares : Option Checked → Declared
else_declares None = []
else_declares (Some other) = other.declares

abbrev pub else_faults : Option Checked → Checks
else_faults None returns scope = []
else_faults (Some other) returns scope = other.faults returns scope

-- ---- switches (6.8.4.2)

-- a label or a statement of a switch of this type behind these labels
pub record CheckedPart : Type 0 where
  pub labels : Option IntType → Labels → Labels
  pub declares : Declared
  pub faults : Option IntType → Labels → Checks

abbrev pub parts_in_order : List CheckedPart → Option IntType → Labels → Checks
parts_in_order [] type labels returns scope = []
parts_in_order (p ∷ rest) type labels returns scope =
    p.faults type labels returns scope ++ parts_in_order rest type (p.labels type labels) returns (behind p.declares scope)

-- the promoted type of its value
abbrev pub switch_type : Setting → Expr → Scope → Option IntType
switch_type s value scope = promoted s.model (typing s value an_integer scope).type

-- ---- one level

abbrev pub kind_step : Setting → StmtKind-F (Place → Checked) CheckedPart Checked → Place → Checked
kind_step s (StmtKind-F.Declare kind name value) place = checked ((name, Integer kind) ∷ []) (λ returns scope. declaration_faults s kind name value place scope)
kind_step s (StmtKind-F.Assign target operator value) place = checked [] (λ returns scope. store_faults s target value place scope)
kind_step s (StmtKind-F.Call function args) place = checked [] (λ returns scope. call_faults s function args place scope)
kind_step s (StmtKind-F.Discard name) place = checked [] (λ returns scope. discard_faults (type_named name scope) (s.function name) place)
kind_step s StmtKind-F.Empty place = checked [] (λ returns scope. [])
kind_step s (StmtKind-F.Block list) place = checked [] (λ returns scope. in_order list returns (opened scope))
kind_step s (StmtKind-F.If condition taken other) place =
    checked (taken.declares ++ else_declares other)
    (λ returns scope. integer_value s condition scope ++ (taken.faults returns scope ++ else_faults other returns (behind taken.declares scope)))
kind_step s (StmtKind-F.Return value) place = checked [] (λ returns scope. return_faults s value (gives_value returns) place scope)
kind_step s StmtKind-F.Break place = checked [] (λ returns scope. [])
kind_step s (StmtKind-F.Switch value parts) place =
    checked [] (λ returns scope. integer_value s value scope ++ parts_in_order parts (switch_type s value scope) no_labels returns (opened scope))

abbrev pub part_step : Setting → SwitchPart-F (Place → Checked) CheckedPart Checked → CheckedPart
part_step s (SwitchPart-F.Label value place) = record {
  labels = λ type labels. with_label s.model type value labels;
  declares = [];
  faults = λ type labels returns scope. label_faults s.model type value place labels ++ optional_value s value scope;
}
part_step s (SwitchPart-F.Statement x) = record {
  labels = λ type labels. labels;
  declares = x.declares;
  faults = λ type labels returns scope. x.faults returns scope;
}

abbrev pub stmt_step : Stmt-F (Place → Checked) CheckedPart Checked → Checked
stmt_step x = x.kind x.place

-- ---- whole statements

abbrev pub statement : Setting → Stmt → Checked
statement s = fold-Stmt (Place → Checked) CheckedPart Checked (kind_step s) (part_step s) stmt_step

abbrev pub kind_statement : Setting → StmtKind → Place → Checked
kind_statement s = fold-StmtKind (Place → Checked) CheckedPart Checked (kind_step s) (part_step s) stmt_step

abbrev pub part : Setting → SwitchPart → CheckedPart
part s = fold-SwitchPart (Place → Checked) CheckedPart Checked (kind_step s) (part_step s) stmt_step

abbrev pub statements : Setting → List Stmt → Checks
statements s list = in_order (map (statement s) list)

abbrev pub parts : Setting → List SwitchPart → Option IntType → Labels → Checks
parts s list = parts_in_order (map (part s) list)
