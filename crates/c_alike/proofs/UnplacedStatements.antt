-- The faults of a statement do not hang on its places, but for the places of the faults.
use Rattle.std.proofs.Common.{◌≡◌, ℕ, Bool, true, false, not, ◌==◌, List, [], ◌∷◌, ◌++◌, map, length, Option, Some, None, option_map, refl, ap, ◌∙◌}
use Rattle.c_text.specs.declared.place.Place.{Place}
use Rattle.c_text.specs.declared.refusal.CKind.TheVariants.{Redeclared, ReservedName, TypeMismatch, ConstWrite, DuplicateCase}
use Rattle.c_text.specs.declared.token.IntType.{IntType}
use Rattle.c_text.specs.declared.token.Spelled.{Spelled}
use Rattle.c_tree.specs.declared.expression.Callee.{Callee}
use Rattle.c_tree.specs.declared.expression.Callee.TheVariants.{Name, Memset}
use Rattle.c_tree.specs.declared.expression.Expr.{Expr, fold_out-Expr}
use Rattle.c_tree.specs.declared.expression.ExprKind.{ExprKind, out-ExprKind, map-ExprKind, fold_out-ExprKind}
use Rattle.c_tree.specs.declared.expression.ExprKind.TheOpen.{ExprKind-F}
use Rattle.c_tree.specs.declared.expression.ExprKind.TheVariants as k
use Rattle.c_tree.specs.declared.item.CType.{CType}
use Rattle.c_tree.specs.declared.item.CType.TheVariants.{Integer}
use Rattle.c_tree.specs.declared.item.Function.{Function}
use Rattle.c_tree.specs.declared.statement.Stmt.{Stmt}
use Rattle.c_tree.specs.declared.statement.StmtKind.TheOpen.{StmtKind-F}
use Rattle.c_tree.specs.declared.statement.SwitchPart.{SwitchPart-F}
use Rattle.c_tree.specs.BareExpression as tree
use Rattle.c_tree.specs.BareExpression.{Tree, trees_of, bare_expression}
use Rattle.c_tree.specs.BareStatement.{actions_of, bare_statement}
use Rattle.cg_out.specs.Words.{look_up}
use Rattle.std.specs.Prelude.{is_some}
use Rattle.c_types.specs.TypeFault.{when}
use Rattle.c_types.specs.Scope.{Declared, Scope, type_named, behind, opened, is_reserved, name_faults}
use Rattle.c_types.specs.Setting.{Setting}
use Rattle.c_types.specs.ExpressionTypes.{Typing, Wanted, an_integer, anything, a_byte_pointer, promoted, mismatch, typing, integer_value, all_arguments}
use Rattle.c_types.specs.SwitchLabels.{Labels, no_labels, label_faults, with_label, with_number, case_value, value_in, repeated_number}
use Rattle.c_types.specs.StatementTypes.{Checks, Checked, CheckedPart, in_order, optional_value, declaration_faults, writes_const, store_faults, names_const, sets_const, memset_arguments, call_faults, discard_faults, gives_value, return_faults, parts_in_order, switch_type, kind_step, part_step, statement, statements}
use Rattle.c_effect.proofs.Placeless.{no_place, grown, all_grown, grown_list, bare_kind, placeless, placeless_option, placeless_function}
use Rattle.c_alike.proofs.Unplaced.{all_unplaced, checked_unplaced, part_unplaced, setting_unplaced, both, when-unplaced, checked-ext}
use Rattle.c_alike.proofs.Folding.{level_placed, part_placed, statements-same}
use Rattle.c_alike.proofs.UnplacedExpressions.{no_local-same, call-same, typing-same, integer-same, arguments-anywhere}
use Rattle.c_alike.proofs.UnplacedFolds.{case_value-same}

pub name-faults : (name : List ℕ) (p : Place) (earlier : Declared) → name_faults name no_place earlier ≡ all_unplaced (name_faults name p earlier)
name-faults name p earlier = both _ _ (when (is_some (look_up name earlier)) Redeclared p) (when (is_reserved name) ReservedName p) (when-unplaced (is_some (look_up name earlier)) Redeclared p) (when-unplaced (is_reserved name) ReservedName p)

-- ---- targets and arguments, by their kind

-- an expression with the fixed place, by its kind
abbrev form_at : ExprKind-F ExprKind Expr → Expr
form_at z = grown (tree.kind_step (map-ExprKind ExprKind Expr Tree Tree bare_kind bare_expression z))

form-is : (e : Expr) → placeless e ≡ form_at (out-ExprKind e.kind)
form-is e = ap grown (fold_out-Expr Tree Tree tree.kind_step tree.expr_step e ∙ fold_out-ExprKind Tree Tree tree.kind_step tree.expr_step e.kind)

writes-at : (z : ExprKind-F ExprKind Expr) (scope : Scope) → writes_const (out-ExprKind (form_at z).kind) scope ≡ writes_const z scope
writes-at (ExprKind-F.Constant c) scope = rw (k.outs-Constant c) refl
writes-at (ExprKind-F.Name name) scope = rw (k.outs-Name name) refl
writes-at ExprKind-F.Null scope = rw k.outs-Null refl
writes-at (ExprKind-F.Member base field) scope = rw (k.outs-Member base field) refl
writes-at (ExprKind-F.Element base index) scope = rw (k.outs-Element base (placeless index)) refl
writes-at (ExprKind-F.Call f args) scope = rw (k.outs-Call f (all_grown (trees_of (map bare_expression args)))) refl
writes-at (ExprKind-F.Unary op x) scope = rw (k.outs-Unary op (placeless x)) refl
writes-at (ExprKind-F.Cast to x) scope = rw (k.outs-Cast to (placeless x)) refl
writes-at (ExprKind-F.Binary op l r) scope = rw (k.outs-Binary op (placeless l) (placeless r)) refl
writes-at (ExprKind-F.Bracket x) scope = rw (k.outs-Bracket (placeless x)) refl

writes-same : (e : Expr) (scope : Scope) → writes_const (out-ExprKind (placeless e).kind) scope ≡ writes_const (out-ExprKind e.kind) scope
writes-same e scope = rw (form-is e) (writes-at (out-ExprKind e.kind) scope)

names-at : (z : ExprKind-F ExprKind Expr) (scope : Scope) → names_const (out-ExprKind (form_at z).kind) scope ≡ names_const z scope
names-at (ExprKind-F.Constant c) scope = rw (k.outs-Constant c) refl
names-at (ExprKind-F.Name name) scope = rw (k.outs-Name name) refl
names-at ExprKind-F.Null scope = rw k.outs-Null refl
names-at (ExprKind-F.Member base field) scope = rw (k.outs-Member base field) refl
names-at (ExprKind-F.Element base index) scope = rw (k.outs-Element base (placeless index)) refl
names-at (ExprKind-F.Call f args) scope = rw (k.outs-Call f (all_grown (trees_of (map bare_expression args)))) refl
names-at (ExprKind-F.Unary op x) scope = rw (k.outs-Unary op (placeless x)) refl
names-at (ExprKind-F.Cast to x) scope = rw (k.outs-Cast to (placeless x)) refl
names-at (ExprKind-F.Binary op l r) scope = rw (k.outs-Binary op (placeless l) (placeless r)) refl
names-at (ExprKind-F.Bracket x) scope = rw (k.outs-Bracket (placeless x)) refl

sets-same : (args : List Expr) (scope : Scope) → sets_const (all_grown (trees_of (map bare_expression args))) scope ≡ sets_const args scope
sets-same [] scope = refl
sets-same (e ∷ args) scope = ap (λ (f : Expr). names_const (out-ExprKind f.kind) scope) (form-is e) ∙ names-at (out-ExprKind e.kind) scope

count-same : (args : List Expr) → length (all_grown (trees_of (map bare_expression args))) ≡ length args
count-same [] = refl
count-same (e ∷ args) = rw (count-same args) refl

-- ---- statements one after another

pub in_order-same : (list : List Checked) (returns : CType) (scope : Scope) → in_order (map checked_unplaced list) returns scope ≡ all_unplaced (in_order list returns scope)
in_order-same [] returns scope = refl
in_order-same (c ∷ list) returns scope = both _ _ (c.faults returns scope) (in_order list returns (behind c.declares scope)) refl (in_order-same list returns (behind c.declares scope))

parts-same : (list : List CheckedPart) (type : Option IntType) (labels : Labels) (returns : CType) (scope : Scope)
    → parts_in_order (map part_unplaced list) type labels returns scope ≡ all_unplaced (parts_in_order list type labels returns scope)
parts-same [] type labels returns scope = refl
parts-same (p ∷ list) type labels returns scope =
    both _ _ (p.faults type labels returns scope) (parts_in_order list type (p.labels type labels) returns (behind p.declares scope)) refl (parts-same list type (p.labels type labels) returns (behind p.declares scope))

discard-same : (type : Option CType) (f : Option Function) (p : Place) → discard_faults type (option_map placeless_function f) no_place ≡ all_unplaced (discard_faults type f p)
discard-same (Some type) f p = refl
discard-same None f p = rw (no_local-same f) refl

repeated-same : (number : Option _) (p : Place) (labels : Labels) → repeated_number number no_place labels ≡ all_unplaced (repeated_number number p labels)
repeated-same None p labels = refl
repeated-same (Some number) p labels = when-unplaced _ DuplicateCase p

part-ext : (of_labels : Option IntType → Labels → Labels) (declares : Declared) (f g : Option IntType → Labels → Checks)
    → ((type : Option IntType) (labels : Labels) (returns : CType) (scope : Scope) → f type labels returns scope ≡ g type labels returns scope)
    → (let made : (Option IntType → Labels → Checks) → CheckedPart = λ faults. record { labels = of_labels; declares = declares; faults = faults } in made f ≡ made g)
part-ext of_labels declares f g h = λ i. record { labels = of_labels; declares = declares; faults = λ type labels returns scope. h type labels returns scope i }

module _ (s : Setting) where
  optional-same : (value : Option Expr) (scope : Scope) → optional_value (setting_unplaced s) (placeless_option value) scope ≡ all_unplaced (optional_value s value scope)
  optional-same None scope = refl
  optional-same (Some e) scope = integer-same s e scope

  declaration-same : (kind : Spelled) (name : List ℕ) (value : Option Expr) (p : Place) (scope : Scope)
      → declaration_faults (setting_unplaced s) kind name (placeless_option value) no_place scope ≡ all_unplaced (declaration_faults s kind name value p scope)
  declaration-same kind name value p scope =
      let inside = behind ((name, Integer kind) ∷ []) scope in
      both _ _ (name_faults name p scope.inner) (optional_value s value inside) (name-faults name p scope.inner) (optional-same value inside)

  store-same : (target value : Expr) (p : Place) (scope : Scope) → store_faults (setting_unplaced s) (placeless target) (placeless value) no_place scope ≡ all_unplaced (store_faults s target value p scope)
  store-same target value p scope =
      let writes = writes_const (out-ExprKind target.kind) scope in
      rw (writes-same target scope) (both _ _ (integer_value s target scope) (when writes ConstWrite p ++ integer_value s value scope) (integer-same s target scope)
      (both _ _ (when writes ConstWrite p) (integer_value s value scope) (when-unplaced writes ConstWrite p) (integer-same s value scope)))

  any-same : (e : Expr) (wanted : Wanted) (scope : Scope) → (typing (setting_unplaced s) (placeless e) wanted scope).faults ≡ all_unplaced (typing s e wanted scope).faults
  any-same e wanted scope = ap (λ (t : Typing). (t wanted scope).faults) (typing-same s e)

  memset-arguments : (args : List Expr) (scope : Scope) → memset_arguments (setting_unplaced s) (all_grown (trees_of (map bare_expression args))) scope ≡ all_unplaced (memset_arguments s args scope)
  memset-arguments [] scope = refl
  memset-arguments (e ∷ args) scope = both _ _ (typing s e a_byte_pointer scope).faults (all_arguments s args scope) (any-same e a_byte_pointer scope) (arguments-anywhere s args scope)

  call-faults : (f : Callee) (args : List Expr) (p : Place) (scope : Scope) → call_faults (setting_unplaced s) f (all_grown (trees_of (map bare_expression args))) no_place scope ≡ all_unplaced (call_faults s f args p scope)
  call-faults Memset args p scope =
      let short = not (length args == 3) in
      let sets = sets_const args scope in
      rw (count-same args, sets-same args scope) (both _ _ (when short TypeMismatch p) (when sets ConstWrite p ++ memset_arguments s args scope) (when-unplaced short TypeMismatch p)
      (both _ _ (when sets ConstWrite p) (memset_arguments s args scope) (when-unplaced sets ConstWrite p) (memset-arguments args scope)))
  call-faults (Name name) args p scope =
      rw (count-same args, arguments-anywhere s args scope) (ap (λ f. f.faults) (call-same s (Name name) (length args) anything p (all_arguments s args scope) scope))

  return-same : (value : Option Expr) (gives : Bool) (p : Place) (scope : Scope) → return_faults (setting_unplaced s) (placeless_option value) gives no_place scope ≡ all_unplaced (return_faults s value gives p scope)
  return-same None gives p scope = when-unplaced gives TypeMismatch p
  return-same (Some e) true p scope = integer-same s e scope
  return-same (Some e) false p scope = both _ _ (mismatch p) (typing s e anything scope).faults refl (any-same e anything scope)

  switch-type : (value : Expr) (scope : Scope) → switch_type (setting_unplaced s) (placeless value) scope ≡ switch_type s value scope
  switch-type value scope = ap (λ (t : Typing). promoted s.model (t an_integer scope).type) (typing-same s value)

  label-faults : (type : Option IntType) (value : Option Expr) (p : Place) (labels : Labels) → label_faults s.model type (placeless_option value) no_place labels ≡ all_unplaced (label_faults s.model type value p labels)
  label-faults type None p labels = when-unplaced _ DuplicateCase p
  label-faults type (Some e) p labels = rw (case_value-same s.model e) (repeated-same (value_in s.model type (case_value s.model e)) p labels)

  abbrev labels_at : Option Expr → Option IntType → Labels → Labels
  labels_at value type labels = with_label s.model type value labels

  with-label : (value : Option Expr) → labels_at (placeless_option value) ≡ labels_at value
  with-label None = refl
  with-label (Some e) = λ i. λ type labels. with_number (value_in s.model type (case_value-same s.model e i)) labels

  -- ---- one level

  level-same : (z : StmtKind-F (Place → Checked) CheckedPart Checked) (p : Place)
      → kind_step (setting_unplaced s) (level_placed checked_unplaced part_unplaced z) no_place ≡ checked_unplaced (kind_step s z p)
  level-same (StmtKind-F.Declare kind name value) p = checked-ext ((name, Integer kind) ∷ []) _ _ (λ returns scope. declaration-same kind name value p scope)
  level-same (StmtKind-F.Assign target op value) p = checked-ext [] _ _ (λ returns scope. store-same target value p scope)
  level-same (StmtKind-F.Call f args) p = checked-ext [] _ _ (λ returns scope. call-faults f args p scope)
  level-same (StmtKind-F.Discard name) p = checked-ext [] _ _ (λ returns scope. discard-same (type_named name scope) (s.function name) p)
  level-same StmtKind-F.Empty p = refl
  level-same (StmtKind-F.Block list) p = checked-ext [] _ _ (λ returns scope. in_order-same list returns (opened scope))
  level-same (StmtKind-F.If condition taken None) p = checked-ext (taken.declares ++ []) _ _ (λ returns scope.
      both _ _ (integer_value s condition scope) (taken.faults returns scope ++ []) (integer-same s condition scope) (both _ _ (taken.faults returns scope) [] refl refl))
  level-same (StmtKind-F.If condition taken (Some other)) p = checked-ext (taken.declares ++ other.declares) _ _ (λ returns scope.
      both _ _ (integer_value s condition scope) (taken.faults returns scope ++ other.faults returns (behind taken.declares scope)) (integer-same s condition scope)
      (both _ _ (taken.faults returns scope) (other.faults returns (behind taken.declares scope)) refl refl))
  level-same (StmtKind-F.Return value) p = checked-ext [] _ _ (λ returns scope. return-same value (gives_value returns) p scope)
  level-same StmtKind-F.Break p = refl
  level-same (StmtKind-F.Switch value parts) p = checked-ext [] _ _ (λ returns scope.
      rw (switch-type value scope) (both _ _ (integer_value s value scope) (parts_in_order parts (switch_type s value scope) no_labels returns (opened scope)) (integer-same s value scope)
      (parts-same parts (switch_type s value scope) no_labels returns (opened scope))))

  part-level : (z : SwitchPart-F (Place → Checked) CheckedPart Checked) → part_step (setting_unplaced s) (part_placed checked_unplaced z) ≡ part_unplaced (part_step s z)
  part-level (SwitchPart-F.Label value p) =
      ap (λ (f : Option IntType → Labels → Labels). (let made : CheckedPart = record { labels = f; declares = []; faults = λ type labels returns scope. label_faults s.model type (placeless_option value) no_place labels ++ optional_value (setting_unplaced s) (placeless_option value) scope } in made)) (with-label value)
      ∙ part-ext (labels_at value) [] _ _ (λ type labels returns scope.
      both _ _ (label_faults s.model type value p labels) (optional_value s value scope) (label-faults type value p labels) (optional-same value scope))
  part-level (SwitchPart-F.Statement x) = refl

  -- statements, and the same with the fixed place everywhere
  pub statements-anywhere : (xs : List Stmt) (returns : CType) (scope : Scope)
      → statements (setting_unplaced s) (grown_list (actions_of (map bare_statement xs))) returns scope ≡ all_unplaced (statements s xs returns scope)
  statements-anywhere xs returns scope =
      ap (λ list. in_order list returns scope) (statements-same (Place → Checked) CheckedPart Checked (λ f p. f p) (kind_step s) (kind_step (setting_unplaced s)) (part_step s) (part_step (setting_unplaced s)) checked_unplaced part_unplaced level-same part-level xs)
      ∙ in_order-same (map (statement s) xs) returns scope
