-- Statements without a fault (ISO/IEC 9899:1999, the constraints of 6.5.16, 6.7 and 6.8), from what is declared and what their parts are: one step each.
use Rattle.std.proofs.Common.{◌≡◌, ℕ, true, false, List, [], ◌∷◌, ◌++◌, map, length, Option, Some, None, refl, sym, ap, ◌∙◌, ℤ, pos, append-nil}
use Rattle.std.specs.List.{list_any}
use Rattle.std.specs.Ordering.{int_eq}
use Rattle.c_text.specs.declared.place.Place.{Place}
use Rattle.c_text.specs.declared.token.Constant.{Constant}
use Rattle.c_text.specs.declared.token.IntType.{IntType}
use Rattle.c_text.specs.declared.token.Spelled.{Spelled}
use Rattle.c_text.specs.Refusal.{Refusal}
use Rattle.c_tree.specs.declared.expression.Callee.TheVariants.{Name, Memset}
use Rattle.c_tree.specs.declared.expression.Expr.{Expr, fold_out-Expr}
use Rattle.c_tree.specs.declared.expression.ExprKind.{ExprKind, fold-ExprKind, out-ExprKind, fold-roll-ExprKind}
use Rattle.c_tree.specs.declared.expression.ExprKind.TheOpen.{ExprKind-F}
use Rattle.c_tree.specs.declared.expression.ExprKind.TheVariants as k
use Rattle.c_tree.specs.declared.item.CType.{CType}
use Rattle.c_tree.specs.declared.item.CType.TheVariants.{Integer, Pointer}
use Rattle.c_tree.specs.declared.item.Field.{Field}
use Rattle.c_tree.specs.declared.item.Target.TheVariants.{Byte, Struct}
use Rattle.c_tree.specs.declared.statement.AssignOp.{AssignOp}
use Rattle.c_tree.specs.declared.statement.Stmt.{Stmt}
use Rattle.c_tree.specs.declared.statement.StmtKind.TheVariants as t
use Rattle.c_tree.specs.declared.statement.SwitchPart.{SwitchPart}
use Rattle.c_tree.specs.declared.statement.SwitchPart.TheVariants as p
use Rattle.cg_out.specs.Words.{look_up}
use Rattle.c_widths.specs.DataModel.{DataModel}
use Rattle.c_widths.specs.Promotion.{promote}
use Rattle.c_widths.specs.ConstantType.{constant_type}
use Rattle.c_operators.proofs.Numbers.{Fits, convert-fits}
use Rattle.c_text.specs.declared.refusal.CKind.TheVariants.{ConstWrite}
use Rattle.c_types.specs.TypeFault.{when}
use Rattle.c_types.specs.Scope.{Declared, Scope, type_named, behind, opened, is_reserved}
use Rattle.c_types.specs.Setting.{Setting, declared_by}
use Rattle.c_types.specs.ExpressionTypes.{anything, a_byte_pointer, promoted, integer_value}
use Rattle.c_types.specs.SwitchLabels.{Labels, no_labels, case_value, value_in, value_kind_step, value_expr_step, Typed}
use Rattle.c_types.specs.StatementTypes.{parts_in_order, writes_const, return_faults, statement, statements, part, parts, gives_value}
use Rattle.c_effect.proofs.Equations.{node, stmt}
use Rattle.c_alike.proofs.TypedNodes.{types-Name, checks-Declare, checks-Assign, checks-CallStatement, checks-Discard, checks-Empty, checks-Block, checks-If, checks-IfElse, checks-Return, checks-Break, checks-Switch, checks-Label, checks-Statement}
use Rattle.c_alike.proofs.TypedExpressions.{IsNumber, AllNumbers, MayCall, found-call, typed-name, typed-element, typed-member}

pub none-both : (a b : List Refusal) → a ≡ [] → b ≡ [] → a ++ b ≡ []
none-both a b h g = rw (h, g) refl

module _ (s : Setting) (returns : CType) where
  no-fault : (scope : Scope) (x : Expr) (type : IntType) → IsNumber s scope x type → integer_value s x scope ≡ []
  no-fault scope x type h = ap (λ f. f.faults) h.wanted

  -- a statement declares these in its block, and has no fault
  pub record IsTyped (scope : Scope) (x : Stmt) (declares : Declared) : Type 0 where
    pub declares_is : (statement s x).declares ≡ declares
    pub no_fault : (statement s x).faults returns scope ≡ []

  -- statements in a row have none
  pub record AreTyped (scope : Scope) (xs : List Stmt) : Type 0 where
    pub no_faults : statements s xs returns scope ≡ []

  pub typed-nil : (scope : Scope) → AreTyped scope []
  typed-nil scope = record { no_faults = refl }

  pub typed-cons : (scope : Scope) (x : Stmt) (declares : Declared) (rest : List Stmt) → IsTyped scope x declares → AreTyped (behind declares scope) rest → AreTyped scope (x ∷ rest)
  typed-cons scope x declares rest h r = record { no_faults = rw (h.no_fault, h.declares_is) (r.no_faults) }

  -- ---- declarations (6.7), whose names are new in their block

  pub typed-declare : (scope : Scope) (p : Place) (kind : Spelled) (name : List ℕ) → look_up name scope.inner ≡ None → is_reserved name ≡ false
      → IsTyped scope (stmt p (t.Declare kind name None)) ((name, Integer kind) ∷ [])
  typed-declare scope p kind name new plain = record {
    declares_is = ap (λ c. c.declares) (checks-Declare s p kind name None);
    no_fault = ap (λ c. c.faults returns scope) (checks-Declare s p kind name None) ∙ rw (new, plain) refl;
  }

  -- with a value, in which the name is known already
  pub typed-declare_value : (scope : Scope) (p : Place) (kind : Spelled) (name : List ℕ) (value : Expr) (type : IntType) → look_up name scope.inner ≡ None → is_reserved name ≡ false
      → IsNumber s (behind ((name, Integer kind) ∷ []) scope) value type → IsTyped scope (stmt p (t.Declare kind name (Some value))) ((name, Integer kind) ∷ [])
  typed-declare_value scope p kind name value type new plain h = record {
    declares_is = ap (λ c. c.declares) (checks-Declare s p kind name (Some value));
    no_fault = ap (λ c. c.faults returns scope) (checks-Declare s p kind name (Some value)) ∙ none-both _ _ (rw (new, plain) refl) (no-fault (behind ((name, Integer kind) ∷ []) scope) value type h);
  }

  -- ---- assignments (6.5.16), plain and compound

  -- into a number that no const pointer leads to
  pub typed-assign : (scope : Scope) (p : Place) (target value : Expr) (op : AssignOp) (a b : IntType) → IsNumber s scope target a → writes_const (out-ExprKind target.kind) scope ≡ false → IsNumber s scope value b
      → IsTyped scope (stmt p (t.Assign target op value)) []
  typed-assign scope p target value op a b h free g = record {
    declares_is = ap (λ c. c.declares) (checks-Assign s p target op value);
    no_fault = ap (λ c. c.faults returns scope) (checks-Assign s p target op value)
        ∙ none-both _ _ (no-fault scope target a h) (none-both _ _ (ap (λ b. when b ConstWrite p) free) (no-fault scope value b g));
  }

  -- into a local
  pub typed-assign_name : (scope : Scope) (p q : Place) (name : List ℕ) (kind : Spelled) (op : AssignOp) (value : Expr) (b : IntType) → type_named name scope ≡ Some (Integer kind) → IsNumber s scope value b
      → IsTyped scope (stmt p (t.Assign (node q (k.Name name)) op value)) []
  typed-assign_name scope p q name kind op value b h g =
      typed-assign scope p (node q (k.Name name)) value op _ b (typed-name s scope q name kind h) (rw (k.outs-Name name) refl) g

  -- into a byte
  pub typed-assign_element : (scope : Scope) (p q : Place) (base : List ℕ) (index : Expr) (type : IntType) (op : AssignOp) (value : Expr) (b : IntType)
      → type_named base scope ≡ Some (Pointer Byte false) → IsNumber s scope index type → IsNumber s scope value b
      → IsTyped scope (stmt p (t.Assign (node q (k.Element base index)) op value)) []
  typed-assign_element scope p q base index type op value b h at g =
      typed-assign scope p (node q (k.Element base index)) value op _ b (typed-element s scope q base index type false h at) (rw (k.outs-Element base index, h) refl) g

  -- into a field
  pub typed-assign_member : (scope : Scope) (p q : Place) (base field tag : List ℕ) (fields : List Field) (kind : Spelled) (op : AssignOp) (value : Expr) (b : IntType)
      → type_named base scope ≡ Some (Pointer (Struct tag) false) → s.fields tag ≡ Some fields → look_up field (declared_by fields) ≡ Some (Integer kind) → IsNumber s scope value b
      → IsTyped scope (stmt p (t.Assign (node q (k.Member base field)) op value)) []
  typed-assign_member scope p q base field tag fields kind op value b h has is g =
      typed-assign scope p (node q (k.Member base field)) value op _ b (typed-member s scope q base field tag false fields kind h has is) (rw (k.outs-Member base field, h) refl) g

  -- ---- calls (6.5.2.2, 7.21.6.1)

  pub typed-call_statement : (scope : Scope) (p : Place) (name : List ℕ) (args : List Expr) (gives : CType) → MayCall s scope name (length args) gives → AllNumbers s scope args
      → IsTyped scope (stmt p (t.Call (Name name) args)) []
  typed-call_statement scope p name args gives may xs = record {
    declares_is = ap (λ c. c.declares) (checks-CallStatement s p (Name name) args);
    no_fault = ap (λ c. c.faults returns scope) (checks-CallStatement s p (Name name) args) ∙ ap (λ f. f.faults) (found-call s scope p name args gives anything may xs);
  }

  -- bytes that are not const
  pub typed-memset : (scope : Scope) (p q : Place) (name : List ℕ) (byte count : Expr) (a b : IntType) → type_named name scope ≡ Some (Pointer Byte false) → IsNumber s scope byte a → IsNumber s scope count b
      → IsTyped scope (stmt p (t.Call Memset (node q (k.Name name) ∷ byte ∷ count ∷ []))) []
  typed-memset scope p q name byte count a b h g n = record {
    declares_is = ap (λ c. c.declares) (checks-CallStatement s p Memset (node q (k.Name name) ∷ byte ∷ count ∷ []));
    no_fault = ap (λ c. c.faults returns scope) (checks-CallStatement s p Memset (node q (k.Name name) ∷ byte ∷ count ∷ []))
        ∙ rw (k.outs-Name name, types-Name s q name a_byte_pointer scope, h, g.wanted, n.wanted) refl;
  }

  -- ---- `(void)name;`, the empty statement and blocks (6.8.2, 6.8.3)

  pub typed-discard : (scope : Scope) (p : Place) (name : List ℕ) (type : CType) → type_named name scope ≡ Some type → IsTyped scope (stmt p (t.Discard name)) []
  typed-discard scope p name type h = record {
    declares_is = ap (λ c. c.declares) (checks-Discard s p name);
    no_fault = ap (λ c. c.faults returns scope) (checks-Discard s p name) ∙ rw h refl;
  }

  pub typed-empty : (scope : Scope) (p : Place) → IsTyped scope (stmt p t.Empty) []
  typed-empty scope p = record {
    declares_is = ap (λ c. c.declares) (checks-Empty s p);
    no_fault = ap (λ c. c.faults returns scope) (checks-Empty s p);
  }

  pub typed-block : (scope : Scope) (p : Place) (list : List Stmt) → AreTyped (opened scope) list → IsTyped scope (stmt p (t.Block list)) []
  typed-block scope p list h = record {
    declares_is = ap (λ c. c.declares) (checks-Block s p list);
    no_fault = ap (λ c. c.faults returns scope) (checks-Block s p list) ∙ h.no_faults;
  }

  -- ---- branches (6.8.4.1), of statements that declare nothing behind them

  pub typed-if : (scope : Scope) (p : Place) (condition : Expr) (taken : Stmt) (type : IntType) → IsNumber s scope condition type → IsTyped scope taken [] → IsTyped scope (stmt p (t.If condition taken None)) []
  typed-if scope p condition taken type h g = record {
    declares_is = ap (λ c. c.declares) (checks-If s p condition taken) ∙ append-nil (statement s taken).declares ∙ g.declares_is;
    no_fault = ap (λ c. c.faults returns scope) (checks-If s p condition taken) ∙ none-both _ _ (no-fault scope condition type h) (none-both _ _ (g.no_fault) refl);
  }

  pub typed-if_else : (scope : Scope) (p : Place) (condition : Expr) (taken other : Stmt) (type : IntType) → IsNumber s scope condition type → IsTyped scope taken [] → IsTyped scope other []
      → IsTyped scope (stmt p (t.If condition taken (Some other))) []
  typed-if_else scope p condition taken other type h g e = record {
    declares_is = ap (λ c. c.declares) (checks-IfElse s p condition taken other) ∙ rw (g.declares_is, e.declares_is) refl;
    no_fault = ap (λ c. c.faults returns scope) (checks-IfElse s p condition taken other)
        ∙ none-both _ _ (no-fault scope condition type h) (none-both _ _ (g.no_fault) (rw (g.declares_is) (e.no_fault)));
  }

  -- ---- jumps (6.8.6)

  pub typed-return : (scope : Scope) (p : Place) → gives_value returns ≡ false → IsTyped scope (stmt p (t.Return None)) []
  typed-return scope p h = record {
    declares_is = ap (λ c. c.declares) (checks-Return s p None);
    no_fault = ap (λ c. c.faults returns scope) (checks-Return s p None) ∙ rw h refl;
  }

  pub typed-return_value : (scope : Scope) (p : Place) (value : Expr) (type : IntType) → gives_value returns ≡ true → IsNumber s scope value type → IsTyped scope (stmt p (t.Return (Some value))) []
  typed-return_value scope p value type h g = record {
    declares_is = ap (λ c. c.declares) (checks-Return s p (Some value));
    no_fault = ap (λ c. c.faults returns scope) (checks-Return s p (Some value)) ∙ ap (λ b. return_faults s (Some value) b p scope) h ∙ no-fault scope value type g;
  }

  pub typed-break : (scope : Scope) (p : Place) → IsTyped scope (stmt p t.Break) []
  typed-break scope p = record {
    declares_is = ap (λ c. c.declares) (checks-Break s p);
    no_fault = ap (λ c. c.faults returns scope) (checks-Break s p);
  }

  -- ---- switches (6.8.4.2)

  -- parts of a switch of this type behind these labels have no fault
  pub record ArePartsTyped (type : IntType) (labels : Labels) (scope : Scope) (list : List SwitchPart) : Type 0 where
    pub no_faults : parts s list (Some type) labels returns scope ≡ []

  pub typed-no_parts : (type : IntType) (labels : Labels) (scope : Scope) → ArePartsTyped type labels scope []
  typed-no_parts type labels scope = record { no_faults = refl }

  -- a case whose number no earlier one has, in the type of the switch
  pub typed-case : (type of_case : IntType) (number : ℤ) (labels : Labels) (scope : Scope) (value : Expr) (q : Place) (rest : List SwitchPart) → IsNumber s scope value of_case
      → value_in s.model (Some type) (case_value s.model value) ≡ Some number → list_any (int_eq number) labels.values ≡ false
      → ArePartsTyped type (record { values = labels.values ++ number ∷ []; has_default = labels.has_default }) scope rest
      → ArePartsTyped type labels scope (p.Label (Some value) q ∷ rest)
  typed-case type of_case number labels scope value q rest h is new r = record { no_faults = rw (checks-Label s (Some value) q) (none-both _ _ (none-both _ _ (rw (is, new) refl) (no-fault scope value of_case h)) (rw is (r.no_faults))) }

  pub typed-default : (type : IntType) (labels : Labels) (scope : Scope) (q : Place) (rest : List SwitchPart) → labels.has_default ≡ false
      → ArePartsTyped type (record { values = labels.values; has_default = true }) scope rest → ArePartsTyped type labels scope (p.Label None q ∷ rest)
  typed-default type labels scope q rest h r = record { no_faults = rw (checks-Label s None q, h) (r.no_faults) }

  pub typed-part : (type : IntType) (labels : Labels) (scope : Scope) (x : Stmt) (declares : Declared) (rest : List SwitchPart) → IsTyped scope x declares → ArePartsTyped type labels (behind declares scope) rest
      → ArePartsTyped type labels scope (p.Statement x ∷ rest)
  typed-part type labels scope x declares rest h r = record { no_faults = rw (checks-Statement s x, h.no_fault, h.declares_is) (r.no_faults) }

  pub typed-switch : (scope : Scope) (p : Place) (value : Expr) (type : IntType) (list : List SwitchPart) → IsNumber s scope value type → ArePartsTyped (promote s.model type) no_labels (opened scope) list
      → IsTyped scope (stmt p (t.Switch value list)) []
  typed-switch scope p value type list h r = record {
    declares_is = ap (λ c. c.declares) (checks-Switch s p value list);
    no_fault = ap (λ c. c.faults returns scope) (checks-Switch s p value list)
        ∙ none-both _ _ (no-fault scope value type h) (ap (λ of_switch. parts_in_order (map (part s) list) of_switch no_labels returns (opened scope)) (ap (λ f. promoted s.model f.type) h.wanted) ∙ r.no_faults);
  }

-- ---- the number of a case that is a constant

abbrev kind_value : DataModel → ExprKind → Option Typed
kind_value m = fold-ExprKind (Option Typed) (Option Typed) (value_kind_step m) value_expr_step

-- in a type that holds it
pub case-number : (m : DataModel) (q : Place) (c : Constant) (own type : IntType) → constant_type m c ≡ Some own → Fits m type c.value
    → value_in m (Some type) (case_value m (node q (k.Constant c))) ≡ Some (pos c.value)
case-number m q c own type h fits =
    let is : case_value m (node q (k.Constant c)) ≡ Some (record { type = own; value = pos c.value }) =
    fold_out-Expr (Option Typed) (Option Typed) (value_kind_step m) value_expr_step (node q (k.Constant c))
    ∙ ap (kind_value m) (sym (k.rolls-Constant c)) ∙ fold-roll-ExprKind (Option Typed) (Option Typed) (value_kind_step m) value_expr_step (ExprKind-F.Constant c) ∙ rw h refl in
    rw (is, convert-fits m type c.value fits) refl
