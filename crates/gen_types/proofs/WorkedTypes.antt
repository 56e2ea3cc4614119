-- A worked unit by the steps, under every model of the list: a helper, a struct, and a function that asks the size, clears its buffer, ors what the helper gives of a field, and returns.
use Rattle.std.proofs.Common.{◌≡◌, ℕ, true, false, List, [], ◌∷◌, ◌++◌, Some, None, refl, sym, subst, pos, inl, arith}
use Rattle.std.specs.Prelude.{codes}
use Rattle.c_text.specs.declared.token.IntType.TheVariants as t
use Rattle.c_text.specs.declared.token.Spelled.TheVariants.{Exact, Size, Plain}
use Rattle.c_tree.specs.declared.expression.BinaryOp.TheVariants as o
use Rattle.c_tree.specs.declared.expression.Callee.TheVariants.{Name, Memset}
use Rattle.c_tree.specs.declared.expression.Expr.{Expr}
use Rattle.c_tree.specs.declared.expression.ExprKind.TheVariants as k
use Rattle.c_tree.specs.declared.expression.UnaryOp.TheVariants as u
use Rattle.c_tree.specs.declared.item.CType.{CType}
use Rattle.c_tree.specs.declared.item.CType.TheVariants as c
use Rattle.c_tree.specs.declared.item.Field.{Field}
use Rattle.c_tree.specs.declared.item.Function.{Function}
use Rattle.c_tree.specs.declared.item.Item.{Item}
use Rattle.c_tree.specs.declared.item.Item.TheVariants as item
use Rattle.c_tree.specs.declared.item.Struct.{Struct as Structure}
use Rattle.c_tree.specs.declared.item.Target.TheVariants as target
use Rattle.c_tree.specs.declared.item.Unit.{Unit as Whole}
use Rattle.c_tree.specs.declared.statement.AssignOp.TheVariants as a
use Rattle.c_tree.specs.declared.statement.Stmt.{Stmt}
use Rattle.c_tree.specs.declared.statement.StmtKind.TheVariants as s
use Rattle.c_tree.specs.declared.statement.SwitchPart.TheVariants as p
use Rattle.c_tree.specs.BareUnit.{bare_unit}
use Rattle.c_widths.specs.DataModel.{DataModel}
use Rattle.c_widths.specs.IntegerType.{size_type, exact_type}
use Rattle.c_widths.specs.Promotion.{promote}
use Rattle.c_operators.proofs.Models.{IsOneOf}
use Rattle.c_operators.proofs.Numbers.{fits-Int, promote-UnsignedChar}
use Rattle.c_operators.proofs.Exact.{exact-byte}
use Rattle.c_types.specs.SwitchLabels.{Labels, no_labels}
use Rattle.c_types.specs.Scope.{Scope, opened, type_named}
use Rattle.c_types.specs.Setting.{Setting, setting, declared_by}
use Rattle.c_types.specs.UnitTypes.{unit_faults}
use Rattle.c_effect.proofs.Equations.{node, stmt}
use Rattle.c_alike.proofs.TypedExpressions.{IsNumber, typed-int, typed-unsigned, int-constant, typed-name, typed-member, typed-bracket, typed-unary, typed-binary}
use Rattle.c_alike.proofs.TypedStatements.{IsTyped, AreTyped, typed-nil, typed-cons, typed-if, typed-block, typed-return_value, typed-memset, typed-assign_element, typed-break, typed-part, typed-no_parts, typed-case, typed-default, typed-switch, case-number}
use Rattle.c_alike.proofs.TypedUnits.{AreFieldsTyped, typed-no_fields, typed-field, typed-struct, typed-first_head, typed-definition, AreItemsTyped, typed-no_items, typed-item}
use Rattle.c_alike.proofs.UnplacedUnits.{types-alike}
use Rattle.shift_helpers.specs.declared.helper.HelperKind.{HelperKind}
use Rattle.shift_helpers.specs.declared.helper.HelperKind.TheVariants as h
use Rattle.shift_helpers.specs.HelperTree.{nowhere, helper_name, name_of}
use Rattle.gen_types.specs.HelperList.{helper_items}
use Rattle.gen_types.proofs.HelperTypes.{helpers-first}
use Rattle.gen_types.proofs.HelperCalls.{typed-helper_call}

abbrev number : ℕ → Expr
number n = node nowhere (k.Constant (record { value = n; base = 10; unsigned = false; longs = 0 }))

abbrev unsigned : ℕ → Expr
unsigned n = node nowhere (k.Constant (record { value = n; base = 10; unsigned = true; longs = 0 }))

abbrev of_type : CType → List ℕ → Field
of_type kind n = record { kind = kind; name = n; place = nowhere }

-- struct s { uint8_t a; };
abbrev fields : List Field
fields = of_type (c.Integer (Exact 8 false)) (codes "a") ∷ []

abbrev struct_s : Structure
struct_s = record { tag = codes "s"; fields = fields; place = nowhere }

-- if (size < 1u) { return (-22); }
abbrev refused : Stmt
refused = stmt nowhere (s.Return (Some (node nowhere (k.Bracket (node nowhere (k.Unary u.Minus (number 22)))))))

abbrev ask_size : Stmt
ask_size = stmt nowhere (s.If (node nowhere (k.Binary o.Less (name_of (codes "size")) (unsigned 1))) (stmt nowhere (s.Block (refused ∷ []))) None)

-- memset(to, 0, 1);
abbrev clear : Stmt
clear = stmt nowhere (s.Call Memset (name_of (codes "to") ∷ number 0 ∷ number 1 ∷ []))

-- to[0] |= pack_left_shift_u8(from->a, 0u, 255u);
abbrev part_of_a : Expr
part_of_a = node nowhere (k.Call (Name (helper_name h.PackLeft 8)) (node nowhere (k.Member (codes "from") (codes "a")) ∷ unsigned 0 ∷ unsigned 255 ∷ []))

abbrev or_part : Stmt
or_part = stmt nowhere (s.Assign (node nowhere (k.Element (codes "to") (number 0))) a.BitOr part_of_a)

-- return 1;
abbrev answer : Stmt
answer = stmt nowhere (s.Return (Some (number 1)))

abbrev list : List Stmt
list = ask_size ∷ clear ∷ or_part ∷ answer ∷ []

abbrev params : List Field
params = of_type (c.Pointer target.Byte false) (codes "to") ∷ of_type (c.Pointer (target.Struct (codes "s")) true) (codes "from") ∷ of_type (c.Integer Size) (codes "size") ∷ []

-- switch (which) { case 0: case 1: return 1; default: break; }
abbrev choice : Stmt
choice = stmt nowhere (s.Switch (name_of (codes "which")) (p.Label (Some (number 0)) nowhere ∷ p.Label (Some (number 1)) nowhere ∷ p.Statement answer ∷ p.Label None nowhere ∷ p.Statement (stmt nowhere s.Break) ∷ []))

-- int pack(uint8_t *to, const struct s *from, size_t size)
abbrev pack : Function
pack = record { fixed = false; returns = c.Integer (Plain t.Int); name = codes "pack"; params = params; body = Some list; place = nowhere; close = nowhere }

abbrev helpers : List (HelperKind × ℕ)
helpers = (h.PackLeft, 8) ∷ []

abbrev rest : List Item
rest = item.Struct struct_s ∷ item.Function pack ∷ []

abbrev items : List Item
items = helper_items helpers ++ rest

module _ (m : DataModel) (one : IsOneOf m) where
  abbrev first : Setting
  first = setting m items (helper_items helpers)

  abbrev second : Setting
  second = setting m items (helper_items helpers ++ item.Struct struct_s ∷ [])

  -- behind the function's head
  abbrev within : Setting
  within = setting m items (helper_items helpers ++ rest)

  abbrev inside : Scope
  inside = record { outer = []; inner = declared_by params }

  abbrev int : CType
  int = c.Integer (Plain t.Int)

  minus_22 : (scope : Scope) → IsNumber within scope (node nowhere (k.Bracket (node nowhere (k.Unary u.Minus (number 22))))) (promote m t.Int)
  minus_22 scope = typed-bracket within scope nowhere _ _ (typed-unary within scope nowhere u.Minus (number 22) t.Int _ (typed-int within scope one nowhere 22 (omega arith)) refl)

  asked : IsTyped within int inside ask_size []
  asked =
      let condition = typed-binary within inside nowhere o.Less _ _ (size_type m) t.UnsignedInt t.Int (typed-name within inside nowhere (codes "size") Size refl) (typed-unsigned within inside one nowhere 1 10 (omega arith)) refl in
      let block = typed-cons within int (opened inside) refused [] [] (typed-return_value within int (opened inside) nowhere _ _ refl (minus_22 (opened inside))) (typed-nil within int (opened inside)) in
      typed-if within int inside nowhere _ _ t.Int condition (typed-block within int inside nowhere (refused ∷ []) block)

  cleared : IsTyped within int inside clear []
  cleared = typed-memset within int inside nowhere nowhere (codes "to") (number 0) (number 1) t.Int t.Int refl (typed-int within inside one nowhere 0 (omega arith)) (typed-int within inside one nowhere 1 (omega arith))

  field-is : IsNumber within inside (node nowhere (k.Member (codes "from") (codes "a"))) (exact_type m 8 false)
  field-is = typed-member within inside nowhere (codes "from") (codes "a") (codes "s") true fields (Exact 8 false) refl refl refl

  ored : IsTyped within int inside or_part []
  unfolding helper_name
  ored =
      let part = typed-helper_call m helpers rest rest (tt, tt) inside nowhere h.PackLeft 8 _ _ _ _ _ _ (inl refl) refl field-is (typed-unsigned within inside one nowhere 0 10 (omega arith)) (typed-unsigned within inside one nowhere 255 10 (omega arith)) in
      typed-assign_element within int inside nowhere nowhere (codes "to") (number 0) t.Int a.BitOr part_of_a _ refl (typed-int within inside one nowhere 0 (omega arith)) part

  body : AreTyped within int inside list
  body =
      typed-cons within int inside ask_size [] _ asked (typed-cons within int inside clear [] _ cleared (typed-cons within int inside or_part [] _ ored
      (typed-cons within int inside answer [] _ (typed-return_value within int inside nowhere (number 1) t.Int refl (typed-int within inside one nowhere 1 (omega arith))) (typed-nil within int inside))))

  params-are : AreFieldsTyped second [] params
  params-are =
      typed-field second [] _ _ refl refl refl (typed-field second _ _ _ refl refl refl (typed-field second _ _ [] refl refl refl (typed-no_fields second _)))

  behind : AreItemsTyped m items (helper_items helpers) rest
  unfolding helper_name
  behind =
      typed-item m items (helper_items helpers) (item.Struct struct_s) _ (typed-struct first struct_s refl refl (typed-field first [] _ [] refl refl refl (typed-no_fields first _)))
      (typed-item m items (helper_items helpers ++ item.Struct struct_s ∷ []) (item.Function pack) [] (typed-definition second within pack list refl (typed-first_head second pack refl refl params-are) body)
      (typed-no_items m items _))

  whole : unit_faults m (record { items = items }) ≡ []
  whole = helpers-first m helpers rest (tt, tt) behind

  -- and so is each unit that differs in its places alone
  wherever : (v : Whole) → bare_unit (record { items = items }) ≡ bare_unit v → unit_faults m v ≡ []
  wherever v e = types-alike m (record { items = items }) v e whole

  -- switch (which) { case 0: case 1: return 1; default: break; }
  chosen : (known : Setting) (scope : Scope) → known.model ≡ m → type_named (codes "which") scope ≡ Some (c.Integer (Exact 8 false)) → IsTyped known int scope choice []
  chosen known scope is named =
      let of_model : IsOneOf known.model = subst IsOneOf (sym is) one in
      let promoted : promote known.model (exact_type known.model 8 false) ≡ t.Int = rw (exact-byte known.model of_model, promote-UnsignedChar known.model of_model) refl in
      let inner = opened scope in
      let both : Labels = record { values = pos 0 ∷ pos 1 ∷ []; has_default = false } in
      let stops = typed-part known int t.Int (record { values = pos 0 ∷ pos 1 ∷ []; has_default = true }) inner (stmt nowhere s.Break) [] [] (typed-break known int inner nowhere) (typed-no_parts known int t.Int _ inner) in
      let others = typed-default known int t.Int both inner nowhere _ refl stops in
      let answers = typed-part known int t.Int both inner answer [] _ (typed-return_value known int inner nowhere (number 1) t.Int refl (typed-int known inner of_model nowhere 1 (omega arith))) others in
      let of_1 = typed-case known int t.Int t.Int (pos 1) (record { values = pos 0 ∷ []; has_default = false }) inner (number 1) nowhere _ (typed-int known inner of_model nowhere 1 (omega arith))
      (case-number known.model nowhere _ t.Int t.Int (int-constant known.model of_model 1 (omega arith)) (fits-Int known.model of_model 1 31 (omega arith) (omega arith))) refl answers in
      let of_0 = typed-case known int t.Int t.Int (pos 0) no_labels inner (number 0) nowhere _ (typed-int known inner of_model nowhere 0 (omega arith))
      (case-number known.model nowhere _ t.Int t.Int (int-constant known.model of_model 0 (omega arith)) (fits-Int known.model of_model 0 31 (omega arith) (omega arith))) refl of_1 in
      typed-switch known int scope nowhere (name_of (codes "which")) (exact_type known.model 8 false) _ (typed-name known scope nowhere (codes "which") (Exact 8 false) named) (rw promoted of_0)
