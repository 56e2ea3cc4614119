-- Helpers have no fault of types, whatever the data model, in any unit where their names are new.
use Rattle.std.proofs.Common.{◌≡◌, ℕ, false, List, [], ◌∷◌, ◌++◌, Some, None, refl, ap, ◌∙◌}
use Rattle.std.specs.Prelude.{⊤, codes}
use Rattle.c_text.specs.declared.token.IntType.{IntType}
use Rattle.c_text.specs.declared.token.Spelled.TheVariants.{Exact}
use Rattle.c_tree.specs.declared.expression.BinaryOp.{BinaryOp}
use Rattle.c_tree.specs.declared.expression.BinaryOp.TheVariants as o
use Rattle.c_tree.specs.declared.expression.Expr.{Expr}
use Rattle.c_tree.specs.declared.item.Item.{Item}
use Rattle.c_tree.specs.declared.item.Item.TheVariants as item
use Rattle.cg_out.specs.Words.{look_up}
use Rattle.name_table.proofs.Adding.{look_up-append}
use Rattle.c_widths.specs.DataModel.{DataModel}
use Rattle.c_widths.specs.IntegerType.{exact_type}
use Rattle.c_widths.specs.Promotion.{promote}
use Rattle.c_widths.specs.CommonType.{common_promoted}
use Rattle.c_types.specs.Scope.{Scope, is_reserved}
use Rattle.c_types.specs.Setting.{Setting, setting, declared_by, functions}
use Rattle.c_types.specs.ExpressionTypes.{binary_type}
use Rattle.c_types.specs.UnitTypes.{head_faults, item_faults, unit_faults}
use Rattle.c_alike.proofs.TypedExpressions.{IsNumber, typed-name, typed-bracket, typed-cast, typed-binary}
use Rattle.c_alike.proofs.TypedStatements.{typed-nil, typed-cons, typed-return_value}
use Rattle.c_alike.proofs.TypedUnits.{functions-both, AreFieldsTyped, typed-no_fields, typed-field, typed-first_head, typed-definition, AreItemsTyped, typed-no_items, typed-item, typed-items_both, typed-unit}
use Rattle.shift_helpers.specs.declared.helper.HelperKind.{HelperKind}
use Rattle.shift_helpers.specs.declared.helper.HelperKind.TheVariants as h
use Rattle.shift_helpers.specs.HelperResult.{taken_width, given_width}
use Rattle.shift_helpers.specs.HelperTree.{nowhere, name_of, cast_of, packed, unpacked, returned, helper_name, unsigned, parameter, returning, helper}
use Rattle.gen_types.specs.HelperList.{helper_item, helper_items, Lack, AreDifferent}

-- ---- one helper

plain-name : (kind : HelperKind) (w : ℕ) → is_reserved (helper_name kind w) ≡ false
unfolding helper_name
plain-name h.PackLeft w = refl
plain-name h.PackRight w = refl
plain-name h.UnpackLeft w = refl
plain-name h.UnpackRight w = refl

module _ (s : Setting) (w : ℕ) where
  abbrev inside : Scope
  inside = record { outer = []; inner = declared_by (parameter w (codes "value") ∷ parameter 8 (codes "shift") ∷ parameter 8 (codes "mask") ∷ []) }

  value-is : IsNumber s inside (name_of (codes "value")) (exact_type s.model w false)
  value-is = typed-name s inside nowhere (codes "value") (Exact w false) refl

  shift-is : IsNumber s inside (name_of (codes "shift")) (exact_type s.model 8 false)
  shift-is = typed-name s inside nowhere (codes "shift") (Exact 8 false) refl

  mask-is : IsNumber s inside (name_of (codes "mask")) (exact_type s.model 8 false)
  mask-is = typed-name s inside nowhere (codes "mask") (Exact 8 false) refl

  casts : (to : ℕ) (op : BinaryOp) (l r : Expr) (a b given : IntType) → IsNumber s inside l a → IsNumber s inside r b → binary_type s.model op (Some a) (Some b) ≡ Some given
      → IsNumber s inside (cast_of to op l r) (exact_type s.model to false)
  casts to op l r a b given hl hr is = typed-cast s inside nowhere (Exact to false) _ given (typed-bracket s inside nowhere _ given (typed-binary s inside nowhere op l r a b given hl hr is))

  packs : (op : BinaryOp) (given : IntType) → binary_type s.model op (Some (exact_type s.model w false)) (Some (exact_type s.model 8 false)) ≡ Some given → IsNumber s inside (packed op) (exact_type s.model 8 false)
  unfolding packed
  packs op given is =
      let byte = exact_type s.model 8 false in
      casts 8 o.BitAnd _ _ byte byte (common_promoted s.model byte byte) (casts 8 op _ _ (exact_type s.model w false) byte given value-is shift-is is) mask-is refl

  unpacks : (to : ℕ) (op : BinaryOp) (given : IntType) → binary_type s.model op (Some (exact_type s.model to false)) (Some (exact_type s.model 8 false)) ≡ Some given → IsNumber s inside (unpacked to op) (exact_type s.model to false)
  unfolding unpacked
  unpacks to op given is =
      let byte = exact_type s.model 8 false in
      let taken = exact_type s.model w false in
      let kept = exact_type s.model to false in
      casts to op _ _ kept byte given (casts to o.BitAnd _ _ taken byte (common_promoted s.model taken byte) value-is mask-is refl) shift-is is

returned-is : (s : Setting) (kind : HelperKind) (w : ℕ) → IsNumber s (inside s (taken_width kind w)) (returned kind w) (exact_type s.model (given_width kind w) false)
unfolding returned
returned-is s h.PackLeft w = packs s w o.ShiftLeft (promote s.model (exact_type s.model w false)) refl
returned-is s h.PackRight w = packs s w o.ShiftRight (promote s.model (exact_type s.model w false)) refl
returned-is s h.UnpackLeft w = unpacks s 8 w o.ShiftLeft (promote s.model (exact_type s.model w false)) refl
returned-is s h.UnpackRight w = unpacks s 8 w o.ShiftRight (promote s.model (exact_type s.model w false)) refl

head-is : (s : Setting) (kind : HelperKind) (w : ℕ) → s.function (helper_name kind w) ≡ None → head_faults s (helper kind w) ≡ []
head-is s kind w new =
    let third = typed-field s _ (parameter 8 (codes "mask")) [] refl refl refl (typed-no_fields s _) in
    let second = typed-field s _ (parameter 8 (codes "shift")) _ refl refl refl third in
    let fields : AreFieldsTyped s [] (helper kind w).params = typed-field s [] (parameter (taken_width kind w) (codes "value")) _ refl refl refl second in
    typed-first_head s (helper kind w) new (plain-name kind w) fields

-- a helper whose name is new
pub helper-typed : (s after : Setting) (kind : HelperKind) (w : ℕ) → s.function (helper_name kind w) ≡ None → item_faults s after (item.Function (helper kind w)) ≡ []
helper-typed s after kind w new =
    typed-definition s after (helper kind w) (returning (returned kind w) ∷ []) refl (head-is s kind w new)
    (typed-cons after (unsigned (given_width kind w)) (inside after (taken_width kind w)) (returning (returned kind w)) [] []
    (typed-return_value after (unsigned (given_width kind w)) (inside after (taken_width kind w)) nowhere (returned kind w) (exact_type after.model (given_width kind w) false) refl (returned-is after kind w))
    (typed-nil after (unsigned (given_width kind w)) (inside after (taken_width kind w))))

-- ---- several

-- no function before has a name of theirs
abbrev pub AreNew : List Item → List (HelperKind × ℕ) → Type 0
AreNew before [] = ⊤
AreNew before (h ∷ helpers) = (look_up (helper_name h.0 h.1) (functions before) ≡ None) × AreNew before helpers

new-behind : (before : List Item) (g : HelperKind × ℕ) (helpers : List (HelperKind × ℕ)) → Lack helpers (helper_name g.0 g.1) → AreNew before helpers → AreNew (before ++ helper_item g ∷ []) helpers
new-behind before g [] lack new = tt
new-behind before g (h ∷ helpers) lack new =
    let name = helper_name h.0 h.1 in (
      ap (look_up name) (functions-both before (helper_item g ∷ [])) ∙ look_up-append name (functions before) (functions (helper_item g ∷ [])) ∙ rw (new.0, lack.0) refl,
      new-behind before g helpers lack.1 new.1,
    )

-- helpers of different names that are new
pub helpers-typed : (m : DataModel) (items before : List Item) (helpers : List (HelperKind × ℕ)) → AreDifferent helpers → AreNew before helpers → AreItemsTyped m items before (helper_items helpers)
helpers-typed m items before [] different new = typed-no_items m items before
helpers-typed m items before (h ∷ helpers) different new =
    typed-item m items before (helper_item h) (helper_items helpers) (helper-typed (setting m items before) (setting m items (before ++ helper_item h ∷ [])) h.0 h.1 new.0)
    (helpers-typed m items (before ++ helper_item h ∷ []) helpers different.1 (new-behind before h helpers different.0 new.1))

none-before : (helpers : List (HelperKind × ℕ)) → AreNew [] helpers
none-before [] = tt
none-before (h ∷ helpers) = (refl, none-before helpers)

-- helpers stand first, and what is behind them has no fault there
pub helpers-first : (m : DataModel) (helpers : List (HelperKind × ℕ)) (rest : List Item) → AreDifferent helpers → AreItemsTyped m (helper_items helpers ++ rest) (helper_items helpers) rest
    → unit_faults m (record { items = helper_items helpers ++ rest }) ≡ []
helpers-first m helpers rest different h =
    let items = helper_items helpers ++ rest in
    typed-unit m items (typed-items_both m items [] (helper_items helpers) rest (helpers-typed m items [] helpers different (none-before helpers)) h)
