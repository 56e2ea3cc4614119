-- Calls of helpers are numbers without a fault, in the bodies of a unit that the helpers stand first in.
use Rattle.std.proofs.Common.{◌≡◌, ℕ, Bool, false, List, [], ◌∷◌, ◌++◌, Some, None, refl, ap, subst, ◌∙◌, inl, inr}
use Rattle.std.specs.Prelude.{◌⊎◌, codes, bytes_eq}
use Rattle.c_text.specs.declared.place.Place.{Place}
use Rattle.c_text.specs.declared.token.IntType.{IntType}
use Rattle.c_text.specs.declared.token.Spelled.TheVariants.{Exact}
use Rattle.c_tree.specs.declared.expression.BinaryOp.{BinaryOp}
use Rattle.c_tree.specs.declared.expression.BinaryOp.TheVariants as o
use Rattle.c_tree.specs.declared.expression.Callee.TheVariants.{Name}
use Rattle.c_tree.specs.declared.expression.Expr.{Expr}
use Rattle.c_tree.specs.declared.expression.ExprKind.TheVariants as k
use Rattle.c_tree.specs.declared.item.Function.{Function}
use Rattle.c_tree.specs.declared.item.Item.{Item}
use Rattle.cg_out.specs.Words.{look_up}
use Rattle.c_widths.specs.DataModel.{DataModel}
use Rattle.c_widths.specs.IntegerType.{exact_type}
use Rattle.c_types.specs.Calling.{expression_calls, statements_call}
use Rattle.c_types.specs.Scope.{Scope, type_named}
use Rattle.c_types.specs.Setting.{Setting, setting, functions, callings}
use Rattle.c_effect.proofs.Equations.{node}
use Rattle.c_effect.proofs.Locals.{same-name}
use Rattle.c_alike.proofs.CallsNodes.{calls-Name, calls-Cast, calls-Bracket, calls-Binary, calls-Return}
use Rattle.c_alike.proofs.TypedExpressions.{MayCall, IsNumber, typed-call}
use Rattle.c_alike.proofs.TypedUnits.{functions-both, callings-both}
use Rattle.shift_helpers.specs.declared.helper.HelperKind.{HelperKind}
use Rattle.shift_helpers.specs.declared.helper.HelperKind.TheVariants as h
use Rattle.shift_helpers.specs.HelperResult.{given_width}
use Rattle.shift_helpers.specs.HelperTree.{nowhere, name_of, cast_of, packed, unpacked, returned, helper_name, unsigned, returning, helper}
use Rattle.gen_types.specs.HelperList.{helper_items, Lack, AreDifferent}

-- ---- a helper calls nothing

name-calls : (name : List ℕ) → expression_calls (name_of name) ≡ false
name-calls name = calls-Name nowhere name

cast-calls : (w : ℕ) (op : BinaryOp) (l r : Expr) → expression_calls l ≡ false → expression_calls r ≡ false → expression_calls (cast_of w op l r) ≡ false
cast-calls w op l r hl hr =
    let inner : Expr = node nowhere (k.Binary op l r) in
    calls-Cast nowhere (Exact w false) (node nowhere (k.Bracket inner)) ∙ calls-Bracket nowhere inner ∙ calls-Binary nowhere op l r ∙ rw (hl, hr) refl

packed-calls : (op : BinaryOp) → expression_calls (packed op) ≡ false
unfolding packed
packed-calls op = cast-calls 8 o.BitAnd _ _ (cast-calls 8 op _ _ (name-calls (codes "value")) (name-calls (codes "shift"))) (name-calls (codes "mask"))

unpacked-calls : (w : ℕ) (op : BinaryOp) → expression_calls (unpacked w op) ≡ false
unfolding unpacked
unpacked-calls w op = cast-calls w op _ _ (cast-calls w o.BitAnd _ _ (name-calls (codes "value")) (name-calls (codes "mask"))) (name-calls (codes "shift"))

returned-calls : (kind : HelperKind) (w : ℕ) → expression_calls (returned kind w) ≡ false
unfolding returned
returned-calls h.PackLeft w = packed-calls o.ShiftLeft
returned-calls h.PackRight w = packed-calls o.ShiftRight
returned-calls h.UnpackLeft w = unpacked-calls w o.ShiftLeft
returned-calls h.UnpackRight w = unpacked-calls w o.ShiftRight

pub helper-calls : (kind : HelperKind) (w : ℕ) → statements_call (returning (returned kind w) ∷ []) ≡ false
helper-calls kind w = rw (calls-Return nowhere (Some (returned kind w)), returned-calls kind w) refl

-- ---- a helper among others is found by its name

abbrev pub IsAmong : HelperKind × ℕ → List (HelperKind × ℕ) → Type 0
IsAmong h [] = ⊥
IsAmong h (g ∷ helpers) = (g ≡ h) ⊎ IsAmong h helpers

pub lacks-name : (h : HelperKind × ℕ) (helpers : List (HelperKind × ℕ)) (name : List ℕ) → Lack helpers name → IsAmong h helpers → bytes_eq name (helper_name h.0 h.1) ≡ false
lacks-name h [] name lack among = absurd among
lacks-name h (g ∷ helpers) name lack (inl is) = subst (λ (x : HelperKind × ℕ). bytes_eq name (helper_name x.0 x.1) ≡ false) is lack.0
lacks-name h (g ∷ helpers) name lack (inr among) = lacks-name h helpers name lack.1 among

pub finds-helper : (h : HelperKind × ℕ) (helpers : List (HelperKind × ℕ)) (more : List (List ℕ × Function)) → AreDifferent helpers → IsAmong h helpers
    → look_up (helper_name h.0 h.1) (functions (helper_items helpers) ++ more) ≡ Some (helper h.0 h.1)
finds-helper h [] more different among = absurd among
finds-helper h (g ∷ helpers) more different (inl is) =
    subst (λ (x : HelperKind × ℕ). look_up (helper_name x.0 x.1) (functions (helper_items (g ∷ helpers)) ++ more) ≡ Some (helper x.0 x.1)) is (rw (same-name (helper_name g.0 g.1)) refl)
finds-helper h (g ∷ helpers) more different (inr among) =
    rw (lacks-name h helpers (helper_name g.0 g.1) different.0 among) (finds-helper h helpers more different.1 among)

pub finds-calling : (h : HelperKind × ℕ) (helpers : List (HelperKind × ℕ)) (more : List (List ℕ × Bool)) → AreDifferent helpers → IsAmong h helpers
    → look_up (helper_name h.0 h.1) (callings (helper_items helpers) ++ more) ≡ Some false
finds-calling h [] more different among = absurd among
finds-calling h (g ∷ helpers) more different (inl is) =
    subst (λ (x : HelperKind × ℕ). look_up (helper_name x.0 x.1) (callings (helper_items (g ∷ helpers)) ++ more) ≡ Some false) is (rw (same-name (helper_name g.0 g.1), helper-calls g.0 g.1) refl)
finds-calling h (g ∷ helpers) more different (inr among) =
    rw (lacks-name h helpers (helper_name g.0 g.1) different.0 among) (finds-calling h helpers more different.1 among)

-- ---- calls

module _ (m : DataModel) (helpers : List (HelperKind × ℕ)) (before rest : List Item) (different : AreDifferent helpers) where
  -- behind the helpers and these, in a unit that they stand first in
  abbrev pub there : Setting
  there = setting m (helper_items helpers ++ rest) (helper_items helpers ++ before)

  pub may-call-helper : (scope : Scope) (kind : HelperKind) (w : ℕ) → IsAmong (kind, w) helpers → type_named (helper_name kind w) scope ≡ None
      → MayCall there scope (helper_name kind w) 3 (unsigned (given_width kind w))
  may-call-helper scope kind w among shows = record {
    function = helper kind w;
    shows = shows;
    declared = ap (look_up (helper_name kind w)) (functions-both (helper_items helpers) before) ∙ finds-helper (kind, w) helpers (functions before) different among;
    defined = ap (look_up (helper_name kind w)) (callings-both (helper_items helpers) rest) ∙ finds-calling (kind, w) helpers (callings rest) different among;
    gives = refl;
    takes = refl;
    numbers = refl;
  }

  -- a call of a helper with three numbers
  pub typed-helper_call : (scope : Scope) (p : Place) (kind : HelperKind) (w : ℕ) (value shift mask : Expr) (a b c : IntType) → IsAmong (kind, w) helpers → type_named (helper_name kind w) scope ≡ None
      → IsNumber there scope value a → IsNumber there scope shift b → IsNumber there scope mask c
      → IsNumber there scope (node p (k.Call (Name (helper_name kind w)) (value ∷ shift ∷ mask ∷ []))) (exact_type m (given_width kind w) false)
  typed-helper_call scope p kind w value shift mask a b c among shows hv hs hm =
      typed-call there scope p (helper_name kind w) (value ∷ shift ∷ mask ∷ []) (Exact (given_width kind w) false) (may-call-helper scope kind w among shows) ((a, hv), ((b, hs), ((c, hm), tt)))
