-- What each helper gives: its parameters hold its arguments, converted, and its one statement returns the result. Then as a call in an expression.
use Rattle.std.proofs.Common.{◌≡◌, ℕ, ◌^◌, ◌<◌, false, List, [], ◌∷◌, Some, refl, ◌∙◌, arith, pos, ℤ, inl}
use Rattle.c_text.specs.declared.place.Place.{Place}
use Rattle.c_text.specs.declared.token.IntType.{IntType}
use Rattle.c_text.specs.declared.token.Spelled.TheVariants.{Exact}
use Rattle.c_tree.specs.declared.expression.Callee.TheVariants.{Name}
use Rattle.c_tree.specs.declared.expression.Expr.{Expr}
use Rattle.c_tree.specs.declared.expression.ExprKind.TheVariants as k
use Rattle.c_tree.specs.declared.item.Function.{Function}
use Rattle.c_tree.specs.declared.item.Item.{Item}
use Rattle.c_tree.specs.declared.item.Item.TheVariants as item
use Rattle.c_tree.specs.BareUnit.{bare_item}
use Rattle.c_mem.specs.declared.objects.Object.{Object}
use Rattle.c_widths.specs.DataModel.{DataModel, model_of}
use Rattle.c_widths.specs.IntegerType.{exact_type}
use Rattle.c_widths.specs.Conversion.{convert, wrap}
use Rattle.c_operators.specs.Value.{typed}
use Rattle.c_operators.proofs.Models.{IsOneOf, one_of}
use Rattle.c_operators.proofs.Numbers.{unsigned-fits}
use Rattle.c_operators.proofs.Exact.{width-high, unsigned-at, exact-fits}
use Rattle.cg_out.specs.Words.{look_up}
use Rattle.c_types.specs.Setting.{structs, definitions}
use Rattle.c_effect.specs.declared.state.Arg.{Arg}
use Rattle.c_effect.specs.declared.state.Arg.TheVariants.{Integer}
use Rattle.c_effect.specs.Locals.{Block}
use Rattle.c_effect.specs.World.{no_calls}
use Rattle.c_effect.specs.FunctionCall.{run_in, unit_world}
use Rattle.c_effect.proofs.Equations.{node}
use Rattle.c_effect.proofs.Expressions.{Gives}
use Rattle.c_effect.proofs.Locals.{reads-number}
use Rattle.c_effect.proofs.Anywhere.{SameWorld}
use Rattle.c_effect.proofs.AnywhereCalls.{run-alike, ended-alike}
use Rattle.c_effect.proofs.Calls.{parameters, runs-return, give-nil, give-cons, gives-call-of}
use Rattle.shift_helpers.specs.declared.helper.HelperKind.{HelperKind}
use Rattle.shift_helpers.specs.declared.helper.HelperKind.TheVariants as h
use Rattle.shift_helpers.specs.HelperResult.{IsWidth, result, taken_width, given_width, shift_limit}
use Rattle.shift_helpers.specs.HelperTree.{nowhere, returned, helper_name, helper}
use Rattle.shift_helpers.specs.HelperMeaning.{alone, gave, Helps}
use Rattle.shift_helpers.proofs.Returned.{Held, gives-returned, result-below}

taken-width : (kind : HelperKind) (w : ℕ) → IsWidth w → IsWidth (taken_width kind w)
taken-width h.PackLeft w iw = iw
taken-width h.PackRight w iw = iw
taken-width h.UnpackLeft w iw = inl refl
taken-width h.UnpackRight w iw = inl refl

given-width : (kind : HelperKind) (w : ℕ) → IsWidth w → IsWidth (given_width kind w)
given-width h.PackLeft w iw = inl refl
given-width h.PackRight w iw = inl refl
given-width h.UnpackLeft w iw = iw
given-width h.UnpackRight w iw = iw

shift-small : (kind : HelperKind) (w s : ℕ) → IsWidth w → s < shift_limit kind w → s < 2 ^ 8
shift-small h.PackLeft w s iw hs = omega arith
shift-small h.PackRight w s iw hs = let top = width-high w iw in omega arith
shift-small h.UnpackLeft w s iw hs = let top = width-high w iw in omega arith
shift-small h.UnpackRight w s iw hs = omega arith

-- a first argument may be any number, of which the first parameter takes the low bits
abbrev passed : ℤ → ℕ → ℕ → List Arg
passed z s mask = Integer z ∷ Integer (pos s) ∷ Integer (pos mask) ∷ []

module _ (m : DataModel) (one : IsOneOf m) (items : List Item) where
  holds : (kind : HelperKind) (w : ℕ) → IsWidth w → (z : ℤ) (x s mask : ℕ) → wrap false (taken_width kind w) z ≡ pos x → s < 2 ^ 8 → mask < 2 ^ 8
      → Held m (parameters m (helper kind w) (passed z s mask)) (taken_width kind w) x s mask
  holds kind w iw z x s mask hz hs hm =
      let first : convert m (exact_type m (taken_width kind w) false) z ≡ pos x = (unsigned-at m one (taken_width kind w) (taken-width kind w iw)).converts z ∙ hz in
      let second : convert m (exact_type m 8 false) (pos s) ≡ pos s = exact-fits m one 8 s (inl refl) hs in
      let third : convert m (exact_type m 8 false) (pos mask) ≡ pos mask = exact-fits m one 8 mask (inl refl) hm in
      record { value = reads-number _ _ _ _ (rw first refl); shift = reads-number _ _ _ _ (rw second refl); mask = reads-number _ _ _ _ (rw third refl) }

  runs-helper : (kind : HelperKind) (w : ℕ) → IsWidth w → (z : ℤ) (x s mask : ℕ) → wrap false (taken_width kind w) z ≡ pos x → x < 2 ^ taken_width kind w → s < shift_limit kind w → mask < 2 ^ 8
      → run_in (alone m items) (helper kind w) (passed z s mask) [] ≡ gave m (given_width kind w) (result kind w x s mask)
  runs-helper kind w iw z x s mask hz hx hs hm =
      runs-return (alone m items) (helper kind w) nowhere (returned kind w) (passed z s mask) [] (Exact (given_width kind w) false) (exact_type m (given_width kind w) false)
      (pos (result kind w x s mask)) (pos (result kind w x s mask)) refl refl
      (gives-returned (alone m items) one (parameters m (helper kind w) (passed z s mask)) [] kind w x s mask iw (holds kind w iw z x s mask hz (shift-small kind w s iw hs) hm) hx hs hm)
      (exact-fits m one (given_width kind w) (result kind w x s mask) (given-width kind w iw) (result-below kind w x s mask iw hx))

  -- a function runs alone as itself, wherever its text stands
  same : SameWorld (alone m items) (alone m items)
  same = record { model_is = refl; slots = λ tag name. refl; calls_agree = λ p q name args. refl }

  -- so does a function that is the helper but for places
  runs-alike : (kind : HelperKind) (w : ℕ) → IsWidth w → (f : Function) → bare_item (item.Function (helper kind w)) ≡ bare_item (item.Function f)
      → (z : ℤ) (x s mask : ℕ) → wrap false (taken_width kind w) z ≡ pos x → x < 2 ^ taken_width kind w → s < shift_limit kind w → mask < 2 ^ 8
      → run_in (alone m items) f (passed z s mask) [] ≡ gave m (given_width kind w) (result kind w x s mask)
  runs-alike kind w iw f alike z x s mask hz hx hs hm =
      ended-alike (run_in (alone m items) (helper kind w) (passed z s mask) []) (run_in (alone m items) f (passed z s mask) []) _ []
      (run-alike m (structs items) (structs items) no_calls no_calls same (helper kind w) f alike (passed z s mask) [])
      (runs-helper kind w iw z x s mask hz hx hs hm)

  -- a call of a function of the unit that is a helper but for places; the first argument is converted to the width that the helper takes
  pub calls-helper : (locals : List Block) (objects : List Object) (p : Place) (kind : HelperKind) (w : ℕ) → IsWidth w → (f : Function) (a b c : Expr) (ka kb kc : IntType) (z : ℤ) (x s mask : ℕ)
      → look_up (helper_name kind w) (definitions items) ≡ Some f → bare_item (item.Function (helper kind w)) ≡ bare_item (item.Function f)
      → Gives (unit_world m items) locals objects a ka z → wrap false (taken_width kind w) z ≡ pos x → x < 2 ^ taken_width kind w
      → Gives (unit_world m items) locals objects b kb (pos s) → s < shift_limit kind w
      → Gives (unit_world m items) locals objects c kc (pos mask) → mask < 2 ^ 8
      → Gives (unit_world m items) locals objects (node p (k.Call (Name (helper_name kind w)) (a ∷ b ∷ c ∷ []))) (exact_type m (given_width kind w) false) (pos (result kind w x s mask))
  calls-helper locals objects p kind w iw f a b c ka kb kc z x s mask d alike ha hz hx hb hs hc hm =
      let u = unit_world m items in
      gives-call-of m items locals objects [] p (helper_name kind w) (a ∷ b ∷ c ∷ []) (typed ka z ∷ typed kb (pos s) ∷ typed kc (pos mask) ∷ [])
      f (exact_type m (given_width kind w) false) (pos (result kind w x s mask)) d
      (give-cons u locals objects a (b ∷ c ∷ []) ka z _ ha (give-cons u locals objects b (c ∷ []) kb (pos s) _ hb (give-cons u locals objects c [] kc (pos mask) [] hc (give-nil u locals objects))))
      (runs-alike kind w iw f alike z x s mask hz hx hs hm)

-- a function that is a helper but for places helps
pub alike-helps : (kind : HelperKind) (w : ℕ) → IsWidth w → (f : Function) → bare_item (item.Function (helper kind w)) ≡ bare_item (item.Function f) → Helps kind w f
alike-helps kind w iw f alike = record {
  gives = λ int long pointer is items x s mask hx hs hm.
      runs-alike (model_of int long pointer) (one_of int long pointer is) items kind w iw f alike (pos x) x s mask (unsigned-fits (taken_width kind w) x hx) hx hs hm;
}
