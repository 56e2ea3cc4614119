-- The helpers of a unit: those that its pack functions call are among them, and grown from their trees they are what they were.
use Rattle.std.proofs.Common.{◌≡◌, ℕ, false, List, [], ◌∷◌, map, Some, refl}
use Rattle.std.specs.Prelude.{codes}
use Rattle.std.specs.List.{AllByRecursion}
use Rattle.can_model.specs.declared.database.Message.{Message}
use Rattle.can_model.specs.declared.database.Signal.{Signal}
use Rattle.c_text.specs.declared.token.Spelled.TheVariants.{Exact}
use Rattle.c_tree.specs.declared.expression.BinaryOp.{BinaryOp}
use Rattle.c_tree.specs.declared.expression.BinaryOp.TheVariants as o
use Rattle.c_tree.specs.declared.expression.Expr.{Expr}
use Rattle.c_tree.specs.declared.expression.ExprKind.TheVariants as k
use Rattle.c_tree.specs.BareUnit.{bare_item}
use Rattle.c_effect.proofs.BareNodes.{bare-Name, bare-Cast, bare-Binary, bare-Bracket, bare-Return}
use Rattle.c_effect.proofs.Equations.{node}
use Rattle.c_effect.proofs.Placeless.{placeless, placeless_stmt, grown_item}
use Rattle.bit_layout.specs.Segments.{segments_of}
use Rattle.shift_helpers.specs.declared.helper.HelperKind.{HelperKind}
use Rattle.shift_helpers.specs.declared.helper.HelperKind.TheVariants as h
use Rattle.shift_helpers.specs.HelperTree.{nowhere, name_of, cast_of, packed, unpacked, returned, returning}
use Rattle.gen_types.specs.HelperList.{helper_item, every_helper}
use Rattle.gen_types.specs.HelperList as list
use Rattle.gen_types.proofs.HelperCalls.{IsAmong}
use Rattle.gen_pack.specs.SegmentMove.{width_of, pack_kind}
use Rattle.gen_pack.proofs.Members.{Among, all-if}
use Rattle.gen_items.specs.CalledHelpers.{called_helpers}
use Rattle.gen_items.proofs.HelpersCalled.{segment-called}
use Rattle.gen_items.specs.UnitItems.{helper_items}

-- ---- grown from their trees

abbrev Stays : Expr → Type 0
Stays e = placeless e ≡ e

name-stays : (n : List ℕ) → Stays (name_of n)
name-stays n = rw (bare-Name nowhere n) refl

cast-stays : (w : ℕ) (op : BinaryOp) (l r : Expr) → Stays l → Stays r → Stays (cast_of w op l r)
cast-stays w op l r hl hr =
    let inner : Expr = node nowhere (k.Binary op l r) in
    rw (bare-Cast nowhere (Exact w false) (node nowhere (k.Bracket inner)), bare-Bracket nowhere inner, bare-Binary nowhere op l r, hl, hr) refl

packed-stays : (op : BinaryOp) → Stays (packed op)
unfolding packed
packed-stays op = cast-stays 8 o.BitAnd _ _ (cast-stays 8 op _ _ (name-stays (codes "value")) (name-stays (codes "shift"))) (name-stays (codes "mask"))

unpacked-stays : (w : ℕ) (op : BinaryOp) → Stays (unpacked w op)
unfolding unpacked
unpacked-stays w op = cast-stays w op _ _ (cast-stays w o.BitAnd _ _ (name-stays (codes "value")) (name-stays (codes "mask"))) (name-stays (codes "shift"))

returned-stays : (kind : HelperKind) (w : ℕ) → Stays (returned kind w)
unfolding returned
returned-stays h.PackLeft w = packed-stays o.ShiftLeft
returned-stays h.PackRight w = packed-stays o.ShiftRight
returned-stays h.UnpackLeft w = unpacked-stays w o.ShiftLeft
returned-stays h.UnpackRight w = unpacked-stays w o.ShiftRight

returning-stays : (kind : HelperKind) (w : ℕ) → placeless_stmt (returning (returned kind w)) ≡ returning (returned kind w)
returning-stays kind w = rw (bare-Return nowhere (Some (returned kind w)), returned-stays kind w) refl

helper-stays : (x : HelperKind × ℕ) → grown_item (bare_item (helper_item x)) ≡ helper_item x
helper-stays x = rw (returning-stays x.0 x.1) refl

pub helpers-stay : (xs : List (HelperKind × ℕ)) → map grown_item (helper_items xs) ≡ list.helper_items xs
helpers-stay [] = refl
helpers-stay (x ∷ xs) = rw (helper-stays x, helpers-stay xs) refl

-- ---- what a message's signals call

-- the helpers of a signal's segments are among these
abbrev pub AreAmongOf : List (HelperKind × ℕ) → Signal → Type 0
AreAmongOf helpers s = AllByRecursion (λ g. IsAmong (pack_kind g, width_of s) helpers) (segments_of s)

pub called-among : (messages : List Message) (m : Message) → Among m messages → AllByRecursion (AreAmongOf (called_helpers messages)) m.signals
called-among messages m of_messages =
    all-if (AreAmongOf (called_helpers messages)) m.signals (λ s of_signals. all-if (λ g. IsAmong (pack_kind g, width_of s) (called_helpers messages)) (segments_of s) (λ g of_segments.
    segment-called messages m s g of_messages of_signals of_segments))
