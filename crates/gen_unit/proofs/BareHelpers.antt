-- The helpers as trees without places, and that they may be printed.
use Rattle.std.proofs.Common.{◌≡◌, ℕ, false, List, Some, refl, ap, ◌∙◌, arith}
use Rattle.std.specs.Prelude.{codes}
use Rattle.name_rules.specs.Reserved.{keywords, given_names, sized_types}
use Rattle.c_text.specs.declared.token.Spelled.TheVariants.{Exact}
use Rattle.c_tree.specs.declared.expression.BinaryOp.{BinaryOp}
use Rattle.c_tree.specs.declared.expression.BinaryOp.TheVariants as o
use Rattle.c_tree.specs.BareExpression.{Tree, name, cast, binary, bracket, bare_expression}
use Rattle.c_tree.specs.BareStatement.{Actions, return, no_more, then}
use Rattle.c_tree.specs.BareUnit.{BareItem, bare_head, bare_item, function}
use Rattle.c_effect.proofs.BareNodes.{bare-Name, bare-Cast, bare-Binary, bare-Bracket, bare-Return}
use Rattle.c_printed.specs.Expanded.{expanded, expanded_item}
use Rattle.c_printed.specs.Printable.{IsWidth, w8}
use Rattle.c_printed.specs.PrintableItem.{IsHead, FitsBody}
use Rattle.c_printed.specs.Settled.{Settles, SettlesItem}
use Rattle.c_printed.specs.State.{State, becomes, meaning}
use Rattle.c_printed.specs.Within.{ItemWithin}
use Rattle.shift_helpers.specs.declared.helper.HelperKind.{HelperKind}
use Rattle.shift_helpers.specs.declared.helper.HelperKind.TheVariants as h
use Rattle.shift_helpers.specs.HelperResult.{taken_width, given_width}
use Rattle.shift_helpers.specs.HelperTree.{nowhere, packed, unpacked, returned, helper_name, helper}
use Rattle.gen_types.specs.HelperList.{helper_item}
use Rattle.gen_printed.proofs.Settling.{alone}
use Rattle.gen_unit.proofs.OwnNames.{IsOwn, is-own, name-stands, exact-stands}
use Rattle.gen_unit.proofs.HelperNames.{helper-own}
use Rattle.gen_unit.proofs.SourceKnown.{KnowsSource, means-none, knows-headers, stands-alone}

-- ---- the trees

abbrev bare_cast : ℕ → BinaryOp → Tree → Tree → Tree
bare_cast w op l r = cast (Exact w false) (bracket (binary op l r))

abbrev value : Tree
value = name (codes "value")

abbrev shift : Tree
shift = name (codes "shift")

abbrev mask : Tree
mask = name (codes "mask")

abbrev bare_packed : BinaryOp → Tree
bare_packed op = bare_cast 8 o.BitAnd (bare_cast 8 op value shift) mask

abbrev bare_unpacked : ℕ → BinaryOp → Tree
bare_unpacked w op = bare_cast w op (bare_cast w o.BitAnd value mask) shift

abbrev bare_returned : HelperKind → ℕ → Tree
bare_returned h.PackLeft w = bare_packed o.ShiftLeft
bare_returned h.PackRight w = bare_packed o.ShiftRight
bare_returned h.UnpackLeft w = bare_unpacked w o.ShiftLeft
bare_returned h.UnpackRight w = bare_unpacked w o.ShiftRight

abbrev bare_body : HelperKind → ℕ → Actions
bare_body kind w = then (return (Some (bare_returned kind w))) no_more

abbrev pub bare_helper : HelperKind → ℕ → BareItem
bare_helper kind w = function (bare_head (helper kind w)) (Some (bare_body kind w))

packed-is : (op : BinaryOp) → bare_expression (packed op) ≡ bare_packed op
unfolding packed
packed-is op = simp (bare-Name, bare-Cast, bare-Binary, bare-Bracket) refl

unpacked-is : (w : ℕ) (op : BinaryOp) → bare_expression (unpacked w op) ≡ bare_unpacked w op
unfolding unpacked
unpacked-is w op = simp (bare-Name, bare-Cast, bare-Binary, bare-Bracket) refl

returned-is : (kind : HelperKind) (w : ℕ) → bare_expression (returned kind w) ≡ bare_returned kind w
unfolding returned
returned-is h.PackLeft w = packed-is o.ShiftLeft
returned-is h.PackRight w = packed-is o.ShiftRight
returned-is h.UnpackLeft w = unpacked-is w o.ShiftLeft
returned-is h.UnpackRight w = unpacked-is w o.ShiftRight

pub helper-is : (kind : HelperKind) (w : ℕ) → bare_item (helper_item (kind, w)) ≡ bare_helper kind w
helper-is kind w =
    ap (λ a. function (bare_head (helper kind w)) (Some (then a no_more))) (bare-Return nowhere (Some (returned kind w)) ∙ ap (λ t. return (Some t)) (returned-is kind w))

-- ---- their names

value-own : IsOwn (codes "value")
unfolding keywords given_names sized_types
value-own = is-own (codes "value") refl refl refl

shift-own : IsOwn (codes "shift")
unfolding keywords given_names sized_types
shift-own = is-own (codes "shift") refl refl refl

mask-own : IsOwn (codes "mask")
unfolding keywords given_names sized_types
mask-own = is-own (codes "mask") refl refl refl

-- ---- they fit

given-printed : (kind : HelperKind) (w : ℕ) → IsWidth w → IsWidth (given_width kind w)
given-printed h.PackLeft w iw = w8
given-printed h.PackRight w iw = w8
given-printed h.UnpackLeft w iw = iw
given-printed h.UnpackRight w iw = iw

taken-printed : (kind : HelperKind) (w : ℕ) → IsWidth w → IsWidth (taken_width kind w)
taken-printed h.PackLeft w iw = iw
taken-printed h.PackRight w iw = iw
taken-printed h.UnpackLeft w iw = w8
taken-printed h.UnpackRight w iw = w8

pub helper-head : (kind : HelperKind) (w : ℕ) → IsWidth w → IsHead (bare_head (helper kind w))
helper-head kind w iw = record {
  returns = given-printed kind w iw;
  name = (helper-own kind w iw).free;
  params = ((taken-printed kind w iw, value-own.free), ((w8, shift-own.free), ((w8, mask-own.free), tt)));
}

pub helper-fits : (kind : HelperKind) (w : ℕ) → IsWidth w → FitsBody (Some (bare_body kind w))
helper-fits h.PackLeft w iw = ((w8, (omega arith, (w8, (omega arith, value-own.free, shift-own.free)), mask-own.free)), tt)
helper-fits h.PackRight w iw = ((w8, (omega arith, (w8, (omega arith, value-own.free, shift-own.free)), mask-own.free)), tt)
helper-fits h.UnpackLeft w iw = ((iw, (omega arith, (iw, (omega arith, value-own.free, mask-own.free)), shift-own.free)), tt)
helper-fits h.UnpackRight w iw = ((iw, (omega arith, (iw, (omega arith, value-own.free, mask-own.free)), shift-own.free)), tt)

pub helper-within : (kind : HelperKind) (w : ℕ) → ItemWithin (bare_helper kind w)
helper-within h.PackLeft w = (((tt, tt), tt), tt)
helper-within h.PackRight w = (((tt, tt), tt), tt)
helper-within h.UnpackLeft w = (((tt, tt), tt), tt)
helper-within h.UnpackRight w = (((tt, tt), tt), tt)

-- ---- and stay as they are

module _ (s : State) (k : KnowsSource s) where
  settles : (x : List ℕ) → IsOwn x → Settles (becomes s) (meaning s) (name x)
  settles x own = alone (becomes s) (meaning s) (knows-headers s k) x (stands-alone s k x own)

  cast-settles : (w : ℕ) (op : BinaryOp) (l r : Tree) → IsWidth w → Settles (becomes s) (meaning s) l → Settles (becomes s) (meaning s) r → Settles (becomes s) (meaning s) (bare_cast w op l r)
  cast-settles w op l r iw hl hr = (exact-stands s k.knows w false iw, (hl, hr))

  packed-settles : (op : BinaryOp) → Settles (becomes s) (meaning s) (bare_packed op)
  packed-settles op = cast-settles 8 o.BitAnd (bare_cast 8 op value shift) mask w8 (cast-settles 8 op value shift w8 (settles _ value-own) (settles _ shift-own)) (settles _ mask-own)

  unpacked-settles : (w : ℕ) (op : BinaryOp) → IsWidth w → Settles (becomes s) (meaning s) (bare_unpacked w op)
  unpacked-settles w op iw = cast-settles w op (bare_cast w o.BitAnd value mask) shift iw (cast-settles w o.BitAnd value mask iw (settles _ value-own) (settles _ mask-own)) (settles _ shift-own)

  returned-settles : (kind : HelperKind) (w : ℕ) → IsWidth w → Settles (becomes s) (meaning s) (bare_returned kind w)
  returned-settles h.PackLeft w iw = packed-settles o.ShiftLeft
  returned-settles h.PackRight w iw = packed-settles o.ShiftRight
  returned-settles h.UnpackLeft w iw = unpacked-settles w o.ShiftLeft iw
  returned-settles h.UnpackRight w iw = unpacked-settles w o.ShiftRight iw

  pub helper-settles : (kind : HelperKind) (w : ℕ) → IsWidth w → SettlesItem (becomes s) (meaning s) (bare_helper kind w)
  helper-settles kind w iw = (
    (
      exact-stands s k.knows (given_width kind w) false (given-printed kind w iw),
      name-stands s k.knows (helper_name kind w) (helper-own kind w iw),
      (
        (exact-stands s k.knows (taken_width kind w) false (taken-printed kind w iw), name-stands s k.knows _ value-own),
        ((exact-stands s k.knows 8 false w8, name-stands s k.knows _ shift-own), ((exact-stands s k.knows 8 false w8, name-stands s k.knows _ mask-own), tt)),
      ),
    ),
    (returned-settles kind w iw, tt),
  )

  returned-stays : (kind : HelperKind) (w : ℕ) → expanded (meaning s) (bare_returned kind w) ≡ bare_returned kind w
  returned-stays h.PackLeft w = rw (means-none s k _ value-own, means-none s k _ shift-own, means-none s k _ mask-own) refl
  returned-stays h.PackRight w = rw (means-none s k _ value-own, means-none s k _ shift-own, means-none s k _ mask-own) refl
  returned-stays h.UnpackLeft w = rw (means-none s k _ value-own, means-none s k _ shift-own, means-none s k _ mask-own) refl
  returned-stays h.UnpackRight w = rw (means-none s k _ value-own, means-none s k _ shift-own, means-none s k _ mask-own) refl

  pub helper-stays : (kind : HelperKind) (w : ℕ) → expanded_item (meaning s) (bare_helper kind w) ≡ bare_helper kind w
  helper-stays kind w = ap (λ t. function (bare_head (helper kind w)) (Some (then (return (Some t)) no_more))) (returned-stays kind w)
