-- Each pack function of a unit packs its message: the unit has what the function's law asks for.
use Rattle.std.proofs.Common.{◌≡◌, ℕ, true, List, ◌++◌, map, Some, sym, ap, ◌∙◌}
use Rattle.std.specs.List.{AllByRecursion, zip}
use Rattle.can_model.specs.declared.database.Message.{Message}
use Rattle.can_model.specs.Validity.{IsOfValidDatabase}
use Rattle.name_rules.specs.declared.table.MessageNames.{MessageNames}
use Rattle.name_rules.specs.Distinct.{are_distinct}
use Rattle.c_tree.specs.declared.item.Function.{Function}
use Rattle.c_tree.specs.declared.item.Item.{Item}
use Rattle.c_tree.specs.declared.item.Item.TheVariants as item
use Rattle.c_tree.specs.declared.item.Unit.{Unit as Whole}
use Rattle.c_tree.specs.BareUnit.{BareItem, bare_item, bare_unit}
use Rattle.cg_out.specs.Words.{look_up}
use Rattle.c_types.specs.Setting.{structs, definitions}
use Rattle.c_effect.proofs.Placeless.{grown_item, placeless_function}
use Rattle.c_effect.proofs.BareGrown.{bare-grown_item, bare-grown_items}
use Rattle.c_effect.proofs.AnywhereCalls.{Twin, found-alike, structs-placeless}
use Rattle.bit_layout.specs.Segments.{segments_of}
use Rattle.shift_helpers.specs.declared.helper.HelperKind.{HelperKind}
use Rattle.shift_helpers.specs.HelperTree.{helper, helper_name}
use Rattle.gen_types.specs.HelperList.{AreDifferent, every_helper}
use Rattle.gen_types.proofs.HelperCalls.{IsAmong}
use Rattle.gen_types.proofs.HelperNames.{every-different, filter-different}
use Rattle.gen_pack.specs.SegmentMove.{width_of, pack_kind}
use Rattle.gen_pack.specs.PackTree.{number, pack_function}
use Rattle.gen_pack.specs.Switches.{HasNoParent}
use Rattle.gen_pack.specs.Named.{IsNamed}
use Rattle.gen_pack.specs.Packs.{HasStruct, HasHelper, HasHelpersOf}
use Rattle.gen_pack.proofs.Anywhere.{packs-in}
use Rattle.gen_pack.proofs.Members.{Among, all-among, all-if}
use Rattle.gen_items.specs.CalledHelpers.{is_called, called_helpers}
use Rattle.gen_items.specs.ItemNames.{IsNoHelper, AreNamed}
use Rattle.gen_items.specs.UnitItems.{helper_items, defined_items, unit_items}
use Rattle.gen_items.specs.UnitPacks.{HasPack, HavePacks}
use Rattle.gen_items.proofs.PackingPairs.{pairs-if, pair-is, first-among, second-among, names-of_pairs}
use Rattle.gen_items.proofs.PackingStructs.{tag_of, finds-fields, finds-tag}
use Rattle.gen_items.proofs.HelpersCalled.{called-widths, segment-called}
use Rattle.gen_items.proofs.PackingFunctions.{defined_by, defines-none, finds-called, passes-helpers, pack_of, placeless_pack, finds-pack}

module _ (messages : List Message) (names : List MessageNames) (named : AreNamed messages names) (u : Whole) (is : bare_unit u ≡ unit_items messages names) where
  abbrev pairs : List (Message × MessageNames)
  pairs = zip messages names

  abbrev functions : List BareItem
  functions = defined_items (number 22) pairs

  abbrev behind : List BareItem
  behind = helper_items (called_helpers messages) ++ functions

  -- ---- its structs

  tags-distinct : are_distinct (map tag_of pairs) ≡ true
  tags-distinct = ap are_distinct (names-of_pairs (λ n. n.tag) IsNamed messages names named.each) ∙ named.tags.distinct

  has-struct : (p : Message × MessageNames) → Among p pairs → HasStruct u.items p.0 p.1
  has-struct p a =
      let placed : map grown_item (bare_unit u) ≡ map grown_item (unit_items messages names) = ap (map grown_item) is in
      let f = finds-fields (look_up p.1.tag (structs u.items)) _ (sym (structs-placeless p.1.tag u.items) ∙ ap (λ (l : List Item). look_up p.1.tag (structs l)) placed ∙ finds-tag pairs behind p a tags-distinct) in
      record { fields = f.given; found = f.there; are = f.are }

  -- ---- its definitions

  -- what the items without places define, the unit defines
  defines : (name : List ℕ) (f : Function) → look_up name (defined_by (unit_items messages names)) ≡ Some f → Twin (look_up name (definitions u.items)) f
  defines name f h = found-alike name (record { items = map grown_item (unit_items messages names) }) u f (bare-grown_items (unit_items messages names) ∙ sym is) h

  behind-structs : (name : List ℕ) → look_up name (defined_by (unit_items messages names)) ≡ look_up name (defined_by behind)
  behind-structs name = ap (look_up name) (defines-none pairs behind)

  has-helper : (kind : HelperKind) (w : ℕ) → IsAmong (kind, w) (called_helpers messages) → HasHelper u.items kind w
  has-helper kind w among =
      let different : AreDifferent (called_helpers messages) = filter-different (is_called messages) every_helper every-different in
      let t = defines (helper_name kind w) (placeless_function (helper kind w)) (behind-structs (helper_name kind w) ∙ finds-called (kind, w) (called_helpers messages) functions different among) in
      record { given = t.twin; found = t.there; same = sym (bare-grown_item (bare_item (item.Function (helper kind w)))) ∙ t.alike }

  has-helpers : (m : Message) → Among m messages → AllByRecursion (HasHelpersOf u.items) m.signals
  has-helpers m a =
      all-if (HasHelpersOf u.items) m.signals (λ s b. all-if (λ g. HasHelper u.items (pack_kind g) (width_of s)) (segments_of s) (λ g c. has-helper (pack_kind g) (width_of s) (segment-called messages m s g a b c)))

  -- ---- its pack functions

  packs-distinct : are_distinct (map pack_of pairs) ≡ true
  packs-distinct = ap are_distinct (names-of_pairs (λ n. n.pack) IsNamed messages names named.each) ∙ named.functions.distinct

  no-helper : (p : Message × MessageNames) → Among p pairs → IsNoHelper p.1.pack
  no-helper p a = all-among (λ n. IsNoHelper (MessageNames.pack n)) p.1 names named.no_helpers (second-among messages names p a)

  has-pack : AllByRecursion IsOfValidDatabase messages → AllByRecursion (λ m. AllByRecursion HasNoParent (Message.signals m)) messages → (p : Message × MessageNames) → Among p pairs → HasPack u p.0 p.1
  has-pack valid flat p a =
      let m : Among p.0 messages = first-among messages names p a in
      let t = defines p.1.pack (placeless_pack (number 22) p) (behind-structs p.1.pack ∙ passes-helpers p.1.pack (called_helpers messages) functions (no-helper p a) (called-widths messages) ∙ finds-pack (number 22) pairs p a packs-distinct) in
      let tree : bare_item (item.Function t.twin) ≡ pack_function (number 22) p.0 p.1 = sym t.alike ∙ bare-grown_item (pack_function (number 22) p.0 p.1) in
      record {
        given = t.twin;
        found = t.there;
        packs = λ int long pointer model.
            packs-in p.0 p.1 (pair-is IsNamed messages names named.each p a) (all-among IsOfValidDatabase p.0 messages valid m) (all-among (λ x. AllByRecursion HasNoParent (Message.signals x)) p.0 messages flat m)
            u t.twin tree int long pointer model (has-struct p a) (has-helpers p.0 m);
      }

pub unit-packs : (messages : List Message) (names : List MessageNames) → AreNamed messages names
    → AllByRecursion IsOfValidDatabase messages → AllByRecursion (λ m. AllByRecursion HasNoParent (Message.signals m)) messages
    → (u : Whole) → bare_unit u ≡ unit_items messages names → HavePacks u messages names
unit-packs messages names named valid flat u is = pairs-if (HasPack u) IsNamed messages names named.each (has-pack messages names named u is valid flat)
