-- The functions of a source may be printed, and leave their items: helpers as they are, pack functions with the error's number.
use Rattle.std.proofs.Common.{◌≡◌, ℕ, List, [], ◌∷◌, ◌++◌, map, Option, inl, inr, refl, sym, ap, subst, ◌∙◌}
use Rattle.std.specs.List.{AllByRecursion, zip}
use Rattle.std.proofs.lemmas.List.{map-append}
use Rattle.can_model.specs.declared.database.Message.{Message}
use Rattle.can_model.specs.Validity.{IsOfValidDatabase}
use Rattle.name_rules.specs.declared.table.MessageNames.{MessageNames}
use Rattle.c_tree.specs.BareExpression.{name}
use Rattle.c_tree.specs.BareUnit.{BareItem, bare_item, struct, function}
use Rattle.c_printed.specs.Expanded.{expanded_item}
use Rattle.c_printed.specs.Printable.{w8, w16, w32, w64}
use Rattle.c_printed.specs.Printable as printed
use Rattle.c_printed.specs.PrintableItem.{IsHead, FitsBody}
use Rattle.c_printed.specs.PrintableUnit.{AllRight, Balanced}
use Rattle.c_printed.specs.Reread as reread
use Rattle.c_printed.specs.Settled.{SettlesItem}
use Rattle.c_printed.specs.State.{Macro, State, becomes, meaning}
use Rattle.c_printed.specs.Within.{ItemWithin}
use Rattle.shift_helpers.specs.declared.helper.HelperKind.{HelperKind}
use Rattle.shift_helpers.specs.HelperResult.{IsWidth}
use Rattle.gen_types.specs.HelperList.{helper_item}
use Rattle.gen_pack.specs.Switches.{HasNoParent}
use Rattle.gen_pack.specs.PackTree.{error_name, number, pack_function}
use Rattle.gen_pack.proofs.Expanding.{error-is-22}
use Rattle.gen_printed.proofs.Settling.{pack-settles}
use Rattle.gen_printed.proofs.Fitting.{pack-fits, head-fits}
use Rattle.gen_printed.proofs.Room.{pack-within}
use Rattle.gen_items.specs.CalledHelpers.{called_helpers}
use Rattle.gen_items.specs.UnitItems.{helper_items, defined_items}
use Rattle.gen_items.proofs.HelpersCalled.{HaveWidths, called-widths}
use Rattle.gen_unit.specs.Source.{separated, source_items}
use Rattle.gen_unit.proofs.BareHelpers.{helper-is, helper-head, helper-fits, helper-within, helper-settles, helper-stays}
use Rattle.gen_unit.proofs.MessageItems.{HasOwnNames}
use Rattle.gen_unit.proofs.SourceKnown.{KnowsSource, knows-headers, knows-names, has-error, free-words, free-names}

all-both : (P : BareItem → Type 0) (xs ys : List BareItem) → AllByRecursion P xs → AllByRecursion P ys → AllByRecursion P (xs ++ ys)
all-both P [] ys h k = k
all-both P (x ∷ xs) ys h k = (h.0, all-both P xs ys h.1 k)

-- ---- functions in a row

-- a function that may be printed where this is known
abbrev pub IsPrintable : State → BareItem → Type 0
IsPrintable s (struct tag fields) = ⊥
IsPrintable s (function head body) = IsHead head × FitsBody body × SettlesItem (becomes s) (meaning s) (function head body)

module _ (beside : Option (List ℕ)) (given : State → Type 0) (behind : State → State) (s : State) where
  pub separated-right : (items : List BareItem) → AllByRecursion (IsPrintable s) items → AllRight beside given behind s (separated items)
  separated-right [] h = tt
  separated-right (struct tag fields ∷ items) h = absurd h.0
  separated-right (function head body ∷ items) h = (tt, (h.0, separated-right items h.1))

module _ (behind : State → State) (s : State) where
  pub separated-items : (beside : State → List BareItem) (items : List BareItem) → AllByRecursion (IsPrintable s) items → reread.items_of behind beside s (separated items) ≡ map (expanded_item (meaning s)) items
  separated-items beside [] h = refl
  separated-items beside (struct tag fields ∷ items) h = absurd h.0
  separated-items beside (function head body ∷ items) h = ap (λ (r : List BareItem). expanded_item (meaning s) (function head body) ∷ r) (separated-items beside items h.1)

  pub separated-macros : (beside : State → List Macro) (items : List BareItem) → AllByRecursion (IsPrintable s) items → reread.macros_of behind beside s (separated items) ≡ []
  separated-macros beside [] h = refl
  separated-macros beside (struct tag fields ∷ items) h = absurd h.0
  separated-macros beside (function head body ∷ items) h = separated-macros beside items h.1

pub separated-balanced : (s : State) (items : List BareItem) → AllByRecursion (IsPrintable s) items → Balanced 0 (separated items)
separated-balanced s [] h = refl
separated-balanced s (struct tag fields ∷ items) h = absurd h.0
separated-balanced s (function head body ∷ items) h = separated-balanced s items h.1

-- ---- of what a source has

-- the widths of helpers, as their text needs them
printed-of : (w : ℕ) → IsWidth w → printed.IsWidth w
printed-of w (inl e) = subst printed.IsWidth (sym e) w8
printed-of w (inr (inl e)) = subst printed.IsWidth (sym e) w16
printed-of w (inr (inr (inl e))) = subst printed.IsWidth (sym e) w32
printed-of w (inr (inr (inr e))) = subst printed.IsWidth (sym e) w64

abbrev AreFlat : List Message → Type 0
AreFlat ms = AllByRecursion (λ m. AllByRecursion HasNoParent (Message.signals m)) ms

module _ (s : State) (k : KnowsSource s) where
  helper-printable : (kind : HelperKind) (w : ℕ) → IsWidth w → IsPrintable s (bare_item (helper_item (kind, w)))
  helper-printable kind w iw =
      let width = printed-of w iw in
      subst (IsPrintable s) (sym (helper-is kind w)) (helper-head kind w width, helper-fits kind w width, helper-settles s k kind w width)

  helpers-printable : (hs : List (HelperKind × ℕ)) → HaveWidths hs → AllByRecursion (IsPrintable s) (helper_items hs)
  helpers-printable [] iw = tt
  helpers-printable (h ∷ hs) iw = (helper-printable h.0 h.1 iw.0, helpers-printable hs iw.1)

  packs-printable : (ms : List Message) (ns : List MessageNames) → AllByRecursion HasOwnNames ns → AllByRecursion IsOfValidDatabase ms → AreFlat ms
      → AllByRecursion (IsPrintable s) (defined_items (name error_name) (zip ms ns))
  packs-printable [] ns own valid flat = tt
  packs-printable (m ∷ ms) [] own valid flat = tt
  packs-printable (m ∷ ms) (n ∷ ns) own valid flat =
      let free = free-names n own.0 in (
        (
          head-fits free-words n free,
          pack-fits free-words m n free valid.0 flat.0,
          pack-settles (becomes s) (meaning s) (knows-headers s k) m n (knows-names s k n own.0) flat.0,
        ),
        packs-printable ms ns own.1 valid.1 flat.1,
      )

  helpers-stay : (hs : List (HelperKind × ℕ)) → map (expanded_item (meaning s)) (helper_items hs) ≡ helper_items hs
  helpers-stay [] = refl
  helpers-stay (h ∷ hs) =
      let here : expanded_item (meaning s) (bare_item (helper_item h)) ≡ bare_item (helper_item h) =
      ap (expanded_item (meaning s)) (helper-is h.0 h.1) ∙ helper-stays s k h.0 h.1 ∙ sym (helper-is h.0 h.1) in
      rw (here, helpers-stay hs) refl

  packs-with_error : (ms : List Message) (ns : List MessageNames) → AllByRecursion HasOwnNames ns → AreFlat ms
      → map (expanded_item (meaning s)) (defined_items (name error_name) (zip ms ns)) ≡ defined_items (number 22) (zip ms ns)
  packs-with_error [] ns own flat = refl
  packs-with_error (m ∷ ms) [] own flat = refl
  packs-with_error (m ∷ ms) (n ∷ ns) own flat =
      let here : expanded_item (meaning s) (pack_function (name error_name) m n) ≡ pack_function (number 22) m n = error-is-22 (meaning s) m n (has-error s k n own.0) flat.0 in
      rw (here, packs-with_error ms ns own.1 flat.1) refl

  -- ---- the functions of a source

  module _ (ms : List Message) (ns : List MessageNames) (own : AllByRecursion HasOwnNames ns) (valid : AllByRecursion IsOfValidDatabase ms) (flat : AreFlat ms) where
    pub source-printable : AllByRecursion (IsPrintable s) (source_items ms ns)
    source-printable = all-both (IsPrintable s) (helper_items (called_helpers ms)) (defined_items (name error_name) (zip ms ns)) (helpers-printable (called_helpers ms) (called-widths ms)) (packs-printable ms ns own valid flat)

    pub source-left : map (expanded_item (meaning s)) (source_items ms ns) ≡ helper_items (called_helpers ms) ++ defined_items (number 22) (zip ms ns)
    source-left =
        map-append (expanded_item (meaning s)) (helper_items (called_helpers ms)) (defined_items (name error_name) (zip ms ns))
        ∙ rw (helpers-stay (called_helpers ms), packs-with_error ms ns own flat) refl

-- ---- few brackets are open in them

helpers-within : (hs : List (HelperKind × ℕ)) → AllByRecursion ItemWithin (helper_items hs)
helpers-within [] = tt
helpers-within (h ∷ hs) = (subst ItemWithin (sym (helper-is h.0 h.1)) (helper-within h.0 h.1), helpers-within hs)

packs-within : (ms : List Message) (ns : List MessageNames) → AreFlat ms → AllByRecursion ItemWithin (defined_items (number 22) (zip ms ns))
packs-within [] ns flat = tt
packs-within (m ∷ ms) [] flat = tt
packs-within (m ∷ ms) (n ∷ ns) flat = (pack-within m n flat.0, packs-within ms ns flat.1)

pub source-within : (ms : List Message) (ns : List MessageNames) → AreFlat ms → AllByRecursion ItemWithin (helper_items (called_helpers ms) ++ defined_items (number 22) (zip ms ns))
source-within ms ns flat = all-both ItemWithin (helper_items (called_helpers ms)) (defined_items (number 22) (zip ms ns)) (helpers-within (called_helpers ms)) (packs-within ms ns flat)
