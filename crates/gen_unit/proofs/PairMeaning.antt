-- The pair is faithful: header and source may be printed, what is printed reads back, and the unit that is read has what is asked of it.
use Rattle.std.proofs.Common.{◌≡◌, ℕ, Bool, List, [], ◌∷◌, ◌++◌, map, Some, refl, sym, ap, subst, append-nil, ◌∙◌}
use Rattle.std.specs.List.{AllByRecursion, zip}
use Rattle.can_model.specs.declared.database.Database.{Database}
use Rattle.can_model.specs.declared.database.Message.{Message}
use Rattle.can_model.specs.Validity.{IsOfValidDatabase}
use Rattle.name_rules.specs.declared.table.SymbolTable.{SymbolTable}
use Rattle.name_rules.specs.declared.table.MessageNames.{MessageNames}
use Rattle.name_rules.specs.IsIdentifier.{IsIdentifier}
use Rattle.name_rules.specs.Symbols.{AllPairs, HasNamesOfMessage, AreSymbols}
use Rattle.name_rules.proofs.TableApart.{symbols-apart}
use Rattle.c_text.specs.StandardHeader.{Header, string_h}
use Rattle.c_tree.specs.BareUnit.{BareField, BareHead, BareItem}
use Rattle.c_printed.specs.State.{State, header_state}
use Rattle.c_printed.specs.Within.{ItemWithin}
use Rattle.c_printed.specs.PrintableUnit.{IsHeaderAt, IsSource}
use Rattle.c_printed.specs.Reread.{header_items, source_items as items_read, header_macros, source_macros, macro_tokens}
use Rattle.c_printed.specs.Law.{ReadAsUnit}
use Rattle.c_recut.proofs.PairLaw.{pair-reads}
use Rattle.shift_helpers.specs.declared.helper.HelperKind.{HelperKind}
use Rattle.gen_pack.specs.StructFields.{struct_fields}
use Rattle.gen_pack.specs.Switches.{HasNoParent}
use Rattle.gen_pack.specs.PackTree.{number, pack_head}
use Rattle.gen_items.specs.CalledHelpers.{called_helpers}
use Rattle.gen_items.specs.UnitItems.{declared_items, helper_items, defined_items, unit_items}
use Rattle.gen_items.specs.ItemNames.{AreNamed}
use Rattle.gen_items.proofs.TypedUnit.{unit-typed}
use Rattle.gen_items.proofs.PackingUnit.{unit-packs}
use Rattle.gen_unit.specs.Comments.{opening_text}
use Rattle.gen_unit.specs.Items.{structs_of, functions_of}
use Rattle.gen_unit.specs.Header.{header_parts, header_text, header_name}
use Rattle.gen_unit.specs.Source.{string_header, source_items, source_parts, source_text}
use Rattle.gen_unit.specs.Macros.{macros_of}
use Rattle.gen_unit.specs.Small.{AreSmall}
use Rattle.gen_unit.specs.Surface.{structs_in, prototypes_in, definitions_in, not_static}
use Rattle.gen_unit.specs.Faithful.{Faithful}
use Rattle.gen_unit.specs.NamedDatabase.{IsNamedDatabase}
use Rattle.gen_unit.proofs.Comments.{shown}
use Rattle.gen_unit.proofs.Letters.{symbols-letters}
use Rattle.gen_unit.proofs.OwnNames.{four-give}
use Rattle.gen_unit.proofs.MessageItems.{HasOwnNames, own-names}
use Rattle.gen_unit.proofs.NewMacros.{knowing}
use Rattle.gen_unit.proofs.Meaning.{HasItsNames, name-beside, macros-are, items-are-within, at-headers, header-may-be-printed}
use Rattle.gen_unit.proofs.SourceKnown.{behind_includes, knows-source}
use Rattle.gen_unit.proofs.SourceItems.{IsPrintable, separated-right, separated-items, separated-macros, separated-balanced, source-printable, source-left, source-within}
use Rattle.gen_unit.proofs.ItemNames.{are-named}

-- ---- the items, by what they are

abbrev Pairs : Type 0
Pairs = List (Message × MessageNames)

structs-declared : (ps : Pairs) (rest : List BareItem) → structs_in (declared_items ps ++ rest) ≡ map (λ p. (p.1.tag, struct_fields p.0 p.1)) ps ++ structs_in rest
structs-declared [] rest = refl
structs-declared (p ∷ ps) rest = ap (λ (r : List (List ℕ × List BareField)). (p.1.tag, struct_fields p.0 p.1) ∷ r) (structs-declared ps rest)

no-structs-helpers : (hs : List (HelperKind × ℕ)) (rest : List BareItem) → structs_in (helper_items hs ++ rest) ≡ structs_in rest
no-structs-helpers [] rest = refl
no-structs-helpers (h ∷ hs) rest = no-structs-helpers hs rest

no-structs-defined : (ps : Pairs) → structs_in (defined_items (number 22) ps) ≡ []
no-structs-defined [] = refl
no-structs-defined (p ∷ ps) = no-structs-defined ps

prototypes-declared : (ps : Pairs) (rest : List BareItem) → prototypes_in (declared_items ps ++ rest) ≡ map (λ p. pack_head p.1) ps ++ prototypes_in rest
prototypes-declared [] rest = refl
prototypes-declared (p ∷ ps) rest = ap (λ (r : List BareHead). pack_head p.1 ∷ r) (prototypes-declared ps rest)

no-prototypes-helpers : (hs : List (HelperKind × ℕ)) (rest : List BareItem) → prototypes_in (helper_items hs ++ rest) ≡ prototypes_in rest
no-prototypes-helpers [] rest = refl
no-prototypes-helpers (h ∷ hs) rest = no-prototypes-helpers hs rest

no-prototypes-defined : (ps : Pairs) → prototypes_in (defined_items (number 22) ps) ≡ []
no-prototypes-defined [] = refl
no-prototypes-defined (p ∷ ps) = no-prototypes-defined ps

none-defined : (ps : Pairs) (rest : List BareItem) → definitions_in (declared_items ps ++ rest) ≡ definitions_in rest
none-defined [] rest = refl
none-defined (p ∷ ps) rest = none-defined ps rest

static-helpers : (hs : List (HelperKind × ℕ)) (rest : List BareItem) → not_static (definitions_in (helper_items hs ++ rest)) ≡ not_static (definitions_in rest)
static-helpers [] rest = refl
static-helpers (h ∷ hs) rest = static-helpers hs rest

all-defined : (ps : Pairs) → not_static (definitions_in (defined_items (number 22) ps)) ≡ map (λ p. pack_head p.1) ps
all-defined [] = refl
all-defined (p ∷ ps) = ap (λ (r : List BareHead). pack_head p.1 ∷ r) (all-defined ps)

module _ (ms : List Message) (t : SymbolTable) where
  abbrev pairs : Pairs
  pairs = zip ms t.messages

  abbrev functions : List BareItem
  functions = helper_items (called_helpers ms) ++ defined_items (number 22) pairs

  structs-are : structs_in (unit_items ms t.messages) ≡ structs_of ms t
  structs-are =
      structs-declared pairs functions
      ∙ ap (λ (r : List (List ℕ × List BareField)). structs_of ms t ++ r) (no-structs-helpers (called_helpers ms) (defined_items (number 22) pairs) ∙ no-structs-defined pairs)
      ∙ append-nil (structs_of ms t)

  prototypes-are : prototypes_in (unit_items ms t.messages) ≡ functions_of ms t
  prototypes-are =
      prototypes-declared pairs functions
      ∙ ap (λ (r : List BareHead). functions_of ms t ++ r) (no-prototypes-helpers (called_helpers ms) (defined_items (number 22) pairs) ∙ no-prototypes-defined pairs)
      ∙ append-nil (functions_of ms t)

  definitions-are : not_static (definitions_in (unit_items ms t.messages)) ≡ functions_of ms t
  definitions-are =
      ap not_static (none-defined pairs functions)
      ∙ static-helpers (called_helpers ms) (defined_items (number 22) pairs)
      ∙ all-defined pairs

-- ---- the pair

abbrev pub AreFlat : List Message → Type 0
AreFlat ms = AllByRecursion (λ m. AllByRecursion HasNoParent (Message.signals m)) ms

within-both : (xs ys : List BareItem) → AllByRecursion ItemWithin xs → AllByRecursion ItemWithin ys → AllByRecursion ItemWithin (xs ++ ys)
within-both [] ys h k = k
within-both (x ∷ xs) ys h k = (h.0, within-both xs ys h.1 k)

module _ (name : List ℕ) (ms : List Message) (t : SymbolTable) (h : IsIdentifier name) (small : AreSmall ms) (names : HasItsNames t)
    (each : AllPairs HasNamesOfMessage ms t.messages) (valid : AllByRecursion IsOfValidDatabase ms) (flat : AreFlat ms) where
  -- what is known where the source includes its header
  abbrev known : List Header
  known = string_h ∷ []

  abbrev header : IsHeaderAt (knowing known) (header_parts ms t)
  header = header-may-be-printed known ms t four-give small names

  -- behind its includes
  abbrev here : State
  here = behind_includes ms t

  own : AllByRecursion HasOwnNames t.messages
  own =
      let file = names.apart.file in
      own-names t.messages file.words.1 file.free.1 names.apart.fields names.apart.locals names.letters.messages

  printable : AllByRecursion (IsPrintable here) (source_items ms t.messages)
  printable = source-printable here (knows-source ms t small names) ms t.messages own valid flat

  source-may-be-printed : IsSource (header_name name) (header_parts ms t) (source_parts name ms t)
  unfolding string_header
  source-may-be-printed = record {
    right = (
      shown opening_text,
      (
        tt,
        (
          tt,
          (
            tt,
            (
              (name-beside name h, header),
              separated-right (Some (header_name name)) (λ s. IsHeaderAt s (header_parts ms t)) (header_state (header_parts ms t)) here (source_items ms t.messages) printable,
            ),
          ),
        ),
      ),
    );
    balanced = separated-balanced here (source_items ms t.messages) printable;
  }

  items-are : items_read (header_parts ms t) (source_parts name ms t) ≡ unit_items ms t.messages
  unfolding string_header
  items-are =
      let declared = (at-headers known ms t four-give small names).items_are in
      let defined = separated-items (header_state (header_parts ms t)) here (header_items (header_parts ms t)) (source_items ms t.messages) printable
      ∙ source-left here (knows-source ms t small names) ms t.messages own valid flat in
      λ i. declared i ++ defined i

  macros-left : map macro_tokens (source_macros (header_parts ms t) (source_parts name ms t)) ≡ macros_of ms t
  unfolding string_header
  macros-left =
      let defined = (at-headers known ms t four-give small names).macros in
      let none = separated-macros (header_state (header_parts ms t)) here (header_macros (header_parts ms t)) (source_items ms t.messages) printable in
      ap (map macro_tokens) (ap (λ r. header_macros (header_parts ms t) (knowing known) ++ r) none ∙ append-nil (header_macros (header_parts ms t) (knowing known)) ∙ defined) ∙ macros-are ms t

  items-within : AllByRecursion ItemWithin (unit_items ms t.messages)
  items-within = within-both (declared_items (zip ms t.messages)) _ (items-are-within (zip ms t.messages)) (source-within ms t.messages flat)

  pair-is_read : ReadAsUnit (header_name name) (header_text ms t) (source_text name ms t) (unit_items ms t.messages) (macros_of ms t)
  pair-is_read =
      let source = source_text name ms t in
      let items = items_read (header_parts ms t) (source_parts name ms t) in
      let within : AllByRecursion ItemWithin items = subst (λ is. AllByRecursion ItemWithin is) (sym items-are) items-within in
      let reads = pair-reads (header_name name) (header_parts ms t) (source_parts name ms t) (knowing known) header source-may-be-printed within in
      subst (λ is. ReadAsUnit (header_name name) (header_text ms t) source is (macros_of ms t)) items-are
      (subst (λ ls. ReadAsUnit (header_name name) (header_text ms t) source items ls) macros-left reads)

  named : AreNamed ms t.messages
  named = are-named ms t each names.apart names.letters

  pair-means : Faithful name ms t (header_text ms t) (source_text name ms t)
  pair-means =
      let x = pair-is_read in
      record {
        parses = record { left = x.left; no_fault = x.no_fault; unit = x.unit; is_cut = x.is_cut };
        types = unit-typed ms t.messages named valid flat x.unit x.items_are;
        surface = record {
          macros = x.macros_are;
          structs = ap structs_in x.items_are ∙ structs-are ms t;
          prototypes = ap prototypes_in x.items_are ∙ prototypes-are ms t;
          definitions = ap (λ is. not_static (definitions_in is)) x.items_are ∙ definitions-are ms t;
        };
        packs = unit-packs ms t.messages named valid flat x.unit x.items_are;
      }

its-names : (db : Database) (name : List ℕ) (prune : Bool) (t : SymbolTable) → IsIdentifier name → AreSymbols db name prune t → HasItsNames t
its-names db name prune t h are = record { apart = symbols-apart db name prune t h are; letters = symbols-letters db name prune t h are }

pub pair-is-faithful : (name : List ℕ) (db : Database) (t : SymbolTable) → IsNamedDatabase name db t → AllByRecursion IsOfValidDatabase db.messages → AreFlat db.messages
    → Faithful name db.messages t (header_text db.messages t) (source_text name db.messages t)
pair-is-faithful name db t d valid flat = pair-means name db.messages t d.named d.small (its-names db name d.prune t d.named d.symbols) d.symbols.messages valid flat
