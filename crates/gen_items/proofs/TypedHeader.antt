-- A unit's structs and prototypes have no fault of types, and declare what its functions need.
use Rattle.std.proofs.Common.{◌≡◌, ℕ, true, false, List, [], ◌∷◌, ◌++◌, map, Some, None, refl, ap, ◌∙◌, append-nil}
use Rattle.std.specs.Prelude.{not, bytes_eq}
use Rattle.std.specs.List.{list_any, zip, AllByRecursion}
use Rattle.can_model.specs.declared.database.Message.{Message}
use Rattle.can_model.specs.declared.database.Signal.{Signal}
use Rattle.name_rules.specs.declared.table.MessageNames.{MessageNames}
use Rattle.name_rules.specs.declared.table.SignalNames.{SignalNames}
use Rattle.name_rules.specs.Distinct.{are_distinct}
use Rattle.name_rules.specs.Names.{is_c_name}
use Rattle.name_rules.specs.Symbols.{AllPairs}
use Rattle.c_tree.specs.declared.item.Function.{Function}
use Rattle.c_tree.specs.declared.item.Item.{Item}
use Rattle.c_tree.specs.declared.item.Item.TheVariants as item
use Rattle.c_tree.specs.declared.item.Struct.{Struct as Structure}
use Rattle.cg_out.specs.Words.{look_up}
use Rattle.c_widths.specs.DataModel.{DataModel}
use Rattle.c_types.specs.Setting.{Setting, setting, structs, functions, definitions, callings}
use Rattle.c_types.specs.UnitTypes.{item_faults}
use Rattle.c_effect.proofs.Locals.{same-name}
use Rattle.c_effect.proofs.Placeless.{no_place, grown_field, grown_item}
use Rattle.c_alike.proofs.TypedUnits.{structs-both, functions-both, LackField, AreApart, AreKnown, AreFieldsTyped, typed-no_fields, typed-field, typed-fields, typed-struct, AreItemsTyped, typed-no_items, typed-item}
use Rattle.shift_helpers.specs.declared.helper.HelperKind.{HelperKind}
use Rattle.shift_helpers.specs.HelperResult.{IsWidth}
use Rattle.shift_helpers.specs.HelperTree.{helper_name}
use Rattle.gen_pack.specs.StructFields.{fields_of, or_dummy}
use Rattle.gen_pack.specs.Named.{IsNamed}
use Rattle.gen_pack.proofs.OwnLocals.{and-left, and-right, none-first, none-later}
use Rattle.gen_items.specs.ItemNames.{IsNoHelper}
use Rattle.gen_items.specs.UnitItems.{declared_items}
use Rattle.gen_items.proofs.TypedWords.{plain-word}
use Rattle.gen_items.proofs.TypedScope.{some-behind, none-kept}
use Rattle.gen_items.proofs.TypedBody.{grown_fields}
use Rattle.gen_items.proofs.TypedFunction.{prototype, prototype-typed}

-- ---- names of which none is equal to a later one

-- no later name is this one
abbrev pub IsPast : List ℕ → List (List ℕ) → Type 0
IsPast a names = not (list_any (bytes_eq a) names) ≡ true

pub past-later : (a : List ℕ) (names : List (List ℕ)) → are_distinct (a ∷ names) ≡ true → IsPast a names
past-later a names distinct = and-left (not (list_any (bytes_eq a) names)) (are_distinct names) distinct

pub later-distinct : (a : List ℕ) (names : List (List ℕ)) → are_distinct (a ∷ names) ≡ true → are_distinct names ≡ true
later-distinct a names distinct = and-right (not (list_any (bytes_eq a) names)) (are_distinct names) distinct

pub past-first : (a b : List ℕ) (names : List (List ℕ)) → IsPast a (b ∷ names) → bytes_eq a b ≡ false
past-first a b names past = none-first (bytes_eq a b) (list_any (bytes_eq a) names) past

pub past-rest : (a b : List ℕ) (names : List (List ℕ)) → IsPast a (b ∷ names) → IsPast a names
past-rest a b names past = none-later (bytes_eq a b) (list_any (bytes_eq a) names) past

abbrev pub tags : List MessageNames → List (List ℕ)
tags ns = map (λ n. n.tag) ns

abbrev pub packs : List MessageNames → List (List ℕ)
packs ns = map (λ n. n.pack) ns

-- ---- the fields of a struct

abbrev names_of : List SignalNames → List (List ℕ)
names_of ns = map (λ n. n.field) ns

lack-fields : (a : List ℕ) (ss : List Signal) (ns : List SignalNames) → IsPast a (names_of ns) → LackField (map grown_field (fields_of ss ns)) a
lack-fields a [] ns past = tt
lack-fields a (s ∷ ss) [] past = tt
lack-fields a (s ∷ ss) (n ∷ ns) past = (past-first a n.field (names_of ns) past, lack-fields a ss ns (past-rest a n.field (names_of ns) past))

fields-apart : (ss : List Signal) (ns : List SignalNames) → are_distinct (names_of ns) ≡ true → AreApart (map grown_field (fields_of ss ns))
fields-apart [] ns distinct = tt
fields-apart (s ∷ ss) [] distinct = tt
fields-apart (s ∷ ss) (n ∷ ns) distinct = (lack-fields n.field ss ns (past-later n.field (names_of ns) distinct), fields-apart ss ns (later-distinct n.field (names_of ns) distinct))

module _ (s : Setting) where
  fields-known : (ss : List Signal) (ns : List SignalNames) → AllByRecursion (λ x. is_c_name x ≡ true) (names_of ns) → AreKnown s (map grown_field (fields_of ss ns))
  fields-known [] ns words = tt
  fields-known (x ∷ ss) [] words = tt
  fields-known (x ∷ ss) (n ∷ ns) words = (refl, plain-word n.field words.0, fields-known ss ns words.1)

  dummy-typed : AreFieldsTyped s [] (map grown_field (or_dummy []))
  dummy-typed = typed-field s [] _ [] refl refl refl (typed-no_fields s _)

  fields-typed : (ss : List Signal) (ns : List SignalNames) → are_distinct (names_of ns) ≡ true → AllByRecursion (λ x. is_c_name x ≡ true) (names_of ns) → AreFieldsTyped s [] (map grown_field (or_dummy (fields_of ss ns)))
  fields-typed [] ns distinct words = dummy-typed
  fields-typed (x ∷ ss) [] distinct words = dummy-typed
  fields-typed (x ∷ ss) (n ∷ ns) distinct words =
      typed-fields s (map grown_field (fields_of (x ∷ ss) (n ∷ ns))) (fields-known (x ∷ ss) (n ∷ ns) words) (fields-apart (x ∷ ss) (n ∷ ns) distinct)

-- ---- a message's struct and its prototype

abbrev pub structure : Message → MessageNames → Structure
structure m names = record { tag = names.tag; fields = grown_fields m names; place = no_place }

abbrev pub header : List Message → List MessageNames → List Item
header ms ns = map grown_item (declared_items (zip ms ns))

-- behind the two
abbrev next : List Item → Message → MessageNames → List Item
next before m n = (before ++ item.Struct (structure m n) ∷ []) ++ item.Function (prototype n) ∷ []

structs-next : (before : List Item) (m : Message) (n : MessageNames) → structs (next before m n) ≡ structs before ++ (n.tag, grown_fields m n) ∷ []
structs-next before m n =
    structs-both (before ++ item.Struct (structure m n) ∷ []) (item.Function (prototype n) ∷ [])
    ∙ append-nil (structs (before ++ item.Struct (structure m n) ∷ [])) ∙ structs-both before (item.Struct (structure m n) ∷ [])

functions-struct : (before : List Item) (x : Structure) → functions (before ++ item.Struct x ∷ []) ≡ functions before
functions-struct before x = functions-both before (item.Struct x ∷ []) ∙ append-nil (functions before)

functions-next : (before : List Item) (m : Message) (n : MessageNames) → functions (next before m n) ≡ functions before ++ (n.pack, prototype n) ∷ []
functions-next before m n =
    functions-both (before ++ item.Struct (structure m n) ∷ []) (item.Function (prototype n) ∷ [])
    ∙ ap (λ (r : List (List ℕ × Function)). r ++ (n.pack, prototype n) ∷ []) (functions-struct before (structure m n))

-- no struct and no function before has a name of these
abbrev pub NewTags : List Item → List MessageNames → Type 0
NewTags before ns = AllByRecursion (λ n. look_up (MessageNames.tag n) (structs before) ≡ None) ns

abbrev pub NewFunctions : List Item → List MessageNames → Type 0
NewFunctions before ns = AllByRecursion (λ n. look_up (MessageNames.pack n) (functions before) ≡ None) ns

tags-next : (before : List Item) (m : Message) (n : MessageNames) (ns : List MessageNames) → IsPast n.tag (tags ns) → NewTags before ns → NewTags (next before m n) ns
tags-next before m n [] past new = tt
tags-next before m n (k ∷ ns) past new = (
  ap (look_up k.tag) (structs-next before m n) ∙ none-kept k.tag (structs before) ((n.tag, grown_fields m n) ∷ []) new.0 (rw (past-first n.tag k.tag (tags ns) past) refl),
  tags-next before m n ns (past-rest n.tag k.tag (tags ns) past) new.1,
)

functions-new : (before : List Item) (m : Message) (n : MessageNames) (ns : List MessageNames) → IsPast n.pack (packs ns) → NewFunctions before ns → NewFunctions (next before m n) ns
functions-new before m n [] past new = tt
functions-new before m n (k ∷ ns) past new = (
  ap (look_up k.pack) (functions-next before m n) ∙ none-kept k.pack (functions before) ((n.pack, prototype n) ∷ []) new.0 (rw (past-first n.pack k.pack (packs ns) past) refl),
  functions-new before m n ns (past-rest n.pack k.pack (packs ns) past) new.1,
)

-- names of C of which no two are equal
pub record AreWords (names : List (List ℕ)) : Type 0 where
  pub distinct : are_distinct names ≡ true
  pub words : AllByRecursion (λ x. is_c_name x ≡ true) names

pub words-behind : (a : List ℕ) (names : List (List ℕ)) → AreWords (a ∷ names) → AreWords names
words-behind a names w = record { distinct = later-distinct a names w.distinct; words = w.words.1 }

module _ (model : DataModel) (items : List Item) where
  struct-typed : (before : List Item) (after : Setting) (m : Message) (n : MessageNames) → IsNamed m n → is_c_name n.tag ≡ true → look_up n.tag (structs before) ≡ None
      → item_faults (setting model items before) after (item.Struct (structure m n)) ≡ []
  struct-typed before after m n named word new =
      typed-struct (setting model items before) (structure m n) new (plain-word n.tag word) (fields-typed (setting model items before) m.signals n.signals named.fields.distinct named.fields.words)

  declared-typed : (before : List Item) (after : Setting) (m : Message) (n : MessageNames) → is_c_name n.pack ≡ true → look_up n.tag (structs before) ≡ None → look_up n.pack (functions before) ≡ None
      → item_faults (setting model items (before ++ item.Struct (structure m n) ∷ [])) after (item.Function (prototype n)) ≡ []
  declared-typed before after m n word new_tag new =
      let there : look_up n.tag (structs (before ++ item.Struct (structure m n) ∷ [])) ≡ Some (grown_fields m n) =
      ap (look_up n.tag) (structs-both before (item.Struct (structure m n) ∷ [])) ∙ some-behind n.tag (grown_fields m n) (structs before) ((n.tag, grown_fields m n) ∷ []) new_tag (rw (same-name n.tag) refl) in
      prototype-typed (setting model items (before ++ item.Struct (structure m n) ∷ [])) after n (grown_fields m n) there
      (ap (look_up n.pack) (functions-struct before (structure m n)) ∙ new) (plain-word n.pack word)

  -- the header's items, behind others
  pub header-typed : (ms : List Message) (ns : List MessageNames) (before : List Item) → AllPairs IsNamed ms ns → AreWords (tags ns) → AreWords (packs ns) → NewTags before ns → NewFunctions before ns
      → AreItemsTyped model items before (header ms ns)
  header-typed [] ns before named t p new_tags new = typed-no_items model items before
  header-typed (m ∷ ms) [] before named t p new_tags new = absurd named
  header-typed (m ∷ ms) (n ∷ ns) before named t p new_tags new =
      let first = item.Struct (structure m n) in
      let second = item.Function (prototype n) in
      typed-item model items before first (second ∷ header ms ns) (struct-typed before (setting model items (before ++ first ∷ [])) m n named.0 t.words.0 new_tags.0)
      (typed-item model items (before ++ first ∷ []) second (header ms ns) (declared-typed before (setting model items (next before m n)) m n p.words.0 new_tags.0 new.0)
      (header-typed ms ns (next before m n) named.1 (words-behind n.tag (tags ns) t) (words-behind n.pack (packs ns) p)
      (tags-next before m n ns (past-later n.tag (tags ns) t.distinct) new_tags.1)
      (functions-new before m n ns (past-later n.pack (packs ns) p.distinct) new.1)))

-- ---- what the header declares

-- a message's struct and its prototype stand among these
pub record Stands (items : List Item) (m : Message) (n : MessageNames) : Type 0 where
  pub fields_are : look_up n.tag (structs items) ≡ Some (grown_fields m n)
  pub own : look_up n.pack (functions items) ≡ Some (prototype n)

stand-behind : (m : Message) (n : MessageNames) (rest : List Item) (ms : List Message) (ns : List MessageNames) → IsPast n.tag (tags ns) → IsPast n.pack (packs ns) → AllPairs (Stands rest) ms ns
    → AllPairs (Stands (item.Struct (structure m n) ∷ item.Function (prototype n) ∷ rest)) ms ns
stand-behind m n rest [] ns t p stand = stand
stand-behind m n rest (x ∷ ms) [] t p stand = absurd stand
stand-behind m n rest (x ∷ ms) (k ∷ ns) t p stand = (
  record {
    fields_are = rw (past-first n.tag k.tag (tags ns) t) stand.0.fields_are;
    own = rw (past-first n.pack k.pack (packs ns) p) stand.0.own;
  },
  stand-behind m n rest ms ns (past-rest n.tag k.tag (tags ns) t) (past-rest n.pack k.pack (packs ns) p) stand.1,
)

pub header-stands : (ms : List Message) (ns : List MessageNames) → AllPairs IsNamed ms ns → are_distinct (tags ns) ≡ true → are_distinct (packs ns) ≡ true → AllPairs (Stands (header ms ns)) ms ns
header-stands [] ns named t p = named
header-stands (m ∷ ms) [] named t p = absurd named
header-stands (m ∷ ms) (n ∷ ns) named t p = (
  record { fields_are = rw (same-name n.tag) refl; own = rw (same-name n.pack) refl },
  stand-behind m n (header ms ns) ms ns (past-later n.tag (tags ns) t) (past-later n.pack (packs ns) p)
      (header-stands ms ns named.1 (later-distinct n.tag (tags ns) t) (later-distinct n.pack (packs ns) p)),
)

-- it defines nothing
pub header-defines : (ms : List Message) (ns : List MessageNames) → definitions (header ms ns) ≡ []
header-defines [] ns = refl
header-defines (m ∷ ms) [] = refl
header-defines (m ∷ ms) (n ∷ ns) = header-defines ms ns

pub header-calls : (ms : List Message) (ns : List MessageNames) → callings (header ms ns) ≡ []
header-calls [] ns = refl
header-calls (m ∷ ms) [] = refl
header-calls (m ∷ ms) (n ∷ ns) = header-calls ms ns

-- and declares no helper
pub header-no_helper : (kind : HelperKind) (w : ℕ) → IsWidth w → (ms : List Message) (ns : List MessageNames) → AllByRecursion (λ n. IsNoHelper (MessageNames.pack n)) ns
    → look_up (helper_name kind w) (functions (header ms ns)) ≡ None
header-no_helper kind w iw [] ns none = refl
header-no_helper kind w iw (m ∷ ms) [] none = refl
header-no_helper kind w iw (m ∷ ms) (n ∷ ns) none = rw (none.0 kind w iw) (header-no_helper kind w iw ms ns none.1)
