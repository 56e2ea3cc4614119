-- Generated units have no fault of types under any data model: headers, helpers and pack functions in a row.
use Rattle.std.proofs.Common.{◌≡◌, ℕ, suc, true, false, List, [], ◌∷◌, ◌++◌, map, Some, None, inl, inr, refl, sym, ap, subst, ◌∙◌, append-nil}
use Rattle.std.specs.Prelude.{slice_get}
use Rattle.std.specs.List.{zip, AllByRecursion}
use Rattle.std.proofs.lemmas.List.{map-append}
use Rattle.can_model.specs.declared.database.Message.{Message}
use Rattle.can_model.specs.declared.database.Signal.{Signal}
use Rattle.can_model.specs.Validity.{IsOfValidDatabase}
use Rattle.can_model.proofs.Placed.{placed}
use Rattle.name_rules.specs.declared.table.MessageNames.{MessageNames}
use Rattle.name_rules.specs.Names.{is_c_name}
use Rattle.name_rules.specs.Symbols.{AllPairs}
use Rattle.c_tree.specs.declared.item.Function.{Function}
use Rattle.c_tree.specs.declared.item.Item.{Item}
use Rattle.c_tree.specs.declared.item.Item.TheVariants as item
use Rattle.c_tree.specs.declared.item.Unit.{Unit as Whole}
use Rattle.c_tree.specs.BareStatement.{actions_of}
use Rattle.c_tree.specs.BareUnit.{bare_unit}
use Rattle.cg_out.specs.Words.{look_up}
use Rattle.c_widths.specs.DataModel.{DataModel, models}
use Rattle.c_operators.proofs.Models.{IsOneOf}
use Rattle.c_types.specs.Setting.{setting, structs, functions, definitions, callings}
use Rattle.c_types.specs.UnitTypes.{item_faults, unit_faults, faults_under}
use Rattle.c_effect.proofs.Placeless.{grown_function, grown_item}
use Rattle.c_alike.proofs.TypedUnits.{structs-both, functions-both, definitions-both, callings-both, AreItemsTyped, typed-no_items, typed-item, typed-items_both, typed-unit, typed-under_models, types-of_bare}
use Rattle.bit_layout.specs.declared.walk.Segment.{Segment}
use Rattle.bit_layout.specs.Segments.{segments_of}
use Rattle.shift_helpers.specs.declared.helper.HelperKind.{HelperKind}
use Rattle.shift_helpers.specs.HelperResult.{IsWidth}
use Rattle.shift_helpers.specs.HelperTree.{helper_name, helper}
use Rattle.gen_types.specs.HelperList.{helper_item, AreDifferent, every_helper}
use Rattle.gen_types.specs.HelperList as list
use Rattle.gen_types.proofs.HelperTypes.{AreNew, helpers-typed}
use Rattle.gen_types.proofs.HelperCalls.{IsAmong, finds-helper, finds-calling}
use Rattle.gen_types.proofs.HelperNames.{every-different, filter-different}
use Rattle.gen_pack.specs.SegmentMove.{width_of, pack_kind}
use Rattle.gen_pack.specs.Named.{IsNamed}
use Rattle.gen_pack.specs.Switches.{HasNoParent}
use Rattle.gen_pack.specs.PackTree.{number, message_body, pack_head}
use Rattle.gen_pack.proofs.Members.{Among}
use Rattle.gen_pack.proofs.OwnLocals.{flipped-names}
use Rattle.gen_pack.proofs.Putting.{width-is}
use Rattle.gen_items.specs.CalledHelpers.{is_called, called_helpers}
use Rattle.gen_items.specs.ItemNames.{AreNamed, IsNoHelper}
use Rattle.gen_items.specs.UnitItems.{helper_items, declared_items, defined_items, unit_items}
use Rattle.gen_items.proofs.TypedWords.{plain-word}
use Rattle.gen_items.proofs.TypedScope.{some-kept, none-kept, some-behind}
use Rattle.gen_items.proofs.TypedSignals.{IsCallable}
use Rattle.gen_items.proofs.TypedBody.{CallsHelpers}
use Rattle.gen_items.proofs.TypedFunction.{IsDeclared, function-typed}
use Rattle.gen_items.proofs.HelpersCalled.{HaveWidths, called-widths}
use Rattle.gen_items.proofs.TypedHelpers.{helpers-stay, AreAmongOf, called-among}
use Rattle.gen_items.proofs.TypedHeader.{IsPast, past-later, past-first, past-rest, later-distinct, tags, packs, header, NewTags, NewFunctions, AreWords, header-typed, Stands, header-stands, header-defines, header-calls, header-no_helper}

-- ---- widths

-- a width of each signal
abbrev HasWidth : Signal → Type 0
HasWidth s = IsWidth (width_of s)

-- of signals of a valid database
widths-from : (xs : List Signal) → ((i : ℕ) (s : Signal) → slice_get xs i ≡ Some s → HasWidth s) → AllByRecursion HasWidth xs
widths-from [] each = tt
widths-from (s ∷ xs) each = (each 0 s refl, widths-from xs (λ i t at. each (suc i) t at))

all-wide : (m : Message) → IsOfValidDatabase m → AllByRecursion HasWidth m.signals
all-wide m valid = widths-from m.signals (λ i s at. (let p = placed m i s valid at in (width-is s.length p.bits).0))

-- ---- helpers behind the header

helpers-new : (ms : List Message) (ns : List MessageNames) (helpers : List (HelperKind × ℕ)) → HaveWidths helpers → AllByRecursion (λ n. IsNoHelper (MessageNames.pack n)) ns → AreNew (header ms ns) helpers
helpers-new ms ns [] wide none = tt
helpers-new ms ns (x ∷ helpers) wide none = (header-no_helper x.0 x.1 wide.0 ms ns none, helpers-new ms ns helpers wide.1 none)

-- they define no pack function
helpers-lack : (name : List ℕ) (helpers : List (HelperKind × ℕ)) → HaveWidths helpers → IsNoHelper name → look_up name (definitions (list.helper_items helpers)) ≡ None
helpers-lack name [] wide none = refl
helpers-lack name (x ∷ helpers) wide none = rw (flipped-names name (helper_name x.0 x.1) (none x.0 x.1 wide.0)) (helpers-lack name helpers wide.1 none)

-- ---- what definitions need

-- the helpers are declared before, and defined in the unit
record Known (helpers : List (HelperKind × ℕ)) (items before : List Item) : Type 0 where
  declared : (kind : HelperKind) (w : ℕ) → IsWidth w → IsAmong (kind, w) helpers → look_up (helper_name kind w) (functions before) ≡ Some (helper kind w)
  defined : (kind : HelperKind) (w : ℕ) → IsWidth w → IsAmong (kind, w) helpers → look_up (helper_name kind w) (callings items) ≡ Some false

-- what is asked of a message
record IsSound (helpers : List (HelperKind × ℕ)) (m : Message) : Type 0 where
  valid : IsOfValidDatabase m
  flat : AllByRecursion HasNoParent m.signals
  among : AllByRecursion (AreAmongOf helpers) m.signals

abbrev defined_function : Message → MessageNames → Function
defined_function m n = grown_function (pack_head n) (Some (actions_of (message_body (number 22) m n)))

abbrev definitions_of : List Message → List MessageNames → List Item
definitions_of ms ns = map grown_item (defined_items (number 22) (zip ms ns))

-- all items of a unit
abbrev whole_items : List (HelperKind × ℕ) → List Message → List MessageNames → List Item
whole_items helpers ms ns = header ms ns ++ (list.helper_items helpers ++ definitions_of ms ns)

-- ---- a unit of these messages and helpers

module _ (model : DataModel) (one : IsOneOf model) (helpers : List (HelperKind × ℕ)) where
  -- and so a signal may call them
  signal-calls : (items before : List Item) → Known helpers items before → (s : Signal) → HasWidth s → AreAmongOf helpers s → CallsHelpers (setting model items before) s
  signal-calls items before known s wide among = from (segments_of s) among where
    from : (gs : List Segment) → AllByRecursion (λ g. IsAmong (pack_kind g, width_of s) helpers) gs → AllByRecursion (λ g. IsCallable (setting model items before) (pack_kind g) (width_of s)) gs
    from [] among = tt
    from (g ∷ gs) among = (record { before = known.declared (pack_kind g) (width_of s) wide among.0; defined = known.defined (pack_kind g) (width_of s) wide among.0 }, from gs among.1)

  signals-call : (items before : List Item) → Known helpers items before → (xs : List Signal) → AllByRecursion HasWidth xs → AllByRecursion (AreAmongOf helpers) xs → AllByRecursion (CallsHelpers (setting model items before)) xs
  signals-call items before known [] wide among = tt
  signals-call items before known (s ∷ xs) wide among = (signal-calls items before known s wide.0 among.0, signals-call items before known xs wide.1 among.1)

  -- ---- definitions, one behind the other

  known-behind : (items before : List Item) (f : Function) → Known helpers items before → Known helpers items (before ++ item.Function f ∷ [])
  known-behind items before f known = record {
    declared = λ kind w wide among. ap (look_up (helper_name kind w)) (functions-both before (item.Function f ∷ [])) ∙ some-kept (helper_name kind w) (helper kind w) (functions before) ((f.name, f) ∷ []) (known.declared kind w wide among);
    defined = known.defined;
  }

  declared-behind : (items before : List Item) (x : Message) (k : MessageNames) (ms : List Message) (ns : List MessageNames) → IsPast k.pack (packs ns)
      → AllPairs (IsDeclared (setting model items before)) ms ns → AllPairs (IsDeclared (setting model items (before ++ item.Function (defined_function x k) ∷ []))) ms ns
  declared-behind items before x k [] ns past all = all
  declared-behind items before x k (m ∷ ms) [] past all = absurd all
  declared-behind items before x k (m ∷ ms) (n ∷ ns) past all =
      let f : Function = defined_function x k in (
        record {
          fields_are = ap (look_up n.tag) (structs-both before (item.Function f ∷ [])) ∙ some-kept n.tag _ (structs before) [] all.0.fields_are;
          own = ap (look_up n.pack) (functions-both before (item.Function f ∷ [])) ∙ some-kept n.pack _ (functions before) ((k.pack, f) ∷ []) all.0.own;
          undefined = ap (look_up n.pack) (definitions-both before (item.Function f ∷ [])) ∙ none-kept n.pack (definitions before) ((k.pack, f) ∷ []) all.0.undefined (rw (past-first k.pack n.pack (packs ns) past) refl);
        },
        declared-behind items before x k ms ns (past-rest k.pack n.pack (packs ns) past) all.1,
      )

  one-defined : (items before : List Item) (m : Message) (n : MessageNames) → IsNamed m n → is_c_name n.pack ≡ true → IsSound helpers m → Known helpers items before → IsDeclared (setting model items before) m n
      → item_faults (setting model items before) (setting model items (before ++ item.Function (defined_function m n) ∷ [])) (item.Function (defined_function m n)) ≡ []
  one-defined items before m n named word sound known declared =
      let f : Function = defined_function m n in
      let behind : List Item = before ++ item.Function f ∷ [] in
      let found = ap (look_up n.tag) (structs-both before (item.Function f ∷ [])) ∙ some-kept n.tag _ (structs before) [] declared.fields_are in
      function-typed (setting model items before) (setting model items behind) one m n named sound.valid sound.flat (plain-word n.pack word) declared found
      (signals-call items behind (known-behind items before f known) m.signals (all-wide m sound.valid) sound.among)

  definitions-typed : (items : List Item) (ms : List Message) (ns : List MessageNames) (before : List Item) → AllPairs IsNamed ms ns → AreWords (packs ns) → AllByRecursion (IsSound helpers) ms
      → Known helpers items before → AllPairs (IsDeclared (setting model items before)) ms ns → AreItemsTyped model items before (definitions_of ms ns)
  definitions-typed items [] ns before named words sound known declared = typed-no_items model items before
  definitions-typed items (m ∷ ms) [] before named words sound known declared = absurd named
  definitions-typed items (m ∷ ms) (n ∷ ns) before named words sound known declared =
      let f : Function = defined_function m n in
      typed-item model items before (item.Function f) (definitions_of ms ns) (one-defined items before m n named.0 words.words.0 sound.0 known declared.0)
      (definitions-typed items ms ns (before ++ item.Function f ∷ []) named.1 (record { distinct = later-distinct n.pack (packs ns) words.distinct; words = words.words.1 }) sound.1
      (known-behind items before f known) (declared-behind items before m n ms ns (past-later n.pack (packs ns) words.distinct) declared.1))

  -- ---- the three runs

  module _ (ms : List Message) (ns : List MessageNames) (different : AreDifferent helpers) (wide : HaveWidths helpers) (none : AllByRecursion (λ n. IsNoHelper (MessageNames.pack n)) ns) where
    abbrev of_helpers : List Item
    of_helpers = list.helper_items helpers

    abbrev everything : List Item
    everything = whole_items helpers ms ns

    known-first : Known helpers everything (header ms ns ++ of_helpers)
    known-first = record {
      declared = λ kind w iw among.
          ap (look_up (helper_name kind w)) (functions-both (header ms ns) of_helpers)
          ∙ some-behind (helper_name kind w) (helper kind w) (functions (header ms ns)) (functions of_helpers) (header-no_helper kind w iw ms ns none)
          (ap (look_up (helper_name kind w)) (sym (append-nil (functions of_helpers))) ∙ finds-helper (kind, w) helpers [] different among);
      defined = λ kind w iw among.
          ap (look_up (helper_name kind w)) (callings-both (header ms ns) (of_helpers ++ definitions_of ms ns) ∙ rw (header-calls ms ns) (callings-both of_helpers (definitions_of ms ns)))
          ∙ finds-calling (kind, w) helpers (callings (definitions_of ms ns)) different among;
    }

    stand-declared : (xs : List Message) (ks : List MessageNames) → AllPairs (Stands (header ms ns)) xs ks → AllByRecursion (λ n. IsNoHelper (MessageNames.pack n)) ks
        → AllPairs (IsDeclared (setting model everything (header ms ns ++ of_helpers))) xs ks
    stand-declared [] ks stand free = stand
    stand-declared (m ∷ xs) [] stand free = absurd stand
    stand-declared (m ∷ xs) (n ∷ ks) stand free = (
      record {
        fields_are = ap (look_up n.tag) (structs-both (header ms ns) of_helpers) ∙ some-kept n.tag _ (structs (header ms ns)) (structs of_helpers) stand.0.fields_are;
        own = ap (look_up n.pack) (functions-both (header ms ns) of_helpers) ∙ some-kept n.pack _ (functions (header ms ns)) (functions of_helpers) stand.0.own;
        undefined = ap (look_up n.pack) (definitions-both (header ms ns) of_helpers ∙ rw (header-defines ms ns) refl) ∙ helpers-lack n.pack helpers wide free.0;
      },
      stand-declared xs ks stand.1 free.1,
    )

    new-tags : (ks : List MessageNames) → NewTags [] ks
    new-tags [] = tt
    new-tags (n ∷ ks) = (refl, new-tags ks)

    new-functions : (ks : List MessageNames) → NewFunctions [] ks
    new-functions [] = tt
    new-functions (n ∷ ks) = (refl, new-functions ks)

    items-typed : AllPairs IsNamed ms ns → AreWords (tags ns) → AreWords (packs ns) → AllByRecursion (IsSound helpers) ms → unit_faults model (record { items = everything }) ≡ []
    items-typed named t p sound =
        typed-unit model everything
        (typed-items_both model everything [] (header ms ns) (of_helpers ++ definitions_of ms ns) (header-typed model everything ms ns [] named t p (new-tags ns) (new-functions ns))
        (typed-items_both model everything (header ms ns) of_helpers (definitions_of ms ns) (helpers-typed model everything (header ms ns) helpers different (helpers-new ms ns helpers wide none))
        (definitions-typed everything ms ns (header ms ns ++ of_helpers) named p sound known-first (stand-declared ms ns (header-stands ms ns named t.distinct p.distinct) none))))

-- ---- the unit of a table's names

module _ (messages : List Message) (names : List MessageNames) (named : AreNamed messages names) (valid : AllByRecursion IsOfValidDatabase messages) (flat : AllByRecursion (λ m. AllByRecursion HasNoParent (Message.signals m)) messages) where
  abbrev called : List (HelperKind × ℕ)
  called = called_helpers messages

  sound-from : (xs : List Message) → ((m : Message) → Among m xs → AllByRecursion (AreAmongOf called) m.signals) → AllByRecursion IsOfValidDatabase xs
      → AllByRecursion (λ m. AllByRecursion HasNoParent (Message.signals m)) xs → AllByRecursion (IsSound called) xs
  sound-from [] each v f = tt
  sound-from (m ∷ xs) each v f = (record { valid = v.0; flat = f.0; among = each m (inl refl) }, sound-from xs (λ x a. each x (inr a)) v.1 f.1)

  grown-typed : (model : DataModel) → IsOneOf model → unit_faults model (record { items = map grown_item (unit_items messages names) }) ≡ []
  grown-typed model one =
      let pairs = zip messages names in
      let are : map grown_item (unit_items messages names) ≡ whole_items called messages names =
      map-append grown_item (declared_items pairs) (helper_items called ++ defined_items (number 22) pairs)
      ∙ ap (λ (r : List Item). header messages names ++ r) (map-append grown_item (helper_items called) (defined_items (number 22) pairs) ∙ ap (λ (r : List Item). r ++ definitions_of messages names) (helpers-stay called)) in
      subst (λ items. unit_faults model (record { items = items }) ≡ []) (sym are)
      (items-typed model one called messages names (filter-different (is_called messages) every_helper every-different) (called-widths messages) named.no_helpers named.each
      (record { distinct = named.tags.distinct; words = named.tags.words }) (record { distinct = named.functions.distinct; words = named.functions.words })
      (sound-from messages (called-among messages) valid flat))

-- a unit that is a table's items but for places
pub unit-typed : (messages : List Message) (names : List MessageNames) → AreNamed messages names → AllByRecursion IsOfValidDatabase messages → AllByRecursion (λ m. AllByRecursion HasNoParent (Message.signals m)) messages
    → (u : Whole) → bare_unit u ≡ unit_items messages names → faults_under models u ≡ []
unit-typed messages names named valid flat u is =
    typed-under_models u (λ model one. types-of_bare model u (unit_items messages names) is (grown-typed messages names named valid flat model one))
