-- Where the fields of a message's struct are: that of each signal has the signal's number.
use Rattle.std.proofs.Common.{◌≡◌, ℕ, suc, ◌+◌, ◌<◌, true, false, List, [], ◌∷◌, map, Some, inl, inr, refl, sym, ap, subst, ◌∙◌, arith, Ok}
use Rattle.std.specs.Prelude.{not, slice_get, nat_lt, length}
use Rattle.std.specs.List.{list_any, position, position_or_len}
use Rattle.std.specs.Str.{bytes_eq}
use Rattle.std.proofs.lemmas.Bool.Decides.{nat_tests}
use Rattle.std.proofs.lemmas.Option.{slice_get_within}
use Rattle.can_model.specs.declared.database.Message.{Message}
use Rattle.can_model.specs.declared.database.Signal.{Signal}
use Rattle.name_rules.specs.declared.table.MessageNames.{MessageNames}
use Rattle.name_rules.specs.declared.table.SignalNames.{SignalNames}
use Rattle.name_rules.specs.Distinct.{are_distinct}
use Rattle.name_rules.specs.Symbols.{field_names}
use Rattle.c_tree.specs.declared.item.CType.TheVariants.{Integer}
use Rattle.c_tree.specs.declared.item.Field.{Field}
use Rattle.c_tree.specs.declared.item.Item.{Item}
use Rattle.c_tree.specs.BareUnit.{BareField, bare_field}
use Rattle.c_widths.specs.DataModel.{DataModel}
use Rattle.c_widths.specs.IntegerType.{exact_type}
use Rattle.c_types.specs.FieldNamed.{field_in}
use Rattle.c_types.specs.ExpressionTypes.{integer_type}
use Rattle.c_types.specs.Setting.{structs}
use Rattle.c_effect.specs.Loading.{slot, slot_named}
use Rattle.c_effect.specs.FunctionCall.{unit_world}
use Rattle.c_effect.proofs.Expressions.{slot-is}
use Rattle.c_effect.proofs.Locals.{same-name}
use Rattle.gen_pack.specs.SegmentMove.{width_of}
use Rattle.gen_pack.specs.StructFields.{field_type, field_of, fields_of, or_dummy}
use Rattle.gen_pack.specs.Parts.{Part, parts_from, parts_of}
use Rattle.gen_pack.specs.Packs.{HasStruct}
use Rattle.gen_pack.proofs.Members.{Among}
use Rattle.gen_pack.proofs.OwnLocals.{and-left, and-right, none-first, none-later, flipped-names}

-- the fields of these signals, by these names
abbrev AreFieldsOf : List Field → List Signal → List SignalNames → Type 0
AreFieldsOf fields ss ns = map bare_field fields ≡ fields_of ss ns

abbrev names_of : List SignalNames → List (List ℕ)
names_of ns = map (λ n. n.field) ns

-- the first field of a name, with its number behind some
record Found (name : List ℕ) (fields : List Field) (before index : ℕ) (s : Signal) : Type 0 where
  number : ℕ
  field : Field
  first : position_or_len (λ f. bytes_eq name f.name) fields ≡ number
  there : slice_get fields number ≡ Some field
  index_is : index ≡ before + number
  kind_is : field.kind ≡ Integer (field_type s)

-- a name of a later signal is not that of an earlier field
pub later-name : (a : List ℕ) (i : ℕ) (ss : List Signal) (ns : List SignalNames) (x : Part) → Among x (parts_from i ss ns) → not (list_any (bytes_eq a) (names_of ns)) ≡ true → bytes_eq a x.names.field ≡ false
later-name a i [] ns x h e = absurd h
later-name a i (s ∷ ss) [] x h e = absurd h
later-name a i (s ∷ ss) (n ∷ ns) x (inl is) e = ap (λ v. bytes_eq a (Part.names v).field) is ∙ none-first (bytes_eq a n.field) (list_any (bytes_eq a) (names_of ns)) e
later-name a i (s ∷ ss) (n ∷ ns) x (inr h) e = later-name a (suc i) ss ns x h (none-later (bytes_eq a n.field) (list_any (bytes_eq a) (names_of ns)) e)

head-is : (f : Field) (fs : List Field) (b : BareField) (bs : List BareField) → map bare_field (f ∷ fs) ≡ b ∷ bs → bare_field f ≡ b
head-is f fs b bs h = cc

tail-is : (f : Field) (fs : List Field) (b : BareField) (bs : List BareField) → map bare_field (f ∷ fs) ≡ b ∷ bs → map bare_field fs ≡ bs
tail-is f fs b bs h = cc

later-first : (name : List ℕ) (f : Field) (fs : List Field) (number : ℕ) → bytes_eq name f.name ≡ false → position_or_len (λ f. bytes_eq name f.name) fs ≡ number
    → position_or_len (λ f. bytes_eq name f.name) (f ∷ fs) ≡ suc number
later-first name f fs number past e = rw past (omega (arith, e))

found-from : (i : ℕ) (ss : List Signal) (ns : List SignalNames) (fields : List Field) → AreFieldsOf fields ss ns → are_distinct (names_of ns) ≡ true
    → (x : Part) → Among x (parts_from i ss ns) → Found x.names.field fields i x.index x.signal
found-from i [] ns fields are distinct x h = absurd h
found-from i (s ∷ ss) [] fields are distinct x h = absurd h
found-from i (s ∷ ss) (n ∷ ns) [] are distinct x h = absurd (cc)
found-from i (s ∷ ss) (n ∷ ns) (f ∷ fs) are distinct x (inl is) =
    let b : bare_field f ≡ field_of s n = head-is f fs (field_of s n) (fields_of ss ns) are in
    let name_is : f.name ≡ n.field = ap (λ b. BareField.name b) b in
    let same : bytes_eq n.field f.name ≡ true = ap (bytes_eq n.field) name_is ∙ same-name n.field in
    subst (λ v. Found (Part.names v).field (f ∷ fs) i (Part.index v) (Part.signal v)) (sym is)
    (record { number = 0; field = f; first = rw same refl; there = refl; index_is = omega arith; kind_is = ap (λ b. BareField.kind b) b })
found-from i (s ∷ ss) (n ∷ ns) (f ∷ fs) are distinct x (inr h) =
    let b : bare_field f ≡ field_of s n = head-is f fs (field_of s n) (fields_of ss ns) are in
    let name_is : f.name ≡ n.field = ap (λ b. BareField.name b) b in
    let rest = found-from (suc i) ss ns fs (tail-is f fs (field_of s n) (fields_of ss ns) are) (and-right (not (list_any (bytes_eq n.field) (names_of ns))) (are_distinct (names_of ns)) distinct) x h in
    let other : bytes_eq n.field x.names.field ≡ false = later-name n.field (suc i) ss ns x h (and-left (not (list_any (bytes_eq n.field) (names_of ns))) (are_distinct (names_of ns)) distinct) in
    let past : bytes_eq x.names.field f.name ≡ false = ap (bytes_eq x.names.field) name_is ∙ flipped-names n.field x.names.field other in
    record { number = suc rest.number; field = rest.field; first = later-first x.names.field f fs rest.number past rest.first; there = rest.there; index_is = omega (arith, rest.index_is); kind_is = rest.kind_is }

-- a message with signals has no dummy
without-dummy : (fields : List Field) (s : Signal) (ss : List Signal) (n : SignalNames) (ns : List SignalNames) → map bare_field fields ≡ or_dummy (fields_of (s ∷ ss) (n ∷ ns)) → AreFieldsOf fields (s ∷ ss) (n ∷ ns)
without-dummy fields s ss n ns h = h

found-in : (ss : List Signal) (ns : List SignalNames) (fields : List Field) → map bare_field fields ≡ or_dummy (fields_of ss ns) → are_distinct (names_of ns) ≡ true
    → (x : Part) → Among x (parts_from 0 ss ns) → Found x.names.field fields 0 x.index x.signal
found-in [] ns fields are distinct x h = absurd h
found-in (s ∷ ss) [] fields are distinct x h = absurd h
found-in (s ∷ ss) (n ∷ ns) fields are distinct x h = found-from 0 (s ∷ ss) (n ∷ ns) fields (without-dummy fields s ss n ns are) distinct x h

first-is : (name : List ℕ) (fields : List Field) (number : ℕ) (f : Field) → position_or_len (λ f. bytes_eq name f.name) fields ≡ number → slice_get fields number ≡ Some f
    → position (λ f. bytes_eq name f.name) fields ≡ Some number
first-is name fields number f e there =
    let within : number < length fields = slice_get_within fields number f there in
    let lt : nat_lt number (length fields) ≡ true = grind (arith, nat_tests) in
    rw (e, lt) refl

-- the slot of a signal's field
pub slot-of-part : (m : DataModel) (items : List Item) (message : Message) (names : MessageNames) → HasStruct items message names → are_distinct (field_names names) ≡ true
    → (x : Part) → Among x (parts_of message names) → slot_named (unit_world m items) names.tag x.names.field ≡ Ok (slot x.index (exact_type m (width_of x.signal) x.signal.signed))
slot-of-part m items message names struct distinct x h =
    let f = found-in message.signals names.signals struct.fields struct.are distinct x h in
    let index : f.number ≡ x.index = omega (arith, f.index_is) in
    let there : field_in names.tag x.names.field (structs items) ≡ Some (x.index, f.field) = rw (struct.found, first-is x.names.field struct.fields f.number f.field f.first f.there, f.there, index) refl in
    slot-is (unit_world m items) names.tag x.names.field x.index f.field (exact_type m (width_of x.signal) x.signal.signed) there (ap (integer_type m) f.kind_is)
