-- The body of a message's pack function has no fault of types where its struct and its helpers are declared.
use Rattle.std.proofs.Common.{◌≡◌, ℕ, ◌^◌, suc, ◌<◌, ◌≤◌, Bool, true, false, List, [], ◌∷◌, ◌++◌, map, Option, Some, None, inl, inr, refl, sym, subst, arith}
use Rattle.std.specs.Prelude.{◌==◌, if◌then◌else◌, not, bytes_eq}
use Rattle.std.specs.List.{AllByRecursion, list_any, flat_map}
use Rattle.can_model.specs.declared.database.Message.{Message}
use Rattle.can_model.specs.declared.database.Signal.{Signal}
use Rattle.can_model.specs.Place.{IsPlaced}
use Rattle.can_model.specs.Validity.{IsOfValidDatabase}
use Rattle.can_model.proofs.Elements.{all_at}
use Rattle.can_model.proofs.Placed.{placed, not_long}
use Rattle.name_rules.specs.declared.table.MessageNames.{MessageNames}
use Rattle.name_rules.specs.declared.table.SignalNames.{SignalNames}
use Rattle.name_rules.specs.Distinct.{are_distinct}
use Rattle.c_text.specs.declared.token.IntType.{IntType}
use Rattle.c_text.specs.declared.token.IntType.TheVariants as t
use Rattle.c_text.specs.declared.token.Spelled.TheVariants.{Plain, Size}
use Rattle.c_tree.specs.declared.expression.BinaryOp.TheVariants.{Less}
use Rattle.c_tree.specs.declared.expression.UnaryOp.TheVariants.{Minus}
use Rattle.c_tree.specs.declared.item.CType.{CType}
use Rattle.c_tree.specs.declared.item.CType.TheVariants.{Integer}
use Rattle.c_tree.specs.declared.item.Field.{Field}
use Rattle.c_tree.specs.BareExpression.{Tree, bracket, name}
use Rattle.c_tree.specs.BareStatement.{Action}
use Rattle.cg_out.specs.Words.{look_up}
use Rattle.c_widths.specs.IntegerType.{size_type}
use Rattle.c_widths.specs.Promotion.{promote}
use Rattle.c_operators.proofs.Models.{IsOneOf}
use Rattle.c_types.specs.Scope.{Declared, Scope, opened}
use Rattle.c_types.specs.Setting.{Setting, declared_by}
use Rattle.c_effect.proofs.Locals.{same-name}
use Rattle.c_effect.proofs.Placeless.{no_place, grown, grown_stmt, grown_field}
use Rattle.c_alike.proofs.TypedExpressions.{IsNumber, typed-int, typed-unsigned, typed-name, typed-bracket, typed-unary, typed-binary}
use Rattle.c_alike.proofs.TypedStatements.{IsTyped, AreTyped, typed-nil, typed-cons, typed-if, typed-block, typed-return_value, typed-memset, typed-discard}
use Rattle.bit_layout.specs.declared.walk.Segment.{Segment}
use Rattle.bit_layout.specs.Covers.{Covers, IsWithin}
use Rattle.bit_layout.specs.Segments.{segments_of}
use Rattle.bit_layout.proofs.Covering.{segments-cover}
use Rattle.shift_helpers.specs.declared.helper.HelperKind.{HelperKind}
use Rattle.shift_helpers.specs.declared.helper.HelperKind.TheVariants as h
use Rattle.shift_helpers.specs.HelperResult.{IsWidth}
use Rattle.shift_helpers.specs.HelperTree.{helper_name}
use Rattle.gen_pack.specs.SegmentMove.{width_of, pack_kind}
use Rattle.gen_pack.specs.StructFields.{field_type, fields_of, or_dummy, struct_fields}
use Rattle.gen_pack.specs.Parts.{Part, parts_from, parts_of}
use Rattle.gen_pack.specs.Named.{IsNamed}
use Rattle.gen_pack.specs.Switches.{HasNoParent}
use Rattle.gen_pack.specs.PackTree.{buffer, source, size, number, unsigned, declared, all_put, returned, size_below, negative, size_asked, cleared, unread, long_body, empty_body, message_body, parameters}
use Rattle.gen_pack.proofs.Members.{Among, all-if}
use Rattle.gen_pack.proofs.OwnLocals.{IsOther, IsFree, HaveOwn, have-own, all-free, flipped-names, and-left, and-right}
use Rattle.gen_pack.proofs.Segments.{pack-call, segments-inside}
use Rattle.gen_pack.proofs.Putting.{width-is}
use Rattle.gen_pack.proofs.Fields.{later-name}
use Rattle.gen_pack.proofs.Flat.{all-put-flat, signal-at}
use Rattle.gen_items.proofs.TypedWords.{IsPlain, ArePlain, all-plain}
use Rattle.gen_items.proofs.TypedScope.{with_locals, at_top, type-shown, kept-all, none-all, IsNewIn, AreNewIn, all-have}
use Rattle.gen_items.proofs.TypedSignals.{AreQuiet, quiet-then, declarations-typed, HasParameters, ShowsHelpers, IsCallable, IsSmall, IsReady, parts-typed}

-- ---- behind the declarations of the locals

parameters-kept : (tag : List ℕ) (xs : List Part) (inner : Declared) → HasParameters tag inner → HasParameters tag (with_locals xs inner)
parameters-kept tag xs inner has = record {
  buffer_is = kept-all buffer _ xs inner has.buffer_is;
  source_is = kept-all source _ xs inner has.source_is;
  size_is = kept-all size _ xs inner has.size_is;
}

other-helper : (kind : HelperKind) (w : ℕ) (o : Option (List ℕ)) → IsWidth w → IsPlain o → IsOther (helper_name kind w) o
other-helper kind w None iw plain = tt
other-helper kind w (Some n) iw plain = plain.1 kind w iw

other-helpers : (kind : HelperKind) (w : ℕ) (xs : List Part) → IsWidth w → ArePlain xs → AllByRecursion (λ x. IsOther (helper_name kind w) (Part.names x).local) xs
other-helpers kind w [] iw plain = tt
other-helpers kind w (x ∷ xs) iw plain = (other-helper kind w x.names.local iw plain.0, other-helpers kind w xs iw plain.1)

helpers-shown : (xs : List Part) (inner : Declared) → ShowsHelpers inner → ArePlain xs → ShowsHelpers (with_locals xs inner)
helpers-shown xs inner shows plain kind w iw = none-all (helper_name kind w) xs inner (shows kind w iw) (other-helpers kind w xs iw plain)

-- ---- the parameters

abbrev pub from_parameters : List ℕ → Declared
from_parameters tag = declared_by (map grown_field (parameters tag))

parameters-are : (tag : List ℕ) → HasParameters tag (from_parameters tag)
unfolding buffer source size
parameters-are tag = record { buffer_is = refl; source_is = refl; size_is = refl }

shown-first : (tag : List ℕ) → ShowsHelpers (from_parameters tag)
unfolding buffer source size helper_name
shown-first tag h.PackLeft w iw = refl
shown-first tag h.PackRight w iw = refl
shown-first tag h.UnpackLeft w iw = refl
shown-first tag h.UnpackRight w iw = refl

new-local : (tag : List ℕ) (o : Option (List ℕ)) → IsOther buffer o → IsOther source o → IsOther size o → IsNewIn (from_parameters tag) o
new-local tag None a b c = tt
new-local tag (Some n) a b c = rw (flipped-names n buffer a, flipped-names n source b, flipped-names n size c) refl

new-locals : (tag : List ℕ) (xs : List Part) → AllByRecursion IsFree xs → AreNewIn (from_parameters tag) xs
new-locals tag [] free = tt
new-locals tag (x ∷ xs) free = (new-local tag x.names.local free.0.of_buffer free.0.of_source free.0.of_size, new-locals tag xs free.1)

-- ---- the fields of the struct

abbrev names_of : List SignalNames → List (List ℕ)
names_of ns = map (λ n. n.field) ns

field-from : (i : ℕ) (ss : List Signal) (ns : List SignalNames) → are_distinct (names_of ns) ≡ true → (x : Part) → Among x (parts_from i ss ns)
    → look_up x.names.field (declared_by (map grown_field (fields_of ss ns))) ≡ Some (Integer (field_type x.signal))
field-from i [] ns distinct x among = absurd among
field-from i (s ∷ ss) [] distinct x among = absurd among
field-from i (s ∷ ss) (n ∷ ns) distinct x (inl is) =
    subst (λ v. look_up (Part.names v).field (declared_by (map grown_field (fields_of (s ∷ ss) (n ∷ ns)))) ≡ Some (Integer (field_type (Part.signal v)))) (sym is) (rw (same-name n.field) refl)
field-from i (s ∷ ss) (n ∷ ns) distinct x (inr among) =
    let other : bytes_eq n.field x.names.field ≡ false = later-name n.field (suc i) ss ns x among (and-left (not (list_any (bytes_eq n.field) (names_of ns))) (are_distinct (names_of ns)) distinct) in
    rw other (field-from (suc i) ss ns (and-right (not (list_any (bytes_eq n.field) (names_of ns))) (are_distinct (names_of ns)) distinct) x among)

field-there : (ss : List Signal) (ns : List SignalNames) → are_distinct (names_of ns) ≡ true → (x : Part) → Among x (parts_from 0 ss ns)
    → look_up x.names.field (declared_by (map grown_field (or_dummy (fields_of ss ns)))) ≡ Some (Integer (field_type x.signal))
field-there [] ns distinct x among = absurd among
field-there (s ∷ ss) [] distinct x among = absurd among
field-there (s ∷ ss) (n ∷ ns) distinct x among = field-from 0 (s ∷ ss) (n ∷ ns) distinct x among

-- ---- the numbers of segments

small-segments : (s : Signal) (n : ℕ) (gs : List Segment) → n ≤ 2048 → IsPlaced s n → AllByRecursion (IsWithin s.length) gs → AllByRecursion (λ g. g.byte < n) gs → AllByRecursion IsSmall gs
small-segments s n [] few p within inside = tt
small-segments s n (g ∷ gs) few p within inside =
    let w = width-is s.length p.bits in
    let c = pack-call (width_of s) s.length g w.0 w.1 within.0 in
    (record { byte = omega (arith, inside.0); shift = omega (arith, c.small); mask = omega (arith, c.mask) }, small-segments s n gs few p within.1 inside.1)

-- ---- single statements

abbrev pub int : CType
int = Integer (Plain t.Int)

module _ (s : Setting) (one : IsOneOf s.model) where
  returned-typed : (scope : Scope) (x : Tree) (type : IntType) → IsNumber s scope (grown x) type → IsTyped s int scope (grown_stmt (returned x)) []
  returned-typed scope x type is = typed-return_value s int scope no_place (grown (bracket x)) type refl (typed-bracket s scope no_place (grown x) type is)

  answer-typed : (scope : Scope) (n : ℕ) → n < 2 ^ 31 → IsTyped s int scope (grown_stmt (returned (number n))) []
  answer-typed scope n few = returned-typed scope (number n) t.Int (typed-int s scope one no_place n few)

  refused-typed : (scope : Scope) → IsTyped s int scope (grown_stmt (returned (negative (number 22)))) []
  refused-typed scope = returned-typed scope (negative (number 22)) (promote s.model t.Int) (typed-unary s scope no_place Minus (grown (number 22)) t.Int (promote s.model t.Int) (typed-int s scope one no_place 22 (omega arith)) refl)

  module _ (tag : List ℕ) (inner : Declared) (has : HasParameters tag inner) where
    abbrev here : Scope
    here = at_top inner

    asked-typed : (n : ℕ) → n < 2 ^ 32 → IsTyped s int here (grown_stmt (size_asked (number 22) n)) []
    asked-typed n few =
        let condition : IsNumber s here (grown (size_below n)) t.Int =
        typed-binary s here no_place Less (grown (name size)) (grown (unsigned n 10)) (size_type s.model) t.UnsignedInt t.Int
        (typed-name s here no_place size Size (type-shown size _ inner has.size_is)) (typed-unsigned s here one no_place n 10 few) refl in
        let block = typed-cons s int (opened here) (grown_stmt (returned (negative (number 22)))) [] [] (refused-typed (opened here)) (typed-nil s int (opened here)) in
        typed-if s int here no_place (grown (size_below n)) _ t.Int condition (typed-block s int here no_place _ block)

    cleared-typed : (n : ℕ) → n < 2 ^ 32 → IsTyped s int here (grown_stmt (cleared n)) []
    cleared-typed n few =
        typed-memset s int here no_place no_place buffer (grown (number 0)) (grown (unsigned n 10)) t.Int t.UnsignedInt (type-shown buffer _ inner has.buffer_is)
        (typed-int s here one no_place 0 (omega arith)) (typed-unsigned s here one no_place n 10 few)

    unread-typed : (xs : List Part) → AreQuiet s int here (unread xs)
    unread-typed [] = (typed-discard s int here no_place source _ (type-shown source _ inner has.source_is), tt)
    unread-typed (x ∷ xs) = tt

    empty-typed : AreTyped s int here (map grown_stmt empty_body)
    unfolding empty_body
    empty-typed =
        typed-cons s int here _ [] _ (typed-discard s int here no_place buffer _ (type-shown buffer _ inner has.buffer_is))
        (typed-cons s int here _ [] _ (typed-discard s int here no_place source _ (type-shown source _ inner has.source_is))
        (typed-cons s int here _ [] _ (typed-discard s int here no_place size _ (type-shown size _ inner has.size_is))
        (typed-cons s int here _ [] _ (answer-typed here 0 (omega arith)) (typed-nil s int here))))

-- ---- the body of a message

-- the helpers of a signal's segments may be called
abbrev pub CallsHelpers : Setting → Signal → Type 0
CallsHelpers s signal = AllByRecursion (λ g. IsCallable s (pack_kind g) (width_of signal)) (segments_of signal)

-- the fields of its struct
abbrev pub grown_fields : Message → MessageNames → List Field
grown_fields message names = map grown_field (struct_fields message names)

module _ (s : Setting) (one : IsOneOf s.model) (message : Message) (names : MessageNames) (named : IsNamed message names) (valid : IsOfValidDatabase message) (flat : AllByRecursion HasNoParent message.signals)
    (found : s.fields names.tag ≡ Some (grown_fields message names)) (callable : AllByRecursion (CallsHelpers s) message.signals) where
  abbrev parts : List Part
  parts = parts_of message names

  ready : (x : Part) → Among x parts → IsReady s (grown_fields message names) x
  ready x among =
      let at = signal-at message names x among in
      let p : IsPlaced x.signal message.length = placed message x.index x.signal valid at in
      let c : Covers x.signal (segments_of x.signal) = segments-cover x.signal in
      record {
        field_is = field-there message.signals names.signals named.fields.distinct x among;
        width = (width-is x.signal.length p.bits).0;
        callable = all_at (CallsHelpers s) message.signals x.index x.signal callable at;
        small = small-segments x.signal message.length (segments_of x.signal) (not_long message valid) p c.within (segments-inside x.signal message.length (segments_of x.signal) p.inside c.within c.places);
      }

  abbrev first : Declared
  first = from_parameters names.tag

  abbrev behind_locals : Declared
  behind_locals = with_locals parts first

  put-typed : AreQuiet s int (at_top behind_locals) (all_put parts)
  put-typed =
      let has : HasParameters names.tag behind_locals = parameters-kept names.tag parts first (parameters-are names.tag) in
      let shows : ShowsHelpers behind_locals = helpers-shown parts first (shown-first names.tag) (all-plain message names named.locals) in
      let own : HaveOwn parts = have-own message names named.locals in
      let new : AreNewIn first parts = new-locals names.tag parts (all-free message names named.locals) in
      subst (AreQuiet s int (at_top behind_locals)) (sym (all-put-flat message.signals names.signals flat))
      (parts-typed s one int names.tag (grown_fields message names) found behind_locals has shows parts (all-if (IsReady s (grown_fields message names)) parts ready) (all-have parts first new own))

  abbrev last_statements : List Action
  last_statements = all_put parts ++ returned (number message.length) ∷ []

  abbrev behind_declarations : List Action
  behind_declarations = size_asked (number 22) message.length ∷ cleared message.length ∷ last_statements

  behind-typed : AreTyped s int (at_top behind_locals) (map grown_stmt behind_declarations)
  behind-typed =
      let few : message.length ≤ 2048 = not_long message valid in
      let there : Scope = at_top behind_locals in
      let has : HasParameters names.tag behind_locals = parameters-kept names.tag parts first (parameters-are names.tag) in
      let last : AreTyped s int there (map grown_stmt last_statements) =
      quiet-then s int there (all_put parts) (returned (number message.length) ∷ []) put-typed
      (typed-cons s int there (grown_stmt (returned (number message.length))) [] [] (answer-typed s one there message.length (omega (arith, few))) (typed-nil s int there)) in
      typed-cons s int there (grown_stmt (size_asked (number 22) message.length)) [] (map grown_stmt (cleared message.length ∷ last_statements)) (asked-typed s one names.tag behind_locals has message.length (omega (arith, few)))
      (typed-cons s int there (grown_stmt (cleared message.length)) [] (map grown_stmt last_statements) (cleared-typed s one names.tag behind_locals has message.length (omega (arith, few))) last)

  long-typed : AreTyped s int (at_top first) (map grown_stmt (long_body (number 22) message.length parts))
  unfolding long_body
  long-typed =
      quiet-then s int (at_top first) (unread parts) (flat_map declared parts ++ behind_declarations) (unread-typed s one names.tag first (parameters-are names.tag) parts)
      (declarations-typed s int parts first behind_declarations (new-locals names.tag parts (all-free message names named.locals)) (have-own message names named.locals) (all-plain message names named.locals) behind-typed)

  -- where the function's own parameters are declared
  pub body-typed : AreTyped s int (at_top (from_parameters names.tag)) (map grown_stmt (message_body (number 22) message names))
  body-typed = by (message.length == 0) where
    by : (b : Bool) → AreTyped s int (at_top (from_parameters names.tag)) (map grown_stmt (if b then empty_body else long_body (number 22) message.length (parts_of message names)))
    by true = empty-typed s one names.tag (from_parameters names.tag) (parameters-are names.tag)
    by false = long-typed
