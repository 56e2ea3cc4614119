-- A message's struct and prototype may be printed, where its names are its own.
use Rattle.std.proofs.Common.{◌≡◌, ℕ, true, false, ◌||◌, List, [], ◌∷◌, ◌++◌, map, None, refl, ap, ◌∙◌}
use Rattle.std.specs.Prelude.{codes}
use Rattle.std.specs.List.{AllByRecursion, flat_map}
use Rattle.can_model.specs.declared.database.Signal.{Signal}
use Rattle.can_model.specs.RawValue.{field_bits}
use Rattle.name_rules.specs.declared.table.MessageNames.{MessageNames}
use Rattle.name_rules.specs.declared.table.SignalNames.{SignalNames}
use Rattle.name_rules.specs.Reserved.{keywords, given_names, sized_types, parameter_names, helper_names, is_among, is_reserved, is_reserved_local}
use Rattle.name_rules.specs.Symbols.{one_or_none, file_names_of_signal, file_names_of_message, field_names, local_names}
use Rattle.name_rules.specs.Names.{is_c_name, AreApart}
use Rattle.c_tree.specs.BareUnit.{BareField, struct, function}
use Rattle.c_printed.specs.PrintedItem.{Field}
use Rattle.c_printed.specs.PrintedItem as item
use Rattle.c_printed.specs.Printable.{w8}
use Rattle.c_printed.specs.PrintableItem.{IsField, IsSome, IsHead}
use Rattle.c_printed.specs.Settled.{NamedStands, SettlesItem}
use Rattle.c_printed.specs.State.{State, becomes, meaning}
use Rattle.gen_pack.specs.StructFields.{fields_of, dummy, or_dummy, struct_fields}
use Rattle.gen_pack.specs.StructFields as fields
use Rattle.gen_pack.specs.PackTree.{buffer, source, size, pack_head}
use Rattle.gen_unit.specs.HeaderStruct.{about_signal, commented_fields, or_bare_dummy}
use Rattle.gen_printed.proofs.Settling.{printed-width}
use Rattle.gen_unit.proofs.Letters.{begins_large, HasLetters}
use Rattle.gen_unit.proofs.Comments.{shown}
use Rattle.gen_unit.proofs.Names.{either_false}
use Rattle.gen_unit.proofs.OwnNames.{IsOwn, is-own, Knows, name-stands, exact-stands, size-stands, int-stands}

-- ---- names

-- the struct, its fields, the pack function and its locals
pub record HasOwnNames (n : MessageNames) : Type 0 where
  pub tag : IsOwn n.tag
  pub pack : IsOwn n.pack
  pub fields : AllByRecursion (λ (x : SignalNames). IsOwn x.field) n.signals
  pub locals : AllByRecursion IsOwn (local_names n)

module _ (P : List ℕ → Type 0) where
  both-parts : (xs ys : List (List ℕ)) → AllByRecursion P (xs ++ ys) → AllByRecursion P xs × AllByRecursion P ys
  both-parts [] ys h = (tt, h)
  both-parts (x ∷ xs) ys h = let rest = both-parts xs ys h.1 in ((h.0, rest.0), rest.1)

  -- among all names of the file are the tag and the function
  tag-pack : (n : MessageNames) (ns : List MessageNames) → AllByRecursion P (flat_map file_names_of_message (n ∷ ns)) → (P n.tag × P n.pack) × AllByRecursion P (flat_map file_names_of_message ns)
  tag-pack n ns h =
      let four : List (List ℕ) = n.tag ∷ n.pack ∷ n.unpack ∷ n.init ∷ [] in
      let of_signals : List (List ℕ) = flat_map file_names_of_signal n.signals in
      let a = both-parts ((one_or_none n.cycle ++ four) ++ of_signals) (flat_map file_names_of_message ns) h.1.1.1 in
      let b = both-parts (one_or_none n.cycle ++ four) of_signals a.0 in
      let c = both-parts (one_or_none n.cycle) four b.0 in
      ((c.1.0, c.1.1.0), a.1)

own-fields : (xs : List SignalNames) → AllByRecursion (λ x. is_c_name x ≡ true) (map (λ x. x.field) xs) → AllByRecursion (λ x. is_reserved x ≡ false) (map (λ x. x.field) xs)
    → AllByRecursion (λ x. begins_large x ≡ false) (map (λ x. x.field) xs) → AllByRecursion (λ (x : SignalNames). IsOwn x.field) xs
own-fields [] h f e = tt
own-fields (x ∷ xs) h f e = (is-own x.field h.0 f.0 e.0, own-fields xs h.1 f.1 e.1)

own-locals : (xs : List (List ℕ)) → AllByRecursion (λ x. is_c_name x ≡ true) xs → AllByRecursion (λ x. is_reserved_local x ≡ false) xs → AllByRecursion (λ x. begins_large x ≡ false) xs → AllByRecursion IsOwn xs
own-locals [] h f e = tt
own-locals (x ∷ xs) h f e =
    let first = either_false (is_reserved x || is_among parameter_names x) (is_among helper_names x) f.0 in
    (is-own x h.0 (either_false (is_reserved x) (is_among parameter_names x) first.0).0 e.0, own-locals xs h.1 f.1 e.1)

pub own-names : (ns : List MessageNames) → AllByRecursion (λ x. is_c_name x ≡ true) (flat_map file_names_of_message ns) → AllByRecursion (λ x. is_reserved x ≡ false) (flat_map file_names_of_message ns)
    → AllByRecursion (λ n. AreApart is_reserved (field_names n)) ns → AllByRecursion (λ n. AreApart is_reserved_local (local_names n)) ns → AllByRecursion HasLetters ns → AllByRecursion HasOwnNames ns
own-names [] words free apart locals letters = tt
own-names (n ∷ ns) words free apart locals letters =
    let w = tag-pack (λ x. is_c_name x ≡ true) n ns words in
    let f = tag-pack (λ x. is_reserved x ≡ false) n ns free in (
      record {
        tag = is-own n.tag w.0.0 f.0.0 letters.0.tag;
        pack = is-own n.pack w.0.1 f.0.1 letters.0.pack;
        fields = own-fields n.signals apart.0.words apart.0.free letters.0.fields;
        locals = own-locals (local_names n) locals.0.words locals.0.free letters.0.locals;
      },
      own-names ns w.1 f.1 apart.1 locals.1 letters.1,
    )

dummy-own : IsOwn (codes "dummy")
unfolding keywords given_names sized_types
dummy-own = is-own (codes "dummy") refl refl refl

pub buffer-own : IsOwn buffer
unfolding keywords given_names sized_types buffer
buffer-own = is-own buffer refl refl refl

pub source-own : IsOwn source
unfolding keywords given_names sized_types source
source-own = is-own source refl refl refl

pub size-own : IsOwn size
unfolding keywords given_names sized_types size
size-own = is-own size refl refl refl

-- ---- the struct

fields-right : (ss : List Signal) (ns : List SignalNames) → AllByRecursion (λ (x : SignalNames). IsOwn x.field) ns → AllByRecursion IsField (commented_fields ss ns)
fields-right [] ns own = tt
fields-right (s ∷ ss) [] own = tt
fields-right (s ∷ ss) (n ∷ ns) own = (record { about = shown (about_signal s); kind = printed-width s.length; name = own.0.free }, fields-right ss ns own.1)

dummy-right : (fs : List Field) → AllByRecursion IsField fs → AllByRecursion IsField (or_bare_dummy fs)
dummy-right [] h = (record { about = tt; kind = w8; name = dummy-own.free }, tt)
dummy-right (f ∷ fs) h = h

some-field : (fs : List Field) → IsSome (or_bare_dummy fs)
some-field [] = tt
some-field (f ∷ fs) = tt

same-each : (ss : List Signal) (ns : List SignalNames) → map item.field_of (commented_fields ss ns) ≡ fields_of ss ns
same-each [] ns = refl
same-each (s ∷ ss) [] = refl
same-each (s ∷ ss) (n ∷ ns) = ap (λ (fs : List BareField). fields.field_of s n ∷ fs) (same-each ss ns)

same-dummy : (fs : List Field) → map item.field_of (or_bare_dummy fs) ≡ or_dummy (map item.field_of fs)
same-dummy [] = refl
same-dummy (f ∷ fs) = refl

pub same-fields : (ss : List Signal) (ns : List SignalNames) → map item.field_of (or_bare_dummy (commented_fields ss ns)) ≡ or_dummy (fields_of ss ns)
same-fields ss ns = same-dummy (commented_fields ss ns) ∙ ap or_dummy (same-each ss ns)

module _ (s : State) (k : Knows s) where
  fields-stand : (ss : List Signal) (ns : List SignalNames) → AllByRecursion (λ (x : SignalNames). IsOwn x.field) ns → AllByRecursion (NamedStands (becomes s)) (map item.field_of (commented_fields ss ns))
  fields-stand [] ns own = tt
  fields-stand (x ∷ ss) [] own = tt
  fields-stand (x ∷ ss) (n ∷ ns) own = ((exact-stands s k (field_bits x.length) x.signed (printed-width x.length), name-stands s k n.field own.0), fields-stand ss ns own.1)

  dummy-stands : (fs : List Field) → AllByRecursion (NamedStands (becomes s)) (map item.field_of fs) → AllByRecursion (NamedStands (becomes s)) (map item.field_of (or_bare_dummy fs))
  dummy-stands [] h = ((exact-stands s k 8 false w8, name-stands s k (codes "dummy") dummy-own), tt)
  dummy-stands (f ∷ fs) h = h

  -- ---- both in a text where this is known

  pub struct-settles : (ss : List Signal) (n : MessageNames) → HasOwnNames n
      → SettlesItem (becomes s) (meaning s) (struct n.tag (map item.field_of (or_bare_dummy (commented_fields ss n.signals))))
  struct-settles ss n own = (name-stands s k n.tag own.tag, dummy-stands (commented_fields ss n.signals) (fields-stand ss n.signals own.fields))

  pub prototype-settles : (n : MessageNames) → HasOwnNames n → SettlesItem (becomes s) (meaning s) (function (pack_head n) None)
  prototype-settles n own = (
    (
      int-stands s k,
      name-stands s k n.pack own.pack,
      (
        (exact-stands s k 8 false w8, name-stands s k buffer buffer-own),
        ((name-stands s k n.tag own.tag, name-stands s k source source-own), ((size-stands s k, name-stands s k size size-own), tt)),
      ),
    ),
    tt,
  )

pub struct-fields-right : (ss : List Signal) (n : MessageNames) → HasOwnNames n → AllByRecursion IsField (or_bare_dummy (commented_fields ss n.signals))
struct-fields-right ss n own = dummy-right (commented_fields ss n.signals) (fields-right ss n.signals own.fields)

pub struct-is-some : (ss : List Signal) (n : MessageNames) → IsSome (or_bare_dummy (commented_fields ss n.signals))
struct-is-some ss n = some-field (commented_fields ss n.signals)

pub head-right : (n : MessageNames) → HasOwnNames n → IsHead (pack_head n)
head-right n own = record {
  returns = tt;
  name = own.pack.free;
  params = ((tt, buffer-own.free), ((own.tag.free, source-own.free), ((tt, size-own.free), tt)));
}
