-- Fields and comments, side by side, are the fields with their comments.
use Rattle.std.proofs.Common.{◌≡◌, ℕ, List, [], ◌∷◌, map, refl, ap, ◌∙◌}
use Rattle.std.specs.List.{zip}
use Rattle.can_model.specs.declared.database.Signal.{Signal}
use Rattle.name_rules.specs.declared.table.SignalNames.{SignalNames}
use Rattle.c_tree.specs.declared.item.Field.{Field}
use Rattle.c_tree.specs.BareUnit.{BareField, bare_field}
use Rattle.c_printed.specs.PrintedItem.{Field as Commented}
use Rattle.c_printer.specs.BarePart.{next_comment, other_comments, with_comments}
use Rattle.gen_pack.specs.StructFields.{field_of, fields_of, or_dummy}
use Rattle.gen_unit.specs.HeaderStruct.{field_comment, commented, commented_fields, or_bare_dummy}

abbrev comments_of : List Signal → List SignalNames → List (List ℕ)
comments_of ss ns = map (λ p. field_comment p.0) (zip ss ns)

-- with fields that are bare already
abbrev beside : List BareField → List (List ℕ) → List Commented
beside [] comments = []
beside (f ∷ fs) comments = record { about = next_comment comments; named = f } ∷ beside fs (other_comments comments)

bare_beside : (fs : List Field) (comments : List (List ℕ)) → with_comments fs comments ≡ beside (map bare_field fs) comments
bare_beside [] comments = refl
bare_beside (f ∷ fs) comments =
    ap (λ (rest : List Commented). record { about = next_comment comments; named = bare_field f } ∷ rest) (bare_beside fs (other_comments comments))

fields_beside : (ss : List Signal) (ns : List SignalNames) → beside (fields_of ss ns) (comments_of ss ns) ≡ commented_fields ss ns
fields_beside [] ns = refl
fields_beside (s ∷ ss) [] = refl
fields_beside (s ∷ ss) (n ∷ ns) = ap (λ (rest : List Commented). commented s n ∷ rest) (fields_beside ss ns)

dummy_beside : (ss : List Signal) (ns : List SignalNames) → beside (or_dummy (fields_of ss ns)) (comments_of ss ns) ≡ or_bare_dummy (commented_fields ss ns)
dummy_beside [] ns = refl
dummy_beside (s ∷ ss) [] = refl
dummy_beside (s ∷ ss) (n ∷ ns) = fields_beside (s ∷ ss) (n ∷ ns)

-- a struct's fields with their comments
pub struct_is : (fs : List Field) (comments : List (List ℕ)) (ss : List Signal) (ns : List SignalNames) → map bare_field fs ≡ or_dummy (fields_of ss ns) → comments ≡ comments_of ss ns
    → with_comments fs comments ≡ or_bare_dummy (commented_fields ss ns)
struct_is fs comments ss ns e f = bare_beside fs comments ∙ (λ i. beside (e i) (f i)) ∙ dummy_beside ss ns

-- the fields, pair by pair
pub fields_by_pairs : (ss : List Signal) (ns : List SignalNames) → map (λ p. field_of p.0 p.1) (zip ss ns) ≡ fields_of ss ns
fields_by_pairs [] ns = refl
fields_by_pairs (s ∷ ss) [] = refl
fields_by_pairs (s ∷ ss) (n ∷ ns) = ap (λ (rest : List BareField). field_of s n ∷ rest) (fields_by_pairs ss ns)
