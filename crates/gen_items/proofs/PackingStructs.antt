-- The struct of a message is found by its tag, among the unit's.
use Rattle.std.proofs.Common.{◌≡◌, ℕ, true, not, List, [], ◌∷◌, ◌++◌, map, Option, Some, None, inl, inr, refl, sym, subst}
use Rattle.std.specs.Prelude.{option_map}
use Rattle.std.specs.List.{list_any}
use Rattle.std.specs.Str.{bytes_eq}
use Rattle.can_model.specs.declared.database.Message.{Message}
use Rattle.name_rules.specs.declared.table.MessageNames.{MessageNames}
use Rattle.name_rules.specs.Distinct.{are_distinct}
use Rattle.c_tree.specs.declared.item.Field.{Field}
use Rattle.c_tree.specs.BareUnit.{BareField, BareItem, bare_field}
use Rattle.cg_out.specs.Words.{look_up}
use Rattle.c_types.specs.Setting.{structs}
use Rattle.c_effect.proofs.Locals.{same-name}
use Rattle.c_effect.proofs.Placeless.{grown_field, grown_item, placeless_field}
use Rattle.gen_pack.specs.StructFields.{struct_fields}
use Rattle.gen_pack.proofs.Members.{Among}
use Rattle.gen_pack.proofs.OwnLocals.{and-left, and-right}
use Rattle.gen_items.specs.UnitItems.{declared_items}
use Rattle.gen_items.proofs.PackingPairs.{other-name}

-- ---- fields, but for places

same-fields : (given : List Field) (fields : List BareField) → map placeless_field given ≡ map grown_field fields → map bare_field given ≡ fields
same-fields [] [] h = refl
same-fields [] (b ∷ bs) h = absurd (cc)
same-fields (f ∷ fs) [] h = absurd (cc)
same-fields (f ∷ fs) (b ∷ bs) h =
    let first : placeless_field f ≡ grown_field b = cc in
    let rest : map placeless_field fs ≡ map grown_field bs = cc in
    λ i. bare_field (first i) ∷ same-fields fs bs rest i

pub record FindsFields (found : Option (List Field)) (fields : List BareField) : Type 0 where
  pub given : List Field
  pub there : found ≡ Some given
  pub are : map bare_field given ≡ fields

pub finds-fields : (found : Option (List Field)) (fields : List BareField) → option_map (map placeless_field) found ≡ Some (map grown_field fields) → FindsFields found fields
finds-fields None fields h = absurd (cc)
finds-fields (Some given) fields h =
    let same : map placeless_field given ≡ map grown_field fields = cc in
    record { given = given; there = refl; are = same-fields given fields same }

-- ---- by its tag

abbrev pub tag_of : Message × MessageNames → List ℕ
tag_of p = p.1.tag

pub finds-tag : (pairs : List (Message × MessageNames)) (rest : List BareItem) (p : Message × MessageNames) → Among p pairs → are_distinct (map tag_of pairs) ≡ true
    → look_up p.1.tag (structs (map grown_item (declared_items pairs ++ rest))) ≡ Some (map grown_field (struct_fields p.0 p.1))
finds-tag [] rest p a distinct = absurd a
finds-tag (q ∷ qs) rest p (inl e) distinct =
    subst (λ (x : Message × MessageNames). look_up x.1.tag (structs (map grown_item (declared_items (q ∷ qs) ++ rest))) ≡ Some (map grown_field (struct_fields x.0 x.1))) (sym e)
    (rw (same-name q.1.tag) refl)
finds-tag (q ∷ qs) rest p (inr a) distinct =
    let none = and-left (not (list_any (bytes_eq q.1.tag) (map tag_of qs))) (are_distinct (map tag_of qs)) distinct in
    let later = and-right (not (list_any (bytes_eq q.1.tag) (map tag_of qs))) (are_distinct (map tag_of qs)) distinct in
    rw (other-name tag_of q.1.tag p qs a none) (finds-tag qs rest p a later)
