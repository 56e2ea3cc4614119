-- Fields and parameters in a row.
use Rattle.std.proofs.Common.{◌≡◌, ◌&&◌, false, ℕ, ◌+◌, ◌<◌, List, [], ◌∷◌, ◌++◌, length, drop, get_or, bytes_eq, Option, refl, sym, ap, ◌∙◌, arith, append_assoc}
use Rattle.std.proofs.Math.Bool.{and-false}
use Rattle.std.specs.Option.{option_and_then}
use Rattle.std.specs.Prelude.{position}
use Rattle.c_text.specs.Refusal.{Refusal}
use Rattle.c_tree.specs.declared.item.CType.{CType}
use Rattle.c_tree.specs.declared.item.Field.{Field}
use Rattle.c_types.specs.Scope.{Declared}
use Rattle.c_types.specs.Setting.{Setting, declared_by}
use Rattle.c_types.specs.FieldNamed.{numbered, field_named}
use Rattle.c_types.specs.UnitTypes.{same_field, same_fields, field_faults, fields_in_order}
use Rattle.name_table.proofs.Tables.{position-map}
use Rattle.c_types.proofs.Sequences.{front}

pub same_fields-longer : (fs gs : List Field) → (length fs ≡ length gs → ⊥) → same_fields fs gs ≡ false
same_fields-longer [] [] h = absurd (h refl)
same_fields-longer [] (g ∷ gs) h = refl
same_fields-longer (f ∷ fs) [] h = refl
same_fields-longer (f ∷ fs) (g ∷ gs) h = ap (λ r. same_field f g && r) (same_fields-longer fs gs (λ e. h (omega arith))) ∙ and-false (same_field f g)

module _ (s : Setting) where
  -- a field without a fault
  pub fields-step : (list : List Field) (i : ℕ) (f : Field) (table next : Declared) (all : List Refusal) → i < length list → f ≡ get_or list i f
      → field_faults s table f ≡ [] → next ≡ table ++ declared_by (f ∷ [])
      → fields_in_order s table (drop i list) ≡ all → fields_in_order s next (drop (i + 1) list) ≡ all
  fields-step list i f table next all h is none declares left =
      ap (λ t. fields_in_order s t (drop (i + 1) list)) declares
      ∙ sym (ap (λ fs. fs ++ fields_in_order s (table ++ declared_by (f ∷ [])) (drop (i + 1) list)) none)
      ∙ sym (ap (fields_in_order s table) (front list i f h is))
      ∙ left

  -- one with a fault
  pub fields-fault : (list : List Field) (i : ℕ) (f : Field) (table : Declared) (all : List Refusal) → i < length list → f ≡ get_or list i f
      → fields_in_order s table (drop i list) ≡ all
      → all ≡ field_faults s table f ++ fields_in_order s (table ++ declared_by (f ∷ [])) (drop (i + 1) list)
  fields-fault list i f table all h is left = sym left ∙ ap (fields_in_order s table) (front list i f h is)

-- what is declared so far, with what is left
pub declares-step : (list : List Field) (i : ℕ) (f : Field) (table next : Declared) → i < length list → f ≡ get_or list i f
    → next ≡ table ++ declared_by (f ∷ []) → table ++ declared_by (drop i list) ≡ declared_by list → next ++ declared_by (drop (i + 1) list) ≡ declared_by list
declares-step list i f table next h is declares left =
    ap (λ t. t ++ declared_by (drop (i + 1) list)) declares
    ∙ append_assoc table (declared_by (f ∷ [])) (declared_by (drop (i + 1) list))
    ∙ ap (λ fs. table ++ declared_by fs) (sym (front list i f h is))
    ∙ left

-- a field stands where its name does among the declared ones
pub position-declared : (name : List ℕ) (fields : List Field) → position (λ e. bytes_eq name e.0) (declared_by fields) ≡ position (λ f. bytes_eq name f.name) fields
position-declared name fields = position-map (λ (f : Field). (f.name, f.kind)) (λ e. bytes_eq name e.0) fields

-- so the place among the names finds it
pub field_named-place : (name : List ℕ) (fields : List Field) (table : Declared) (place : Option ℕ) → table ≡ declared_by fields → place ≡ position (λ e. bytes_eq name e.0) table
    → field_named name fields ≡ option_and_then (numbered fields) place
field_named-place name fields table place same is =
    ap (option_and_then (numbered fields)) (sym (is ∙ ap (position (λ (e : List ℕ × CType). bytes_eq name e.0)) same ∙ position-declared name fields))
