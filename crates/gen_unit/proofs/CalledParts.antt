-- The helpers that are called, in one row or in several.
use Rattle.std.proofs.Common.{◌≡◌, ℕ, zero, suc, ◌<◌, Bool, true, false, cond, List, [], ◌∷◌, ◌++◌, length, slice_index_or, refl, sym, ap, subst, ◌∙◌, append_assoc, arith}
use Rattle.std.specs.List.{AllByRecursion, filter, flat_map, zip}
use Rattle.std.proofs.lemmas.List.Concat.{flat_map-append}
use Rattle.can_model.specs.declared.database.Message.{Message}
use Rattle.name_rules.specs.declared.table.MessageNames.{MessageNames}
use Rattle.c_tree.specs.BareExpression.{name}
use Rattle.c_tree.specs.BareUnit.{BareItem}
use Rattle.c_printed.specs.PrintedUnit.{Part, blank, part_text, unit_text}
use Rattle.shift_helpers.specs.declared.helper.HelperKind.TheVariants.{PackLeft, PackRight, UnpackLeft, UnpackRight}
use Rattle.gen_types.specs.HelperList.{every_helper}
use Rattle.gen_pack.specs.PackTree.{error_name}
use Rattle.shift_helpers.specs.declared.helper.HelperKind.{HelperKind}
use Rattle.gen_items.specs.CalledHelpers.{is_called, called_helpers}
use Rattle.gen_items.specs.UnitItems.{helper_items, defined_items}
use Rattle.gen_unit.specs.Source.{separated, function_part, called_parts, of_kind, source_items}

module _ (ms : List Message) where
  called-both : (xs ys : List (HelperKind × ℕ)) → called_parts ms (xs ++ ys) ≡ called_parts ms xs ++ called_parts ms ys
  called-both [] ys = refl
  called-both (x ∷ xs) ys = by (is_called ms x) (called-both xs ys)
    where
      by : (b : Bool) → called_parts ms (xs ++ ys) ≡ called_parts ms xs ++ called_parts ms ys
          → separated (helper_items (cond b (x ∷ filter (is_called ms) (xs ++ ys)) (filter (is_called ms) (xs ++ ys))))
          ≡ separated (helper_items (cond b (x ∷ filter (is_called ms) xs) (filter (is_called ms) xs))) ++ called_parts ms ys
      by true h = ap (λ (r : List Part). separated (helper_items (x ∷ [])) ++ r) h
      by false h = h

  -- put one behind another
  two-called : (before : List Part) (xs ys : List (HelperKind × ℕ)) → (before ++ called_parts ms xs) ++ called_parts ms ys ≡ before ++ called_parts ms (xs ++ ys)
  two-called before xs ys = append_assoc before (called_parts ms xs) (called_parts ms ys) ∙ ap (λ (r : List Part). before ++ r) (sym (called-both xs ys))

  -- those of one kind behind those of another are all
  all-kinds : (before : List Part)
      → (((before ++ called_parts ms (of_kind PackLeft)) ++ called_parts ms (of_kind PackRight)) ++ called_parts ms (of_kind UnpackLeft)) ++ called_parts ms (of_kind UnpackRight)
      ≡ before ++ called_parts ms every_helper
  all-kinds before =
      let left : List (HelperKind × ℕ) = of_kind PackLeft ++ of_kind PackRight in
      ap (λ (r : List Part). (r ++ called_parts ms (of_kind UnpackLeft)) ++ called_parts ms (of_kind UnpackRight)) (two-called before (of_kind PackLeft) (of_kind PackRight))
      ∙ ap (λ (r : List Part). r ++ called_parts ms (of_kind UnpackRight)) (two-called before left (of_kind UnpackLeft))
      ∙ two-called before (left ++ of_kind UnpackLeft) (of_kind UnpackRight)

  pub four-kinds : (before one two three four : List Part) → one ≡ before ++ called_parts ms (of_kind PackLeft) → two ≡ one ++ called_parts ms (of_kind PackRight)
      → three ≡ two ++ called_parts ms (of_kind UnpackLeft) → four ≡ three ++ called_parts ms (of_kind UnpackRight) → four ≡ before ++ called_parts ms every_helper
  four-kinds before one two three four a b c d = rw (d, c, b, a) (all-kinds before)

-- ---- functions of messages

-- what a message with its names puts
abbrev pub parts_of_message : Message × MessageNames → List Part
parts_of_message p = separated (defined_items (name error_name) (p ∷ []))

-- its text
abbrev pub text_of_message : Message × MessageNames → List ℕ
text_of_message p = unit_text (parts_of_message p)

text-both : (xs ys : List Part) → unit_text (xs ++ ys) ≡ unit_text xs ++ unit_text ys
text-both xs ys = flat_map-append part_text xs ys

texts-apart : (ps : List (Message × MessageNames)) → flat_map text_of_message ps ≡ unit_text (separated (defined_items (name error_name) ps))
texts-apart [] = refl
texts-apart (p ∷ ps) =
    ap (λ (r : List ℕ). text_of_message p ++ r) (texts-apart ps)
    ∙ sym (text-both (parts_of_message p) (separated (defined_items (name error_name) ps)))

pub by-message : (ms : List Message) (ns : List MessageNames) → flat_map text_of_message (zip ms ns) ≡ unit_text (separated (defined_items (name error_name) (zip ms ns)))
by-message ms ns = texts-apart (zip ms ns)

-- ---- the whole

separated-both : (xs ys : List BareItem) → separated (xs ++ ys) ≡ separated xs ++ separated ys
separated-both xs ys = flat_map-append (λ i. blank ∷ function_part i) xs ys

-- the opening, the helpers and the functions
source-is : (opening : List Part) (ms : List Message) (ns : List MessageNames)
    → (opening ++ called_parts ms every_helper) ++ separated (defined_items (name error_name) (zip ms ns)) ≡ opening ++ separated (source_items ms ns)
source-is opening ms ns =
    append_assoc opening (called_parts ms every_helper) (separated (defined_items (name error_name) (zip ms ns)))
    ∙ ap (λ (r : List Part). opening ++ r) (sym (separated-both (helper_items (called_helpers ms)) (defined_items (name error_name) (zip ms ns))))

-- the text of both behind other bytes
pub text-is : (before front after : List ℕ) (opening : List Part) (ms : List Message) (ns names : List MessageNames) → ns ≡ names
    → front ≡ before ++ unit_text (opening ++ called_parts ms every_helper) → after ≡ front ++ unit_text (separated (defined_items (name error_name) (zip ms ns)))
    → after ≡ before ++ unit_text (opening ++ separated (source_items ms names))
text-is before front after opening ms ns names e h k =
    let head : List Part = opening ++ called_parts ms every_helper in
    let tail : List Part = separated (defined_items (name error_name) (zip ms ns)) in
    k ∙ ap (λ (r : List ℕ). r ++ unit_text tail) h ∙ append_assoc before (unit_text head) (unit_text tail)
    ∙ ap (λ (r : List ℕ). before ++ r) (sym (text-both head tail) ∙ ap unit_text (source-is opening ms ns) ∙ ap (λ (x : List MessageNames). unit_text (opening ++ separated (source_items ms x))) e)

-- ---- in a loop

-- what all are, the one at an index is
pub at-index : {A : Type 0} (P : A → Type 0) (xs : List A) (i : ℕ) (x : A) → AllByRecursion P xs → i < length xs → x ≡ slice_index_or xs i x → P x
at-index P [] i x all few is = absurd (omega (arith, few))
at-index P (y ∷ ys) zero x all few is = subst P (sym is) all.0
at-index P (y ∷ ys) (suc i) x all few is = let fewer : i < length ys = omega (arith, few) in at-index P ys i x all.1 fewer is
