-- A printed source beside a printed header reads as the items of both, and a printed header alone as its own.
use Rattle.std.proofs.Common.{◌≡◌, ℕ, List, [], ◌∷◌, map, Some, Result, Ok, Err, refl, sym, ap, subst, append-nil}
use Rattle.std.specs.List.{AllByRecursion}
use Rattle.c_text.specs.declared.preprocessed.Preprocessed.{Preprocessed}
use Rattle.c_text.specs.declared.refusal.CKind.{CKind}
use Rattle.c_text.specs.Refusal.{Refusal}
use Rattle.c_text.specs.Preprocessing.{preprocessed_texts}
use Rattle.c_text.specs.BarePreprocessing.{BareLeft, token_kinds, macro_kinds, bare_preprocessed}
use Rattle.c_printed.specs.PrintedUnit.{Part, include_beside, part_text, unit_text}
use Rattle.c_printed.specs.Within.{ItemWithin}
use Rattle.c_printed.specs.State.{State, nothing_known}
use Rattle.c_printed.specs.PrintableUnit.{IsBeside, IsHeaderAt, IsSource}
use Rattle.c_printed.specs.Reread.{header_items, source_items, header_macros, source_macros, macro_tokens}
use Rattle.c_printed.specs.Law.{ReadAsUnit}
use Rattle.c_printed.proofs.UnitReading.{items_tokens}
use Rattle.c_printed.proofs.UnitLeft.{source-left}
use Rattle.c_printed.proofs.UnitFits.{source-fits}
use Rattle.c_recut.proofs.CutUnit.{unit-cut}

record LeftAs (r : Result Preprocessed Refusal) (b : BareLeft) : Type 0 where
  left : Preprocessed
  is : r ≡ Ok left
  tokens : token_kinds left.tokens ≡ b.tokens
  macros : map macro_kinds left.macros ≡ b.macros

abbrev okay : BareLeft → Result BareLeft CKind
okay b = Ok b

same : (x y : BareLeft) → okay x ≡ okay y → x ≡ y
same x y e = cc

left-as : (r : Result Preprocessed Refusal) (b : BareLeft) → bare_preprocessed r ≡ Ok b → LeftAs r b
left-as (Ok p) b e =
    let both = same (record { tokens = token_kinds p.tokens; macros = map macro_kinds p.macros }) b e in
    record { left = p; is = refl; tokens = ap (λ (x : BareLeft). x.tokens) both; macros = ap (λ (x : BareLeft). x.macros) both }
left-as (Err f) b e = cc

pub pair-reads : (name : List ℕ) (header source : List Part) (s : State) → IsHeaderAt s header → IsSource name header source → AllByRecursion ItemWithin (source_items header source)
    → ReadAsUnit name (unit_text header) (unit_text source) (source_items header source) (map macro_tokens (source_macros header source))
pair-reads name header source s h k within =
    let bare : BareLeft = record { tokens = items_tokens (source_items header source); macros = map macro_tokens (source_macros header source) } in
    let x = left-as (preprocessed_texts (unit_text header) name (unit_text source)) bare (source-left name header source s h k) in
    let u = unit-cut (source_items header source) x.left.tokens (source-fits name header source k) within x.tokens in
    record { left = x.left; no_fault = x.is; macros_are = x.macros; unit = u.0; is_cut = u.1; items_are = u.2 }

-- ---- a header beside a source that is its include alone

pub header-reads : (name : List ℕ) (header : List Part) → IsBeside (Some name) name → IsHeaderAt nothing_known header → AllByRecursion ItemWithin (header_items header nothing_known)
    → ReadAsUnit name (unit_text header) (part_text (include_beside name)) (header_items header nothing_known) (map macro_tokens (header_macros header nothing_known))
header-reads name header b h within =
    let items = append-nil (header_items header nothing_known) in
    let macros = append-nil (header_macros header nothing_known) in
    let source = include_beside name ∷ [] in
    let whole = pair-reads name header source nothing_known h (record { right = ((b, h), tt); balanced = refl }) (subst (λ is. AllByRecursion ItemWithin is) (sym items) within) in
    subst (λ x. ReadAsUnit name (unit_text header) x (header_items header nothing_known) (map macro_tokens (header_macros header nothing_known))) (append-nil (part_text (include_beside name)))
    (subst (λ ms. ReadAsUnit name (unit_text header) (unit_text source) (header_items header nothing_known) (map macro_tokens ms)) macros
    (subst (λ is. ReadAsUnit name (unit_text header) (unit_text source) is (map macro_tokens (source_macros header source))) items whole))
