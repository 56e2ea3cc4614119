-- What preprocessing leaves of the text of a unit, as a header and as a source that includes a header.
use Rattle.std.proofs.Common.{◌≡◌, ℕ, List, [], ◌++◌, map, Some, None, Ok, refl, sym, ap, subst, ◌∙◌}
use Rattle.c_text.specs.Conditional.{balanced, read_lines}
use Rattle.c_text.specs.Preprocessing.{each_behind, macros_at, tokens_at, unless_fault, left_of, preprocessed_texts}
use Rattle.c_text.specs.BarePreprocessing.{bare_preprocessed, bare_left}
use Rattle.c_tree.specs.BareUnit.{BareItem}
use Rattle.c_text.proofs.TextLines.{texts-lines}
use Rattle.c_printed.specs.PrintedUnit.{Part, unit_text}
use Rattle.c_printed.specs.State.{State, nothing_known, header_state, Macro}
use Rattle.c_printed.specs.Reread.{header_items, source_items, header_macros, source_macros, macro_tokens}
use Rattle.c_printed.specs.PrintableUnit.{no_header, IsHeaderAt, IsSource}
use Rattle.c_printed.proofs.PartLines.{BareLine, unit_lines, unit-lines}
use Rattle.c_printed.proofs.ReadLines.{kept, balanced-is, lines-read}
use Rattle.c_printed.proofs.UnitReading.{items_tokens, Agrees, Gives, Beside, parts-unasked, parts-agree, parts-give}

-- ---- the header

abbrev no_lines : List BareLine → List BareLine
no_lines before = []

abbrev header_read : List Part → List BareLine → List BareLine
header_read header before = read_lines no_lines [] before (balanced [] (unit_lines header))

no-beside : Beside no_header no_lines (λ s. s) (λ s. []) (λ s. [])
no-beside = record { agrees = λ before s a h. absurd h; gives = λ before s a h. absurd h }

header-lines : (header : List Part) (before : List BareLine) (s : State) → Agrees before s → IsHeaderAt s header → header_read header before ≡ kept no_lines before header
header-lines header before s a h =
    ap (read_lines no_lines [] before) (balanced-is 0 header h.balanced)
    ∙ lines-read no_lines 0 before header h.balanced (parts-unasked None no_header no_lines (λ t. t) (λ t. []) (λ t. []) no-beside before s header a h.right)

header-beside : (header : List Part) → Beside (λ s. IsHeaderAt s header) (header_read header) (header_state header) (header_items header) (header_macros header)
header-beside header = record {
  agrees = λ before s a h.
      subst (λ ls. Agrees (before ++ ls) (header_state header s)) (sym (header-lines header before s a h))
      (parts-agree None no_header no_lines (λ t. t) (λ t. []) (λ t. []) no-beside before s header a h.right);
  gives = λ before s a h.
      subst (λ ls. Gives before ls (header_items header s) (header_macros header s)) (sym (header-lines header before s a h))
      (parts-give None no_header no_lines (λ t. t) (λ t. []) (λ t. []) no-beside before s header a h.right);
}

-- ---- the source

nothing-agrees : Agrees [] nothing_known
nothing-agrees = record { bodies = λ w. refl; kinds = λ w. refl; keywords = λ w e. refl }

left-is : (ls : List BareLine) (is : List BareItem) (ms : List Macro) → Gives [] ls is ms → bare_left (left_of ls) ≡ Ok (record { tokens = items_tokens is; macros = map macro_tokens ms })
left-is ls is ms g =
    ap (λ fs. bare_left (unless_fault fs (each_behind tokens_at [] ls, each_behind macros_at [] ls))) g.faults
    ∙ (λ i. Ok (record { tokens = g.tokens i; macros = g.defined i }))

-- the two texts have no fault of tokens and of preprocessing; what is left are the tokens of the items, and the macros are those that the parts define
pub source-left : (name : List ℕ) (header source : List Part) (s : State) → IsHeaderAt s header → IsSource name header source
    → bare_preprocessed (preprocessed_texts (unit_text header) name (unit_text source))
    ≡ Ok (record { tokens = items_tokens (source_items header source); macros = map macro_tokens (source_macros header source) })
source-left name header source s h k =
    let given : State → Type 0 = λ t. IsHeaderAt t header in
    let read = header_read header in
    let unasked = parts-unasked (Some name) given read (header_state header) (header_items header) (header_macros header) (header-beside header) [] nothing_known source nothing-agrees k.right in
    texts-lines (unit_text header) name (unit_text source) (unit_lines header) (unit_lines source)
    (unit-lines None no_header (λ t. t) s header h.right) (unit-lines (Some name) given (header_state header) nothing_known source k.right)
    ∙ ap (λ ls. bare_left (left_of (read_lines read [] [] ls))) (balanced-is 0 source k.balanced)
    ∙ ap (λ ls. bare_left (left_of ls)) (lines-read read 0 [] source k.balanced unasked)
    ∙ left-is (kept read [] source) (source_items header source) (source_macros header source)
    (parts-give (Some name) given read (header_state header) (header_items header) (header_macros header) (header-beside header) [] nothing_known source nothing-agrees k.right)
