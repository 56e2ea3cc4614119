-- Each part of a unit is lines of C.
use Rattle.std.proofs.Common.{◌≡◌, ◌||◌, ℕ, Bool, true, false, cond, List, [], ◌∷◌, ◌++◌, map, bytes_eq, Option, Some, None, is_some, Ok, refl, sym, ap, subst, ◌∙◌, append_assoc, append-nil, arith}
use Rattle.std.specs.Prelude.{codes}
use Rattle.std.specs.List.{list_all, list_any, AllByRecursion}
use Rattle.std.proofs.lemmas.Slice.Eq.{bytes_eq-Decides}
use Rattle.c_text.specs.declared.token.TokenKind.{TokenKind}
use Rattle.c_text.specs.declared.token.TokenKind.TheVariants.{Word, Mark}
use Rattle.c_text.specs.declared.refusal.CKind.TheVariants.{BadDirective, MacroBody}
use Rattle.c_text.specs.Characters.{IsName}
use Rattle.c_text.specs.Splice.{is_plain}
use Rattle.c_text.specs.Piece.{Lexeme, token, line_end, space, bad}
use Rattle.c_text.specs.Tokens.{kinds, onto}
use Rattle.c_text.specs.SeenToken.{Bare}
use Rattle.c_text.specs.BareTokens.{bare_gathered}
use Rattle.c_text.specs.StandardHeader.{stdbool_h, stddef_h, stdint_h, string_h, is_mark}
use Rattle.c_text.specs.Directive.{lines, Line, text, standard, quoted, conditional, endif, refused, word_of, has_parameters, has_word, line_of, define as define_line}
use Rattle.c_text.specs.Directive.{directive_word}
use Rattle.c_text.specs.BarePreprocessing.{seen_kinds}
use Rattle.c_tree.specs.BareExpression.{Tree, constant, unary, binary, bracket, name, null, member, element, call, cast}
use Rattle.c_text.proofs.Boundary.{pass-all, pass-append}
use Rattle.c_text.proofs.Joined.{read_behind, onto-read_behind, gathered-line_end}
use Rattle.c_text.proofs.PrintedLines.{hash, word, kinds-define, lines-one, bytes-plain, name-goes_on}
use Rattle.c_text.proofs.HeaderLines.{first, behind, apart, blank-line, comment-line, endif-line, ifndef-line, define_empty-line, stdbool-line, stddef-line, stdint-line, string-line, quoted-line}
use Rattle.c_text.proofs.TextLines.{AreLines, no-lines, more-lines}
use Rattle.c_printed.specs.Spelling.{Voice, sign_text, operator_text, written, left}
use Rattle.c_printed.specs.PrintedExpression.{printed, tokens_of}
use Rattle.c_printed.specs.PrintedUnit.{Part, comment, blank, include, include_beside, define, if_not_defined, end_if, structure, routine, part_text, unit_text}
use Rattle.c_printed.specs.PrintedItem.{struct_text, function_text, struct_tokens, head_tokens, field_of, body_tokens as function_body_tokens}
use Rattle.c_printed.specs.State.{State, header_named, listed, macro_body, behind_part}
use Rattle.c_printed.specs.PrintableUnit.{NoWords, IsBody, IsKnown, IsBeside, Right, AllRight}
use Rattle.cg_out.proofs.WordLaws.{both}
use Rattle.c_printed.proofs.SmallLaws.{and-false}
use Rattle.c_printed.proofs.Pieces.{Reads, fine, looser, whole-lexemes}
use Rattle.c_printed.proofs.ExpressionLaw.{reads-tree}
use Rattle.c_printed.proofs.ItemLaw.{shown-inside, reads-struct, reads-function}
use Rattle.c_printed.proofs.ItemLines.{collected, clean-gathered, collected-kinds, flat, text-lines, text-kinds}

abbrev pub BareLine : Type 0
BareLine = Line (Unit {0})

-- ---- the lines of a text without directives, by the text

abbrev pub groups_of : List ℕ → List (List Bare)
groups_of x = lines (collected true false (kinds 0 x))

pub item-lines : (beside : Option (List ℕ)) (x : List ℕ) (ks : List TokenKind) → Reads false true x ks → AreLines beside (x ++ 10 ∷ []) (map text (groups_of x))
item-lines beside x ks p =
    subst (λ ls. AreLines beside (x ++ 10 ∷ []) (map text (lines (collected true false ls)))) (whole-lexemes true x ks p) (text-lines beside true x ks p (λ rest. refl))

pub item-kinds : (x : List ℕ) (ks : List TokenKind) → Reads false true x ks → seen_kinds (flat (groups_of x)) ≡ ks
item-kinds x ks p = subst (λ ls. seen_kinds (flat (lines (collected true false ls))) ≡ ks) (whole-lexemes true x ks p) (text-kinds true x ks p)

-- ---- macros

abbrev pub body_bares : Option Tree → List Bare
body_bares None = []
body_bares (Some t) = collected false false (kinds 0 (printed false t))

not-fresh : (joined : Bool) (ls : List Lexeme) → list_all (fine true) ls ≡ true → AllByRecursion (λ (u : Bare). u.fresh ≡ false) (collected false joined ls)
not-fresh joined [] e = tt
not-fresh joined (token k ∷ ls) e = (refl, not-fresh true ls (both (fine true (token k)) (list_all (fine true) ls) e).1)
not-fresh joined (line_end ∷ ls) e = cc
not-fresh joined (space ∷ ls) e = not-fresh false ls e
not-fresh joined (bad c ∷ ls) e = tt

no-parameters : (fresh : Bool) (ls : List Lexeme) → has_parameters (collected fresh false ls) ≡ false
no-parameters fresh [] = refl
no-parameters fresh (token k ∷ ls) = and-false (is_mark (codes "(") k)
no-parameters fresh (line_end ∷ ls) = no-parameters true ls
no-parameters fresh (space ∷ ls) = no-parameters fresh ls
no-parameters fresh (bad c ∷ ls) = refl

abbrev is_word : TokenKind → Bool
is_word k = is_some (word_of k)

word-kinds : (ts : List Bare) → has_word ts ≡ list_any is_word (seen_kinds ts)
word-kinds [] = refl
word-kinds (t ∷ ts) = ap (λ b. is_word t.kind || b) (word-kinds ts)

any-append : (ks ls : List TokenKind) → list_any is_word ks ≡ false → list_any is_word ls ≡ false → list_any is_word (ks ++ ls) ≡ false
any-append [] ls h k = k
any-append (x ∷ ks) ls h k = neither (is_word x) (list_any is_word ks) (list_any is_word (ks ++ ls)) h (λ e. any-append ks ls e k)
  where
    neither : (a b c : Bool) → (a || b) ≡ false → (b ≡ false → c ≡ false) → (a || c) ≡ false
    neither true b c e f = e
    neither false b c e f = f e

no-words : (v : Voice) (t : Tree) → NoWords t → list_any is_word (tokens_of v t) ≡ false
no-words v (constant c) h = refl
no-words v (unary u x) h = no-words v x h
no-words v (binary o l r) h = any-append (tokens_of v l) (Mark (operator_text o) ∷ tokens_of v r) (no-words v l h.0) (no-words v r h.1)
no-words v (bracket x) h = any-append (tokens_of v x) (Mark (codes ")") ∷ []) (no-words v x h) refl
no-words v (name n) h = absurd h
no-words v null h = absurd h
no-words v (member b f) h = absurd h
no-words v (element b i) h = absurd h
no-words v (call f ts) h = absurd h
no-words v (cast to x) h = absurd h

pub same-voice : (v w : Voice) (t : Tree) → NoWords t → tokens_of v t ≡ tokens_of w t
same-voice v w (constant c) h = refl
same-voice v w (unary u x) h = ap (λ ks. Mark (sign_text u) ∷ ks) (same-voice v w x h)
same-voice v w (binary o l r) h = λ i. same-voice v w l h.0 i ++ Mark (operator_text o) ∷ same-voice v w r h.1 i
same-voice v w (bracket x) h = ap (λ ks. Mark (codes "(") ∷ (ks ++ Mark (codes ")") ∷ [])) (same-voice v w x h)
same-voice v w (name n) h = absurd h
same-voice v w null h = absurd h
same-voice v w (member b f) h = absurd h
same-voice v w (element b i) h = absurd h
same-voice v w (call f ts) h = absurd h
same-voice v w (cast to x) h = absurd h

abbrev define_word : List ℕ
define_word = codes "define"

-- a body behind a blank
define-body : (beside : Option (List ℕ)) (n x : List ℕ) (ks : List TokenKind) → IsName n → (p : Reads true false x ks) → list_any is_word ks ≡ false
    → AreLines beside (codes "#define " ++ (n ++ ((codes " " ++ x) ++ 10 ∷ []))) (define_line tt n (collected false false p.lexemes) ∷ [])
unfolding directive_word
define-body beside n x ks h p w =
    let body = collected false false p.lexemes in
    let clean = looser p.lexemes p.clean in
    let others = behind (Word define_word) ∷ apart (Word n) ∷ body in
    let wordless : has_word body ≡ false = word-kinds body ∙ ap (list_any is_word) (collected-kinds false false p.lexemes clean ∙ p.are) ∙ w in
    record {
      lexemes = hash ∷ word define_word ∷ space ∷ word n ∷ space ∷ (p.lexemes ++ line_end ∷ []);
      cut = λ rest.
          ap (λ bs. kinds 0 (codes "#define " ++ bs)) (append_assoc n ((codes " " ++ x) ++ 10 ∷ []) rest ∙ ap (λ bs. n ++ 32 ∷ bs) (append_assoc x (10 ∷ []) rest))
          ∙ kinds-define n (x ++ 10 ∷ rest) h
          ∙ ap (λ ls. hash ∷ word define_word ∷ space ∷ word n ∷ space ∷ ls) (p.cut (10 ∷ rest) refl ∙ sym (append_assoc p.lexemes (line_end ∷ []) (kinds 0 rest)));
      list = first ∷ others;
      gathered = λ ls.
          let r = bare_gathered true false ls in
          ap (λ z. onto first (onto (behind (Word define_word)) (onto (apart (Word n)) z)))
          (ap (bare_gathered false false) (append_assoc p.lexemes (line_end ∷ []) ls) ∙ gathered-line_end false false p.lexemes ls ∙ ap (λ z. read_behind z r) (clean-gathered false false p.lexemes clean))
          ∙ ap (λ z. onto first (onto (behind (Word define_word)) z)) (onto-read_behind (apart (Word n)) (Ok body) r)
          ∙ ap (onto first) (onto-read_behind (behind (Word define_word)) (Ok (apart (Word n) ∷ body)) r)
          ∙ onto-read_behind first (Ok others) r;
      fresh = refl;
      lines =
          ap (map (line_of beside)) (ap lines (sym (append-nil (first ∷ others))) ∙ lines-one first others [] (refl, (refl, not-fresh false p.lexemes p.clean)) refl)
          ∙ ap (λ b. cond b (refused tt BadDirective) (cond (has_word body) (refused tt MacroBody) (define_line tt n body)) ∷ []) (no-parameters false p.lexemes)
          ∙ ap (λ b. cond b (refused tt MacroBody) (define_line tt n body) ∷ []) wordless;
      plain =
          pass-append is_plain (codes "#define ") _ (pass-all is_plain (codes "#define ") refl)
          (pass-append is_plain n _ (bytes-plain n (name-goes_on n h)) (pass-append is_plain (codes " " ++ x) (10 ∷ []) (refl, p.plain) (refl, tt)));
    }

pub body-kinds : (body : Option Tree) → IsBody body → seen_kinds (body_bares body) ≡ macro_body body
body-kinds None h = refl
body-kinds (Some t) h =
    let p = reads-tree false 0 t h.0 in
    ap (λ ls. seen_kinds (collected false false ls)) (sym (whole-lexemes false (printed false t) (tokens_of written t) p))
    ∙ collected-kinds false false p.lexemes (looser p.lexemes p.clean) ∙ p.are ∙ same-voice written left t h.1

define-lines : (beside : Option (List ℕ)) (n : List ℕ) (body : Option Tree) → IsName n → IsBody body → AreLines beside (part_text (define n body)) (define_line tt n (body_bares body) ∷ [])
define-lines beside n None h k = define_empty-line beside n h
define-lines beside n (Some t) h k =
    let p = reads-tree false 0 t k.0 in
    subst (λ ls. AreLines beside (part_text (define n (Some t))) (define_line tt n (collected false false ls) ∷ [])) (whole-lexemes false (printed false t) (tokens_of written t) p)
    (define-body beside n (printed false t) (tokens_of written t) h p (no-words written t k.1))

-- ---- includes

include-by : (beside : Option (List ℕ)) (n : List ℕ) (a b c d : Bool) → bytes_eq n (codes "stdbool.h") ≡ a → bytes_eq n (codes "stddef.h") ≡ b → bytes_eq n (codes "stdint.h") ≡ c → bytes_eq n (codes "string.h") ≡ d
    → IsKnown (cond a (Some stdbool_h) (cond b (Some stddef_h) (cond c (Some stdint_h) (cond d (Some string_h) None))))
    → AreLines beside (part_text (include n)) (map standard (listed (cond a (Some stdbool_h) (cond b (Some stddef_h) (cond c (Some stdint_h) (cond d (Some string_h) None))))))
include-by beside n true b c d e f g i k = subst (λ x. AreLines beside (part_text (include x)) (standard stdbool_h ∷ [])) (sym ((bytes_eq-Decides n (codes "stdbool.h")).0 e)) (stdbool-line beside)
include-by beside n false true c d e f g i k = subst (λ x. AreLines beside (part_text (include x)) (standard stddef_h ∷ [])) (sym ((bytes_eq-Decides n (codes "stddef.h")).0 f)) (stddef-line beside)
include-by beside n false false true d e f g i k = subst (λ x. AreLines beside (part_text (include x)) (standard stdint_h ∷ [])) (sym ((bytes_eq-Decides n (codes "stdint.h")).0 g)) (stdint-line beside)
include-by beside n false false false true e f g i k = subst (λ x. AreLines beside (part_text (include x)) (standard string_h ∷ [])) (sym ((bytes_eq-Decides n (codes "string.h")).0 i)) (string-line beside)
include-by beside n false false false false e f g i k = absurd k

beside-lines : (beside : Option (List ℕ)) (n : List ℕ) → IsBeside beside n → AreLines beside (part_text (include_beside n)) (quoted ∷ [])
beside-lines beside [] h = absurd (let some = h.not_empty in omega arith)
beside-lines beside (c ∷ cs) h = subst (λ b. AreLines b (part_text (include_beside (c ∷ cs))) (quoted ∷ [])) (sym h.is) (quoted-line c cs h.shown h.plain)

-- ---- the whole

abbrev pub part_lines : Part → List BareLine
part_lines (comment t) = []
part_lines blank = []
part_lines (include n) = map standard (listed (header_named n))
part_lines (include_beside n) = quoted ∷ []
part_lines (define n body) = define_line tt n (body_bares body) ∷ []
part_lines (if_not_defined n) = conditional tt false n ∷ []
part_lines end_if = endif tt ∷ []
part_lines (structure tag fs) = map text (groups_of (struct_text tag fs))
part_lines (routine h body) = map text (groups_of (function_text h body))

abbrev pub unit_lines : List Part → List BareLine
unit_lines [] = []
unit_lines (p ∷ ps) = part_lines p ++ unit_lines ps

part-lines : (beside : Option (List ℕ)) (given : State → Type 0) (s : State) (p : Part) → Right beside given s p → AreLines beside (part_text p) (part_lines p)
part-lines beside given s (comment t) h = let i = shown-inside t h in comment-line beside t i.0 i.1
part-lines beside given s blank h = blank-line beside
part-lines beside given s (include n) h = include-by beside n _ _ _ _ refl refl refl refl h
part-lines beside given s (include_beside n) h = beside-lines beside n h.0
part-lines beside given s (define n body) h = define-lines beside n body h.0.0 h.1
part-lines beside given s (if_not_defined n) h = ifndef-line beside n h.0.0
part-lines beside given s end_if h = endif-line beside
part-lines beside given s (structure tag fs) h = item-lines beside (struct_text tag fs) (struct_tokens written tag (map field_of fs)) (reads-struct tag fs h.0 h.2)
part-lines beside given s (routine f body) h = item-lines beside (function_text f body) (head_tokens written f ++ function_body_tokens written body) (reads-function f body h.0 h.1)

-- the text of a unit is the lines of its parts
pub unit-lines : (beside : Option (List ℕ)) (given : State → Type 0) (header : State → State) (s : State) (ps : List Part) → AllRight beside given header s ps → AreLines beside (unit_text ps) (unit_lines ps)
unit-lines beside given header s [] h = no-lines beside
unit-lines beside given header s (p ∷ ps) h =
    more-lines beside (part_text p) (unit_text ps) (part_lines p) (unit_lines ps) (part-lines beside given s p h.0) (unit-lines beside given header (behind_part header s p) ps h.1)
