-- The texts of structs and functions have their tokens.
use Rattle.std.proofs.Common.{◌≡◌, ◌||◌, ℕ, Bool, true, false, List, [], ◌∷◌, ◌++◌, map, Option, Some, None, refl, append_assoc, ap, ◌∙◌, arith}
use Rattle.std.specs.Prelude.{codes}
use Rattle.std.specs.List.{AllByRecursion}
use Rattle.std.proofs.lemmas.Bool.Decides.{nat_tests}
use Rattle.c_text.specs.declared.token.TokenKind.TheVariants.{Word, Mark}
use Rattle.c_tree.specs.declared.item.CType.{CType}
use Rattle.c_tree.specs.declared.item.CType.TheVariants.{Void, Integer, Pointer}
use Rattle.c_tree.specs.declared.item.Target.{Target}
use Rattle.c_tree.specs.declared.item.Target.TheVariants.{Byte, Struct}
use Rattle.c_text.specs.Characters.{IsName, Pass}
use Rattle.c_text.specs.Punctuator.{mark_at}
use Rattle.c_text.specs.Piece.{token, line_end, space}
use Rattle.c_text.specs.Splice.{is_plain}
use Rattle.c_text.specs.Tokens.{kinds}
use Rattle.c_tree.specs.BareStatement.{Actions}
use Rattle.c_tree.specs.BareUnit.{BareField, BareHead}
use Rattle.c_text.proofs.Boundary.{pass-all, pass-append, is_no_star}
use Rattle.c_text.proofs.PrintedLines.{kinds-comment_line, pass-weaker}
use Rattle.c_printed.specs.Spelling.{type_text, type_words, words, written}
use Rattle.c_printed.specs.PrintedExpression.{separator, comma}
use Rattle.c_printed.specs.PrintedStatement.{actions_text, actions_tokens}
use Rattle.c_printed.specs.Printable.{IsFree}
use Rattle.c_printed.specs.PrintedItem.{Field, const_text, target_text, named_text, const_tokens, target_tokens, named_tokens, about_text, fields_text, struct_text, fields_tokens, struct_tokens, params_text, all_params_text, static_text, head_text, body_text, function_text, params_tokens, all_params_tokens, static_tokens, head_tokens, body_tokens, field_of}
use Rattle.c_printed.specs.PrintableItem.{is_shown, IsShown, IsTarget, IsParameter, IsParameterType, IsIntegerType, IsReturned, IsField, IsHead, FitsBody}
use Rattle.c_printed.proofs.Pieces.{Reads, stops, joined, nothing, named, free-any, given}
use Rattle.c_printed.proofs.Spelled.{blank, opening, closing, given-name, reads-type}
use Rattle.c_text.proofs.Marks.{kinds-part}
use Rattle.c_printed.proofs.ExpressionLaw.{name-first, reads-separator}
use Rattle.c_printed.proofs.StatementLaw.{reads-actions}
use Rattle.c_printed.proofs.Pieces as p

-- ---- given texts

struct-word : Reads true true (codes "struct ") (Word (codes "struct") ∷ [])
struct-word = given (codes "struct ") (token (Word (codes "struct")) ∷ space ∷ []) (λ rest. refl) refl refl

const-word : Reads true true (codes "const ") (Word (codes "const") ∷ [])
const-word = given (codes "const ") (token (Word (codes "const")) ∷ space ∷ []) (λ rest. refl) refl refl

static-word : Reads true true (codes "static ") (Word (codes "static") ∷ [])
static-word = given (codes "static ") (token (Word (codes "static")) ∷ space ∷ []) (λ rest. refl) refl refl

void-word : Reads true true (codes "void ") (Word (codes "void") ∷ [])
void-word = given (codes "void ") (token (Word (codes "void")) ∷ space ∷ []) (λ rest. refl) refl refl

indent-four : Reads false true (codes "    ") []
indent-four = given (codes "    ") (space ∷ space ∷ space ∷ space ∷ []) (λ rest. refl) refl refl

field-ends : Reads false true (codes ";\n") (Mark (codes ";") ∷ [])
unfolding mark_at
field-ends = given (codes ";\n") (token (Mark (codes ";")) ∷ line_end ∷ []) (λ rest. refl) refl refl

semicolon : Reads false true (codes ";") (Mark (codes ";") ∷ [])
unfolding mark_at
semicolon = given (codes ";") (token (Mark (codes ";")) ∷ []) (λ rest. refl) refl refl

struct-opens : Reads false true (codes " {\n") (Mark (codes "{") ∷ [])
unfolding mark_at
struct-opens = given (codes " {\n") (space ∷ token (Mark (codes "{")) ∷ line_end ∷ []) (λ rest. refl) refl refl

struct-ends : Reads false true (codes "};") (Mark (codes "}") ∷ Mark (codes ";") ∷ [])
unfolding mark_at
struct-ends = given (codes "};") (token (Mark (codes "}")) ∷ token (Mark (codes ";")) ∷ []) (λ rest. refl) refl refl

body-opens : Reads false true (codes "\n{\n") (Mark (codes "{") ∷ [])
unfolding mark_at
body-opens = given (codes "\n{\n") (line_end ∷ token (Mark (codes "{")) ∷ line_end ∷ []) (λ rest. refl) refl refl

body-ends : Reads false true (codes "}") (Mark (codes "}") ∷ [])
unfolding mark_at
body-ends = given (codes "}") (token (Mark (codes "}")) ∷ []) (λ rest. refl) refl refl

-- a star behind a blank, before a name
star : (n : List ℕ) → IsName n → Reads true false (codes " *" ++ n) (Mark (codes "*") ∷ Word n ∷ [])
star n h = record {
  lexemes = space ∷ token (Mark (codes "*")) ∷ (named n h).lexemes;
  cut = λ rest e. ap (λ ls. space ∷ ls) (kinds-part (codes "*") (n ++ rest) refl (name-first n rest h) ∙ ap (λ ls. token (Mark (codes "*")) ∷ ls) ((named n h).cut rest e));
  clean = (named n h).clean;
  are = ap (λ ks. Mark (codes "*") ∷ ks) (named n h).are;
  plain = (refl, (refl, (named n h).plain));
}

-- ---- comments

shown-no_star : (b : ℕ) → is_shown b ≡ true → is_no_star b ≡ true
shown-no_star b h = grind (arith, nat_tests)

shown-plain : (b : ℕ) → is_shown b ≡ true → is_plain b ≡ true
shown-plain b h = grind (arith, nat_tests)

pub shown-inside : (t : List ℕ) → IsShown t → Pass is_no_star t × Pass is_plain t
shown-inside t h = (pass-weaker is_shown is_no_star shown-no_star t h, pass-weaker is_shown is_plain shown-plain t h)

about-line : (t : List ℕ) → IsShown t → Reads false true (codes "/* " ++ (t ++ codes " */\n")) []
about-line t h = record {
  lexemes = space ∷ line_end ∷ [];
  cut = λ rest e. ap (λ bs. kinds 0 (47 ∷ 42 ∷ 32 ∷ bs)) (append_assoc t (codes " */\n") rest) ∙ kinds-comment_line t rest (shown-inside t h).0;
  clean = refl;
  are = refl;
  plain = (refl, (refl, (refl, pass-append is_plain t (codes " */\n") (shown-inside t h).1 (pass-all is_plain (codes " */\n") refl))));
}

reads-about : (t : List ℕ) → IsShown t → Reads false true (about_text t) []
reads-about [] h = p.rough true [] [] nothing
reads-about (b ∷ bs) h = p.then true (codes "    ") (codes "/* " ++ ((b ∷ bs) ++ codes " */\n")) [] [] indent-four (about-line (b ∷ bs) h)

-- ---- types with names

reads-const : (c : Bool) → Reads true true (const_text c) (const_tokens c)
reads-const true = const-word
reads-const false = nothing

reads-target : (t : Target) → IsTarget t → Reads true false (target_text t) (target_tokens written t)
reads-target Byte h = named (codes "uint8_t") (given-name (codes "uint8_t") refl refl)
reads-target (Struct tag) h = p.then false (codes "struct ") tag (Word (codes "struct") ∷ []) (Word tag ∷ []) struct-word (named tag h.0)

pub reads-integer : (t : CType) (n : List ℕ) → IsIntegerType t → IsName n → Reads true false (named_text t n) (named_tokens written t n)
reads-integer (Integer s) n h k = joined false false (type_text s) _ (words (type_words s)) (Word n ∷ []) (λ rest e. refl) (reads-type s h) (p.then false (codes " ") n [] (Word n ∷ []) blank (named n k))
reads-integer Void n h k = absurd h
reads-integer (Pointer to c) n h k = absurd h

pub reads-returned : (t : CType) (n : List ℕ) → IsReturned t → IsName n → Reads true false (named_text t n) (named_tokens written t n)
reads-returned Void n h k = p.then false (codes "void ") n (Word (codes "void") ∷ []) (Word n ∷ []) void-word (named n k)
reads-returned (Integer s) n h k = reads-integer (Integer s) n h k
reads-returned (Pointer to c) n h k = absurd h

pub reads-parameter : (t : CType) (n : List ℕ) → IsParameterType t → IsName n → Reads true false (named_text t n) (named_tokens written t n)
reads-parameter Void n h k = absurd h
reads-parameter (Integer s) n h k = reads-integer (Integer s) n h k
reads-parameter (Pointer to c) n h k =
    p.then false (const_text c) _ (const_tokens c) _ (reads-const c) (joined false false (target_text to) (codes " *" ++ n) (target_tokens written to) _ (λ rest e. refl) (reads-target to h) (star n k))

-- ---- structs

reads-fields : (fs : List Field) → AllByRecursion IsField fs → Reads false true (fields_text fs) (fields_tokens written (map field_of fs))
reads-fields [] h = p.rough true [] [] nothing
reads-fields (f ∷ fs) h =
    simp append_assoc (
    p.then true (about_text f.about) _ [] _ (reads-about f.about h.0.about)
    (p.then true (codes "    ") _ [] _ indent-four
    (joined false true (named_text f.named.kind f.named.name) _ (named_tokens written f.named.kind f.named.name) _ (λ rest e. refl) (reads-integer f.named.kind f.named.name h.0.kind h.0.name.0)
    (p.then true (codes ";\n") _ (Mark (codes ";") ∷ []) _ field-ends (reads-fields fs h.1)))))

pub reads-struct : (tag : List ℕ) (fs : List Field) → IsFree tag → AllByRecursion IsField fs → Reads false true (struct_text tag fs) (struct_tokens written tag (map field_of fs))
reads-struct tag fs h k =
    p.then true (codes "struct ") _ (Word (codes "struct") ∷ []) _ struct-word
    (joined false true tag _ (Word tag ∷ []) _ (λ rest e. refl) (named tag h.0)
    (p.then true (codes " {\n") _ (Mark (codes "{") ∷ []) _ struct-opens
    (p.then true (fields_text fs) (codes "};") (fields_tokens written (map field_of fs)) _ (reads-fields fs k) struct-ends)))

-- ---- functions

next : (ps : List BareField) (rest : List ℕ) → (false || stops rest) ≡ true → (false || stops (params_text false ps ++ rest)) ≡ true
next [] rest e = e
next (p ∷ ps) rest e = refl

reads-params : (first : Bool) (ps : List BareField) → AllByRecursion IsParameter ps → Reads true false (params_text first ps) (params_tokens written first ps)
reads-params first [] h = free-any false [] [] nothing
reads-params first (q ∷ ps) h =
    p.then false (separator first) _ (comma first) _ (reads-separator first)
    (joined false false (named_text q.kind q.name) (params_text false ps) (named_tokens written q.kind q.name) _ (next ps) (reads-parameter q.kind q.name h.0.0 h.0.1.0) (reads-params false ps h.1))

reads-all_params : (ps : List BareField) → AllByRecursion IsParameter ps → Reads true false (all_params_text ps) (all_params_tokens written ps)
reads-all_params [] h = named (codes "void") (given-name (codes "void") refl refl)
reads-all_params (q ∷ ps) h = reads-params true (q ∷ ps) h

reads-static : (b : Bool) → Reads true true (static_text b) (static_tokens b)
reads-static true = static-word
reads-static false = nothing

pub reads-head : (h : BareHead) → IsHead h → Reads true true (head_text h) (head_tokens written h)
reads-head h is =
    p.then true (static_text h.fixed) _ (static_tokens h.fixed) _ (reads-static h.fixed)
    (joined false true (named_text h.returns h.name) _ (named_tokens written h.returns h.name) _ (λ rest e. refl) (reads-returned h.returns h.name is.returns is.name.0)
    (p.then true (codes "(") _ (Mark (codes "(") ∷ []) _ opening
    (joined false true (all_params_text h.params) (codes ")") (all_params_tokens written h.params) _ (λ rest e. refl) (reads-all_params h.params is.params) closing)))

reads-body : (body : Option Actions) → FitsBody body → Reads false true (body_text body) (body_tokens written body)
reads-body None h = semicolon
reads-body (Some list) h =
    p.then true (codes "\n{\n") _ (Mark (codes "{") ∷ []) _ body-opens (p.then true (actions_text 4 list) (codes "}") (actions_tokens written list) _ (reads-actions 4 false list h) body-ends)

pub reads-function : (h : BareHead) (body : Option Actions) → IsHead h → FitsBody body → Reads false true (function_text h body) (head_tokens written h ++ body_tokens written body)
reads-function h body is k = p.then true (head_text h) (body_text body) (head_tokens written h) (body_tokens written body) (reads-head h is) (reads-body body k)
