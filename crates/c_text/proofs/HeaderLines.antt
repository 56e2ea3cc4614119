-- The lines that a header is put together from.
use Rattle.std.proofs.Common.{◌≡◌, ℕ, true, false, cond, List, [], ◌∷◌, ◌++◌, codes, Option, Some, Result, Ok, refl, ap, ◌∙◌, append_assoc}
use Rattle.std.proofs.lemmas.Slice.Eq.{bytes_eq-Decides}
use Rattle.c_text.specs.declared.token.TokenKind.{TokenKind}
use Rattle.c_text.specs.declared.token.TokenKind.TheVariants.{Word, Quoted, Mark}
use Rattle.c_text.specs.declared.refusal.CKind.{CKind}
use Rattle.c_text.specs.declared.refusal.CKind.TheVariants.{UnknownHeader}
use Rattle.c_text.specs.Characters.{Pass, IsName}
use Rattle.c_text.specs.Splice.{is_plain}
use Rattle.c_text.specs.Piece.{token, line_end, space, in_string}
use Rattle.c_text.specs.Tokens.{kinds, onto}
use Rattle.c_text.specs.SeenToken.{Bare}
use Rattle.c_text.specs.BareTokens.{bare_token, bare_gathered}
use Rattle.c_text.specs.StandardHeader.{header_of, stdbool_h, stddef_h, stdint_h, string_h}
use Rattle.c_text.specs.Directive.{standard, quoted, define, conditional, endif, refused, directive_word}
use Rattle.c_text.proofs.Joined.{read_behind, nothing-before, onto-read_behind}
use Rattle.c_text.proofs.Boundary.{pass-all, pass-append, is_no_star}
use Rattle.c_text.proofs.PrintedLines.{hash, word, include_of, kinds-comment_line, kinds-ifndef, kinds-endif, kinds-define_empty, kinds-include_stdbool, kinds-include_stddef, kinds-include_stdint, kinds-include_string, kinds-include_quoted, bytes-plain, name-goes_on}
use Rattle.c_text.proofs.TextLines.{AreLines}

-- ---- tokens of one line

abbrev onto_each : List Bare → Result (List Bare) CKind → Result (List Bare) CKind
onto_each [] r = r
onto_each (b ∷ bs) r = onto b (onto_each bs r)

onto_each-is : (bs : List Bare) (r : Result (List Bare) CKind) → onto_each bs r ≡ read_behind (Ok bs) r
onto_each-is [] r = nothing-before r
onto_each-is (b ∷ bs) r = ap (onto b) (onto_each-is bs r) ∙ onto-read_behind b (Ok bs) r

abbrev pub first : Bare
first = bare_token (Mark (codes "#")) true false

abbrev pub behind : TokenKind → Bare
behind k = bare_token k false true

abbrev pub apart : TokenKind → Bare
apart k = bare_token k false false

-- ---- lines without tokens

pub blank-line : (beside : Option (List ℕ)) → AreLines beside (10 ∷ []) []
blank-line beside = record { lexemes = line_end ∷ []; cut = λ rest. refl; list = []; gathered = λ ks. nothing-before (bare_gathered true false ks); fresh = refl; lines = refl; plain = (refl, tt) }

abbrev pub comment_text : List ℕ → List ℕ
comment_text t = codes "/* " ++ (t ++ (codes " */" ++ 10 ∷ []))

pub comment-line : (beside : Option (List ℕ)) (t : List ℕ) → Pass is_no_star t → Pass is_plain t → AreLines beside (comment_text t) []
comment-line beside t h k = record {
  lexemes = space ∷ line_end ∷ [];
  cut = λ rest. ap (λ bs. kinds 0 (47 ∷ 42 ∷ 32 ∷ bs)) (append_assoc t (32 ∷ 42 ∷ 47 ∷ 10 ∷ []) rest) ∙ kinds-comment_line t rest h;
  list = [];
  gathered = λ ks. nothing-before (bare_gathered true false ks);
  fresh = refl;
  lines = refl;
  plain = pass-append is_plain (codes "/* ") (t ++ (codes " */" ++ 10 ∷ [])) (pass-all is_plain (codes "/* ") refl) (pass-append is_plain t (codes " */" ++ 10 ∷ []) k (pass-all is_plain (32 ∷ 42 ∷ 47 ∷ 10 ∷ []) refl));
}

-- ---- directives

pub endif-line : (beside : Option (List ℕ)) → AreLines beside (codes "#endif" ++ 10 ∷ []) (endif tt ∷ [])
unfolding directive_word
endif-line beside = record {
  lexemes = hash ∷ word (codes "endif") ∷ line_end ∷ [];
  cut = kinds-endif;
  list = first ∷ behind (Word (codes "endif")) ∷ [];
  gathered = λ ks. onto_each-is (first ∷ behind (Word (codes "endif")) ∷ []) (bare_gathered true false ks);
  fresh = refl;
  lines = refl;
  plain = pass-all is_plain (codes "#endif" ++ 10 ∷ []) refl;
}

plain-named : (before n after : List ℕ) → Pass is_plain before → IsName n → Pass is_plain after → Pass is_plain (before ++ (n ++ after))
plain-named before n after b h a = pass-append is_plain before (n ++ after) b (pass-append is_plain n after (bytes-plain n (name-goes_on n h)) a)

pub ifndef-line : (beside : Option (List ℕ)) (n : List ℕ) → IsName n → AreLines beside (codes "#ifndef " ++ (n ++ 10 ∷ [])) (conditional tt false n ∷ [])
unfolding directive_word
ifndef-line beside n h = record {
  lexemes = hash ∷ word (codes "ifndef") ∷ space ∷ word n ∷ line_end ∷ [];
  cut = λ rest. ap (λ bs. kinds 0 (codes "#ifndef " ++ bs)) (append_assoc n (10 ∷ []) rest) ∙ kinds-ifndef n rest h;
  list = first ∷ behind (Word (codes "ifndef")) ∷ apart (Word n) ∷ [];
  gathered = λ ks. onto_each-is (first ∷ behind (Word (codes "ifndef")) ∷ apart (Word n) ∷ []) (bare_gathered true false ks);
  fresh = refl;
  lines = refl;
  plain = plain-named (codes "#ifndef ") n (10 ∷ []) (pass-all is_plain (codes "#ifndef ") refl) h (refl, tt);
}

pub define_empty-line : (beside : Option (List ℕ)) (n : List ℕ) → IsName n → AreLines beside (codes "#define " ++ (n ++ 10 ∷ [])) (define tt n [] ∷ [])
unfolding directive_word
define_empty-line beside n h = record {
  lexemes = hash ∷ word (codes "define") ∷ space ∷ word n ∷ line_end ∷ [];
  cut = λ rest. ap (λ bs. kinds 0 (codes "#define " ++ bs)) (append_assoc n (10 ∷ []) rest) ∙ kinds-define_empty n rest h;
  list = first ∷ behind (Word (codes "define")) ∷ apart (Word n) ∷ [];
  gathered = λ ks. onto_each-is (first ∷ behind (Word (codes "define")) ∷ apart (Word n) ∷ []) (bare_gathered true false ks);
  fresh = refl;
  lines = refl;
  plain = plain-named (codes "#define ") n (10 ∷ []) (pass-all is_plain (codes "#define ") refl) h (refl, tt);
}

-- ---- includes

abbrev include_tokens : List ℕ → List Bare
include_tokens w = first ∷ behind (Word (codes "include")) ∷ apart (Mark (codes "<")) ∷ behind (Word w) ∷ behind (Mark (codes ".")) ∷ behind (Word (codes "h")) ∷ behind (Mark (codes ">")) ∷ []

pub stdbool-line : (beside : Option (List ℕ)) → AreLines beside (codes "#include <stdbool.h>" ++ 10 ∷ []) (standard stdbool_h ∷ [])
unfolding directive_word header_of
stdbool-line beside = record {
  lexemes = include_of (codes "stdbool");
  cut = kinds-include_stdbool;
  list = include_tokens (codes "stdbool");
  gathered = λ ks. onto_each-is (include_tokens (codes "stdbool")) (bare_gathered true false ks);
  fresh = refl;
  lines = refl;
  plain = pass-all is_plain (codes "#include <stdbool.h>" ++ 10 ∷ []) refl;
}

pub stddef-line : (beside : Option (List ℕ)) → AreLines beside (codes "#include <stddef.h>" ++ 10 ∷ []) (standard stddef_h ∷ [])
unfolding directive_word header_of
stddef-line beside = record {
  lexemes = include_of (codes "stddef");
  cut = kinds-include_stddef;
  list = include_tokens (codes "stddef");
  gathered = λ ks. onto_each-is (include_tokens (codes "stddef")) (bare_gathered true false ks);
  fresh = refl;
  lines = refl;
  plain = pass-all is_plain (codes "#include <stddef.h>" ++ 10 ∷ []) refl;
}

pub stdint-line : (beside : Option (List ℕ)) → AreLines beside (codes "#include <stdint.h>" ++ 10 ∷ []) (standard stdint_h ∷ [])
unfolding directive_word header_of
stdint-line beside = record {
  lexemes = include_of (codes "stdint");
  cut = kinds-include_stdint;
  list = include_tokens (codes "stdint");
  gathered = λ ks. onto_each-is (include_tokens (codes "stdint")) (bare_gathered true false ks);
  fresh = refl;
  lines = refl;
  plain = pass-all is_plain (codes "#include <stdint.h>" ++ 10 ∷ []) refl;
}

pub string-line : (beside : Option (List ℕ)) → AreLines beside (codes "#include <string.h>" ++ 10 ∷ []) (standard string_h ∷ [])
unfolding directive_word header_of
string-line beside = record {
  lexemes = include_of (codes "string");
  cut = kinds-include_string;
  list = include_tokens (codes "string");
  gathered = λ ks. onto_each-is (include_tokens (codes "string")) (bare_gathered true false ks);
  fresh = refl;
  lines = refl;
  plain = pass-all is_plain (codes "#include <string.h>" ++ 10 ∷ []) refl;
}

-- the header beside the source, whose name has no quote and no splice in it
pub quoted-line : (c : ℕ) (cs : List ℕ) → Pass in_string (c ∷ cs) → Pass is_plain (c ∷ cs) → AreLines (Some (c ∷ cs)) (codes "#include " ++ 34 ∷ ((c ∷ cs) ++ 34 ∷ 10 ∷ [])) (quoted ∷ [])
unfolding directive_word
quoted-line c cs h k = record {
  lexemes = hash ∷ word (codes "include") ∷ space ∷ token (Quoted (c ∷ cs)) ∷ line_end ∷ [];
  cut = λ rest. ap (λ bs. kinds 0 (codes "#include " ++ 34 ∷ c ∷ bs)) (append_assoc cs (34 ∷ 10 ∷ []) rest) ∙ kinds-include_quoted (c ∷ cs) rest h;
  list = first ∷ behind (Word (codes "include")) ∷ apart (Quoted (c ∷ cs)) ∷ [];
  gathered = λ ks. onto_each-is (first ∷ behind (Word (codes "include")) ∷ apart (Quoted (c ∷ cs)) ∷ []) (bare_gathered true false ks);
  fresh = refl;
  lines = ap (λ r. cond r quoted (refused tt UnknownHeader) ∷ []) ((bytes_eq-Decides (c ∷ cs) (c ∷ cs)).1 refl);
  plain = pass-append is_plain (codes "#include ") (34 ∷ ((c ∷ cs) ++ 34 ∷ 10 ∷ [])) (pass-all is_plain (codes "#include ") refl) (refl, pass-append is_plain (c ∷ cs) (34 ∷ 10 ∷ []) k (refl, (refl, tt)));
}
