-- The lines of a file of tokens: directives and text (ISO/IEC 9899:1999, 6.10).
use Rattle.std.specs.Prelude.{ℕ, Bool, true, false, ◌&&◌, if◌then◌else◌, List, [], ◌∷◌, map, codes, bytes_eq, Option, Some, None, is_some}
use Rattle.std.specs.List.{list_any}
use Rattle.c_text.specs.declared.token.TokenKind.{TokenKind}
use Rattle.c_text.specs.declared.token.TokenKind.TheVariants.{Word, Quoted}
use Rattle.c_text.specs.declared.refusal.CKind.{CKind}
use Rattle.c_text.specs.declared.refusal.CKind.TheVariants.{BadDirective, UnknownHeader, MacroBody}
use Rattle.c_text.specs.StandardHeader.{Header, header_of, is_word, is_mark}
use Rattle.c_text.specs.SeenToken.{Seen}

-- ---- lines (6.10p2)

-- no token follows, or a fresh one
abbrev pub begins_fresh : {P : Type 0} → List (Seen P) → Bool
begins_fresh [] = true
begins_fresh (t ∷ ts) = t.fresh

-- a token before a line end, or before the tokens of the first line
abbrev pub before_lines : {P : Type 0} → Bool → Seen P → List (List (Seen P)) → List (List (Seen P))
before_lines true t ls = (t ∷ []) ∷ ls
before_lines false t [] = (t ∷ []) ∷ []
before_lines false t (l ∷ ls) = (t ∷ l) ∷ ls

-- the tokens, cut before each fresh one
abbrev pub lines : {P : Type 0} → List (Seen P) → List (List (Seen P))
lines [] = []
lines (t ∷ ts) = before_lines (begins_fresh ts) t (lines ts)

-- ---- what a line is, with the place of its `#`

pub data Line (P : Type 0) : Type 0 where
  -- tokens that are no directive
  text : List (Seen P) → Line P
  -- an include of a standard header, or of the header that stands beside the source
  standard : Header → Line P
  quoted : Line P
  -- a macro's name and body
  define : P → List ℕ → List (Seen P) → Line P
  -- `#ifdef` (true) or `#ifndef` (false) with its name, `#else` and `#endif`
  conditional : P → Bool → List ℕ → Line P
  otherwise : P → Line P
  endif : P → Line P
  -- a conditional line that belongs to no whole conditional
  unbalanced : P → Line P
  -- a directive that may not stand there
  refused : P → CKind → Line P

abbrev pub word_of : TokenKind → Option (List ℕ)
word_of (Word name) = Some name
word_of other = None

-- ---- includes (6.10.2)

abbrev pub and_kind : TokenKind → Option (List TokenKind) → Option (List TokenKind)
and_kind k None = None
and_kind k (Some ks) = Some (k ∷ ks)

abbrev pub none_behind : {P : Type 0} → List (Seen P) → Option (List TokenKind)
none_behind [] = Some []
none_behind (t ∷ ts) = None

-- what stands before a `>` that is the line's last token, all without blanks
abbrev pub up_to_greater : {P : Type 0} → List (Seen P) → Option (List TokenKind)
up_to_greater [] = None
up_to_greater (t ∷ ts) =
    if t.joined then (if is_mark (codes ">") t.kind then none_behind ts else and_kind t.kind (up_to_greater ts))
    else None

abbrev pub known_or_not : {P : Type 0} → P → Option Header → Line P
known_or_not p None = refused p UnknownHeader
known_or_not p (Some h) = standard h

-- `<` name `>` with something between
abbrev pub include_angled : {P : Type 0} → P → Option (List TokenKind) → Line P
include_angled p None = refused p BadDirective
include_angled p (Some []) = refused p BadDirective
include_angled p (Some (k ∷ ks)) = known_or_not p (header_of (k ∷ ks))

abbrev pub is_beside : Option (List ℕ) → List ℕ → Bool
is_beside None name = false
is_beside (Some header) name = bytes_eq header name

-- `"` name `"`, which may be the header beside the source, where one is given; no header has the empty name
abbrev pub include_quoted : {P : Type 0} → Option (List ℕ) → P → TokenKind → List (Seen P) → Line P
include_quoted beside p (Quoted []) [] = refused p UnknownHeader
include_quoted beside p (Quoted (c ∷ cs)) [] = if is_beside beside (c ∷ cs) then quoted else refused p UnknownHeader
include_quoted beside p other ts = refused p BadDirective

abbrev pub include_line : {P : Type 0} → Option (List ℕ) → P → List (Seen P) → Line P
include_line beside p [] = refused p BadDirective
include_line beside p (t ∷ ts) = if is_mark (codes "<") t.kind then include_angled p (up_to_greater ts) else include_quoted beside p t.kind ts

-- ---- definitions of macros without parameters (6.10.3)

-- an opening bracket directly behind the name would begin parameters
abbrev pub has_parameters : {P : Type 0} → List (Seen P) → Bool
has_parameters [] = false
has_parameters (t ∷ ts) = is_mark (codes "(") t.kind && t.joined

abbrev pub has_word : {P : Type 0} → List (Seen P) → Bool
has_word ts = list_any (λ t. is_some (word_of t.kind)) ts

abbrev pub define_named : {P : Type 0} → P → Option (List ℕ) → List (Seen P) → Line P
define_named p None body = refused p BadDirective
define_named p (Some name) body =
    if has_parameters body then refused p BadDirective
    else if has_word body then refused p MacroBody
    else define p name body

abbrev pub define_line : {P : Type 0} → P → List (Seen P) → Line P
define_line p [] = refused p BadDirective
define_line p (t ∷ ts) = define_named p (word_of t.kind) ts

-- ---- conditionals (6.10.1)

abbrev pub conditional_named : {P : Type 0} → P → Bool → Option (List ℕ) → Line P
conditional_named p wanted None = refused p BadDirective
conditional_named p wanted (Some name) = conditional p wanted name

-- a name and no more
abbrev pub conditional_line : {P : Type 0} → P → Bool → List (Seen P) → Line P
conditional_line p wanted (t ∷ []) = conditional_named p wanted (word_of t.kind)
conditional_line p wanted other = refused p BadDirective

abbrev pub none_follow : {P : Type 0} → P → Line P → List (Seen P) → Line P
none_follow p l [] = l
none_follow p l (t ∷ ts) = refused p BadDirective

-- ---- the whole

pub data DirectiveWord : Type 0 where
  k_include : DirectiveWord
  k_define : DirectiveWord
  k_ifdef : DirectiveWord
  k_ifndef : DirectiveWord
  k_else : DirectiveWord
  k_endif : DirectiveWord

-- the word behind the `#`
unfoldable pub directive_word : TokenKind → Option DirectiveWord
directive_word k =
    if is_word (codes "include") k then Some k_include
    else if is_word (codes "define") k then Some k_define
    else if is_word (codes "ifdef") k then Some k_ifdef
    else if is_word (codes "ifndef") k then Some k_ifndef
    else if is_word (codes "else") k then Some k_else
    else if is_word (codes "endif") k then Some k_endif
    else None

abbrev pub directive_by : {P : Type 0} → Option (List ℕ) → P → Option DirectiveWord → List (Seen P) → Line P
directive_by beside p (Some k_include) ts = include_line beside p ts
directive_by beside p (Some k_define) ts = define_line p ts
directive_by beside p (Some k_ifdef) ts = conditional_line p true ts
directive_by beside p (Some k_ifndef) ts = conditional_line p false ts
directive_by beside p (Some k_else) ts = none_follow p (otherwise p) ts
directive_by beside p (Some k_endif) ts = none_follow p (endif p) ts
directive_by beside p None ts = refused p BadDirective

-- the directive with these tokens behind its `#`
abbrev pub directive : {P : Type 0} → Option (List ℕ) → P → List (Seen P) → Line P
directive beside p [] = refused p BadDirective
directive beside p (t ∷ ts) = directive_by beside p (directive_word t.kind) ts

-- a directive begins with a `#` that is fresh
abbrev pub line_of : {P : Type 0} → Option (List ℕ) → List (Seen P) → Line P
line_of beside [] = text []
line_of beside (t ∷ ts) = if t.fresh && is_mark (codes "#") t.kind then directive beside t.kept ts else text (t ∷ ts)

-- the lines of a file in which a quoted include may name this header, or none
abbrev pub lines_of : {P : Type 0} → Option (List ℕ) → List (Seen P) → List (Line P)
lines_of beside ts = map (line_of beside) (lines ts)
