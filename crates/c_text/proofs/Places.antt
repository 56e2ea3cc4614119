-- A line means the same whatever is kept of places.
use Rattle.std.proofs.Common.{◌≡◌, ℕ, Bool, true, false, cond, ◌||◌, List, [], ◌∷◌, map, Option, Some, None, is_some, refl, ap, ◌∙◌}
use Rattle.c_text.specs.declared.token.TokenKind.{TokenKind}
use Rattle.c_text.specs.declared.token.TokenKind.TheVariants.{Word, Constant as Number, Quoted, Mark, TypeName, Null, Memset}
use Rattle.c_text.specs.declared.refusal.CKind.TheVariants.{BadDirective, UnknownHeader, MacroBody}
use Rattle.c_text.specs.StandardHeader.{Header, header_of}
use Rattle.c_text.specs.SeenToken.{Seen, kept_by, all_kept_by}
use Rattle.c_text.specs.Directive.{begins_fresh, before_lines, lines, Line, text, standard, quoted, define, conditional, otherwise, endif, unbalanced, refused, word_of, none_behind, up_to_greater, known_or_not, include_angled, is_beside, include_quoted, include_line, has_parameters, has_word, define_named, define_line, conditional_named, conditional_line, none_follow, DirectiveWord, k_include, k_define, k_ifdef, k_ifndef, k_else, k_endif, directive_word, directive_by, directive, line_of, lines_of}

-- a line with what is kept of its places
abbrev pub line_by : {P Q : Type 0} → (P → Q) → Line P → Line Q
line_by f (text ts) = text (all_kept_by f ts)
line_by f (standard h) = standard h
line_by f quoted = quoted
line_by f (define p name body) = define (f p) name (all_kept_by f body)
line_by f (conditional p wanted name) = conditional (f p) wanted name
line_by f (otherwise p) = otherwise (f p)
line_by f (endif p) = endif (f p)
line_by f (unbalanced p) = unbalanced (f p)
line_by f (refused p k) = refused (f p) k

module _ {P Q : Type 0} (f : P → Q) where
  either-by : (c : Bool) (x y : Line P) → cond c (line_by f x) (line_by f y) ≡ line_by f (cond c x y)
  either-by true x y = refl
  either-by false x y = refl

  -- ---- lines

  begins_fresh-by : (ts : List (Seen P)) → begins_fresh (all_kept_by f ts) ≡ begins_fresh ts
  begins_fresh-by [] = refl
  begins_fresh-by (t ∷ ts) = refl

  before_lines-by : (r : Bool) (t : Seen P) (ls : List (List (Seen P))) → before_lines r (kept_by f t) (map (all_kept_by f) ls) ≡ map (all_kept_by f) (before_lines r t ls)
  before_lines-by true t ls = refl
  before_lines-by false t [] = refl
  before_lines-by false t (l ∷ ls) = refl

  pub lines-by : (ts : List (Seen P)) → lines (all_kept_by f ts) ≡ map (all_kept_by f) (lines ts)
  lines-by [] = refl
  lines-by (t ∷ ts) = rw (begins_fresh-by ts, lines-by ts) (before_lines-by (begins_fresh ts) t (lines ts))

  -- ---- includes

  none_behind-by : (ts : List (Seen P)) → none_behind (all_kept_by f ts) ≡ none_behind ts
  none_behind-by [] = refl
  none_behind-by (t ∷ ts) = refl

  up_to_greater-by : (ts : List (Seen P)) → up_to_greater (all_kept_by f ts) ≡ up_to_greater ts
  up_to_greater-by [] = refl
  up_to_greater-by (t ∷ ts) = rw (none_behind-by ts, up_to_greater-by ts) refl

  known_or_not-by : (p : P) (h : Option Header) → known_or_not (f p) h ≡ line_by f (known_or_not p h)
  known_or_not-by p None = refl
  known_or_not-by p (Some h) = refl

  include_angled-by : (p : P) (r : Option (List TokenKind)) → include_angled (f p) r ≡ line_by f (include_angled p r)
  include_angled-by p None = refl
  include_angled-by p (Some []) = refl
  include_angled-by p (Some (k ∷ ks)) = known_or_not-by p (header_of (k ∷ ks))

  include_quoted-by : (beside : Option (List ℕ)) (p : P) (k : TokenKind) (ts : List (Seen P)) → include_quoted beside (f p) k (all_kept_by f ts) ≡ line_by f (include_quoted beside p k ts)
  include_quoted-by beside p (Quoted []) [] = refl
  include_quoted-by beside p (Quoted []) (t ∷ ts) = refl
  include_quoted-by beside p (Quoted (c ∷ cs)) [] = either-by (is_beside beside (c ∷ cs)) quoted (refused p UnknownHeader)
  include_quoted-by beside p (Quoted (c ∷ cs)) (t ∷ ts) = refl
  include_quoted-by beside p (Word w) ts = refl
  include_quoted-by beside p (Number c) ts = refl
  include_quoted-by beside p (Mark m) ts = refl
  include_quoted-by beside p (TypeName s) ts = refl
  include_quoted-by beside p Null ts = refl
  include_quoted-by beside p Memset ts = refl

  include_line-by : (beside : Option (List ℕ)) (p : P) (ts : List (Seen P)) → include_line beside (f p) (all_kept_by f ts) ≡ line_by f (include_line beside p ts)
  include_line-by beside p [] = refl
  include_line-by beside p (t ∷ ts) =
      rw (up_to_greater-by ts, include_angled-by p (up_to_greater ts), include_quoted-by beside p t.kind ts)
      (either-by _ (include_angled p (up_to_greater ts)) (include_quoted beside p t.kind ts))

  -- ---- definitions

  has_parameters-by : (ts : List (Seen P)) → has_parameters (all_kept_by f ts) ≡ has_parameters ts
  has_parameters-by [] = refl
  has_parameters-by (t ∷ ts) = refl

  has_word-by : (ts : List (Seen P)) → has_word (all_kept_by f ts) ≡ has_word ts
  has_word-by [] = refl
  has_word-by (t ∷ ts) = ap (λ r. is_some (word_of t.kind) || r) (has_word-by ts)

  define_named-by : (p : P) (name : Option (List ℕ)) (body : List (Seen P)) → define_named (f p) name (all_kept_by f body) ≡ line_by f (define_named p name body)
  define_named-by p None body = refl
  define_named-by p (Some name) body =
      let inner = either-by (has_word body) (refused p MacroBody) (define p name body) in
      rw (has_parameters-by body, has_word-by body)
      (ap (λ l. cond (has_parameters body) (refused (f p) BadDirective) l) inner
      ∙ either-by (has_parameters body) (refused p BadDirective) (cond (has_word body) (refused p MacroBody) (define p name body)))

  define_line-by : (p : P) (ts : List (Seen P)) → define_line (f p) (all_kept_by f ts) ≡ line_by f (define_line p ts)
  define_line-by p [] = refl
  define_line-by p (t ∷ ts) = define_named-by p (word_of t.kind) ts

  -- ---- conditionals

  conditional_named-by : (p : P) (wanted : Bool) (name : Option (List ℕ)) → conditional_named (f p) wanted name ≡ line_by f (conditional_named p wanted name)
  conditional_named-by p wanted None = refl
  conditional_named-by p wanted (Some name) = refl

  conditional_line-by : (p : P) (wanted : Bool) (ts : List (Seen P)) → conditional_line (f p) wanted (all_kept_by f ts) ≡ line_by f (conditional_line p wanted ts)
  conditional_line-by p wanted [] = refl
  conditional_line-by p wanted (t ∷ []) = conditional_named-by p wanted (word_of t.kind)
  conditional_line-by p wanted (t ∷ u ∷ us) = refl

  alone-by : (p : P) (l : Line P) (ts : List (Seen P)) → none_follow (f p) (line_by f l) (all_kept_by f ts) ≡ line_by f (none_follow p l ts)
  alone-by p l [] = refl
  alone-by p l (t ∷ ts) = refl

  -- ---- the whole

  directive_by-by : (beside : Option (List ℕ)) (p : P) (k : Option DirectiveWord) (ts : List (Seen P)) → directive_by beside (f p) k (all_kept_by f ts) ≡ line_by f (directive_by beside p k ts)
  directive_by-by beside p (Some k_include) ts = include_line-by beside p ts
  directive_by-by beside p (Some k_define) ts = define_line-by p ts
  directive_by-by beside p (Some k_ifdef) ts = conditional_line-by p true ts
  directive_by-by beside p (Some k_ifndef) ts = conditional_line-by p false ts
  directive_by-by beside p (Some k_else) ts = alone-by p (otherwise p) ts
  directive_by-by beside p (Some k_endif) ts = alone-by p (endif p) ts
  directive_by-by beside p None ts = refl

  directive-by : (beside : Option (List ℕ)) (p : P) (ts : List (Seen P)) → directive beside (f p) (all_kept_by f ts) ≡ line_by f (directive beside p ts)
  directive-by beside p [] = refl
  directive-by beside p (t ∷ ts) = directive_by-by beside p (directive_word t.kind) ts

  line_of-by : (beside : Option (List ℕ)) (ts : List (Seen P)) → line_of beside (all_kept_by f ts) ≡ line_by f (line_of beside ts)
  line_of-by beside [] = refl
  line_of-by beside (t ∷ ts) = rw (directive-by beside t.kept ts) (either-by _ (directive beside t.kept ts) (text (t ∷ ts)))

  all-by : (beside : Option (List ℕ)) (ls : List (List (Seen P))) → map (line_of beside) (map (all_kept_by f) ls) ≡ map (line_by f) (map (line_of beside) ls)
  all-by beside [] = refl
  all-by beside (l ∷ ls) = rw (line_of-by beside l, all-by beside ls) refl

  pub lines_of-by : (beside : Option (List ℕ)) (ts : List (Seen P)) → lines_of beside (all_kept_by f ts) ≡ map (line_by f) (lines_of beside ts)
  lines_of-by beside ts = ap (map (line_of beside)) (lines-by ts) ∙ all-by beside (lines ts)
