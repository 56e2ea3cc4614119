-- What the code's lines show: the definition's lines, in which no token is joined to the one before.
use Rattle.std.specs.Prelude.{ℕ, Bool, true, false, List, [], ◌∷◌, map, Option, None}
use Rattle.c_text.specs.declared.place.Place.{Place}
use Rattle.c_text.specs.declared.token.Token.{Token}
use Rattle.c_text.specs.declared.token.TokenKind.{TokenKind}
use Rattle.c_text.specs.SeenToken.{Seen, seen_behind}
use Rattle.c_text.specs.StandardHeader.{Header, stdbool_h, stddef_h, stdint_h, string_h}
use Rattle.c_text.specs.Directive.{Line, text, standard, quoted, define, conditional, otherwise, endif, unbalanced, refused, DirectiveWord, k_include, k_define, k_ifdef, k_ifndef, k_else, k_endif, line_of}
use Rattle.c_pre.specs.declared.line.Header.{Header as CodeHeader}
use Rattle.c_pre.specs.declared.line.Header.TheVariants.{StdBool, StdDef, StdInt, StringH}
use Rattle.c_pre.specs.declared.line.Line.{Line as CodeLine}
use Rattle.c_pre.specs.declared.line.Line.TheVariants.{Text, Standard, Quoted, Define, Conditional, Otherwise, EndIf, Unbalanced, Refused}
use Rattle.c_pre.specs.declared.directive.Keyword.{Keyword as CodeKeyword}
use Rattle.c_pre.specs.declared.directive.Keyword.TheVariants as word

abbrev pub header_shown : CodeHeader → Header
header_shown StdBool = stdbool_h
header_shown StdDef = stddef_h
header_shown StdInt = stdint_h
header_shown StringH = string_h

abbrev pub keyword_shown : CodeKeyword → DirectiveWord
keyword_shown word.Include = k_include
keyword_shown word.Define = k_define
keyword_shown word.IfDef = k_ifdef
keyword_shown word.IfNotDef = k_ifndef
keyword_shown word.Else = k_else
keyword_shown word.EndIf = k_endif

-- ---- tokens

abbrev pub kinds : List Token → List TokenKind
kinds ts = map (λ t. t.kind) ts

-- a token of which it is left open whether it is joined
abbrev pub flat : Token → Seen Place
flat t = record { kind = t.kind; fresh = t.fresh; joined = false; kept = t.place }

abbrev pub flats : List Token → List (Seen Place)
flats ts = map flat ts

abbrev pub unjoin : Seen Place → Seen Place
unjoin s = record { kind = s.kind; fresh = s.fresh; joined = false; kept = s.kept }

-- ---- lines

abbrev pub unjoined : Line Place → Line Place
unjoined (text ts) = text (map unjoin ts)
unjoined (define p name body) = define p name (map unjoin body)
unjoined l = l

abbrev pub shown : CodeLine → Line Place
shown (Text ts) = text (flats ts.now)
shown (Standard h) = standard (header_shown h)
shown Quoted = quoted
shown (Define p name body) = define p name.now (flats body.now)
shown (Conditional p wanted name) = conditional p wanted name.now
shown (Otherwise p) = otherwise p
shown (EndIf p) = endif p
shown (Unbalanced p) = unbalanced p
shown (Refused p kind) = refused p kind

-- the line with these tokens
abbrev pub told : Option (List ℕ) → List Token → Line Place
told beside ts = unjoined (line_of beside (seen_behind None ts))

-- ---- tokens cut into lines

abbrev pub starts_line : List Token → Bool
starts_line [] = true
starts_line (t ∷ ts) = t.fresh

abbrev pub before_cut : Bool → Token → List (List Token) → List (List Token)
before_cut true t ls = (t ∷ []) ∷ ls
before_cut false t [] = (t ∷ []) ∷ []
before_cut false t (l ∷ ls) = (t ∷ l) ∷ ls

-- the tokens, cut before each fresh one
abbrev pub cut : List Token → List (List Token)
cut [] = []
cut (t ∷ ts) = before_cut (starts_line ts) t (cut ts)
