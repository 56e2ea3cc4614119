-- What is left behind lines, line by line: a plain program, whose outcome is that of the definition.
use Rattle.std.specs.Prelude.{ℕ, Bool, true, false, not, if◌then◌else◌, List, [], ◌∷◌, ◌++◌, drop, map, bytes_eq, Option, Some, None, is_some, Result, Ok, Err}
use Rattle.std.specs.List.{list_any}
use Rattle.c_text.specs.declared.place.Place.{Place}
use Rattle.c_text.specs.declared.token.Token.{Token}
use Rattle.c_text.specs.declared.token.TokenKind.{TokenKind}
use Rattle.c_text.specs.declared.refusal.CKind.TheVariants.{Redefined, Unbalanced}
use Rattle.c_text.specs.Refusal.{Refusal}
use Rattle.c_text.specs.SeenToken.{Seen, token_of}
use Rattle.c_text.specs.StandardHeader.{Header, stdbool_h, stddef_h, stdint_h, string_h, kind_in}
use Rattle.c_text.specs.Directive.{Line, text, standard, quoted, define, conditional, otherwise, endif, unbalanced, refused, word_of}
use Rattle.cg_out.specs.Words.{◌>>=◌, or_else, same_bool}
use Rattle.c_text.specs.MacroDefinition.{same_body}
use Rattle.c_text.specs.Conditional.{is_read}
use Rattle.c_text.specs.Preprocessing.{NamedBody, replaced_by}

-- what is left so far: the tokens, the macros, and the standard headers that were included, each once
pub record Progress : Type 0 where
  pub tokens : List Token
  pub macros : List (NamedBody Place)
  pub headers : List Header

abbrev pub nothing_left : Progress
nothing_left = record { tokens = []; macros = []; headers = [] }

-- ---- macros and headers

abbrev pub look : List ℕ → List (NamedBody Place) → Option (List (Seen Place))
look name [] = None
look name (m ∷ ms) = if bytes_eq name m.0 then Some m.1 else look name ms

abbrev pub kind_among : List Header → List ℕ → Option TokenKind
kind_among [] name = None
kind_among (h ∷ hs) name = or_else (kind_in h name) (kind_among hs name)

abbrev pub same_header : Header → Header → Bool
same_header stdbool_h stdbool_h = true
same_header stddef_h stddef_h = true
same_header stdint_h stdint_h = true
same_header string_h string_h = true
same_header g h = false

abbrev pub with_header : List Header → Header → List Header
with_header hs h = if list_any (λ g. same_header g h) hs then hs else hs ++ h ∷ []

-- ---- what is written for tokens

abbrev pub written_word : List (NamedBody Place) → List Header → Seen Place → Option (List ℕ) → List (Seen Place)
written_word ms hs t None = t ∷ []
written_word ms hs t (Some name) = replaced_by t (look name ms) (kind_among hs name)

abbrev pub written : List (NamedBody Place) → List Header → List (Seen Place) → List Token
written ms hs [] = []
written ms hs (t ∷ ts) = map token_of (written_word ms hs t (word_of t.kind)) ++ written ms hs ts

-- ---- lines

abbrev pub redefined : Progress → Place → Bool → Result Progress Refusal
redefined s p true = Ok s
redefined s p false = Err (record { kind = Redefined; place = p })

abbrev pub defined : Progress → Place → List ℕ → List (Seen Place) → Option (List (Seen Place)) → Result Progress Refusal
defined s p name body None = Ok (record s { macros = s.macros ++ (name, body) ∷ [] })
defined s p name body (Some first) = redefined s p (same_body first body)

-- behind a line that is read
abbrev pub taken : Progress → Line Place → Result Progress Refusal
taken s (text ts) = Ok (record s { tokens = s.tokens ++ written s.macros s.headers ts })
taken s (standard h) = Ok (record s { headers = with_header s.headers h })
taken s (define p name body) = defined s p name body (look name s.macros)
taken s (refused p kind) = Err (record { kind = kind; place = p })
taken s l = Ok s

-- behind a line of a file, where this is what is left behind a quoted include
abbrev pub passed : (Progress → Result Progress Refusal) → List Bool → Progress → Line Place → Result Progress Refusal
passed q reads s (conditional p wanted name) = Ok s
passed q reads s (otherwise p) = Ok s
passed q reads s (endif p) = Ok s
passed q reads s (unbalanced p) = Err (record { kind = Unbalanced; place = p })
passed q reads s quoted = if is_read reads then q s else Ok s
passed q reads s l = if is_read reads then taken s l else Ok s

abbrev pub turned : List Bool → List Bool
turned [] = []
turned (r ∷ rs) = not r ∷ rs

abbrev pub reads_then : List Bool → Progress → Line Place → List Bool
reads_then reads s (conditional p wanted name) = same_bool wanted (is_some (look name s.macros)) ∷ reads
reads_then reads s (otherwise p) = turned reads
reads_then reads s (endif p) = drop 1 reads
reads_then reads s l = reads

-- behind lines of a file
abbrev pub ran : (Progress → Result Progress Refusal) → List Bool → Progress → List (Line Place) → Result Progress Refusal
ran q reads s [] = Ok s
ran q reads s (l ∷ ls) = passed q reads s l >>= λ new. ran q (reads_then reads s l) new ls

abbrev pub ran_header : List (Line Place) → Progress → Result Progress Refusal
ran_header ls s = ran (λ new. Ok new) [] s ls
