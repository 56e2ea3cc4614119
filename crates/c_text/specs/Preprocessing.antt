-- What preprocessing leaves of a header and a source (ISO/IEC 9899:1999, 6.10).
use Rattle.std.specs.Prelude.{ℕ, Bool, true, false, if◌then◌else◌, List, [], ◌∷◌, ◌++◌, map, Option, Some, None, Result, Ok, Err}
use Rattle.c_text.specs.declared.place.Place.{Place}
use Rattle.c_text.specs.declared.token.Token.{Token}
use Rattle.c_text.specs.declared.token.TokenKind.{TokenKind}
use Rattle.c_text.specs.declared.preprocessed.Macro.{Macro}
use Rattle.c_text.specs.declared.preprocessed.Preprocessed.{Preprocessed}
use Rattle.c_text.specs.declared.refusal.CKind.{CKind}
use Rattle.c_text.specs.declared.refusal.CKind.TheVariants.{Redefined, Unbalanced}
use Rattle.c_text.specs.Refusal.{Refusal}
use Rattle.c_text.specs.Tokens.{tokens}
use Rattle.c_text.specs.StandardHeader.{kind_in}
use Rattle.c_text.specs.SeenToken.{Seen, seen_behind, token_of}
use Rattle.c_text.specs.Directive.{Line, text, standard, define, unbalanced, refused, word_of, lines_of}
use Rattle.c_text.specs.MacroDefinition.{first_by, body_of, is_macro, same_body}
use Rattle.c_text.specs.Conditional.{balanced, read_lines}

-- ---- the lines of both files in the order of reading

abbrev pub header_lines : {P : Type 0} → List (Seen P) → List (Line P) → List (Line P)
header_lines header before = read_lines (λ ls. []) [] before (balanced [] (lines_of None header))

abbrev pub source_lines : {P : Type 0} → List (Seen P) → List ℕ → List (Seen P) → List (Line P)
source_lines header name source = read_lines (header_lines header) [] [] (balanced [] (lines_of (Some name) source))

-- what each line gives behind those before it, joined
abbrev pub each_behind : {P X : Type 0} → (List (Line P) → Line P → List X) → List (Line P) → List (Line P) → List X
each_behind gives before [] = []
each_behind gives before (l ∷ ls) = gives before l ++ each_behind gives (before ++ l ∷ []) ls

-- ---- faults, each at the `#` of its directive

abbrev pub Fault : Type 0 → Type 0
Fault P = CKind × P

abbrev pub unless_same : {P : Type 0} → P → Option (List (Seen P)) → List (Seen P) → List (Fault P)
unless_same p None body = []
unless_same p (Some first) body = if same_body first body then [] else (Redefined, p) ∷ []

abbrev pub faults_at : {P : Type 0} → List (Line P) → Line P → List (Fault P)
faults_at before (refused p kind) = (kind, p) ∷ []
faults_at before (unbalanced p) = (Unbalanced, p) ∷ []
faults_at before (define p name body) = unless_same p (body_of name before) body
faults_at before l = []

-- ---- macros (6.10.3), each with its name and its first body

abbrev pub NamedBody : Type 0 → Type 0
NamedBody P = List ℕ × List (Seen P)

abbrev pub macros_at : {P : Type 0} → List (Line P) → Line P → List (NamedBody P)
macros_at before (define p name body) = if is_macro name before then [] else (name, body) ∷ []
macros_at before l = []

-- ---- replacement (6.10.3.1), with the names that headers give

-- another token in the place of a name
abbrev pub put_for : {P : Type 0} → Seen P → Bool → TokenKind → Seen P
put_for t fresh k = record { kind = k; fresh = fresh; joined = t.joined; kept = t.kept }

-- the body in the place of a name; its first token is fresh where the name was
abbrev pub body_for : {P : Type 0} → Seen P → List (Seen P) → List (Seen P)
body_for t [] = []
body_for t (b ∷ bs) = put_for t t.fresh b.kind ∷ map (λ c. put_for t false c.kind) bs

abbrev pub kind_by : {P : Type 0} → List ℕ → Line P → Option TokenKind
kind_by name (standard h) = kind_in h name
kind_by name l = None

-- a name that is a macro, or that a header gives, or neither
abbrev pub replaced_by : {P : Type 0} → Seen P → Option (List (Seen P)) → Option TokenKind → List (Seen P)
replaced_by t (Some body) k = body_for t body
replaced_by t None (Some k) = put_for t t.fresh k ∷ []
replaced_by t None None = t ∷ []

abbrev pub replaced_word : {P : Type 0} → List (Line P) → Seen P → Option (List ℕ) → List (Seen P)
replaced_word before t None = t ∷ []
replaced_word before t (Some name) = replaced_by t (body_of name before) (first_by (kind_by name) before)

abbrev pub replaced : {P : Type 0} → List (Line P) → List (Seen P) → List (Seen P)
replaced before [] = []
replaced before (t ∷ ts) = replaced_word before t (word_of t.kind) ++ replaced before ts

abbrev pub tokens_at : {P : Type 0} → List (Line P) → Line P → List (Seen P)
tokens_at before (text ts) = replaced before ts
tokens_at before l = []

-- ---- the whole

-- the tokens and the macros
abbrev pub Left : Type 0 → Type 0
Left P = List (Seen P) × List (NamedBody P)

-- the first fault, or else what is left
abbrev pub unless_fault : {P : Type 0} → List (Fault P) → Left P → Result (Left P) (Fault P)
unless_fault [] left = Ok left
unless_fault (f ∷ fs) left = Err f

abbrev pub left_of : {P : Type 0} → List (Line P) → Result (Left P) (Fault P)
left_of ls = unless_fault (each_behind faults_at [] ls) (each_behind tokens_at [] ls, each_behind macros_at [] ls)

abbrev pub macro_of : NamedBody Place → Macro
macro_of m = record { name = m.0; body = map token_of m.1 }

abbrev pub placed_left : Result (Left Place) (Fault Place) → Result Preprocessed Refusal
placed_left (Ok left) = Ok (record { tokens = map token_of left.0; macros = map macro_of left.1 })
placed_left (Err f) = Err (record { kind = f.0; place = f.1 })

-- of a header with this name and of a source, as tokens
abbrev pub preprocessed : List Token → List ℕ → List Token → Result Preprocessed Refusal
preprocessed header name source = placed_left (left_of (source_lines (seen_behind None header) name (seen_behind None source)))

-- of two texts: the first fault is that of the header's tokens, then that of the source's, then that of preprocessing
abbrev pub preprocessed_of : List ℕ → Result (List Token) Refusal → Result (List Token) Refusal → Result Preprocessed Refusal
preprocessed_of name (Err e) source = Err e
preprocessed_of name (Ok header) (Err e) = Err e
preprocessed_of name (Ok header) (Ok source) = preprocessed header name source

abbrev pub preprocessed_texts : List ℕ → List ℕ → List ℕ → Result Preprocessed Refusal
preprocessed_texts header name source = preprocessed_of name (tokens true header) (tokens false source)
