-- What preprocessing leaves, but for places.
use Rattle.std.specs.Prelude.{ℕ, List, map, Result, Ok, Err}
use Rattle.c_text.specs.declared.token.Token.{Token}
use Rattle.c_text.specs.declared.token.TokenKind.{TokenKind}
use Rattle.c_text.specs.declared.preprocessed.Macro.{Macro}
use Rattle.c_text.specs.declared.preprocessed.Preprocessed.{Preprocessed}
use Rattle.c_text.specs.declared.refusal.CKind.{CKind}
use Rattle.c_text.specs.Refusal.{Refusal}
use Rattle.c_text.specs.SeenToken.{Seen, Bare}
use Rattle.c_text.specs.Preprocessing.{Fault, NamedBody, Left, left_of, source_lines}

-- the kinds of the tokens, and each macro with those of its body
pub record BareLeft : Type 0 where
  pub tokens : List TokenKind
  pub macros : List (List ℕ × List TokenKind)

abbrev pub token_kinds : List Token → List TokenKind
token_kinds ts = map (λ t. t.kind) ts

abbrev pub macro_kinds : Macro → List ℕ × List TokenKind
macro_kinds m = (m.name, token_kinds m.body)

abbrev pub bare_preprocessed : Result Preprocessed Refusal → Result BareLeft CKind
bare_preprocessed (Ok left) = Ok (record { tokens = token_kinds left.tokens; macros = map macro_kinds left.macros })
bare_preprocessed (Err e) = Err e.kind

-- ---- of tokens without places

abbrev pub seen_kinds : {P : Type 0} → List (Seen P) → List TokenKind
seen_kinds ts = map (λ t. t.kind) ts

abbrev pub named_kinds : {P : Type 0} → NamedBody P → List ℕ × List TokenKind
named_kinds m = (m.0, seen_kinds m.1)

abbrev pub bare_left : {P : Type 0} → Result (Left P) (Fault P) → Result BareLeft CKind
bare_left (Ok left) = Ok (record { tokens = seen_kinds left.0; macros = map named_kinds left.1 })
bare_left (Err f) = Err f.0

abbrev pub preprocessed_bare : List Bare → List ℕ → List Bare → Result BareLeft CKind
preprocessed_bare header name source = bare_left (left_of (source_lines header name source))
