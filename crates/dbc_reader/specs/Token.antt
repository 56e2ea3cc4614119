-- A token of a text.
use Rattle.std.specs.Prelude.{ℕ, List}
use Rattle.can_model.specs.declared.refusal.TextKind.{TextKind}

pub data Token : Type 0 where
  -- a letter or `_`, then letters, digits and `_`
  Word : (bytes : List ℕ) → Token
  -- digits with an optional point and an optional exponent, as spelled
  Number : (digits : List ℕ) → Token
  -- the bytes between two quotes, as they are
  String : (bytes : List ℕ) → Token
  -- one of the marks, as its byte
  Mark : (byte : ℕ) → Token
  -- a byte that begins no token, or a string without its end; no token follows it
  Bad : (kind : TextKind) → Token

-- a token and its line
pub record Lexed : Type 0 where
  pub token : Token
  pub line : ℕ
