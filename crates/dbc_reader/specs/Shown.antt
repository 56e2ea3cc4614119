-- The tokens of the code, and how it keeps them.
use Rattle.std.specs.Prelude.{ℕ, List}
use Rattle.dbc_reader.specs.declared.token.Token as code
use Rattle.dbc_reader.specs.declared.token.Token.TheVariants as seen
use Rattle.dbc_reader.specs.declared.token.Kind.{Kind}
use Rattle.dbc_reader.specs.declared.token.Kind.TheVariants as kinds
use Rattle.dbc_reader.specs.Token.{Token, Word, Number, String, Mark, Bad}

-- the token that is seen
abbrev pub shown : code.Token → Token
shown (seen.Word bytes) = Word bytes.now
shown (seen.Number digits) = Number digits.now
shown (seen.String bytes) = String bytes.now
shown (seen.Mark byte) = Mark byte
shown (seen.Bad kind) = Bad kind

-- the token of a kind, with the bytes that are kept of it
abbrev pub token_of : Kind → List ℕ → Token
token_of kinds.Word bytes = Word bytes
token_of kinds.Number bytes = Number bytes
token_of kinds.String bytes = String bytes
token_of (kinds.Mark byte) bytes = Mark byte
token_of (kinds.Bad kind) bytes = Bad kind
