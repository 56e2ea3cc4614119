-- Templates of statements, as data: which tokens may stand there, and what is kept of them.
use Rattle.std.specs.Prelude.{◌⊎◌, ℕ, Bool, true, false, not, ◌==◌, if◌then◌else◌, List, Result, Ok, Err}
use Rattle.std.specs.List.{list_any}
use Rattle.std.specs.Str.{bytes_eq}
use Rattle.std.specs.declared.option.Option.{Option}
use Rattle.std.specs.declared.option.Option.TheVariants.{None, Some}
use Rattle.limit_fraction.specs.declared.number.Decimal.{Decimal}
use Rattle.limit_fraction.specs.Reading.{decimal_of}
use Rattle.can_model.specs.declared.refusal.TextKind.{TextKind}
use Rattle.can_model.specs.declared.refusal.TextKind.TheVariants.{BadNumber, Unexpected}
use Rattle.dbc_reader.specs.Token.{Token, Word, Number, String, Mark, Bad, Lexed}
use Rattle.dbc_reader.specs.Keywords.{keyword}
use Rattle.dbc_reader.specs.Number.{whole_in}
use Rattle.dbc_reader.specs.MuxWord.{is_mux}

-- what one token may be
pub data Want : Type 0 where
  -- any word, of which the line is kept: it begins a statement
  first_word : Want
  -- a mark that begins a statement
  first_mark : (byte : ℕ) → Want
  -- any word
  word : Want
  string : Want
  mark : (byte : ℕ) → Want
  -- `+` or `-`
  sign : Want
  -- a number whose value is whole and at most the limit
  whole_number : (limit : ℕ) → Want
  -- a number that can be kept
  decimal : Want

-- a test of the next token
pub data Test : Type 0 where
  -- each token
  anything : Test
  is_string : Test
  is_number : Test
  is_word : Test
  -- a word that is no keyword
  is_name : Test
  -- one of these words
  is_word_in : (words : List (List ℕ)) → Test
  is_mark : (byte : ℕ) → Test
  -- a number or one of these marks
  is_number_or : (marks : List ℕ) → Test
  -- each token but these words, and but what is bad
  unless_word : (words : List (List ℕ)) → Test
  -- each token but this mark, and but what is bad
  unless_mark : (byte : ℕ) → Test
  -- a multiplex word
  is_mux_word : Test

-- the tokens of a statement, or of a part of one
pub data Template : Type 0 where
  -- no token
  done : Template
  -- one token
  take : Want → Template
  -- the one, then the other
  both : Template → Template → Template
  -- where the next token passes the first template, else the second
  choose : Test → Template → Template → Template
  -- the template again and again, as long as the next token passes
  repeat : Test → Template → Template
  -- all tokens that pass, up to the first that does not
  skip : Test → Template
  -- a token that passes is a fault of this kind
  stop : Test → TextKind → Template

-- what is kept of a token
abbrev pub Given : Want → Type 0
Given first_word = ℕ
Given (first_mark byte) = ℕ
Given word = List ℕ
Given string = List ℕ
Given (mark byte) = Unit {0}
Given sign = Bool
Given (whole_number limit) = ℕ
Given decimal = Decimal

-- what is kept of the tokens of a template
abbrev pub Kept : Template → Type 0
Kept done = Unit {0}
Kept (take w) = Given w
Kept (both t u) = Kept t × Kept u
Kept (choose p t u) = Kept t ⊎ Kept u
Kept (repeat p t) = List (Kept t)
Kept (skip p) = Unit {0}
Kept (stop p kind) = Unit {0}

-- the value, or the fault of a number that does not fit
abbrev pub value_or_fault : {A : Type 0} → Option A → Result A TextKind
value_or_fault None = Err BadNumber
value_or_fault (Some n) = Ok n

-- `+` is false and `-` is true
abbrev pub sign_of_mark : ℕ → Result Bool TextKind
sign_of_mark byte = if byte == 45 then Ok true else if byte == 43 then Ok false else Err Unexpected

-- what a token gives where it is wanted, or its fault; a token that begins a statement gives its line
abbrev pub given_of : (w : Want) → Token → ℕ → Result (Given w) TextKind
given_of w (Bad kind) line = Err kind
given_of first_word (Word bytes) line = Ok line
given_of (first_mark b) (Mark c) line = if c == b then Ok line else Err Unexpected
given_of word (Word bytes) line = Ok bytes
given_of string (String bytes) line = Ok bytes
given_of (mark b) (Mark c) line = if c == b then Ok tt else Err Unexpected
given_of sign (Mark c) line = sign_of_mark c
given_of (whole_number limit) (Number digits) line = value_or_fault (whole_in limit digits)
given_of decimal (Number digits) line = value_or_fault (decimal_of digits)
given_of w t line = Err Unexpected

abbrev pub given : (w : Want) → Lexed → Result (Given w) TextKind
given w x = given_of w x.token x.line

-- whether a token passes a test
abbrev pub passes : Test → Token → Bool
passes anything t = true
passes is_string (String bytes) = true
passes is_string t = false
passes is_number (Number digits) = true
passes is_number t = false
passes is_word (Word bytes) = true
passes is_word t = false
passes is_name (Word bytes) = not (keyword bytes)
passes is_name t = false
passes (is_word_in ws) (Word bytes) = list_any (bytes_eq bytes) ws
passes (is_word_in ws) t = false
passes (is_mark b) (Mark c) = c == b
passes (is_mark b) t = false
passes (is_number_or ms) (Number digits) = true
passes (is_number_or ms) (Mark c) = list_any (λ m. m == c) ms
passes (is_number_or ms) t = false
passes (unless_word ws) (Word bytes) = not (list_any (bytes_eq bytes) ws)
passes (unless_word ws) (Bad kind) = false
passes (unless_word ws) t = true
passes (unless_mark b) (Mark c) = not (c == b)
passes (unless_mark b) (Bad kind) = false
passes (unless_mark b) t = true
passes is_mux_word (Word bytes) = is_mux bytes
passes is_mux_word t = false
