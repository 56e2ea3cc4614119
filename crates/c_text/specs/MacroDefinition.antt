-- Which names are macros behind the lines that were read (ISO/IEC 9899:1999, 6.10.3).
use Rattle.std.specs.Prelude.{ℕ, Bool, true, false, ◌&&◌, ◌==◌, if◌then◌else◌, List, [], ◌∷◌, bytes_eq, Option, Some, None, is_some}
use Rattle.c_text.specs.declared.token.Constant.{Constant}
use Rattle.c_text.specs.declared.token.IntType.{IntType}
use Rattle.c_text.specs.declared.token.IntType.TheVariants as int
use Rattle.c_text.specs.declared.token.Spelled.{Spelled}
use Rattle.c_text.specs.declared.token.Spelled.TheVariants.{Exact, Size, Plain}
use Rattle.c_text.specs.declared.token.TokenKind.{TokenKind}
use Rattle.c_text.specs.declared.token.TokenKind.TheVariants.{Word, Constant as Number, Quoted, Mark, TypeName, Null, Memset}
use Rattle.c_text.specs.SeenToken.{Seen}
use Rattle.c_text.specs.Directive.{Line, define}
use Rattle.cg_out.specs.Words.{or_else, same_bool}

-- ---- the first of some lines

-- what the first line that gives something gives
abbrev pub first_by : {P X : Type 0} → (Line P → Option X) → List (Line P) → Option X
first_by gives [] = None
first_by gives (l ∷ ls) = or_else (gives l) (first_by gives ls)

-- ---- macros

-- the body that a line gives the name
abbrev pub body_by : {P : Type 0} → List ℕ → Line P → Option (List (Seen P))
body_by name (define p n body) = if bytes_eq n name then Some body else None
body_by name other = None

-- the body of a macro, by its first definition
abbrev pub body_of : {P : Type 0} → List ℕ → List (Line P) → Option (List (Seen P))
body_of name ls = first_by (body_by name) ls

abbrev pub is_macro : {P : Type 0} → List ℕ → List (Line P) → Bool
is_macro name ls = is_some (body_of name ls)

-- ---- equal bodies (6.10.3p1): the tokens are of equal kinds and values

abbrev pub same_constant : Constant → Constant → Bool
same_constant c d = c.value == d.value && c.base == d.base && same_bool c.unsigned d.unsigned && c.longs == d.longs

-- the place among the types of integers
abbrev pub order_of : IntType → ℕ
order_of int.Bool = 0
order_of int.SignedChar = 1
order_of int.UnsignedChar = 2
order_of int.Short = 3
order_of int.UnsignedShort = 4
order_of int.Int = 5
order_of int.UnsignedInt = 6
order_of int.Long = 7
order_of int.UnsignedLong = 8
order_of int.LongLong = 9
order_of int.UnsignedLongLong = 10

abbrev pub same_spelled : Spelled → Spelled → Bool
same_spelled (Exact width signed) (Exact w s) = width == w && same_bool signed s
same_spelled Size Size = true
same_spelled (Plain a) (Plain b) = order_of a == order_of b
same_spelled a b = false

abbrev pub same_kind : TokenKind → TokenKind → Bool
same_kind (Word a) (Word b) = bytes_eq a b
same_kind (Number c) (Number d) = same_constant c d
same_kind (Quoted a) (Quoted b) = bytes_eq a b
same_kind (Mark a) (Mark b) = bytes_eq a b
same_kind (TypeName a) (TypeName b) = same_spelled a b
same_kind Null Null = true
same_kind Memset Memset = true
same_kind a b = false

abbrev pub same_body : {P : Type 0} → List (Seen P) → List (Seen P) → Bool
same_body [] [] = true
same_body (t ∷ ts) (u ∷ us) = same_kind t.kind u.kind && same_body ts us
same_body ts us = false
