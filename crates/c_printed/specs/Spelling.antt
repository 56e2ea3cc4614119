-- How operators, constants and types are spelled.
use Rattle.std.specs.Prelude.{ℕ, zero, suc, ◌-◌, ◌^◌, Bool, true, false, nat_lt, if◌then◌else◌, List, [], ◌∷◌, ◌++◌, length, replicate, map, codes}
use Rattle.std.specs.Fmt.{decimal, digits}
use Rattle.c_text.specs.declared.token.Constant.{Constant}
use Rattle.c_text.specs.declared.token.IntType.{IntType}
use Rattle.c_text.specs.declared.token.Spelled.{Spelled}
use Rattle.c_text.specs.declared.token.Spelled.TheVariants.{Exact, Size, Plain}
use Rattle.c_text.specs.declared.token.TokenKind.{TokenKind}
use Rattle.c_text.specs.declared.token.TokenKind.TheVariants.{Word, TypeName, Null, Memset}
use Rattle.c_tree.specs.declared.expression.Callee.{Callee}
use Rattle.c_tree.specs.declared.expression.Callee.TheVariants as callee
use Rattle.c_tree.specs.declared.expression.UnaryOp.{UnaryOp}
use Rattle.c_tree.specs.declared.expression.BinaryOp.{BinaryOp}
use Rattle.c_tree.specs.declared.statement.AssignOp.{AssignOp}
use Rattle.c_text.specs.declared.token.IntType.TheVariants as int
use Rattle.c_tree.specs.declared.expression.UnaryOp.TheVariants as sign
use Rattle.c_tree.specs.declared.expression.BinaryOp.TheVariants as op
use Rattle.c_tree.specs.declared.statement.AssignOp.TheVariants as set

-- ---- operators

abbrev pub sign_text : UnaryOp → List ℕ
sign_text sign.Plus = codes "+"
sign_text sign.Minus = codes "-"
sign_text sign.Complement = codes "~"
sign_text sign.Not = codes "!"

abbrev pub operator_text : BinaryOp → List ℕ
operator_text op.LogicalOr = codes "||"
operator_text op.LogicalAnd = codes "&&"
operator_text op.BitOr = codes "|"
operator_text op.BitXor = codes "^"
operator_text op.BitAnd = codes "&"
operator_text op.Equal = codes "=="
operator_text op.NotEqual = codes "!="
operator_text op.Less = codes "<"
operator_text op.Greater = codes ">"
operator_text op.LessEqual = codes "<="
operator_text op.GreaterEqual = codes ">="
operator_text op.ShiftLeft = codes "<<"
operator_text op.ShiftRight = codes ">>"
operator_text op.Add = codes "+"
operator_text op.Subtract = codes "-"

-- the levels of operators, the loosest 0
abbrev pub level_of : BinaryOp → ℕ
level_of op.LogicalOr = 0
level_of op.LogicalAnd = 1
level_of op.BitOr = 2
level_of op.BitXor = 3
level_of op.BitAnd = 4
level_of op.Equal = 5
level_of op.NotEqual = 5
level_of op.Less = 6
level_of op.Greater = 6
level_of op.LessEqual = 6
level_of op.GreaterEqual = 6
level_of op.ShiftLeft = 7
level_of op.ShiftRight = 7
level_of op.Add = 8
level_of op.Subtract = 8

abbrev pub assign_text : AssignOp → List ℕ
assign_text set.Set = codes "="
assign_text set.BitOr = codes "|="
assign_text set.BitAnd = codes "&="
assign_text set.BitXor = codes "^="
assign_text set.Add = codes "+="
assign_text set.Subtract = codes "-="
assign_text set.ShiftLeft = codes "<<="
assign_text set.ShiftRight = codes ">>="

-- with a blank on each side
abbrev pub between : List ℕ → List ℕ
between m = 32 ∷ (m ++ 32 ∷ [])

-- ---- constants

abbrev pub u_text : Bool → List ℕ
u_text true = codes "u"
u_text false = []

abbrev pub l_text : ℕ → List ℕ
l_text zero = []
l_text (suc zero) = codes "l"
l_text (suc (suc n)) = codes "ll"

abbrev pub suffix_text : Bool → ℕ → List ℕ
suffix_text unsigned longs = u_text unsigned ++ l_text longs

-- the fewest of 2, 4, 8 or 16 digits
abbrev pub hex_width : ℕ → ℕ
hex_width v = if nat_lt v (2 ^ 8) then 2 else if nat_lt v (2 ^ 16) then 4 else if nat_lt v (2 ^ 32) then 8 else 16

abbrev pub padded : ℕ → List ℕ → List ℕ
padded width ds = replicate (width - length ds) 48 ++ ds

-- in a function with so many digits, in a macro without leading zeros
unfoldable pub hex_digits : Bool → ℕ → List ℕ
hex_digits wide v = if wide then padded (hex_width v) (digits 16 false v) else digits 16 false v

-- hexadecimal behind `0x`, decimal, or octal behind `0`
abbrev pub value_text : Bool → ℕ → ℕ → List ℕ
value_text wide base v =
    if nat_lt 10 base then 48 ∷ 120 ∷ hex_digits wide v
    else if nat_lt base 10 then 48 ∷ digits 8 false v
    else decimal v

abbrev pub constant_text : Bool → Constant → List ℕ
constant_text wide c = value_text wide c.base c.value ++ suffix_text c.unsigned c.longs

-- ---- types, as one or more words

abbrev pub plain_words : IntType → List (List ℕ)
plain_words int.Bool = codes "bool" ∷ []
plain_words int.SignedChar = codes "signed" ∷ codes "char" ∷ []
plain_words int.UnsignedChar = codes "unsigned" ∷ codes "char" ∷ []
plain_words int.Short = codes "short" ∷ []
plain_words int.UnsignedShort = codes "unsigned" ∷ codes "short" ∷ []
plain_words int.Int = codes "int" ∷ []
plain_words int.UnsignedInt = codes "unsigned" ∷ codes "int" ∷ []
plain_words int.Long = codes "long" ∷ []
plain_words int.UnsignedLong = codes "unsigned" ∷ codes "long" ∷ []
plain_words int.LongLong = codes "long" ∷ codes "long" ∷ []
plain_words int.UnsignedLongLong = codes "unsigned" ∷ codes "long" ∷ codes "long" ∷ []

abbrev pub sign_letter : Bool → List ℕ
sign_letter true = []
sign_letter false = codes "u"

-- the widths are 8, 16, 32 and 64
abbrev pub width_text : ℕ → List ℕ
width_text w = if nat_lt w 16 then codes "8" else if nat_lt w 32 then codes "16" else if nat_lt w 64 then codes "32" else codes "64"

abbrev pub type_words : Spelled → List (List ℕ)
type_words (Exact width signed) = (sign_letter signed ++ (codes "int" ++ (width_text width ++ codes "_t"))) ∷ []
type_words Size = codes "size_t" ∷ []
type_words (Plain t) = plain_words t

-- the words with a blank between
abbrev pub spaced : List (List ℕ) → List ℕ
spaced [] = []
spaced (w ∷ []) = w
spaced (w ∷ v ∷ ws) = w ++ 32 ∷ spaced (v ∷ ws)

abbrev pub type_text : Spelled → List ℕ
type_text s = spaced (type_words s)

-- ---- what a call names

abbrev pub callee_text : Callee → List ℕ
callee_text (callee.Name f) = f
callee_text callee.Memset = codes "memset"

-- ---- the tokens of what a header may turn into tokens of their own: as the text has them, and as preprocessing leaves them

pub record Voice : Type 0 where
  pub type : Spelled → List TokenKind
  pub null : TokenKind
  pub callee : Callee → TokenKind

abbrev pub words : List (List ℕ) → List TokenKind
words ws = map (λ w. Word w) ws

abbrev pub written : Voice
written = record { type = λ s. words (type_words s); null = Word (codes "NULL"); callee = λ f. Word (callee_text f) }

abbrev pub left_plain : IntType → List TokenKind
left_plain int.Bool = Word (codes "_Bool") ∷ []
left_plain t = words (plain_words t)

abbrev pub left_type : Spelled → List TokenKind
left_type (Plain t) = left_plain t
left_type s = TypeName s ∷ []

abbrev pub left_callee : Callee → TokenKind
left_callee (callee.Name f) = Word f
left_callee callee.Memset = Memset

abbrev pub left : Voice
left = record { type = left_type; null = Null; callee = left_callee }
