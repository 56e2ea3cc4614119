-- Operators, and how tight they bind (ISO/IEC 9899:1999, 6.5).
use Rattle.std.specs.Prelude.{ℕ, List, [], ◌∷◌, Option, Some, None}
use Rattle.c_text.specs.declared.token.TokenKind.{TokenKind}
use Rattle.c_tree.specs.declared.symbol.Punctuator.{Punctuator}
use Rattle.c_tree.specs.declared.symbol.Punctuator.TheVariants as mark
use Rattle.c_tree.specs.declared.expression.BinaryOp.{BinaryOp}
use Rattle.c_tree.specs.declared.expression.BinaryOp.TheVariants as op
use Rattle.c_tree.specs.declared.expression.UnaryOp.{UnaryOp}
use Rattle.c_tree.specs.declared.expression.UnaryOp.TheVariants as sign
use Rattle.c_tree.specs.declared.statement.AssignOp.{AssignOp}
use Rattle.c_tree.specs.declared.statement.AssignOp.TheVariants as set
use Rattle.c_tree.specs.Symbol.{mark_of}

-- ---- between two operands

-- an operator and its level
abbrev pub Leveled : Type 0
Leveled = ℕ × BinaryOp

-- the levels, the loosest first
abbrev pub levels : List ℕ
levels = 0 ∷ 1 ∷ 2 ∷ 3 ∷ 4 ∷ 5 ∷ 6 ∷ 7 ∷ 8 ∷ []

abbrev pub binary_mark : Option Punctuator → Option Leveled
binary_mark (Some mark.BarBar) = Some (0, op.LogicalOr)
binary_mark (Some mark.AndAnd) = Some (1, op.LogicalAnd)
binary_mark (Some mark.Bar) = Some (2, op.BitOr)
binary_mark (Some mark.Caret) = Some (3, op.BitXor)
binary_mark (Some mark.And) = Some (4, op.BitAnd)
binary_mark (Some mark.EqualEqual) = Some (5, op.Equal)
binary_mark (Some mark.NotEqual) = Some (5, op.NotEqual)
binary_mark (Some mark.Less) = Some (6, op.Less)
binary_mark (Some mark.Greater) = Some (6, op.Greater)
binary_mark (Some mark.LessEqual) = Some (6, op.LessEqual)
binary_mark (Some mark.GreaterEqual) = Some (6, op.GreaterEqual)
binary_mark (Some mark.ShiftLeft) = Some (7, op.ShiftLeft)
binary_mark (Some mark.ShiftRight) = Some (7, op.ShiftRight)
binary_mark (Some mark.Plus) = Some (8, op.Add)
binary_mark (Some mark.Minus) = Some (8, op.Subtract)
binary_mark other = None

abbrev pub operator : TokenKind → Option Leveled
operator k = binary_mark (mark_of k)

-- ---- before an operand

abbrev pub prefix_mark : Option Punctuator → Option UnaryOp
prefix_mark (Some mark.Plus) = Some sign.Plus
prefix_mark (Some mark.Minus) = Some sign.Minus
prefix_mark (Some mark.Complement) = Some sign.Complement
prefix_mark (Some mark.Not) = Some sign.Not
prefix_mark other = None

abbrev pub prefix : TokenKind → Option UnaryOp
prefix k = prefix_mark (mark_of k)

-- those of the signs of a case value
abbrev pub sign_mark : Option Punctuator → Option UnaryOp
sign_mark (Some mark.Plus) = Some sign.Plus
sign_mark (Some mark.Minus) = Some sign.Minus
sign_mark other = None

abbrev pub sign_of : TokenKind → Option UnaryOp
sign_of k = sign_mark (mark_of k)

-- ---- of an assignment

abbrev pub assign_mark : Option Punctuator → Option AssignOp
assign_mark (Some mark.Equal) = Some set.Set
assign_mark (Some mark.BarEqual) = Some set.BitOr
assign_mark (Some mark.AndEqual) = Some set.BitAnd
assign_mark (Some mark.CaretEqual) = Some set.BitXor
assign_mark (Some mark.PlusEqual) = Some set.Add
assign_mark (Some mark.MinusEqual) = Some set.Subtract
assign_mark (Some mark.ShiftLeftEqual) = Some set.ShiftLeft
assign_mark (Some mark.ShiftRightEqual) = Some set.ShiftRight
assign_mark other = None

abbrev pub assignment : TokenKind → Option AssignOp
assignment k = assign_mark (mark_of k)
