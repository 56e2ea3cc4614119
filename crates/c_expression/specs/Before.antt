-- What stands before a token, by the index from which a type may be spelled.
use Rattle.std.specs.Prelude.{ℕ, ◌-◌, ◌≤◌, List, take, drop}
use Rattle.c_text.specs.declared.token.Token.{Token}
use Rattle.c_tree.specs.TypeName.{kinds_of}
use Rattle.c_tree.specs.ExpressionCut.{Before as Means, start, bracket, operand}
use Rattle.c_expression.specs.declared.joints.Before.{Before}
use Rattle.c_expression.specs.declared.joints.Before.TheVariants.{Start, Bracket, Operand}

abbrev pub Tokens : Type 0
Tokens = List Token

-- before the token at this index
abbrev pub before_of : List Token → ℕ → Before → Means
before_of ts index Start = start
before_of ts index (Bracket from) = bracket (kinds_of (take (index - from) (drop from ts)))
before_of ts index Operand = operand

abbrev pub IsFrom : ℕ → Before → Type 0
IsFrom index Start = Unit {0}
IsFrom index (Bracket from) = from ≤ index
IsFrom index Operand = Unit {0}
