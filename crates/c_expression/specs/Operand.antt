-- What stands at the front of an operand.
use Rattle.std.specs.Prelude.{◌≡◌, ℕ, ◌+◌, ◌<◌, List, length, drop, Ok}
use Rattle.c_text.specs.declared.place.Place.{Place}
use Rattle.c_text.specs.declared.token.Token.{Token}
use Rattle.cg_out.specs.Words.{◌>>=◌}
use Rattle.c_tree.specs.ExpressionCut.{expression_of, operand_of}
use Rattle.c_expression.specs.Prefixes.{with_prefix}
use Rattle.c_expression.specs.Joint.{IsJointless}
use Rattle.c_expression.specs.declared.prefixes.PrefixOp.{PrefixOp}
use Rattle.c_expression.specs.declared.cutting.OperandFront.{OperandFront}
use Rattle.c_expression.specs.declared.cutting.OperandFront.TheVariants.{Prefix, Whole}

-- a prefix operator or a cast, of which so many tokens follow the first
pub record IsBefore (room : ℕ) (ts : List Token) (after : Place) (p : PrefixOp) (more : ℕ) : Type 0 where
  pub within : more < length ts
  pub cuts : operand_of expression_of room ts after ≡ (expression_of room (drop (more + 1) ts) after >>= λ e. Ok (with_prefix p e))
  pub jointless : IsJointless ts → IsJointless (drop (more + 1) ts)

-- that, or the whole operand
abbrev pub IsFrontOf : OperandFront → ℕ → List Token → Place → Type 0
IsFrontOf (Prefix p more) room ts after = IsBefore room ts after p more
IsFrontOf (Whole e) room ts after = operand_of expression_of room ts after ≡ Ok e
