use Rattle.std.proofs.Common.{ap, subst}
use Rattle.c_tree.specs.ExpressionCut.{bracket}
use Rattle.c_expression.specs.Before.{IsFrom}
use Rattle.c_expression.proofs.Growing.{kinds-next}
use Rattle.c_expression.proofs.joints.behind_type_word.Goals as goal

pub returns-in-Bracket-clause-value : goal.returns-in-Bracket-clause-value
returns-in-Bracket-clause-value c =
    rw c.in-Bracket.is (ap bracket (kinds-next c.args.tokens.now c.in-Bracket.from c.args.index c.args.token.now (subst (IsFrom c.args.index) c.in-Bracket.is c.requires.from) c.requires.at))
