use Rattle.c_expression.proofs.Commas.{comma-part, no-comma}
use Rattle.c_expression.proofs.parts.first_part.Goals as goal

pub returns-in-None-clause-are : goal.returns-in-None-clause-are
returns-in-None-clause-are c = no-comma c.args.after c.args.tokens.now c.in-None.ensures.value

pub returns-in-Some-clause-are : goal.returns-in-Some-clause-are
returns-in-Some-clause-are c = rw c.behind.ensures (comma-part c.args.after c.in-Some.i c.args.tokens.now c.index-tokens-i.result c.in-Some.ensures.value)
