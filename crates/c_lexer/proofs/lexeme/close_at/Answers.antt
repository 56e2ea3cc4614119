use Rattle.std.proofs.Common.{arith, sym, ◌∙◌, get_or, refl}
use Rattle.c_lexer.proofs.Lengths.{past_byte}
use Rattle.c_lexer.proofs.lexeme.close_at.Goals as goal

pub loop-i-preserved : goal.loop-i-preserved
loop-i-preserved c =
    let i = c.loop-i.i in
    let bs = c.args.bytes.now in
    sym (past_byte i bs (get_or bs i 0) (omega arith) refl (rw (← c.behind.ensures) (sym c.closes_comment.ensures ∙ c.if-closes_comment.false))) ∙ c.loop-i.invariant
