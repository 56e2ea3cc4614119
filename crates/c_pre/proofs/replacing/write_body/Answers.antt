use Rattle.std.proofs.Common.{◌++◌, sym, ap, ◌∙◌, append-nil, arith}
use Rattle.c_pre.proofs.Tables.{body-left, body-done}
use Rattle.c_pre.proofs.replacing.write_body.Goals as goal

pub returns : goal.returns
returns c =
    sym (append-nil c.loop-token.out)
    ∙ ap (λ r. c.loop-token.out ++ r) (sym (body-done c.args.name.now c.loop-token.fresh c.loop-token.token-index c.args.body.now (omega arith)))
    ∙ c.loop-token.invariant
    ∙ ap (λ r. c.args.out.now ++ r) (sym (body-left c.args.name.now c.args.body.now))
