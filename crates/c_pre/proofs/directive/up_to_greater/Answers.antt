use Rattle.std.proofs.Common.{codes, take, sym, ◌∙◌, ap}
use Rattle.c_text.specs.StandardHeader.{is_mark}
use Rattle.c_pre.proofs.Angled.{greater-more}
use Rattle.c_pre.proofs.directive.up_to_greater.Goals as goal

pub returns-else-i-tokens : goal.returns-else-i-tokens
returns-else-i-tokens c =
    let is = c.index-tokens-i.is in
    sym (greater-more (take c.loop-i.i c.args.tokens.now) c.args.tokens.now c.loop-i.i c.loop-i.end c.index-tokens-i.result c.loop-i-test.true (ap (λ t. t.place.start) (sym is) ∙ c.if-token-end.false) (ap (λ t. is_mark (codes ">") t.kind) (sym is) ∙ sym c.is_mark.ensures ∙ c.if-is_mark.true) c.if-i-tokens.false)
    ∙ c.loop-i.invariant
