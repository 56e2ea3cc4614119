use Rattle.std.proofs.Common.{not, sym, ap, ◌∙◌}
use Rattle.std.specs.List.{prefix_len}
use Rattle.c_pre.specs.Merging.{begins_directive}
use Rattle.c_pre.proofs.Merging.{behind-first, directive-first, text-first}
use Rattle.c_pre.proofs.cutting.line_length.Goals as goal

pub returns-then-begins_directive-clause-first : goal.returns-then-begins_directive-clause-first
returns-then-begins_directive-clause-first c =
    let ts = c.args.tokens.now in
    directive-first ts c.index-tokens-0.result c.length_before_fresh.result c.requires c.index-tokens-0.is (sym c.begins_directive.ensures ∙ c.if-begins_directive.true)
    (c.length_before_fresh.ensures.value ∙ ap (prefix_len (λ t. not t.fresh)) (behind-first ts))

pub returns-else-begins_directive-clause-first : goal.returns-else-begins_directive-clause-first
returns-else-begins_directive-clause-first c =
    let ts = c.args.tokens.now in
    text-first ts c.index-tokens-0.result c.length_before_directive.result c.requires c.index-tokens-0.is (sym c.begins_directive.ensures ∙ c.if-begins_directive.false)
    (c.length_before_directive.ensures.value ∙ ap (prefix_len (λ t. not (begins_directive t))) (behind-first ts))
