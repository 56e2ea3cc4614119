use Rattle.std.proofs.Common.{Some, refl}
use Rattle.c_pre.proofs.Seen.{word_seen, unjoined_seen}
use Rattle.c_pre.proofs.directive.define_named.Goals as goal

pub returns-then-has_word : goal.returns-then-has_word
returns-then-has_word c = rw (← c.has_parameters.ensures, c.if-has_parameters.false, word_seen (Some c.args.end) c.args.body.now, ← c.has_word.ensures, c.if-has_word.true) c.refused.ensures

pub returns-else-has_word : goal.returns-else-has_word
returns-else-has_word c = rw (← c.has_parameters.ensures, c.if-has_parameters.false, word_seen (Some c.args.end) c.args.body.now, ← c.has_word.ensures, c.if-has_word.false, unjoined_seen (Some c.args.end) c.args.body.now) refl
