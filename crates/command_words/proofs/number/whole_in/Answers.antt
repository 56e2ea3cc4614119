use Rattle.std.proofs.Common.{rules, ◌∙◌}
use Rattle.command_words.proofs.Digits.{parsed_whole, digits_utf8}
use Rattle.command_words.proofs.number.whole_in.Goals as goal

pub returns-in-Ok : goal.returns-in-Ok
returns-in-Ok c =
    let parsed = rw c.in-Ok.ensures.cases.0 at c.parse.ensures.value.0 in
    c.ok.ensures.value ∙ parsed_whole c.args.digits.now c.parse.result parsed (search rules) (search rules)

pub returns-in-Err : goal.returns-in-Err
returns-in-Err c = absurd (c.in-Err.ensures.cases.0 (digits_utf8 c.args.digits.now (search rules)))
