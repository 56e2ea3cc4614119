use Rattle.std.proofs.Common.{◌≡◌, Some, arith, sym, ◌∙◌, drop, ap}
use Rattle.c_text.specs.IntegerConstant.{Suffix, suffix_of}
use Rattle.c_lexer.specs.contracts.constant.Suffix.{the_view}
use Rattle.c_lexer.proofs.Lengths.{take-take_while}
use Rattle.c_lexer.proofs.ConstantParts.{front-digits, constant_in-read, constant_in-large}
use Rattle.c_lexer.proofs.constant.constant_in.Goals as goal

pub value_of-requires-clause-digits : goal.value_of-requires-clause-digits
value_of-requires-clause-digits c = rw (c.digits_length-count.ensures.value, take-take_while) (front-digits c.args.base c.args.bytes.now)

pub returns-in_err-value : goal.returns-in_err-value
returns-in_err-value c =
    let bs = c.args.bytes.now in
    let suffix : suffix_of (drop c.digits_length-count.result bs) ≡ Some c.in_ok-suffix.suffix = rw (← c.behind.ensures) (sym (c.in_ok-suffix.ensures)) in
    c.from_residual-in_err-value.ensures ∙ sym (constant_in-large c.args.base c.digits_length-count.result bs c.in_ok-suffix.suffix c.digits_length-count.ensures.value suffix (c.in_err-value.ensures))

pub returns : goal.returns
returns c =
    let bs = c.args.bytes.now in
    let s : Suffix = the_view c.suffix.inside in
    let suffix : suffix_of (drop c.digits_length-count.result bs) ≡ Some s = rw (← c.behind.ensures) (sym (c.in_ok-suffix.ensures) ∙ ap (λ (t : Suffix). Some t) (sym c.suffix.view_is)) in
    sym (constant_in-read c.args.base c.digits_length-count.result c.in_ok-value.value bs s c.digits_length-count.ensures.value (omega arith) suffix (c.in_ok-value.ensures) (omega arith))
