use Rattle.std.proofs.Common.{◌≡◌, ◌≤◌, ◌^◌, ◌+◌, ◌*◌, get_or, arith, rules}
use Rattle.std.specs.Char.{digit_value}
use Rattle.c_lexer.proofs.ConstantParts.{large-behind}
use Rattle.c_lexer.proofs.constant.value_of.Goals as goal

pub returns-in_err-value : goal.returns-in_err-value
returns-in_err-value c =
    let i = c.loop-byte.byte-index in
    let ds = c.args.digits.now in
    let digit : c.in_ok-digit.digit ≡ digit_value (get_or ds i 0) = search rules in
    let large : 2 ^ 64 ≤ c.loop-byte.value * c.args.base + c.in_ok-digit.digit = c.in_err-value.ensures in
    rw (c.from_residual-in_err-value.ensures, ← c.loop-byte.invariant.told) (large-behind c.args.base c.loop-byte.value i c.in_ok-digit.digit ds (omega arith) (omega arith) digit large)
