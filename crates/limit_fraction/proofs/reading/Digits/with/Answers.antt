-- A 0 is one more ten, and any other digit ends the tens.
use Rattle.std.proofs.Common.{◌*◌, ◌%◌, ◌^◌, min, arith, ap, sym, ◌∙◌}
use Rattle.limit_fraction.proofs.Tens.{tens_step, digit_behind, no_tens, IsLong-digit}
use Rattle.limit_fraction.proofs.reading.Digits.with.Goals as goal

pub returns-then-digit-eq0-clause-value : goal.returns-then-digit-eq0-clause-value
returns-then-digit-eq0-clause-value c = omega (arith, tens_step c.args.self.mantissa c.args.self.zeros)

pub invariant_of-result-then-mantissa-lt-TOO_LONG : goal.invariant_of-result-then-mantissa-lt-TOO_LONG
invariant_of-result-then-mantissa-lt-TOO_LONG c =
    let value = digit_behind (c.args.self.mantissa * 10 ^ c.args.self.zeros) c.args.digit _ _ (c.times_ten_to.ensures ∙ ap (λ x. min x (2 ^ 126)) (tens_step c.args.self.mantissa c.args.self.zeros)) c.from.ensures c.if-mantissa-lt-TOO_LONG.true in
    record {
      trimmed = λ h. absurd (no_tens _ c.args.digit c.if-digit-eq0.false c.requires.digit (ap (λ x. x % 10) (sym value) ∙ h));
      short = c.if-mantissa-lt-TOO_LONG.true;
    }

pub returns-then-mantissa-lt-TOO_LONG-clause-value : goal.returns-then-mantissa-lt-TOO_LONG-clause-value
returns-then-mantissa-lt-TOO_LONG-clause-value c =
    let value = digit_behind (c.args.self.mantissa * 10 ^ c.args.self.zeros) c.args.digit _ _ (c.times_ten_to.ensures ∙ ap (λ x. min x (2 ^ 126)) (tens_step c.args.self.mantissa c.args.self.zeros)) c.from.ensures c.if-mantissa-lt-TOO_LONG.true in
    omega arith

pub returns-else-mantissa-lt-TOO_LONG-clause-value : goal.returns-else-mantissa-lt-TOO_LONG-clause-value
returns-else-mantissa-lt-TOO_LONG-clause-value c =
    IsLong-digit (c.args.self.mantissa * 10 ^ c.args.self.zeros) c.args.digit _ _ c.if-digit-eq0.false c.requires.digit (c.times_ten_to.ensures ∙ ap (λ x. min x (2 ^ 126)) (tens_step c.args.self.mantissa c.args.self.zeros)) c.from.ensures c.if-mantissa-lt-TOO_LONG.false
