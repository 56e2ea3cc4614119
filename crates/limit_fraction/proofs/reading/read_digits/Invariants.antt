-- What was read, followed by the digits that are left, is the whole.
use Rattle.std.proofs.Common.{◌≡◌, ◌+◌, ◌*◌, ◌^◌, ◌≤◌, drop, length}
use Rattle.limit_fraction.specs.Digits.{value_after}
use Rattle.limit_fraction.specs.Reading.{digits_of, after_digits}
use Rattle.limit_fraction.proofs.reading.read_digits.Given as goal

abbrev pub invariant-loop-i : goal.invariant-loop-i
invariant-loop-i l = record {
  value : value_after (l.digits.mantissa * 10 ^ l.digits.zeros) (digits_of (drop l.i l.bytes)) ≡ value_after (l.initial.digits.mantissa * 10 ^ l.initial.digits.zeros) (digits_of l.bytes);
  rest : after_digits (drop l.i l.bytes) ≡ after_digits l.bytes;
  count : length (digits_of l.bytes) ≡ l.i + length (digits_of (drop l.i l.bytes));
  room : l.digits.zeros ≤ l.initial.digits.zeros + l.i;
}
