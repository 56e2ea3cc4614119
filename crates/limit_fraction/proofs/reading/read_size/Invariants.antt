-- The size so far, followed by the digits that are left, is the whole up to the cut.
use Rattle.std.proofs.Common.{◌≡◌, ◌^◌, ◌≤◌, min, drop}
use Rattle.std.specs.List.{list_all}
use Rattle.std.specs.Char.{is_ascii_digit}
use Rattle.limit_fraction.specs.Digits.{value_after}
use Rattle.limit_fraction.proofs.reading.read_size.Given as goal

abbrev pub invariant-loop-byte : goal.invariant-loop-byte
invariant-loop-byte l = record {
  value : min (value_after l.size (drop l.byte-index l.bytes)) (2 ^ 100) ≡ min (value_after 0 l.bytes) (2 ^ 100);
  digits : list_all is_ascii_digit (drop l.byte-index l.bytes) ≡ list_all is_ascii_digit l.bytes;
  within : l.size ≤ 2 ^ 100;
}
