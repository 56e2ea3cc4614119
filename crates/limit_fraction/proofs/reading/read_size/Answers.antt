-- One more digit, cut off on the way or at the end.
use Rattle.std.proofs.Common.{arith, sym, ◌∙◌, ◌^◌}
use Rattle.std.specs.Char.{is_ascii_digit}
use Rattle.limit_fraction.proofs.Texts.{value_after-cut_at, list_all-at}
use Rattle.limit_fraction.proofs.reading.read_size.Goals as goal

pub loop-byte-preserved : goal.loop-byte-preserved
loop-byte-preserved c = record {
  value = value_after-cut_at c.args.bytes.now c.loop-byte.byte-index c.loop-byte.size _ (2 ^ 100) c.loop-byte-test.true (cc) ∙ c.loop-byte.invariant.value;
  digits = list_all-at is_ascii_digit _ _ c.loop-byte-test.true (sym c.is_ascii_digit.ensures.value ∙ c.if-not-is_ascii_digit.false) ∙ c.loop-byte.invariant.digits;
  within = omega arith;
}
