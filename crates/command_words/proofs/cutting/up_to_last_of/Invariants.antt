use Rattle.std.proofs.Common.{◌≡◌, ◌+◌, ◌≤◌, length, take}
use Rattle.std.specs.Prelude.{not, ◌==◌}
use Rattle.std.specs.List.{suffix_len}
use Rattle.command_words.proofs.cutting.up_to_last_of.Given as goal

abbrev pub invariant-loop-end : goal.invariant-loop-end
invariant-loop-end l = record {
  behind : l.end + suffix_len (λ b. not (b == l.mark)) l.bytes ≡ length l.bytes + suffix_len (λ b. not (b == l.mark)) (take l.end l.bytes);
  within : l.end ≤ length l.bytes;
}

abbrev pub decreases-loop-end : goal.decreases-loop-end
decreases-loop-end l = l.end
