use Rattle.std.proofs.Common.{length, ◌*◌, ◌+◌}
use Rattle.c_parser.proofs.case_value.+value.Given as goal

abbrev pub decreases-case_value : goal.decreases-case_value
decreases-case_value l = 2 * length l.tokens.now + 1

abbrev pub decreases-unsigned : goal.decreases-unsigned
decreases-unsigned l = 2 * length l.tokens.now
