use Rattle.std.proofs.Common.{◌≡◌, ◌+◌, ◌*◌, ◌≤◌, ◌-◌, length}
use Rattle.c_tree.specs.Sequence.{all_read}
use Rattle.c_tree.specs.StatementCut.{statement_of, each, switch_part}
use Rattle.c_expression.specs.Front.{with_front}
use Rattle.c_parser.specs.Pending.{around, read_from, resumed}
use Rattle.c_parser.proofs.statements.+statement.Given as goal

abbrev pub decreases-statement : goal.decreases-statement
decreases-statement l = 4 * length l.tokens.now + 3

abbrev pub invariant-statement-loop-pending : goal.invariant-statement-loop-pending
invariant-statement-loop-pending l = record {
  within : l.at ≤ length l.tokens;
  whole : resumed (around l.may_break l.room l.tokens l.after) l.pending.items (read_from (around l.may_break l.room l.tokens l.after) l.at) ≡ statement_of l.may_break l.room l.tokens l.after;
}

abbrev pub decreases-statement-loop-pending : goal.decreases-statement-loop-pending
decreases-statement-loop-pending l = length l.tokens - l.at

abbrev pub decreases-plain_statement : goal.decreases-plain_statement
decreases-plain_statement l = 4 * length l.tokens.now + 2

abbrev pub decreases-switch_statement : goal.decreases-switch_statement
decreases-switch_statement l = 4 * length l.tokens.now + 4

abbrev pub decreases-statements : goal.decreases-statements
decreases-statements l = 4 * length l.tokens.now + 4

abbrev pub decreases-switch_parts : goal.decreases-switch_parts
decreases-switch_parts l = 4 * length l.tokens.now + 4

abbrev pub invariant-statements-loop-left : goal.invariant-statements-loop-left
invariant-statements-loop-left l = record {
  within : length l.left ≤ length l.tokens;
  rest : with_front l.list (all_read (each statement_of l.may_break l.room l.after) 0 l.left) ≡ all_read (each statement_of l.may_break l.room l.after) 0 l.tokens;
}

abbrev pub decreases-statements-loop-left : goal.decreases-statements-loop-left
decreases-statements-loop-left l = length l.left

abbrev pub invariant-switch_parts-loop-left : goal.invariant-switch_parts-loop-left
invariant-switch_parts-loop-left l = record {
  within : length l.left ≤ length l.tokens;
  rest : with_front l.parts (all_read (switch_part statement_of l.room l.after) 0 l.left) ≡ all_read (switch_part statement_of l.room l.after) 0 l.tokens;
}

abbrev pub decreases-switch_parts-loop-left : goal.decreases-switch_parts-loop-left
decreases-switch_parts-loop-left l = length l.left
