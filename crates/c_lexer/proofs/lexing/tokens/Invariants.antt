use Rattle.std.proofs.Common.{◌≡◌, ◌+◌, ◌≤◌, length}
use Rattle.c_text.specs.Tokens.{tokens}
use Rattle.c_lexer.proofs.Scan.{answer}
use Rattle.c_lexer.proofs.lexing.tokens.Given as goal

abbrev pub invariant-loop-left : goal.invariant-loop-left
invariant-loop-left l = record {
  told : answer l.tokens.items l.header l.fresh l.line l.start l.left ≡ tokens l.header l.text;
  lines : l.line + length l.left ≤ length l.text + 1;
  bytes : l.start + length l.left ≡ length l.text;
}

abbrev pub decreases-loop-left : goal.decreases-loop-left
decreases-loop-left l = length l.left
