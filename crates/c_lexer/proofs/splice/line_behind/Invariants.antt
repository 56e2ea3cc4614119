use Rattle.std.proofs.Common.{◌≡◌, ◌+◌, ◌≤◌, take, drop}
use Rattle.std.specs.Prelude.{count_by}
use Rattle.c_text.specs.Characters.{is_line_end}
use Rattle.c_text.specs.Splice.{first_splice}
use Rattle.c_lexer.proofs.splice.line_behind.Given as goal

abbrev pub invariant-loop-i : goal.invariant-loop-i
invariant-loop-i l = record {
  told : first_splice l.header l.line (l.start + l.i) (drop l.i l.text) ≡ first_splice l.header l.initial.line l.start l.text;
  lines : l.line ≡ l.initial.line + count_by is_line_end (take l.i l.text);
  within : l.line ≤ l.initial.line + l.i;
}
