use Rattle.std.proofs.Common.{◌≡◌, Some, take, drop}
use Rattle.c_text.specs.SeenToken.{seen_behind}
use Rattle.c_text.specs.Directive.{up_to_greater}
use Rattle.c_pre.proofs.Angled.{with_front}
use Rattle.c_pre.proofs.directive.up_to_greater.Given as goal

abbrev pub invariant-loop-i : goal.invariant-loop-i
invariant-loop-i l = with_front (take l.i l.tokens) (up_to_greater (seen_behind (Some l.end) (drop l.i l.tokens))) ≡ up_to_greater (seen_behind (Some l.start) l.tokens)
