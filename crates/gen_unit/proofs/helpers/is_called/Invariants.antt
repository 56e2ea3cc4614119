-- those that are left have the answer
use Rattle.std.proofs.Common.{◌≡◌, drop}
use Rattle.gen_items.specs.CalledHelpers.{is_called}
use Rattle.gen_unit.proofs.helpers.is_called.Given as goal

abbrev pub invariant-loop-m : goal.invariant-loop-m
invariant-loop-m l = is_called (drop l.m-index l.messages) (l.kind, l.width) ≡ is_called l.messages (l.kind, l.width)
