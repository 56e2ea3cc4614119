-- those that are left have the answer
use Rattle.std.proofs.Common.{◌≡◌, drop}
use Rattle.std.specs.List.{list_any}
use Rattle.gen_items.specs.CalledHelpers.{calls_helper}
use Rattle.gen_unit.proofs.helpers.message_calls.Given as goal

abbrev pub invariant-loop-s : goal.invariant-loop-s
invariant-loop-s l = list_any (calls_helper (l.kind, l.width)) (drop l.s-index l.signals) ≡ list_any (calls_helper (l.kind, l.width)) l.signals
