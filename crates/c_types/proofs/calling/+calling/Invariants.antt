use Rattle.std.proofs.Common.{◌≡◌, drop, map}
use Rattle.c_types.specs.Calling.{some_true, statements_call, part_calls}
use Rattle.c_types.proofs.calling.+calling.Given as goal

-- those that are left have the answer
abbrev pub invariant-some_calls-loop-stmt : goal.invariant-some_calls-loop-stmt
invariant-some_calls-loop-stmt l = statements_call (drop l.stmt-index l.list) ≡ statements_call l.list

abbrev pub invariant-some_part_calls-loop-part : goal.invariant-some_part_calls-loop-part
invariant-some_part_calls-loop-part l = some_true (map part_calls (drop l.part-index l.parts)) ≡ some_true (map part_calls l.parts)
