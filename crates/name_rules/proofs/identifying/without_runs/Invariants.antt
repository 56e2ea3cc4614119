use Rattle.std.proofs.Common.{◌≡◌, ◌++◌, drop}
use Rattle.name_rules.specs.Identifier.{unrun}
use Rattle.name_rules.proofs.identifying.without_runs.Given as goal

abbrev pub invariant-loop-i : goal.invariant-loop-i
invariant-loop-i l = l.out.items ++ unrun (drop l.i l.text) ≡ unrun l.text
