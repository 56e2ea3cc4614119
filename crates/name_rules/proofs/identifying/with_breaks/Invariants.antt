use Rattle.std.proofs.Common.{◌≡◌, ◌++◌, drop}
use Rattle.name_rules.specs.Identifier.{broken}
use Rattle.name_rules.proofs.identifying.with_breaks.Given as goal

abbrev pub invariant-loop-i : goal.invariant-loop-i
invariant-loop-i l = l.out.items ++ broken l.before (drop l.i l.text) ≡ broken 0 l.text
