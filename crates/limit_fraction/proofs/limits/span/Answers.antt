-- The greater of two least values and the lesser of two greatest.
use Rattle.std.proofs.Common.{arith}
use Rattle.std.proofs.lemmas.Int.{ints, clamps}
use Rattle.limit_fraction.proofs.limits.span.Goals as goal

pub returns-then-low-high-clause-exact : goal.returns-then-low-high-clause-exact
returns-then-low-high-clause-exact c = λ v from to.
    (λ h. (omega (arith, ints, clamps), omega (arith, ints, clamps)), λ h. (omega (arith, ints, clamps), omega (arith, ints, clamps)))

pub returns-else-low-high-clause-exact : goal.returns-else-low-high-clause-exact
returns-else-low-high-clause-exact c = λ v from to. (λ h. absurd h, λ h. omega (arith, ints, clamps))
