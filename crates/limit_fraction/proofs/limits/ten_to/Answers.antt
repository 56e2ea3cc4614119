-- Ten to the power 28 is below the limit.
use Rattle.std.proofs.Common.{◌≡◌, ◌*◌, ◌^◌, min, pos, ◌<ℤ◌, ap, ◌∙◌, sym, subst, arith}
use Rattle.std.specs.Int.{w128}
use Rattle.std.proofs.lemmas.Int.{ints, to_z_pos}
use Rattle.limit_fraction.proofs.Tens.{tens_pos, tens_uncut}
use Rattle.limit_fraction.proofs.limits.ten_to.Goals as goal

pub returns-clause-value : goal.returns-clause-value
returns-clause-value c =
    let size : c.times_ten_to.result ≡ 10 ^ min c.args.power 28 = c.times_ten_to.ensures ∙ ap (λ k. min (1 * 10 ^ k) (2 ^ 126)) c.min.ensures ∙ tens_uncut c.args.power in
    to_z_pos w128 c.times_ten_to.result (omega (arith, c.times_ten_to.ensures)) ∙ ap pos size

pub returns-clause-positive : goal.returns-clause-positive
returns-clause-positive c =
    let positive : pos 0 <ℤ pos (10 ^ min c.args.power 28) = omega (arith, ints, tens_pos (min c.args.power 28)) in
    subst (λ z. pos 0 <ℤ z) (sym (returns-clause-value c)) positive
