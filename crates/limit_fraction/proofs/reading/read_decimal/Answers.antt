-- The text is its sign and what follows it.
use Rattle.std.proofs.Common.{ℕ, Bool, List, subst}
use Rattle.limit_fraction.specs.Reading.{number_behind, kept, decimal_of}
use Rattle.limit_fraction.proofs.Wholes.{Answers}
use Rattle.limit_fraction.proofs.reading.read_decimal.Goals as goal

pub returns : goal.returns
unfolding decimal_of
returns c = subst (λ (s : Bool × List ℕ). Answers c.read_behind.result (kept (number_behind s.0 s.1))) c.read_sign-negative.ensures c.read_behind.ensures
