use Rattle.std.proofs.Common.{arith}
use Rattle.std.specs.Prelude.{not, ◌==◌}
use Rattle.std.proofs.lemmas.List.Sums.{suffix_len-le-length}
use Rattle.cli_tool.proofs.column.column_of.Goals as goal

pub returns : goal.returns
returns c =
    rw (← c.front-before.ensures.value, c.up_to_last_of.ensures.value) (omega (arith, suffix_len-le-length (λ b. not (b == 10)) c.front-before.result.now))
