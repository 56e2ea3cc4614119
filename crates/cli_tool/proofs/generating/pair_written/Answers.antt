-- The name of the database is an identifier, and its messages are those of a valid one.
use Rattle.std.proofs.Common.{sym, subst}
use Rattle.name_rules.specs.IsIdentifier.{IsIdentifier}
use Rattle.cli_tool.proofs.DatabaseMeaning.{named-identifier, all_valid}
use Rattle.cli_tool.proofs.generating.pair_written.Goals as goal

pub symbols-requires : goal.symbols-requires
symbols-requires c = record { name = subst IsIdentifier (sym c.in_ok-name.ensures) (named-identifier c.args.file.now) }

pub generate-requires-clause-valid : goal.generate-requires-clause-valid
generate-requires-clause-valid c = all_valid c.args.database.now c.requires.valid
