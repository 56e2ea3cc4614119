-- `generate_c_source FILE`: the header and the source of the database in a file are written.
use Rattle.std.specs.Prelude.{◌≡◌, ℕ, true, false, List, [], ◌∷◌}
use Rattle.can_model.specs.declared.database.Database.{Database}
use Rattle.name_rules.specs.declared.table.SymbolTable.{SymbolTable}
use Rattle.name_rules.specs.Symbols.{AreSymbols}
use Rattle.gen_unit.specs.Header.{header_text}
use Rattle.gen_unit.specs.Source.{source_text}
use Rattle.cli_tool.specs.FileName.{database_name, header_path, source_path}
use Rattle.cli_tool.specs.Report.{written_report}
use Rattle.cli_tool.specs.DatabaseInFile.{database_task}
use Rattle.cli_tool.specs.Task.{Output, Answer, outcome, Task}

abbrev pub header_output : List ℕ → List ℕ → Output
header_output file header = record { file = header_path file; bytes = header }

abbrev pub source_output : List ℕ → List ℕ → Output
source_output file source = record { file = source_path file; bytes = source }

-- the header and then the source of a database, by the names of a table
abbrev pub pair_outputs : List ℕ → Database → SymbolTable → List Output
pair_outputs file db names =
    header_output file (header_text db.messages names)
    ∷ source_output file (source_text (database_name file) db.messages names)
    ∷ []

-- the pair, with the names that the database has, is written, and the names of its files are told
abbrev pub WritesPair : List ℕ → Database → Answer → Type 0
WritesPair file db answer =
    (names : SymbolTable) × AreSymbols db (database_name file) false names
    × (answer ≡ outcome true (pair_outputs file db names) (written_report file))

abbrev pub generate_task : List ℕ → Task
generate_task file = database_task (WritesPair file) file
