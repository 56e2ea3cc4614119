-- What is found of the database in a file.
use Rattle.std.specs.Prelude.{◌≡◌, ℕ, List, Result, Ok, Err}
use Rattle.can_model.specs.declared.database.Database.{Database}
use Rattle.db_text.specs.DatabaseOfText.{DatabaseRefusal}
use Rattle.cli_tool.specs.DatabaseInFile.{GivesDatabase, refusal_answer}
use Rattle.cli_tool.specs.declared.answer.Answer.{Answer}
use Rattle.cli_tool.specs.Asked.{answer_in}

-- the database, or the answer that tells why there is none
abbrev pub FindsDatabase : List ℕ → List ℕ → Result Database Answer → Type 0
FindsDatabase file text (Ok db) = GivesDatabase file text (Ok db)
FindsDatabase file text (Err answer) = (refusal : DatabaseRefusal) × GivesDatabase file text (Err refusal) × (answer_in answer ≡ refusal_answer refusal)
