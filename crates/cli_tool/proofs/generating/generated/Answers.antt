-- No signal of the database that was found is multiplexed, and its pair is the answer.
use Rattle.std.proofs.Common.{sym, subst, Result, Ok}
use Rattle.std.proofs.lemmas.Result.{IfOk-weaker}
use Rattle.can_model.specs.declared.database.Database.{Database}
use Rattle.can_model.specs.Formed.{HasNoParents}
use Rattle.db_text.specs.DatabaseOfText.{DatabaseRefusal}
use Rattle.cli_tool.specs.Asked.{answer_in}
use Rattle.cli_tool.specs.DatabaseInFile.{GivesDatabase, HasAnswer}
use Rattle.cli_tool.specs.FoundDatabase.{FindsDatabase}
use Rattle.cli_tool.specs.GenerateTask.{WritesPair}
use Rattle.cli_tool.proofs.DatabaseMeaning.{flat_in}
use Rattle.cli_tool.proofs.generating.generated.Goals as goal

pub pair_written-requires-clause-flat : goal.pair_written-requires-clause-flat
pair_written-requires-clause-flat c =
    subst HasNoParents (sym c.database.ensures.same)
    (flat_in c.args.file.now c.args.text.now c.in-Ok.checked (subst (FindsDatabase c.args.file.now c.args.text.now) c.in-Ok.is c.in_ok-checked.ensures))

pub returns-in-Ok : goal.returns-in-Ok
returns-in-Ok c =
    let file = c.args.file.now in
    let text = c.args.text.now in
    let db : Database = c.in-Ok.checked in
    let found : Result Database DatabaseRefusal = Ok db in
    let given : GivesDatabase file text found = subst (FindsDatabase file text) c.in-Ok.is c.in_ok-checked.ensures in
    IfOk-weaker c.pair_written.result (λ a. WritesPair file c.database.result.now (answer_in a)) (λ a. HasAnswer (WritesPair file) file text (answer_in a))
    (λ a w. (found, given, subst (λ (d : Database). WritesPair file d (answer_in a)) c.database.ensures.same w)) c.pair_written.ensures
