-- The refusal that is told is that of the text.
use Rattle.std.proofs.Common.{◌≡◌, Err, sym, subst, ◌∙◌}
use Rattle.std.specs.Prelude.{IfSome}
use Rattle.db_text.specs.declared.fault.DatabaseFault.{DatabaseFault}
use Rattle.db_text.specs.Answer.{answer_of}
use Rattle.db_text.specs.DatabaseOfText.{in_text, in_database, Spells}
use Rattle.cli_tool.specs.DatabaseInFile.{not_yet}
use Rattle.cli_tool.proofs.Answering.{sym_given, dbc_given}
use Rattle.cli_tool.proofs.database.database_in.Goals as goal

pub returns-then-names_sym : goal.returns-then-names_sym
returns-then-names_sym c = (in_text (not_yet 0), sym_given c.args.file.now c.args.text.now (sym c.names_sym.ensures ∙ c.if-names_sym.true), c.in_ok-refused_text.ensures)

pub returns-in_ok-refused_text-in-Err-Text : goal.returns-in_ok-refused_text-in-Err-Text
returns-in_ok-refused_text-in-Err-Text c =
    let refusal = in_text (record { kind = c.in-Err-Text.kind; line = c.in-Err-Text.line }) in
    (refusal, dbc_given c.args.file.now c.args.text.now (Err refusal) (sym c.names_sym.ensures ∙ c.if-names_sym.false) (subst (λ (fault : DatabaseFault). IfSome (answer_of (Err fault)) (Spells c.args.text.now)) c.in-Err-Text.field-0-is c.in-Err-Text.ensures.found), c.in_ok-refused_text-in-Err-Text.ensures)

pub returns-in_ok-answer-in-Err-Check : goal.returns-in_ok-answer-in-Err-Check
returns-in_ok-answer-in-Err-Check c =
    let refusal = in_database (record { kind = c.in-Err-Check.kind; line = c.in-Err-Check.line; message = c.in-Err-Check.message; signal = c.in-Err-Check.signal }) in
    (refusal, dbc_given c.args.file.now c.args.text.now (Err refusal) (sym c.names_sym.ensures ∙ c.if-names_sym.false) (subst (λ (fault : DatabaseFault). IfSome (answer_of (Err fault)) (Spells c.args.text.now)) c.in-Err-Check.field-0-is c.in-Err-Check.ensures.found), c.in_ok-answer-in-Err-Check.ensures)
