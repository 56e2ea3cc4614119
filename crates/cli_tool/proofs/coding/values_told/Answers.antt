-- The message that is found is one of the valid database.
use Rattle.std.proofs.Common.{◌≡◌, List, sym, ap, ◌∙◌}
use Rattle.std.specs.List.{find}
use Rattle.std.specs.Option.{option_copied}
use Rattle.can_model.specs.declared.database.Message.{Message}
use Rattle.command_words.specs.NumberWord.{number_in}
use Rattle.codec_words.specs.Finding.{is_number_of}
use Rattle.cli_tool.proofs.Answering.{found_valid}
use Rattle.cli_tool.proofs.coding.values_told.Goals as goal

pub values_report-requires : goal.values_report-requires
values_report-requires c =
    found_valid c.args.database.now (λ m. is_number_of m (number_in c.args.asked.now.number.now)) c.in-Some.message.now c.requires
    (ap (λ (ms : List Message). find (λ m. is_number_of m (number_in c.args.asked.now.number.now)) ms) (sym c.items.ensures) ∙ sym c.message_numbered.ensures ∙ ap option_copied c.in-Some.is)
