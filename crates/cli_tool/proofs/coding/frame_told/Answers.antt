-- The message that is found is one of the valid database.
use Rattle.std.proofs.Common.{◌≡◌, List, sym, ap, ◌∙◌}
use Rattle.std.specs.List.{find}
use Rattle.std.specs.Option.{option_copied}
use Rattle.std.specs.Str.{bytes_eq}
use Rattle.can_model.specs.declared.database.Message.{Message}
use Rattle.cli_tool.proofs.Answering.{found_valid}
use Rattle.cli_tool.proofs.coding.frame_told.Goals as goal

pub frame_report-requires : goal.frame_report-requires
frame_report-requires c =
    found_valid c.args.database.now (λ m. bytes_eq m.name c.args.asked.now.message.now) c.in-Some.message.now c.requires
    (ap (λ (ms : List Message). find (λ m. bytes_eq m.name c.args.asked.now.message.now) ms) (sym c.items.ensures) ∙ sym c.message_named.ensures ∙ ap option_copied c.in-Some.is)
