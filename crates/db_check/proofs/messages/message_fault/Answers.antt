use Rattle.std.proofs.Common.{arith}
use Rattle.std.proofs.lemmas.Grind.{common_steps}
use Rattle.can_model.specs.declared.check_kind.CheckKind.TheVariants.{FrameIdRange, MessageTooLong, TooMany}
use Rattle.db_check.specs.OfMessage.{Shows}
use Rattle.db_check.proofs.MessageFaults.{id_least, length_least, count_least, not_found, not_in}
use Rattle.db_check.proofs.messages.message_fault.Goals as goal

pub returns-then-message-greatest_id : goal.returns-then-message-greatest_id
returns-then-message-greatest_id c =
    let names = c.args.names.now in
    let frames = c.args.frames.now.keys in
    let m = c.args.message.now in
    let here : Shows names frames m FrameIdRange = grind (arith, common_steps) in
    id_least names frames m (not_found names m.name c.bytes.result.now c.get.result c.get.ensures c.bytes.ensures c.if-is_some.ensures) (not_in frames m.id m.extended c.if-contains.ensures) here

pub returns-then-message-gt-MESSAGE_LENGTH : goal.returns-then-message-gt-MESSAGE_LENGTH
returns-then-message-gt-MESSAGE_LENGTH c =
    let names = c.args.names.now in
    let frames = c.args.frames.now.keys in
    let m = c.args.message.now in
    let in_range : ¬ Shows names frames m FrameIdRange = grind (arith, common_steps) in
    let here : Shows names frames m MessageTooLong = grind (arith, common_steps) in
    length_least names frames m (not_found names m.name c.bytes.result.now c.get.result c.get.ensures c.bytes.ensures c.if-is_some.ensures) (not_in frames m.id m.extended c.if-contains.ensures) in_range here

pub returns-then-items-gt-MESSAGE_SIGNALS : goal.returns-then-items-gt-MESSAGE_SIGNALS
returns-then-items-gt-MESSAGE_SIGNALS c =
    let names = c.args.names.now in
    let frames = c.args.frames.now.keys in
    let m = c.args.message.now in
    let in_range : ¬ Shows names frames m FrameIdRange = grind (arith, common_steps) in
    let short : ¬ Shows names frames m MessageTooLong = grind (arith, common_steps) in
    let here : Shows names frames m TooMany = grind (arith, common_steps) in
    count_least names frames m (not_found names m.name c.bytes.result.now c.get.result c.get.ensures c.bytes.ensures c.if-is_some.ensures) (not_in frames m.id m.extended c.if-contains.ensures) in_range short here
