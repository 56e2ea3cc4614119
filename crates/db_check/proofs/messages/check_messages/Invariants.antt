use Rattle.db_check.specs.OfMessages.{HavePassed}
use Rattle.db_check.proofs.messages.check_messages.Given as goal

abbrev pub invariant-loop-message : goal.invariant-loop-message
invariant-loop-message l = HavePassed l.messages l.message-index l.names l.frames.keys
