use Rattle.db_check.specs.OfSignals.{HavePassed}
use Rattle.db_check.proofs.signals.check_signals.Given as goal

abbrev pub invariant-loop-signal : goal.invariant-loop-signal
invariant-loop-signal l = HavePassed l.message l.signal-index l.names l.taken
