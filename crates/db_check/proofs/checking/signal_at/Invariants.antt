use Rattle.std.proofs.Common.{◌≡◌, drop}
use Rattle.std.specs.Prelude.{slice_get}
use Rattle.std.specs.List.{flat_map}
use Rattle.db_check.proofs.checking.signal_at.Given as goal

abbrev pub invariant-loop-message : goal.invariant-loop-message
invariant-loop-message l = slice_get (flat_map (λ m. m.signals) (drop l.message-index l.messages)) l.left ≡ slice_get (flat_map (λ m. m.signals) l.messages) l.index
