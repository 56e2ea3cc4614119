-- So many steps lead from the signal up to the one that is looked at.
use Rattle.std.proofs.Common.{map}
use Rattle.can_model.proofs.Chains.{Climbed}
use Rattle.can_model.proofs.activity.chain_holds.Given as goal

abbrev pub invariant-loop : goal.invariant-loop
invariant-loop g l = Climbed l.message.signals (map g.V.Given.value l.values) l.fn.index l.counter l.at
