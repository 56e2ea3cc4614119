-- The signals of a valid message have segments.
use Rattle.std.proofs.Common.{sym, subst}
use Rattle.std.specs.List.{AllByRecursion}
use Rattle.can_model.specs.Validity.{IsOfValidDatabase}
use Rattle.gen_pack.specs.SegmentMove.{HasSegments}
use Rattle.gen_pack.proofs.Numbers.{have-segments}
use Rattle.gen_unit.proofs.CalledParts.{at-index}
use Rattle.gen_unit.proofs.helpers.is_called.Goals as goal

pub message_calls-requires : goal.message_calls-requires
message_calls-requires c =
    let m = c.m-item.result in
    subst (AllByRecursion HasSegments) (sym c.items.ensures) (have-segments m (at-index IsOfValidDatabase c.args.messages.now c.loop-m.m-index m c.requires c.loop-m-test.true c.m-item.is))
