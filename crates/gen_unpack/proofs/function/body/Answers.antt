use Rattle.std.proofs.Common.{sym, subst}
use Rattle.std.specs.List.{AllByRecursion}
use Rattle.gen_pack.specs.SegmentMove.{HasSegments}
use Rattle.gen_pack.proofs.Numbers.{have-segments}
use Rattle.gen_unpack.proofs.function.body.Goals as goal

pub long_body-requires-clause-segments : goal.long_body-requires-clause-segments
long_body-requires-clause-segments c = subst (AllByRecursion HasSegments) (sym c.items.ensures) (have-segments c.args.message.now c.requires.valid)
