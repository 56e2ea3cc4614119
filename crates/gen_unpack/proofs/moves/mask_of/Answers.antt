use Rattle.gen_pack.proofs.Numbers.{powers-rise}
use Rattle.gen_unpack.proofs.moves.mask_of.Goals as goal

pub overflow_sub-result : goal.overflow_sub-result
overflow_sub-result c = powers-rise c.args.segment.byte_low c.args.segment.count c.requires.in_byte
