use Rattle.std.proofs.Common.{◌<◌, ◌*◌, ◌/◌, ◌%◌, ◌∙◌, ap, sym, subst, arith, slice_index_or, slice_set, bit_or, length}
use Rattle.can_model.specs.Frame.{is_one}
use Rattle.frame_codec.specs.Ones.{AreBytes}
use Rattle.frame_codec.proofs.SingleBits.{one_put, one_shifted, bytes_put}
use Rattle.frame_codec.proofs.bits.set_one.Goals as goal

pub returns-clause-bits : goal.returns-clause-bits
returns-clause-bits c p =
    let within : c.args.place < 8 * length c.args.bytes.now = c.requires in
    ap (λ b. is_one (slice_set c.args.bytes.now (c.args.place / 8) (bit_or (slice_index_or c.args.bytes.now (c.args.place / 8) 0) b)) p) (one_shifted (c.args.place % 8) (omega arith))
    ∙ one_put c.args.bytes.now c.args.place p (omega arith)

pub returns-clause-bytes : goal.returns-clause-bytes
returns-clause-bytes c h =
    subst (λ b. AreBytes (slice_set c.args.bytes.now (c.args.place / 8) (bit_or (slice_index_or c.args.bytes.now (c.args.place / 8) 0) b))) (sym (one_shifted (c.args.place % 8) (omega arith)))
    (bytes_put c.args.bytes.now (c.args.place / 8) (c.args.place % 8) h (omega arith))
