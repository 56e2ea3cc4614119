use Rattle.frame_codec.proofs.Getting.{raw_values}
use Rattle.frame_codec.proofs.decoding.decode.Goals as goal

pub returns : goal.returns
returns c = raw_values c.args.message.now c.args.frame.now c.read_all.new.values c.drop_inactive.new.values c.read_all.ensures c.drop_inactive.ensures
