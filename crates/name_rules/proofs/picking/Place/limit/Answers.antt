use Rattle.std.proofs.Common.{◌+◌, arith}
use Rattle.name_rules.proofs.Crowding.{resumes-lt}
use Rattle.name_rules.proofs.picking.Place.limit.Goals as goal

pub returns : goal.returns
returns c = λ x next r. resumes-lt c.args.self.now.kind c.args.self.now.seen.entries x (c.len.result + 100) next (omega arith) (omega arith) r
