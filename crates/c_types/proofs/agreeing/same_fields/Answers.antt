use Rattle.std.proofs.Common.{sym}
use Rattle.c_types.proofs.FieldLists.{same_fields-longer}
use Rattle.c_types.proofs.agreeing.same_fields.Goals as goal

pub returns-then-first-second : goal.returns-then-first-second
returns-then-first-second c = sym (same_fields-longer c.args.first.now c.args.second.now c.if-first-second.true)
