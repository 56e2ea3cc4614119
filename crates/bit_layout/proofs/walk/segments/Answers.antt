-- The segments by numbers are those of the definition.
use Rattle.std.proofs.Common.{sym}
use Rattle.bit_layout.proofs.Grouping.{segments-by_numbers}
use Rattle.bit_layout.proofs.Covering.{segments-cover}
use Rattle.bit_layout.proofs.walk.segments.Goals as goal

pub returns-clause-are : goal.returns-clause-are
returns-clause-are c = rw (c.end_at.ensures, c.from_at-from.ensures.value) (sym (segments-by_numbers c.args.signal.now))

pub returns-clause-covers : goal.returns-clause-covers
returns-clause-covers c = rw (returns-clause-are c) (segments-cover c.args.signal.now)
