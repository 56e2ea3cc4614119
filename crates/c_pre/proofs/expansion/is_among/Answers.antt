use Rattle.std.proofs.Common.{◌≡◌, refl, ◌∙◌}
use Rattle.c_pre.specs.declared.line.Header.{Header as CodeHeader}
use Rattle.c_pre.specs.declared.line.Header.TheVariants.{StdBool, StdDef, StdInt, StringH}
use Rattle.c_pre.specs.contracts.line.HeaderPartialEq.TheImpl.{ghosts}
use Rattle.c_pre.specs.Shown.{header_shown}
use Rattle.c_pre.specs.Run.{same_header}
use Rattle.c_pre.proofs.Tables.{among}
use Rattle.c_pre.proofs.expansion.is_among.Goals as goal

same : (g h : CodeHeader) → ghosts.eq g h ≡ same_header (header_shown g) (header_shown h)
same StdBool StdBool = refl
same StdBool StdDef = refl
same StdBool StdInt = refl
same StdBool StringH = refl
same StdDef StdBool = refl
same StdDef StdDef = refl
same StdDef StdInt = refl
same StdDef StringH = refl
same StdInt StdBool = refl
same StdInt StdDef = refl
same StdInt StdInt = refl
same StdInt StringH = refl
same StringH StdBool = refl
same StringH StdDef = refl
same StringH StdInt = refl
same StringH StringH = refl

pub returns : goal.returns
returns c = c.contains.ensures.value ∙ among ghosts.eq same c.args.headers.now c.args.header
