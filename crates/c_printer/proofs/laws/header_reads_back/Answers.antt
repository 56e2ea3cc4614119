-- By the law of pairs, of a source that is the include alone.
use Rattle.c_recut.proofs.PairLaw.{header-reads}
use Rattle.c_printer.proofs.laws.header_reads_back.Goals as goal

pub returns : goal.returns
returns c = λ name header b h w. header-reads name header b h w
