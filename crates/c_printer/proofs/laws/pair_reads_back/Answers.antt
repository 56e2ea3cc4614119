-- By the laws of tokens, of preprocessing and of the cut, joined.
use Rattle.c_recut.proofs.PairLaw.{pair-reads}
use Rattle.c_printer.proofs.laws.pair_reads_back.Goals as goal

pub returns : goal.returns
returns c = λ name header source known h k w. pair-reads name header source known h k w
