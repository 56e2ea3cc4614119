use Rattle.std.proofs.Common.{◌≡◌, ℕ, List, bytes_eq, position, take}
use Rattle.cg_out.specs.Words.{look_up}
use Rattle.codec_words.proofs.giving.indices_of.Given as goal

-- the names of the signals so far have their indices
abbrev pub invariant-loop-i : goal.invariant-loop-i
invariant-loop-i l = (name : List ℕ) → look_up name l.indices ≡ position (λ s. bytes_eq s.name name) (take l.i l.signals)
