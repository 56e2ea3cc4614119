-- The unit of a header and a source, or their first fault up to it by stages: tokens of the header, tokens of the source, preprocessing, cutting.
use Rattle.std.specs.Prelude.{ℕ, List, Result}
use Rattle.c_tree.specs.declared.item.Unit.{Unit as Whole}
use Rattle.c_text.specs.Refusal.{Refusal}
use Rattle.cg_out.specs.Words.{◌>>=◌}
use Rattle.c_text.specs.Preprocessing.{preprocessed_texts}
use Rattle.c_tree.specs.UnitCut.{unit_of_tokens}

-- the header is known to the source under this name
abbrev pub unit_of_texts : List ℕ → List ℕ → List ℕ → Result Whole Refusal
unit_of_texts header name source = preprocessed_texts header name source >>= λ left. unit_of_tokens left.tokens
