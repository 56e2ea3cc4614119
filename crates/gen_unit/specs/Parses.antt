-- A header and a source that are a unit of C (ISO/IEC 9899:1999, 5.1.1.2 and 6.4 to 6.10).
use Rattle.std.specs.Prelude.{◌≡◌, ℕ, List, Ok}
use Rattle.c_text.specs.declared.preprocessed.Preprocessed.{Preprocessed}
use Rattle.c_text.specs.Preprocessing.{preprocessed_texts}
use Rattle.c_tree.specs.declared.item.Unit.{Unit as Whole}
use Rattle.c_tree.specs.UnitCut.{unit_of_tokens}

-- they have no fault of tokens or of preprocessing, and what is left has none of the cut
pub record Parses (name header source : List ℕ) : Type 0 where
  pub left : Preprocessed
  pub no_fault : preprocessed_texts header name source ≡ Ok left
  pub unit : Whole
  pub is_cut : unit_of_tokens left.tokens ≡ Ok unit
