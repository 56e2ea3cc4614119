-- The unit of a header and a source without a fault, or their first fault by stages: tokens of the header, tokens of the source, preprocessing, cutting, types under each model in turn.
use Rattle.std.specs.Prelude.{ℕ, List, Result}
use Rattle.c_text.specs.Refusal.{Refusal}
use Rattle.c_tree.specs.declared.item.Unit.{Unit as Whole}
use Rattle.c_mean.specs.FirstFault.{unit_of_texts}
use Rattle.c_widths.specs.DataModel.{models}
use Rattle.c_types.specs.TypeFault.{unless_refused}
use Rattle.c_types.specs.UnitTypes.{faults_under}
use Rattle.cg_out.specs.Words.{◌>>=◌}

-- without a fault of types under every model, or the first of all
abbrev pub unit_without_fault : Whole → Result Whole Refusal
unit_without_fault unit = unless_refused (faults_under models unit) unit

-- the header is known to the source under this name
abbrev pub typed_texts : List ℕ → List ℕ → List ℕ → Result Whole Refusal
typed_texts header name source = unit_of_texts header name source >>= unit_without_fault
