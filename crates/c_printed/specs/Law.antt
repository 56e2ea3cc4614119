-- The printing law: two texts, read, are these items, and their macros are exactly these.
use Rattle.std.specs.Prelude.{◌≡◌, ℕ, List, map, Ok}
use Rattle.c_text.specs.declared.token.TokenKind.{TokenKind}
use Rattle.c_tree.specs.declared.item.Unit.{Unit as Whole}
use Rattle.c_text.specs.declared.preprocessed.Preprocessed.{Preprocessed}
use Rattle.c_text.specs.Preprocessing.{preprocessed_texts}
use Rattle.c_text.specs.BarePreprocessing.{macro_kinds}
use Rattle.c_tree.specs.UnitCut.{unit_of_tokens}
use Rattle.c_tree.specs.BareUnit.{BareItem, bare_unit}

-- the header and the source have no fault, their unit is these items, and their macros are these and no other ones
pub record ReadAsUnit (name header source : List ℕ) (items : List BareItem) (macros : List (List ℕ × List TokenKind)) : Type 0 where
  pub left : Preprocessed
  pub no_fault : preprocessed_texts header name source ≡ Ok left
  pub macros_are : map macro_kinds left.macros ≡ macros
  pub unit : Whole
  pub is_cut : unit_of_tokens left.tokens ≡ Ok unit
  pub items_are : bare_unit unit ≡ items
