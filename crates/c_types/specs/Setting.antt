-- What a place in a unit knows of the names outside functions (ISO/IEC 9899:1999, 6.2.1 and 6.9).
use Rattle.std.specs.Prelude.{ℕ, Bool, List, [], ◌∷◌, ◌++◌, map, Option, Some, None}
use Rattle.c_tree.specs.declared.item.Field.{Field}
use Rattle.c_tree.specs.declared.item.Function.{Function}
use Rattle.c_tree.specs.declared.item.Item.{Item}
use Rattle.c_tree.specs.declared.item.Item.TheVariants as item
use Rattle.c_tree.specs.declared.statement.Stmt.{Stmt}
use Rattle.cg_out.specs.Words.{look_up}
use Rattle.c_widths.specs.DataModel.{DataModel}
use Rattle.c_types.specs.Scope.{Declared}
use Rattle.c_types.specs.Calling.{statements_call}

-- ---- tables of items by their names, in order

-- what fields or parameters declare
abbrev pub declared_by : List Field → Declared
declared_by fields = map (λ f. (f.name, f.kind)) fields

-- the fields of every struct, by its tag
abbrev pub structs : List Item → List (List ℕ × List Field)
structs [] = []
structs (item.Struct s ∷ rest) = (s.tag, s.fields) ∷ structs rest
structs (item.Function f ∷ rest) = structs rest

-- every prototype and definition
abbrev pub functions : List Item → List (List ℕ × Function)
functions [] = []
functions (item.Struct s ∷ rest) = functions rest
functions (item.Function f ∷ rest) = (f.name, f) ∷ functions rest

abbrev pub definition : Option (List Stmt) → Function → List (List ℕ × Function)
definition None f = []
definition (Some body) f = (f.name, f) ∷ []

-- every definition
abbrev pub definitions : List Item → List (List ℕ × Function)
definitions [] = []
definitions (item.Struct s ∷ rest) = definitions rest
definitions (item.Function f ∷ rest) = definition f.body f ++ definitions rest

abbrev pub calling : Option (List Stmt) → List ℕ → List (List ℕ × Bool)
calling None name = []
calling (Some body) name = (name, statements_call body) ∷ []

-- every definition, and whether it calls
abbrev pub callings : List Item → List (List ℕ × Bool)
callings [] = []
callings (item.Struct s ∷ rest) = callings rest
callings (item.Function f ∷ rest) = calling f.body f.name ++ callings rest

-- ---- at a place

-- of names that stand for several the first counts
pub record Setting : Type 0 where
  pub model : DataModel
  -- the fields of the struct with this tag, where it is declared before
  pub fields : List ℕ → Option (List Field)
  -- the declaration before of the function with this name
  pub function : List ℕ → Option Function
  -- its definition before
  pub defined : List ℕ → Option Function
  -- whether its definition calls, where the unit has one, before or behind
  pub calls : List ℕ → Option Bool

-- in a unit of these items behind some of them
abbrev pub setting : DataModel → List Item → List Item → Setting
setting m items before = record {
  model = m;
  fields = λ tag. look_up tag (structs before);
  function = λ name. look_up name (functions before);
  defined = λ name. look_up name (definitions before);
  calls = λ name. look_up name (callings items);
}
