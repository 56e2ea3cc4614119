-- The text of a unit, part by part.
use Rattle.std.specs.Prelude.{ℕ, false, List, [], ◌∷◌, ◌++◌, codes, Option, Some, None}
use Rattle.std.specs.List.{flat_map}
use Rattle.c_tree.specs.BareExpression.{Tree}
use Rattle.c_tree.specs.BareStatement.{Actions}
use Rattle.c_tree.specs.BareUnit.{BareHead}
use Rattle.c_printed.specs.PrintedExpression.{printed}
use Rattle.c_printed.specs.PrintedItem.{Field, struct_text, function_text}

pub data Part : Type 0 where
  comment : List ℕ → Part
  blank : Part
  -- of a standard header, and of the header beside the source
  include : List ℕ → Part
  include_beside : List ℕ → Part
  define : (name : List ℕ) → (body : Option Tree) → Part
  if_not_defined : List ℕ → Part
  end_if : Part
  structure : (tag : List ℕ) → List Field → Part
  routine : BareHead → (body : Option Actions) → Part

-- ---- the text of a part

abbrev pub define_text : Option Tree → List ℕ
define_text None = []
define_text (Some t) = codes " " ++ printed false t

abbrev pub part_text : Part → List ℕ
part_text (comment t) = codes "/* " ++ (t ++ (codes " */" ++ 10 ∷ []))
part_text blank = 10 ∷ []
part_text (include h) = codes "#include <" ++ (h ++ codes ">\n")
part_text (include_beside n) = codes "#include " ++ 34 ∷ (n ++ 34 ∷ 10 ∷ [])
part_text (define n body) = codes "#define " ++ (n ++ (define_text body ++ 10 ∷ []))
part_text (if_not_defined n) = codes "#ifndef " ++ (n ++ 10 ∷ [])
part_text end_if = codes "#endif" ++ 10 ∷ []
part_text (structure tag fs) = struct_text tag fs ++ 10 ∷ []
part_text (routine h body) = function_text h body ++ 10 ∷ []

-- the bytes of a unit
abbrev pub unit_text : List Part → List ℕ
unit_text parts = flat_map part_text parts
