-- The parts of a unit without places, and the text of the unit.
use Rattle.std.specs.Prelude.{ℕ, Bool, true, false, List, [], ◌∷◌, map}
use Rattle.c_tree.specs.declared.item.Field.{Field}
use Rattle.c_tree.specs.BareStatement.{bare_option}
use Rattle.c_tree.specs.BareUnit.{bare_field, bare_head, bare_body}
use Rattle.c_printed.specs.PrintedItem.{Field as Commented}
use Rattle.c_printed.specs.PrintedUnit.{Part as BarePart, comment, blank, include, include_beside, define, if_not_defined, end_if, structure, routine, unit_text}
use Rattle.c_printer.specs.declared.part.PrintUnit.{PrintUnit}
use Rattle.c_printer.specs.declared.part.Part.{Part}
use Rattle.c_printer.specs.declared.part.Part.TheVariants as part

-- the first of the comments, or an empty one
abbrev pub next_comment : List (List ℕ) → List ℕ
next_comment [] = []
next_comment (c ∷ cs) = c

abbrev pub other_comments : List (List ℕ) → List (List ℕ)
other_comments [] = []
other_comments (c ∷ cs) = cs

-- each field with its comment, which is empty where the comments have come to their end
abbrev pub with_comments : List Field → List (List ℕ) → List Commented
with_comments [] comments = []
with_comments (f ∷ fs) comments = record { about = next_comment comments; named = bare_field f } ∷ with_comments fs (other_comments comments)

abbrev pub included : (quoted : Bool) → List ℕ → BarePart
included true name = include_beside name
included false name = include name

abbrev pub bare_part : Part → BarePart
bare_part (part.Comment text) = comment text
bare_part part.Blank = blank
bare_part (part.Include name quoted) = included quoted name
bare_part (part.Define name body) = define name (bare_option body)
bare_part (part.IfNotDefined name) = if_not_defined name
bare_part part.EndIf = end_if
bare_part (part.Struct item comments) = structure item.tag (with_comments item.fields comments)
bare_part (part.Function f) = routine (bare_head f) (bare_body f.body)

abbrev pub bare_parts : List Part → List BarePart
bare_parts parts = map bare_part parts

-- the bytes of the unit
abbrev pub printed_unit : PrintUnit → List ℕ
printed_unit unit = unit_text (bare_parts unit.parts)
