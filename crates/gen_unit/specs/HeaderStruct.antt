-- A message's struct as the header has it: each field behind a comment of its signal.
use Rattle.std.specs.Prelude.{ℕ, List, [], ◌∷◌, ◌++◌, map, codes}
use Rattle.can_model.specs.declared.database.Message.{Message}
use Rattle.can_model.specs.declared.database.Signal.{Signal}
use Rattle.name_rules.specs.declared.table.MessageNames.{MessageNames}
use Rattle.name_rules.specs.declared.table.SignalNames.{SignalNames}
use Rattle.c_printed.specs.PrintedItem.{Field}
use Rattle.c_printed.specs.PrintedUnit.{Part, structure}
use Rattle.gen_unit.specs.Comments.{shown_byte, after_blank}
use Rattle.gen_pack.specs.StructFields.{field_of, dummy}

-- what is said of a signal: its name, its unit in square brackets, and its comment
abbrev pub about_signal : Signal → List ℕ
about_signal s = s.name ++ (codes " [" ++ (s.unit ++ (codes "]" ++ after_blank s.comment)))

abbrev pub field_comment : Signal → List ℕ
field_comment s = map shown_byte (about_signal s)

abbrev pub commented : Signal → SignalNames → Field
commented s n = record { about = field_comment s; named = field_of s n }

abbrev pub commented_fields : List Signal → List SignalNames → List Field
commented_fields (s ∷ ss) (n ∷ ns) = commented s n ∷ commented_fields ss ns
commented_fields ss ns = []

-- the field of a message without signals has no comment
abbrev pub or_bare_dummy : List Field → List Field
or_bare_dummy [] = record { about = []; named = dummy } ∷ []
or_bare_dummy (f ∷ fs) = f ∷ fs

abbrev pub struct_part : Message → MessageNames → Part
struct_part m names = structure names.tag (or_bare_dummy (commented_fields m.signals names.signals))
