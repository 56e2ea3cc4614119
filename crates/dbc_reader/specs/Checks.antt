-- The tests of the code.
use Rattle.std.specs.Prelude.{[], ◌∷◌, codes}
use Rattle.dbc_reader.specs.declared.taking.Check.{Check}
use Rattle.dbc_reader.specs.declared.taking.Check.TheVariants as checks
use Rattle.dbc_reader.specs.Template.{Test, is_string, is_number, is_word, is_name, is_mark, is_number_or, unless_word, unless_mark, is_mux_word}

abbrev pub test_of : Check → Test
test_of checks.String = is_string
test_of checks.Number = is_number
test_of checks.Word = is_word
test_of checks.Name = is_name
test_of (checks.Mark b) = is_mark b
test_of checks.Speed = is_number_or (58 ∷ 44 ∷ [])
test_of checks.Value = is_number_or (43 ∷ 45 ∷ [])
test_of checks.Section = unless_word (codes "BS_" ∷ codes "BU_" ∷ codes "BO_" ∷ [])
test_of (checks.UnlessMark b) = unless_mark b
test_of checks.MuxWord = is_mux_word
