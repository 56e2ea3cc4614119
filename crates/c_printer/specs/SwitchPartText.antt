-- The text of a label or a statement of a switch by itself.
use Rattle.std.specs.Prelude.{ℕ, List, ◌+◌, ◌++◌, codes}
use Rattle.c_tree.specs.BareStatement.{BarePart, a_label, a_statement}
use Rattle.c_printed.specs.PrintedStatement.{blanks, label_text, action_text}

-- where the `switch` is indented by so many blanks
abbrev pub switch_part_text : ℕ → BarePart → List ℕ
switch_part_text n (a_label v) = blanks n ++ (label_text v ++ codes ":\n")
switch_part_text n (a_statement a) = action_text (n + 4) a
