-- Whole conditionals in one pass over the lines.
use Rattle.std.specs.Prelude.{ℕ, Bool, true, false, ◌+◌, ◌-◌, List, [], ◌∷◌, drop, Option, Some, None, slice_get}
use Rattle.c_text.specs.declared.place.Place.{Place}
use Rattle.c_text.specs.Directive.{Line, conditional, otherwise, endif}
use Rattle.c_text.specs.Conditional.{is_ended, if_ended}

-- how many `#endif` stand in the lines that end no conditional in them
abbrev pub open_ends : List (Line Place) → ℕ
open_ends [] = 0
open_ends (conditional p wanted name ∷ ls) = open_ends ls - 1
open_ends (endif p ∷ ls) = open_ends ls + 1
open_ends (l ∷ ls) = open_ends ls

-- of each conditional in the lines: whether its `#endif` stands in them
abbrev pub endings : List (Line Place) → List Bool
endings [] = []
endings (conditional p wanted name ∷ ls) = is_ended 0 ls ∷ endings ls
endings (l ∷ ls) = endings ls

abbrev pub is_flag : Bool → Option Bool → Bool
is_flag true (Some true) = true
is_flag false (Some false) = true
is_flag b o = false

abbrev pub is_there : Option Bool → Bool
is_there (Some b) = true
is_there None = false

-- a line as it stands behind others; `ended` begins with whether it is ended, where it is a conditional
abbrev pub balanced_line : List Bool → List Bool → Line Place → Line Place
balanced_line elses ended (conditional p wanted name) = if_ended (is_flag true (slice_get ended 0)) (conditional p wanted name) p
balanced_line elses ended (otherwise p) = if_ended (is_flag false (slice_get elses 0)) (otherwise p) p
balanced_line elses ended (endif p) = if_ended (is_there (slice_get elses 0)) (endif p) p
balanced_line elses ended l = l

abbrev pub with_else : List Bool → List Bool
with_else [] = []
with_else (e ∷ es) = true ∷ es

abbrev pub elses_behind : List Bool → Line Place → List Bool
elses_behind elses (conditional p wanted name) = false ∷ elses
elses_behind elses (otherwise p) = with_else elses
elses_behind elses (endif p) = drop 1 elses
elses_behind elses l = elses

abbrev pub endings_behind : List Bool → Line Place → List Bool
endings_behind ended (conditional p wanted name) = drop 1 ended
endings_behind ended l = ended
