-- The tokens behind a comma, if there is one.
use Rattle.std.specs.Prelude.{ℕ, ◌+◌, List, [], length, Option, Some, None}
use Rattle.std.specs.Borrow.{Bor}
use Rattle.c_text.specs.declared.place.Place.{Place}
use Rattle.c_text.specs.declared.token.Token.{Token}
use Rattle.c_tree.specs.ExpressionCut.{Delimited, parts}

abbrev pub parts_left : Place → Option (Bor (List Token)) → List Delimited
parts_left after None = []
parts_left after (Some ts) = parts after 0 ts.now

-- how many tokens there are with the comma
abbrev pub count_left : Option (Bor (List Token)) → ℕ
count_left None = 0
count_left (Some ts) = length ts.now + 1
