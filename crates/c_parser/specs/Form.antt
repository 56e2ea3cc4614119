-- The tokens of a value, if there is one.
use Rattle.std.specs.Prelude.{List, Option, Some, None}
use Rattle.std.specs.Borrow.{Bor}
use Rattle.c_text.specs.declared.token.Token.{Token}

abbrev pub value_of : Option (Bor (List Token)) → Option (List Token)
value_of None = None
value_of (Some ts) = Some ts.now
