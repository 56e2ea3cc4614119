-- A table's entry, as the definition's name and body.
use Rattle.std.specs.Prelude.{ℕ, List}
use Rattle.std.specs.Borrow.{Bor}
use Rattle.c_text.specs.declared.place.Place.{Place}
use Rattle.c_text.specs.declared.token.Token.{Token}
use Rattle.c_text.specs.Preprocessing.{NamedBody}
use Rattle.c_pre.specs.Shown.{flats}

abbrev pub named : Bor (List ℕ) × Bor (List Token) → NamedBody Place
named e = (e.0.now, flats e.1.now)
