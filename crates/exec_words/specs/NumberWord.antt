-- Numbers of C types in words.
use Rattle.std.specs.Prelude.{ℕ, if◌then◌else◌, List, Option, Some, None, ℤ}
use Rattle.std.specs.Option.{option_and_then}
use Rattle.c_text.specs.declared.token.IntType.{IntType}
use Rattle.c_widths.specs.DataModel.{DataModel}
use Rattle.c_widths.specs.Conversion.{holds}
use Rattle.command_words.specs.NumberWord.{number_in}

-- a number that a type holds
abbrev pub held_by : DataModel → IntType → ℤ → Option ℤ
held_by m type number = if holds m type number then Some number else None

-- the number that a word is for a type, if it is one
abbrev pub number_of : DataModel → Option IntType → List ℕ → Option ℤ
number_of m None word = None
number_of m (Some type) word = option_and_then (held_by m type) (number_in word)
