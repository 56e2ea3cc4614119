-- The brackets that are open, as the definition has them.
use Rattle.std.specs.Prelude.{◌≡◌, List, [], ◌∷◌, Option, Some, None, Result, Ok, Err}
use Rattle.c_text.specs.Refusal.{Refusal}
use Rattle.c_tree.specs.Brackets as brackets
use Rattle.c_parser.specs.declared.matching.Open.{Open}
use Rattle.c_parser.specs.declared.matching.Found.{Found}

abbrev pub open_of : Open → brackets.Open
open_of o = record { bracket = o.bracket; at = o.at; place = o.place }

abbrev pub onto : List brackets.Open → List Open → List brackets.Open
onto stack [] = stack
onto stack (o ∷ os) = onto (open_of o ∷ stack) os

-- the last that was opened is the innermost
abbrev pub stack_of : List Open → List brackets.Open
stack_of os = onto [] os

abbrev pub found_of : Found → brackets.Found
found_of f = record { at = f.at; refusal = record { kind = f.kind; place = f.place } }

abbrev pub IsFound : Option Found → Option brackets.Found → Type 0
IsFound None found = found ≡ None
IsFound (Some f) found = found ≡ Some (found_of f)

-- the stack behind a token, or the fault that it shows
abbrev pub IsWalked : Option Found → List brackets.Open → brackets.Walk → Type 0
IsWalked None stack walk = walk ≡ brackets.within stack
IsWalked (Some f) stack walk = walk ≡ brackets.unfit (found_of f)

abbrev pub unmatched : Option Refusal → Result (Unit {0}) Refusal
unmatched None = Ok tt
unmatched (Some r) = Err r
