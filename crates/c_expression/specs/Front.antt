-- Arguments that were read, with those of the tokens that are left.
use Rattle.std.specs.Prelude.{List, ◌++◌, Result, Ok, Err}

abbrev pub with_front : {A E : Type 0} → List A → Result (List A) E → Result (List A) E
with_front xs (Ok ys) = Ok (xs ++ ys)
with_front xs (Err e) = Err e
