-- What the last item of a list says that says something.
use Rattle.std.specs.Prelude.{List, [], ◌∷◌, Option, None}
use Rattle.cg_out.specs.Words.{or_else}

abbrev pub last_of : {S V : Type 0} → (S → Option V) → List S → Option V
last_of says [] = None
last_of says (s ∷ ss) = or_else (last_of says ss) (says s)
