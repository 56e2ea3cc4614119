-- What stands at a switch's own level, but for statements.
use Rattle.std.specs.Prelude.{◌≡◌, ℕ, List, Option, Some, None, Result, Ok, Err}
use Rattle.c_text.specs.declared.place.Place.{Place}
use Rattle.c_text.specs.declared.token.Token.{Token}
use Rattle.c_tree.specs.declared.statement.SwitchPart.{SwitchPart}
use Rattle.c_tree.specs.declared.statement.SwitchPart.TheVariants.{Statement}
use Rattle.c_text.specs.declared.refusal.CFault.{CFault}
use Rattle.c_text.specs.declared.refusal.CFault.TheVariants.{Fault, Memory}
use Rattle.cg_out.specs.Words.{◌>>=◌}
use Rattle.c_tree.specs.Symbol.{keyword_of}
use Rattle.c_tree.specs.StatementCut.{StatementRead, PartRead, part_by}

-- the part that is read, whatever statement stands there
abbrev pub IsPart : ℕ → Place → Token → List Token → (StatementRead → PartRead) → Type 0
IsPart room after t ts found = (read : StatementRead) → part_by (keyword_of t.kind) read room after t ts ≡ found read

-- a label, or a fault, or the statement that stands there
abbrev pub IsLabel : Result (Option (SwitchPart × ℕ)) CFault → ℕ → Place → Token → List Token → Type 0
IsLabel (Ok (Some label)) room after t ts = IsPart room after t ts (λ read. Ok label)
IsLabel (Ok None) room after t ts = IsPart room after t ts (λ read. read >>= λ s. Ok (Statement s.0, s.1))
IsLabel (Err (Fault kind place)) room after t ts = IsPart room after t ts (λ read. Err (record { kind = kind; place = place }))
IsLabel (Err Memory) room after t ts = Unit {0}
