-- The macros that a pair declares (ISO/IEC 9899:1999, 6.10.3), as the kinds of their tokens.
use Rattle.std.specs.Prelude.{ℕ, Bool, true, false, if◌then◌else◌, List, [], ◌∷◌, codes}
use Rattle.std.specs.List.{flat_map, zip}
use Rattle.can_model.specs.declared.database.Message.{Message}
use Rattle.name_rules.specs.declared.table.SymbolTable.{SymbolTable}
use Rattle.name_rules.specs.declared.table.MessageNames.{MessageNames}
use Rattle.c_text.specs.declared.token.TokenKind.{TokenKind}
use Rattle.c_text.specs.declared.token.TokenKind.TheVariants.{Constant as Number, Mark}

-- a macro's name and the kinds of its body's tokens
abbrev pub Macro : Type 0
Macro = List ℕ × List TokenKind

-- a constant without `l`
abbrev pub number : ℕ → ℕ → Bool → TokenKind
number value base unsigned = Number (record { value = value; base = base; unsigned = unsigned; longs = 0 })

-- the same in brackets
abbrev pub in_brackets : TokenKind → List TokenKind
in_brackets k = Mark (codes "(") ∷ k ∷ Mark (codes ")") ∷ []

-- the frame id, the length, and 1 where the frame is extended, else 0
abbrev pub constants_of : Message → MessageNames → List Macro
constants_of m names =
    (names.frame_id, in_brackets (number m.id 16 true))
    ∷ (names.length, in_brackets (number m.length 10 true))
    ∷ (names.extended, in_brackets (number (if m.extended then 1 else 0) 10 false))
    ∷ []

-- the guard, the error's number, and three constants for each message with its names
abbrev pub macros_of : List Message → SymbolTable → List Macro
macros_of messages names =
    (names.guard, [])
    ∷ (codes "EINVAL", number 22 10 false ∷ [])
    ∷ flat_map (λ p. constants_of p.0 p.1) (zip messages names.messages)
