-- The tokens of a text (ISO/IEC 9899:1999, 6.4): the longest match from the left.
use Rattle.std.specs.Prelude.{ℕ, zero, suc, ◌+◌, Bool, true, false, nat_lt, if◌then◌else◌, List, [], ◌∷◌, Option, Some, None, Result, Ok, Err}
use Rattle.c_text.specs.declared.place.Place.{Place}
use Rattle.c_text.specs.declared.token.Token.{Token}
use Rattle.c_text.specs.declared.refusal.CKind.TheVariants.{Splice}
use Rattle.c_text.specs.Refusal.{Refusal}
use Rattle.c_text.specs.Splice.{line_after, first_splice}
use Rattle.c_text.specs.Piece.{Lexeme, token, line_end, space, bad, piece}

-- ---- the lexemes of a text, without their places

-- the lexemes behind so many bytes
abbrev pub kinds : ℕ → List ℕ → List Lexeme
kinds skip [] = []
kinds (suc k) (b ∷ bs) = kinds k bs
kinds zero (b ∷ bs) = (piece b bs).0 ∷ kinds (piece b bs).1 bs

-- ---- the same with their places

abbrev pub Placed : Type 0
Placed = Lexeme × Place

-- the lexemes behind so many bytes, of which the first stands on this line at this offset
abbrev pub scan : Bool → ℕ → ℕ → ℕ → List ℕ → List Placed
scan header skip line at [] = []
scan header (suc k) line at (b ∷ bs) = scan header k (line_after line b) (at + 1) bs
scan header zero line at (b ∷ bs) =
    ((piece b bs).0, record { header = header; line = line; start = at; end = at + 1 + (piece b bs).1 }) ∷ scan header (piece b bs).1 (line_after line b) (at + 1) bs

-- ---- tokens

abbrev pub onto : {X E : Type 0} → X → Result (List X) E → Result (List X) E
onto x (Ok xs) = Ok (x ∷ xs)
onto x (Err e) = Err e

-- the tokens up to the first lexeme that is none; a token is fresh behind a line end
abbrev pub gathered : Bool → List Placed → Result (List Token) Refusal
gathered fresh [] = Ok []
gathered fresh ((token k, p) ∷ ls) = onto (record { kind = k; place = p; fresh = fresh }) (gathered false ls)
gathered fresh ((line_end, p) ∷ ls) = gathered true ls
gathered fresh ((space, p) ∷ ls) = gathered fresh ls
gathered fresh ((bad c, p) ∷ ls) = Err (record { kind = c; place = p })

-- the first of a splice and another fault; at one byte it is the splice
abbrev pub unless_spliced : Option Place → Result (List Token) Refusal → Result (List Token) Refusal
unless_spliced None read = read
unless_spliced (Some p) (Ok ts) = Err (record { kind = Splice; place = p })
unless_spliced (Some p) (Err e) = if nat_lt e.place.start p.start then Err e else Err (record { kind = Splice; place = p })

-- the tokens of the header or of the source, or the first fault among them
abbrev pub tokens : Bool → List ℕ → Result (List Token) Refusal
tokens header text = unless_spliced (first_splice header 1 0 text) (gathered true (scan header 0 1 0 text))
