-- Reading tokens from the first on, up to the first fault.
use Rattle.std.specs.Prelude.{ℕ, zero, suc, Bool, false, if◌then◌else◌, List, [], ◌∷◌, length, nat_lt, Result, Ok, Err, map}
use Rattle.std.proofs.Common.{inl, inr}
use Rattle.cg_out.specs.Words.{◌>>=◌}
use Rattle.can_model.specs.Refusal.{Refusal}
use Rattle.can_model.specs.declared.refusal.TextKind.{TextKind}
use Rattle.can_model.specs.declared.refusal.TextKind.TheVariants.{Unexpected, TooLarge}
use Rattle.can_model.specs.declared.refusal.TheConstants.{TEXT_LIMIT}
use Rattle.dbc_reader.specs.Token.{Lexed}
use Rattle.dbc_reader.specs.declared.statement.Statement.{Statement}
use Rattle.dbc_reader.specs.Tokens.{tokens, end_line}
use Rattle.dbc_reader.specs.Template.{Want, Given, Test, Template, done, take, both, choose, repeat, skip, stop, Kept, given, passes}
use Rattle.dbc_reader.specs.Document.{statement, statement_of, document}

-- a fault of this kind at this line
abbrev pub fault_at : TextKind → ℕ → Refusal
fault_at kind line = record { kind = kind; line = line }

-- what was given and what follows, or a fault at this line
abbrev pub with_rest : {A : Type 0} → Result A TextKind → ℕ → List Lexed → Result (A × List Lexed) Refusal
with_rest (Ok f) line rest = Ok (f, rest)
with_rest (Err kind) line rest = Err (fault_at kind line)

-- one token, where the end of the text has this line
abbrev pub one_at : ℕ → (w : Want) → List Lexed → Result (Given w × List Lexed) Refusal
one_at end w [] = Err (fault_at Unexpected end)
one_at end w (x ∷ xs) = with_rest (given w x) x.line xs

-- whether there is a next token and it passes
abbrev pub next_passes : Test → List Lexed → Bool
next_passes p [] = false
next_passes p (x ∷ xs) = passes p x.token

-- what follows all tokens that pass
abbrev pub past : Test → List Lexed → List Lexed
past p [] = []
past p (x ∷ xs) = if passes p x.token then past p xs else x ∷ xs

-- no fault of this kind, where the next token does not pass
abbrev pub unless_at : Test → TextKind → List Lexed → Result (Unit {0} × List Lexed) Refusal
unless_at p kind [] = Ok (tt, [])
unless_at p kind (x ∷ xs) = if passes p x.token then Err (fault_at kind x.line) else Ok (tt, x ∷ xs)

-- at most so many rounds
unfoldable pub rounds_at : {A : Type 0} → (List Lexed → Result (A × List Lexed) Refusal) → Test → ℕ → List Lexed → Result (List A × List Lexed) Refusal
rounds_at read p n [] = Ok ([], [])
rounds_at read p zero (x ∷ xs) = if passes p x.token then Err (fault_at Unexpected x.line) else Ok ([], x ∷ xs)
rounds_at read p (suc n) (x ∷ xs) = if passes p x.token then (read (x ∷ xs) >>= λ r. rounds_at read p n r.1 >>= λ q. Ok (r.0 ∷ q.0, q.1)) else Ok ([], x ∷ xs)

-- as many rounds as there are; each takes at least one token
abbrev pub repeat_at : {A : Type 0} → (List Lexed → Result (A × List Lexed) Refusal) → Test → List Lexed → Result (List A × List Lexed) Refusal
repeat_at read p ts = rounds_at read p (length ts) ts

-- the tokens of a template: what is kept of them and what follows
abbrev pub template_at : ℕ → (t : Template) → List Lexed → Result (Kept t × List Lexed) Refusal
template_at end done ts = Ok (tt, ts)
template_at end (take w) ts = one_at end w ts
template_at end (both t u) ts = template_at end t ts >>= λ x. template_at end u x.1 >>= λ y. Ok ((x.0, y.0), y.1)
template_at end (choose p t u) ts = if next_passes p ts then (template_at end t ts >>= λ x. Ok (inl x.0, x.1)) else (template_at end u ts >>= λ x. Ok (inr x.0, x.1))
template_at end (repeat p t) ts = repeat_at (template_at end t) p ts
template_at end (skip p) ts = Ok (tt, past p ts)
template_at end (stop p kind) ts = unless_at p kind ts

-- the tokens of a template: what is seen in what is kept of them, and what follows
abbrev pub seen : {A : Type 0} → ℕ → (t : Template) → (Kept t → A) → List Lexed → Result (A × List Lexed) Refusal
seen end t view ts = template_at end t ts >>= λ x. Ok (view x.0, x.1)

-- the statement that the tokens begin with, and what follows
abbrev pub statement_at : ℕ → List Lexed → Result (Statement × List Lexed) Refusal
statement_at end ts = seen end (statement) (statement_of) ts

-- all statements of these tokens
abbrev pub all_of : ℕ → List Lexed → Result (List Statement) Refusal
all_of end ts = template_at end (document) ts >>= λ x. Ok (map (statement_of) x.0)

-- the text is longer than 8 MiB
unfoldable pub too_large : List ℕ → Bool
too_large text = nat_lt TEXT_LIMIT (length text)

-- the statements of a text, or its first fault
abbrev pub statements_of : List ℕ → Result (List Statement) Refusal
statements_of text = if too_large text then Err (fault_at TooLarge 0) else all_of (end_line text) (tokens text)
