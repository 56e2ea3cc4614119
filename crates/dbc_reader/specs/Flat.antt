-- Reading in steps, row by row, as the code does it.
use Rattle.std.specs.Prelude.{ℕ, if◌then◌else◌, List, [], ◌∷◌, Result, Ok}
use Rattle.cg_out.specs.Words.{◌>>=◌}
use Rattle.can_model.specs.Refusal.{Refusal}
use Rattle.dbc_reader.specs.Token.{Lexed}
use Rattle.dbc_reader.specs.declared.statement.Statement.{Statement}
use Rattle.dbc_reader.specs.Template.{is_word, first_mark, passes}
use Rattle.dbc_reader.specs.Parts.{is_the}
use Rattle.dbc_reader.specs.Rows.{Row, other}
use Rattle.dbc_reader.specs.Document.{skipped}
use Rattle.dbc_reader.specs.Reading.{one_at, seen}

-- the statement whose first token is x, among these rows
abbrev pub row_at : List Row → ℕ → Lexed → List Lexed → Result (Statement × List Lexed) Refusal
row_at [] end x xs = if passes is_word x.token then seen end other (λ f. skipped x.line) xs else (one_at end (first_mark 59) (x ∷ xs) >>= λ l. Ok (skipped l.0, l.1))
row_at (r ∷ rs) end x xs = if passes (is_the r.first) x.token then (seen end r.template r.body xs >>= λ b. Ok (record { line = x.line; body = b.0 }, b.1)) else row_at rs end x xs
