-- A statement and a text as templates: a statement is one of the rows by its first word, another one, or a lone `;`.
use Rattle.std.specs.Prelude.{ℕ, List, [], ◌∷◌}
use Rattle.std.proofs.Common.{inl, inr}
use Rattle.dbc_reader.specs.declared.statement.Statement.{Statement}
use Rattle.dbc_reader.specs.declared.statement.Body.TheVariants as bodies
use Rattle.dbc_reader.specs.Template.{anything, is_word, first_word, first_mark, Template, take, both, choose, repeat, Kept}
use Rattle.dbc_reader.specs.Parts.{is_the}
use Rattle.dbc_reader.specs.Rows.{Row, other, rows}

-- a statement of any of these rows; else another one, or a lone `;`
abbrev pub table : List Row → Template
table [] = choose is_word (both (take first_word) other) (take (first_mark 59))
table (r ∷ rs) = choose (is_the r.first) (both (take first_word) r.template) (table rs)

-- a statement of which nothing is kept
abbrev pub skipped : ℕ → Statement
skipped line = record { line = line; body = bodies.Skipped }

-- what a statement of these rows says, with its line
abbrev pub made : (rs : List Row) → Kept (table rs) → Statement
made [] (inl (line, x)) = skipped line
made [] (inr line) = skipped line
made (r ∷ rs) (inl (line, x)) = record { line = line; body = r.body x }
made (r ∷ rs) (inr x) = made rs x

-- a statement, from its first token on
abbrev pub statement : Template
statement = table rows

abbrev pub statement_of : Kept statement → Statement
statement_of x = made rows x

-- a text: statements to its end
abbrev pub document : Template
document = repeat anything statement
