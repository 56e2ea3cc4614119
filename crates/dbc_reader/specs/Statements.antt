-- The one list of statements of a text: its statements' tokens, joined in order, are the text's tokens.
use Rattle.std.specs.Prelude.{◌≡◌, ℕ, true, false, List, [], ◌∷◌, ◌++◌, Ok, map}
use Rattle.std.proofs.Common.{inl, inr}
use Rattle.std.specs.List.{AllByRecursion}
use Rattle.dbc_reader.specs.Token.{Lexed}
use Rattle.dbc_reader.specs.declared.statement.Statement.{Statement}
use Rattle.dbc_reader.specs.Spelling.{IsTokenList}
use Rattle.dbc_reader.specs.Template.{Test, Template, done, take, both, choose, repeat, skip, stop, Kept, given, passes}
use Rattle.dbc_reader.specs.Document.{statement, statement_of, document}
use Rattle.dbc_reader.specs.Reading.{too_large}

-- the first token, if there is one, does not pass
abbrev pub EndsRun : Test → List Lexed → Type 0
EndsRun p [] = Unit {0}
EndsRun p (x ∷ xs) = passes p x.token ≡ false

-- there is a first token and it passes
abbrev pub Passes : Test → List Lexed → Type 0
Passes p [] = ⊥
Passes p (x ∷ xs) = passes p x.token ≡ true

-- each of these tokens passes
abbrev pub Passing : Test → List Lexed → Type 0
Passing p ts = AllByRecursion (λ x. passes p x.token ≡ true) ts

-- the tokens begin with these rounds, each where the next token passes, and the rest follows
abbrev pub Rounds : {A : Type 0} → (A → List Lexed → List Lexed → Type 0) → Test → List A → List Lexed → List Lexed → Type 0
Rounds fit p [] ts rest = ts ≡ rest
Rounds fit p (f ∷ fs) ts rest = Passes p ts × ((mid : List Lexed) × fit f ts mid × Rounds fit p fs mid rest)

-- the tokens begin with a spelling of the template that keeps this, and the rest follows
abbrev pub Fits : (t : Template) → Kept t → List Lexed → List Lexed → Type 0
Fits done f ts rest = ts ≡ rest
Fits (take w) f ts rest = (x : Lexed) × (ts ≡ x ∷ rest) × (given w x ≡ Ok f)
Fits (both t u) f ts rest = (mid : List Lexed) × Fits t f.0 ts mid × Fits u f.1 mid rest
Fits (choose p t u) (inl f) ts rest = Passes p ts × Fits t f ts rest
Fits (choose p t u) (inr f) ts rest = EndsRun p ts × Fits u f ts rest
Fits (repeat p t) fs ts rest = Rounds (Fits t) p fs ts rest × EndsRun p rest
Fits (skip p) f ts rest = (front : List Lexed) × (ts ≡ front ++ rest) × Passing p front × EndsRun p rest
Fits (stop p kind) f ts rest = EndsRun p ts × (ts ≡ rest)

-- the tokens are these statements and nothing else
abbrev pub AreStatements : List Statement → List Lexed → Type 0
AreStatements ss ts = (fs : List (Kept (statement))) × Fits (document) fs ts [] × (ss ≡ map (statement_of) fs)

-- the text is within the limit, and its tokens are these statements
abbrev pub IsStatementList : List Statement → List ℕ → Type 0
IsStatementList ss text = (too_large text ≡ false) × ((ts : List Lexed) × IsTokenList ts text × AreStatements ss ts)
