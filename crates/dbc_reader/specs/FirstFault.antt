-- The first fault of a text: the first token that no list of statements goes on with.
use Rattle.std.specs.Prelude.{◌≡◌, ◌⊎◌, ℕ, true, List, [], ◌∷◌, ◌++◌, MatchBool}
use Rattle.can_model.specs.Refusal.{Refusal}
use Rattle.can_model.specs.declared.refusal.TextKind.{TextKind}
use Rattle.can_model.specs.declared.refusal.TextKind.TheVariants.{BadNumber, Unexpected, TooLarge}
use Rattle.dbc_reader.specs.Token.{Token, Number, Bad, Lexed}
use Rattle.dbc_reader.specs.declared.statement.Statement.{Statement}
use Rattle.dbc_reader.specs.Tokens.{end_line}
use Rattle.dbc_reader.specs.Spelling.{IsTokenList}
use Rattle.dbc_reader.specs.Template.{Template, both, choose, repeat, stop, Kept, passes}
use Rattle.dbc_reader.specs.Document.{document}
use Rattle.dbc_reader.specs.Reading.{fault_at, too_large}
use Rattle.dbc_reader.specs.Statements.{Fits, Rounds, Passes, EndsRun, AreStatements}

-- the tokens are a list of statements
abbrev pub AreWhole : List Lexed → Type 0
AreWhole ts = (ss : List Statement) × AreStatements ss ts

-- some list of statements begins with these tokens
abbrev pub AreBegun : List Lexed → Type 0
AreBegun ts = (more : List Lexed) × AreWhole (ts ++ more)

-- a number goes on from these tokens
abbrev pub WantsNumber : List Lexed → Type 0
WantsNumber ts = (digits : List ℕ) × (line : ℕ) × AreBegun (ts ++ record { token = Number digits; line = line } ∷ [])

-- behind these tokens of the template, this next token is where the template stops with this kind of fault
abbrev pub Stops : Template → List Lexed → Lexed → TextKind → Type 0
Stops (both t u) front x kind =
    Stops t front x kind
    ⊎ ((f : Kept t) × (a : List Lexed) × (b : List Lexed) × (front ≡ a ++ b) × Fits t f (a ++ (b ++ x ∷ [])) (b ++ x ∷ []) × Stops u b x kind)
Stops (choose p t u) front x kind = (Passes p (front ++ x ∷ []) × Stops t front x kind) ⊎ (EndsRun p (front ++ x ∷ []) × Stops u front x kind)
Stops (repeat p t) front x kind =
    (fs : List (Kept t)) × (a : List Lexed) × (b : List Lexed) × (front ≡ a ++ b) × Rounds (Fits t) p fs (a ++ (b ++ x ∷ [])) (b ++ x ∷ [])
    × Passes p (b ++ x ∷ []) × Stops t b x kind
Stops (stop p k) front x kind = (front ≡ []) × (passes p x.token ≡ true) × (kind ≡ k)
Stops t front x kind = ⊥

-- the kind of the fault of a token, where a number is wanted there: a bad byte and an open string have their own
abbrev pub HasOwnKind : Type 0 → Token → TextKind → Type 0
HasOwnKind number_wanted (Bad own) kind = kind ≡ own
HasOwnKind number_wanted (Number digits) kind = (number_wanted → kind ≡ BadNumber) × (¬ number_wanted → kind ≡ Unexpected)
HasOwnKind number_wanted t kind = kind ≡ Unexpected

-- where a template stops with a kind the fault has that, else it has its own
abbrev pub HasKind : List Lexed → Lexed → TextKind → Type 0
HasKind front x kind =
    ((k : TextKind) → Stops (document) front x k → kind ≡ k)
    × (Stops (document) front x kind ⊎ HasOwnKind (WantsNumber front) x.token kind)

-- the next token goes on from no list of statements, or there is none and these are no list; with the kind and line of that
abbrev pub StopsAt : ℕ → List Lexed → List Lexed → Refusal → Type 0
StopsAt end front [] fault = (¬ AreWhole front) × (fault ≡ fault_at Unexpected end)
StopsAt end front (x ∷ xs) fault = (¬ AreBegun (front ++ x ∷ [])) × HasKind front x fault.kind × (fault.line ≡ x.line)

-- the fault stands behind the longest front of these tokens that begins some list of statements
pub record IsFirstTokenFault (end : ℕ) (ts : List Lexed) (fault : Refusal) : Type 0 where
  pub front : List Lexed
  pub back : List Lexed
  pub tokens_are : ts ≡ front ++ back
  pub begun : AreBegun front
  pub stops : StopsAt end front back fault

-- a text beyond the limit has that fault alone
abbrev pub IsFirstFault : List ℕ → Refusal → Type 0
IsFirstFault text fault = MatchBool (too_large text) (fault ≡ fault_at TooLarge 0) ((ts : List Lexed) × IsTokenList ts text × IsFirstTokenFault (end_line text) ts fault)
