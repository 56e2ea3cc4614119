-- The text of an expression, and its tokens.
use Rattle.std.specs.Prelude.{ℕ, Bool, true, false, List, [], ◌∷◌, ◌++◌, codes}
use Rattle.c_text.specs.declared.token.TokenKind.{TokenKind}
use Rattle.c_text.specs.declared.token.TokenKind.TheVariants.{Word, Constant as Number, Mark}
use Rattle.c_tree.specs.BareExpression.{Tree, Trees, constant, name, null, member, element, call, unary, cast, binary, bracket, none, more}
use Rattle.c_printed.specs.Spelling.{sign_text, operator_text, between, constant_text, type_text, callee_text, Voice}

abbrev pub separator : Bool → List ℕ
separator true = []
separator false = codes ", "

abbrev mutual
  -- in a function (true) or in a macro's body
  pub printed : Bool → Tree → List ℕ
  printed wide (constant c) = constant_text wide c
  printed wide (name n) = n
  printed wide null = codes "NULL"
  printed wide (member base field) = base ++ (codes "->" ++ field)
  printed wide (element base index) = base ++ (codes "[" ++ (printed wide index ++ codes "]"))
  printed wide (call f ts) = callee_text f ++ (codes "(" ++ (separated wide true ts ++ codes ")"))
  printed wide (unary u x) = sign_text u ++ printed wide x
  printed wide (cast to x) = codes "(" ++ (type_text to ++ (codes ")" ++ printed wide x))
  printed wide (binary o l r) = printed wide l ++ (between (operator_text o) ++ printed wide r)
  printed wide (bracket x) = codes "(" ++ (printed wide x ++ codes ")")

  -- arguments, of which the first is the first of all or not
  pub separated : Bool → Bool → Trees → List ℕ
  separated wide first none = []
  separated wide first (more t ts) = separator first ++ (printed wide t ++ separated wide false ts)

abbrev pub comma : Bool → List TokenKind
comma true = []
comma false = Mark (codes ",") ∷ []

abbrev mutual
  pub tokens_of : Voice → Tree → List TokenKind
  tokens_of v (constant c) = Number c ∷ []
  tokens_of v (name n) = Word n ∷ []
  tokens_of v null = v.null ∷ []
  tokens_of v (member base field) = Word base ∷ Mark (codes "->") ∷ Word field ∷ []
  tokens_of v (element base index) = Word base ∷ Mark (codes "[") ∷ (tokens_of v index ++ Mark (codes "]") ∷ [])
  tokens_of v (call f ts) = v.callee f ∷ Mark (codes "(") ∷ (all_tokens v true ts ++ Mark (codes ")") ∷ [])
  tokens_of v (unary u x) = Mark (sign_text u) ∷ tokens_of v x
  tokens_of v (cast to x) = Mark (codes "(") ∷ (v.type to ++ Mark (codes ")") ∷ tokens_of v x)
  tokens_of v (binary o l r) = tokens_of v l ++ Mark (operator_text o) ∷ tokens_of v r
  tokens_of v (bracket x) = Mark (codes "(") ∷ (tokens_of v x ++ Mark (codes ")") ∷ [])

  pub all_tokens : Voice → Bool → Trees → List TokenKind
  all_tokens v first none = []
  all_tokens v first (more t ts) = comma first ++ (tokens_of v t ++ all_tokens v false ts)
