-- The text of a statement, and its tokens.
use Rattle.std.specs.Prelude.{ℕ, ◌+◌, true, List, [], ◌∷◌, ◌++◌, codes, replicate, Option, Some, None}
use Rattle.c_text.specs.declared.token.TokenKind.{TokenKind}
use Rattle.c_text.specs.declared.token.TokenKind.TheVariants.{Word, Mark}
use Rattle.c_tree.specs.BareExpression.{Tree}
use Rattle.c_tree.specs.BareStatement.{Action, Actions, Parts, declare, assign, call, discard, empty, block, when, choose, return, break, switch, no_more, then, done, label, statement}
use Rattle.c_printed.specs.Spelling.{assign_text, between, type_text, callee_text, Voice}
use Rattle.c_printed.specs.PrintedExpression.{printed, separated, tokens_of, all_tokens}

abbrev pub blanks : ℕ → List ℕ
blanks n = replicate n 32

abbrev pub value_text : Option Tree → List ℕ
value_text None = []
value_text (Some e) = codes " = " ++ printed true e

abbrev pub result_text : Option Tree → List ℕ
result_text None = []
result_text (Some e) = codes " " ++ printed true e

abbrev pub label_text : Option Tree → List ℕ
label_text None = codes "default"
label_text (Some e) = codes "case " ++ printed true e

-- indented by so many blanks; each ends with a line end
abbrev mutual
  pub action_text : ℕ → Action → List ℕ
  action_text n (declare s x v) = blanks n ++ (type_text s ++ (codes " " ++ (x ++ (value_text v ++ codes ";\n"))))
  action_text n (assign target o v) = blanks n ++ (printed true target ++ (between (assign_text o) ++ (printed true v ++ codes ";\n")))
  action_text n (call f ts) = blanks n ++ (callee_text f ++ (codes "(" ++ (separated true true ts ++ codes ");\n")))
  action_text n (discard x) = blanks n ++ (codes "(void)" ++ (x ++ codes ";\n"))
  action_text n empty = blanks n ++ codes ";\n"
  action_text n (block list) = blanks n ++ (codes "{\n" ++ (actions_text (n + 4) list ++ (blanks n ++ codes "}\n")))
  action_text n (when c a) = blanks n ++ (codes "if (" ++ (printed true c ++ (codes ") {\n" ++ (inner_text (n + 4) a ++ (blanks n ++ codes "}\n")))))
  action_text n (choose c a b) =
      blanks n ++ (codes "if (" ++ (printed true c ++ (codes ") {\n" ++ (inner_text (n + 4) a ++ (blanks n ++ (codes "} else {\n" ++ (inner_text (n + 4) b ++ (blanks n ++ codes "}\n"))))))))
  action_text n (return v) = blanks n ++ (codes "return" ++ (result_text v ++ codes ";\n"))
  action_text n break = blanks n ++ codes "break;\n"
  action_text n (switch v ps) = blanks n ++ (codes "switch (" ++ (printed true v ++ (codes ") {\n" ++ (parts_text n ps ++ (blanks n ++ codes "}\n")))))

  -- the statements of a block, without its braces
  pub inner_text : ℕ → Action → List ℕ
  inner_text n (block list) = actions_text n list
  inner_text n _ = []

  pub actions_text : ℕ → Actions → List ℕ
  actions_text n no_more = []
  actions_text n (then a rest) = action_text n a ++ actions_text n rest

  pub parts_text : ℕ → Parts → List ℕ
  parts_text n done = []
  parts_text n (label v ps) = blanks n ++ (label_text v ++ (codes ":\n" ++ parts_text n ps))
  parts_text n (statement a ps) = action_text (n + 4) a ++ parts_text n ps

abbrev pub value_tokens : Voice → Option Tree → List TokenKind
value_tokens v None = []
value_tokens v (Some e) = Mark (codes "=") ∷ tokens_of v e

abbrev pub result_tokens : Voice → Option Tree → List TokenKind
result_tokens v None = []
result_tokens v (Some e) = tokens_of v e

abbrev pub label_tokens : Voice → Option Tree → List TokenKind
label_tokens v None = Word (codes "default") ∷ []
label_tokens v (Some e) = Word (codes "case") ∷ tokens_of v e

abbrev mutual
  pub action_tokens : Voice → Action → List TokenKind
  action_tokens v (declare s x e) = v.type s ++ Word x ∷ (value_tokens v e ++ Mark (codes ";") ∷ [])
  action_tokens v (assign target o e) = tokens_of v target ++ Mark (assign_text o) ∷ (tokens_of v e ++ Mark (codes ";") ∷ [])
  action_tokens v (call f ts) = v.callee f ∷ Mark (codes "(") ∷ (all_tokens v true ts ++ Mark (codes ")") ∷ Mark (codes ";") ∷ [])
  action_tokens v (discard x) = Mark (codes "(") ∷ Word (codes "void") ∷ Mark (codes ")") ∷ Word x ∷ Mark (codes ";") ∷ []
  action_tokens v empty = Mark (codes ";") ∷ []
  action_tokens v (block list) = Mark (codes "{") ∷ (actions_tokens v list ++ Mark (codes "}") ∷ [])
  action_tokens v (when c a) = Word (codes "if") ∷ Mark (codes "(") ∷ (tokens_of v c ++ Mark (codes ")") ∷ action_tokens v a)
  action_tokens v (choose c a b) = Word (codes "if") ∷ Mark (codes "(") ∷ (tokens_of v c ++ Mark (codes ")") ∷ (action_tokens v a ++ Word (codes "else") ∷ action_tokens v b))
  action_tokens v (return e) = Word (codes "return") ∷ (result_tokens v e ++ Mark (codes ";") ∷ [])
  action_tokens v break = Word (codes "break") ∷ Mark (codes ";") ∷ []
  action_tokens v (switch e ps) = Word (codes "switch") ∷ Mark (codes "(") ∷ (tokens_of v e ++ Mark (codes ")") ∷ Mark (codes "{") ∷ (parts_tokens v ps ++ Mark (codes "}") ∷ []))

  pub actions_tokens : Voice → Actions → List TokenKind
  actions_tokens v no_more = []
  actions_tokens v (then a rest) = action_tokens v a ++ actions_tokens v rest

  pub parts_tokens : Voice → Parts → List TokenKind
  parts_tokens v done = []
  parts_tokens v (label e ps) = label_tokens v e ++ Mark (codes ":") ∷ parts_tokens v ps
  parts_tokens v (statement a ps) = action_tokens v a ++ parts_tokens v ps
