-- The text of a statement has its tokens, whatever follows.
use Rattle.std.proofs.Common.{◌≡◌, ℕ, ◌+◌, Bool, true, false, List, [], ◌∷◌, ◌++◌, Option, Some, None, refl, append_assoc}
use Rattle.std.specs.Prelude.{codes}
use Rattle.c_text.specs.declared.token.TokenKind.{TokenKind}
use Rattle.c_text.specs.declared.token.TokenKind.TheVariants.{Word, Mark}
use Rattle.c_text.specs.Characters.{IsName}
use Rattle.c_text.specs.Punctuator.{mark_at}
use Rattle.c_text.specs.Piece.{token, line_end, space}
use Rattle.c_tree.specs.BareExpression.{Tree, constant, unary, bracket}
use Rattle.c_tree.specs.BareStatement.{Action, Actions, Parts, declare, assign, call, discard, empty, block, when, choose, return, break, switch, no_more, then, done, label, statement}
use Rattle.c_printed.specs.Spelling.{assign_text, between, type_text, type_words, words, callee_text, written}
use Rattle.c_printed.specs.PrintedExpression.{printed, separated, tokens_of, all_tokens}
use Rattle.c_printed.specs.PrintedStatement.{blanks, value_text, result_text, action_text, actions_text, parts_text, value_tokens, result_tokens, action_tokens, actions_tokens, parts_tokens}
use Rattle.c_printed.specs.Printable.{Fits, FitsOption, IsCase, FitsAction, FitActions, FitParts}
use Rattle.c_printed.proofs.Pieces.{Reads, joined, nothing, named, free-any, given, indent}
use Rattle.c_printed.proofs.Spelled.{blank, opening, reads-assign, reads-type, callee-name}
use Rattle.c_printed.proofs.ExpressionLaw.{reads-tree, reads-all}
use Rattle.c_tree.specs.declared.expression.UnaryOp.TheVariants as sign
use Rattle.c_printed.proofs.Pieces as p

-- ---- given texts

ends : Reads false true (codes ";\n") (Mark (codes ";") ∷ [])
unfolding mark_at
ends = given (codes ";\n") (token (Mark (codes ";")) ∷ line_end ∷ []) (λ rest. refl) refl refl

call-ends : Reads false true (codes ");\n") (Mark (codes ")") ∷ Mark (codes ";") ∷ [])
unfolding mark_at
call-ends = given (codes ");\n") (token (Mark (codes ")")) ∷ token (Mark (codes ";")) ∷ line_end ∷ []) (λ rest. refl) refl refl

equals : Reads false true (codes " = ") (Mark (codes "=") ∷ [])
unfolding mark_at
equals = given (codes " = ") (space ∷ token (Mark (codes "=")) ∷ space ∷ []) (λ rest. refl) refl refl

void : Reads false true (codes "(void)") (Mark (codes "(") ∷ Word (codes "void") ∷ Mark (codes ")") ∷ [])
unfolding mark_at
void = given (codes "(void)") (token (Mark (codes "(")) ∷ token (Word (codes "void")) ∷ token (Mark (codes ")")) ∷ []) (λ rest. refl) refl refl

brace : Reads false true (codes "{\n") (Mark (codes "{") ∷ [])
unfolding mark_at
brace = given (codes "{\n") (token (Mark (codes "{")) ∷ line_end ∷ []) (λ rest. refl) refl refl

brace-end : Reads false true (codes "}\n") (Mark (codes "}") ∷ [])
unfolding mark_at
brace-end = given (codes "}\n") (token (Mark (codes "}")) ∷ line_end ∷ []) (λ rest. refl) refl refl

if-open : Reads false true (codes "if (") (Word (codes "if") ∷ Mark (codes "(") ∷ [])
unfolding mark_at
if-open = given (codes "if (") (token (Word (codes "if")) ∷ space ∷ token (Mark (codes "(")) ∷ []) (λ rest. refl) refl refl

switch-open : Reads false true (codes "switch (") (Word (codes "switch") ∷ Mark (codes "(") ∷ [])
unfolding mark_at
switch-open = given (codes "switch (") (token (Word (codes "switch")) ∷ space ∷ token (Mark (codes "(")) ∷ []) (λ rest. refl) refl refl

close-brace : Reads false true (codes ") {\n") (Mark (codes ")") ∷ Mark (codes "{") ∷ [])
unfolding mark_at
close-brace = given (codes ") {\n") (token (Mark (codes ")")) ∷ space ∷ token (Mark (codes "{")) ∷ line_end ∷ []) (λ rest. refl) refl refl

else-brace : Reads false true (codes "} else {\n") (Mark (codes "}") ∷ Word (codes "else") ∷ Mark (codes "{") ∷ [])
unfolding mark_at
else-brace = given (codes "} else {\n") (token (Mark (codes "}")) ∷ space ∷ token (Word (codes "else")) ∷ space ∷ token (Mark (codes "{")) ∷ line_end ∷ []) (λ rest. refl) refl refl

colon : Reads false true (codes ":\n") (Mark (codes ":") ∷ [])
unfolding mark_at
colon = given (codes ":\n") (token (Mark (codes ":")) ∷ line_end ∷ []) (λ rest. refl) refl refl

break-line : Reads false true (codes "break;\n") (Word (codes "break") ∷ Mark (codes ";") ∷ [])
unfolding mark_at
break-line = given (codes "break;\n") (token (Word (codes "break")) ∷ token (Mark (codes ";")) ∷ line_end ∷ []) (λ rest. refl) refl refl

case-word : Reads false true (codes "case ") (Word (codes "case") ∷ [])
case-word = given (codes "case ") (token (Word (codes "case")) ∷ space ∷ []) (λ rest. refl) refl refl

-- ---- parts of statements

-- an expression before a text that begins with a given byte
expression : (g : Bool) (e : Tree) (y : List ℕ) (b : List TokenKind) → ((rest : List ℕ) → p.stops (y ++ rest) ≡ true) → Fits 0 e → Reads false g y b → Reads false g (printed true e ++ y) (tokens_of written e ++ b)
expression g e y b stop h q = joined false g _ y (tokens_of written e) b (λ rest x. stop rest) (reads-tree true 0 e h) q

reads-value : (x : List ℕ) (e : Option Tree) → IsName x → FitsOption e
    → Reads false true (x ++ (value_text e ++ codes ";\n")) (Word x ∷ (value_tokens written e ++ Mark (codes ";") ∷ []))
reads-value x None n h = joined false true x _ (Word x ∷ []) _ (λ rest e. refl) (named x n) ends
reads-value x (Some e) n h =
    joined false true x ((codes " = " ++ printed true e) ++ codes ";\n") (Word x ∷ []) ((Mark (codes "=") ∷ tokens_of written e) ++ Mark (codes ";") ∷ []) (λ rest e. refl) (named x n)
    (p.then true (codes " = ") _ (Mark (codes "=") ∷ []) _ equals (expression true e (codes ";\n") _ (λ rest. refl) h ends))

reads-result : (e : Option Tree) → FitsOption e → Reads false true (codes "return" ++ (result_text e ++ codes ";\n")) (Word (codes "return") ∷ (result_tokens written e ++ Mark (codes ";") ∷ []))
reads-result None h = joined false true (codes "return") _ (Word (codes "return") ∷ []) _ (λ rest e. refl) (named (codes "return") (refl, (refl, (refl, (refl, (refl, (refl, tt))))))) ends
reads-result (Some e) h =
    joined false true (codes "return") ((codes " " ++ printed true e) ++ codes ";\n") (Word (codes "return") ∷ []) (tokens_of written e ++ Mark (codes ";") ∷ []) (λ rest e. refl)
    (named (codes "return") (refl, (refl, (refl, (refl, (refl, (refl, tt)))))))
    (p.then true (codes " ") _ [] _ blank (expression true e (codes ";\n") _ (λ rest. refl) h ends))

-- a case value is printable at any level
pub case-fits : (level : ℕ) (e : Tree) → IsCase e → Fits level e
case-fits level (constant c) h = h
case-fits level (unary sign.Plus x) h = (h.0, case-fits 9 x h.1)
case-fits level (unary sign.Minus x) h = (h.0, case-fits 9 x h.1)
case-fits level (bracket x) h = case-fits 0 x h
case-fits level _ h = absurd h

reads-case : (e : Tree) → IsCase e → Reads true false (printed true e) (tokens_of written e)
reads-case e h = reads-tree true 0 e (case-fits 0 e h)

-- the statements of a block and its closing brace
body-ends : (n : ℕ) (list : Actions) → Reads false true (actions_text (n + 4) list) (actions_tokens written list) → Reads false true (actions_text (n + 4) list ++ (blanks n ++ codes "}\n")) (actions_tokens written list ++ Mark (codes "}") ∷ [])
body-ends n list q = p.then true (actions_text (n + 4) list) _ (actions_tokens written list) _ q (p.then true (blanks n) _ [] _ (indent n) brace-end)

-- ---- the law

mutual
  pub reads-action : (n : ℕ) (may : Bool) (a : Action) → FitsAction may a → Reads false true (action_text n a) (action_tokens written a)
  reads-action n may (declare s x v) h =
      p.then true (blanks n) _ [] _ (indent n)
      (joined false true (type_text s) _ (words (type_words s)) _ (λ rest e. refl) (reads-type s h.0)
      (p.then true (codes " ") _ [] _ blank (reads-value x v h.1.0 h.2)))
  reads-action n may (assign target o v) h =
      p.then true (blanks n) _ [] _ (indent n)
      (expression true target _ _ (λ rest. refl) h.1
      (p.then true (between (assign_text o)) _ (Mark (assign_text o) ∷ []) _ (reads-assign o) (expression true v (codes ";\n") _ (λ rest. refl) h.2 ends)))
  reads-action n may (call f ts) h =
      p.then true (blanks n) _ [] _ (indent n)
      (joined false true (callee_text f) _ (Word (callee_text f) ∷ []) _ (λ rest e. refl) (named (callee_text f) (callee-name f h.0))
      (p.then true (codes "(") _ (Mark (codes "(") ∷ []) _ opening
      (joined false true (separated true true ts) _ (all_tokens written true ts) _ (λ rest e. refl) (reads-all true true ts h.1) call-ends)))
  reads-action n may (discard x) h =
      p.then true (blanks n) _ [] _ (indent n)
      (p.then true (codes "(void)") _ (Mark (codes "(") ∷ Word (codes "void") ∷ Mark (codes ")") ∷ []) _ void
      (joined false true x _ (Word x ∷ []) _ (λ rest e. refl) (named x h.0) ends))
  reads-action n may empty h = p.then true (blanks n) _ [] _ (indent n) ends
  reads-action n may (block list) h = p.then true (blanks n) _ [] _ (indent n) (p.then true (codes "{\n") _ (Mark (codes "{") ∷ []) _ brace (body-ends n list (reads-actions (n + 4) may list h)))
  reads-action n may (when c (block list)) h =
      p.then true (blanks n) _ [] _ (indent n)
      (p.then true (codes "if (") _ (Word (codes "if") ∷ Mark (codes "(") ∷ []) _ if-open
      (expression true c _ _ (λ rest. refl) h.0
      (p.then true (codes ") {\n") _ (Mark (codes ")") ∷ Mark (codes "{") ∷ []) _ close-brace (body-ends n list (reads-actions (n + 4) may list h.1)))))
  reads-action n may (when c _) h = absurd h.1
  reads-action n may (choose c (block xs) (block ys)) h =
      simp append_assoc (p.then true (blanks n) _ [] _ (indent n)
      (p.then true (codes "if (") _ (Word (codes "if") ∷ Mark (codes "(") ∷ []) _ if-open
      (expression true c _ _ (λ rest. refl) h.0
      (p.then true (codes ") {\n") _ (Mark (codes ")") ∷ Mark (codes "{") ∷ []) _ close-brace
      (p.then true (actions_text (n + 4) xs) _ (actions_tokens written xs) _ (reads-actions (n + 4) may xs h.1)
      (p.then true (blanks n) _ [] _ (indent n)
      (p.then true (codes "} else {\n") _ (Mark (codes "}") ∷ Word (codes "else") ∷ Mark (codes "{") ∷ []) _ else-brace (body-ends n ys (reads-actions (n + 4) may ys h.2)))))))))
  reads-action n may (choose c (block xs) _) h = absurd h.2
  reads-action n may (choose c _ b) h = absurd h.1
  reads-action n may (return v) h = p.then true (blanks n) _ [] _ (indent n) (reads-result v h)
  reads-action n may break h = p.then true (blanks n) _ [] _ (indent n) break-line
  reads-action n may (switch v ps) h =
      p.then true (blanks n) _ [] _ (indent n)
      (p.then true (codes "switch (") _ (Word (codes "switch") ∷ Mark (codes "(") ∷ []) _ switch-open
      (expression true v _ _ (λ rest. refl) h.0
      (p.then true (codes ") {\n") _ (Mark (codes ")") ∷ Mark (codes "{") ∷ []) _ close-brace
      (p.then true (parts_text n ps) _ (parts_tokens written ps) _ (reads-parts n ps h.1) (p.then true (blanks n) _ [] _ (indent n) brace-end)))))

  pub reads-actions : (n : ℕ) (may : Bool) (list : Actions) → FitActions may list → Reads false true (actions_text n list) (actions_tokens written list)
  reads-actions n may no_more h = p.rough true [] [] nothing
  reads-actions n may (then a rest) h = p.then true (action_text n a) _ (action_tokens written a) _ (reads-action n may a h.0) (reads-actions n may rest h.1)

  reads-parts : (n : ℕ) (ps : Parts) → FitParts ps → Reads false true (parts_text n ps) (parts_tokens written ps)
  reads-parts n done h = p.rough true [] [] nothing
  reads-parts n (label None ps) h =
      p.then true (blanks n) _ [] _ (indent n)
      (joined false true (codes "default") _ (Word (codes "default") ∷ []) _ (λ rest e. refl) (named (codes "default") (refl, (refl, (refl, (refl, (refl, (refl, (refl, tt))))))))
      (p.then true (codes ":\n") _ (Mark (codes ":") ∷ []) _ colon (reads-parts n ps h.1)))
  reads-parts n (label (Some e) ps) h =
      simp append_assoc (p.then true (blanks n) _ [] _ (indent n)
      (p.then true (codes "case ") _ (Word (codes "case") ∷ []) _ case-word
      (joined false true (printed true e) _ (tokens_of written e) _ (λ rest e. refl) (reads-case e h.0)
      (p.then true (codes ":\n") _ (Mark (codes ":") ∷ []) _ colon (reads-parts n ps h.1)))))
  reads-parts n (statement a ps) h = p.then true (action_text (n + 4) a) _ (action_tokens written a) _ (reads-action (n + 4) true a h.1) (reads-parts n ps h.2)
