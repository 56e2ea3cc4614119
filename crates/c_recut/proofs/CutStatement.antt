-- The tokens of a statement are cut into the statement.
use Rattle.std.proofs.Common.{◌≡◌, ℕ, zero, suc, Bool, true, false, not, List, [], ◌∷◌, ◌++◌, map, Option, Some, None, Ok, refl, sym, ap, subst, ◌∙◌, arith, append_assoc}
use Rattle.std.specs.Prelude.{codes, ◌&&◌}
use Rattle.std.specs.List.{AllByRecursion}
use Rattle.std.proofs.lemmas.Bool.{false≢true}
use Rattle.c_text.specs.declared.place.Place.{Place}
use Rattle.c_text.specs.declared.token.Token.{Token}
use Rattle.c_text.specs.declared.token.TokenKind.{TokenKind}
use Rattle.c_text.specs.declared.token.TokenKind.TheVariants.{Word, Constant as Number, Mark, Null}
use Rattle.c_text.specs.declared.token.Constant.{Constant}
use Rattle.c_tree.specs.declared.symbol.Bracket.TheVariants.{Round}
use Rattle.c_tree.specs.declared.expression.Callee.{Callee}
use Rattle.c_tree.specs.declared.expression.Callee.TheVariants as callee
use Rattle.c_tree.specs.declared.expression.Expr.{Expr}
use Rattle.c_tree.specs.declared.expression.UnaryOp.{UnaryOp}
use Rattle.c_tree.specs.declared.statement.Stmt.{Stmt}
use Rattle.c_tree.specs.declared.statement.SwitchPart.{SwitchPart}
use Rattle.c_tree.specs.declared.statement.SwitchPart.TheVariants.{Label, Statement}
use Rattle.cg_out.specs.Words.{◌>>=◌}
use Rattle.c_tree.specs.Symbol.{keyword_in, keyword_of, mark_in, is_semicolon}
use Rattle.c_tree.specs.Brackets.{mark_opens, is_bracket, depth_after}
use Rattle.c_tree.specs.Operators.{sign_mark, sign_of}
use Rattle.c_tree.specs.TypeName.{kinds_of, is_type_word, is_type_keyword}
use Rattle.c_tree.specs.CaseValue.{case_value, signed, unsigned, value_at_mark, in_round}
use Rattle.c_tree.specs.ExpressionCut.{node}
use Rattle.c_tree.proofs.ExpressionTokens.{inside-room, prefix-is-flat}
use Rattle.c_tree.specs.StatementCut.{is_else_key, stmt}
use Rattle.c_tree.specs.TokenRun.{IsClosed}
use Rattle.c_parts.specs.StatementPart.{IsStatement, AreStatements, AreParts, plain_key, part_key}
use Rattle.c_tree.specs.BareExpression.{Tree, constant, name, null, member, element, cast, unary, binary, bracket, bare_expression}
use Rattle.c_tree.specs.BareStatement.{Action, Actions, Parts, BarePart, declare, assign, discard, empty, block, when, choose, return, break, switch, no_more, then, done, label, statement, a_label, a_statement, actions_of, parts_of, before, kind_step, part_step, stmt_step, bare_statement, bare_option, bare_switch_part}
use Rattle.c_tree.proofs.CaseSteps.{case_value-step}
use Rattle.c_parts.proofs.ExpressionParts.{closed-none, closed-flat, around-closed, round-opens, round-closes, unlevelled-mark, closed-is}
use Rattle.c_parts.proofs.StatementParts.{no-statements, more-statements, empty-statement, block-statement, if-statement, if-else-statement, no-parts, case-label, default-label, statement-among-parts, switch-statement}
use Rattle.c_parts.proofs.BareTrees.{bare-constant, bare-unary, bare-bracket, bare-empty, bare-block, bare-when, bare-choose, bare-switch, bare-label, bare-statement-part}
use Rattle.c_printed.specs.Spelling.{sign_text, assign_text, left_type, left_callee, left}
use Rattle.c_printed.specs.PrintedExpression.{tokens_of, all_tokens}
use Rattle.c_printed.specs.PrintedStatement.{value_tokens, result_tokens, action_tokens, actions_tokens, parts_tokens}
use Rattle.c_printed.specs.Printable.{IsFreeCallee, IsCase, Fits, is_declaration, FitsAction, FitsBlock, FitActions, FitParts, is_target as is_target_tree}
use Rattle.c_printed.specs.Within.{Within, ActionWithin, ActionsWithin, PartsWithin}
use Rattle.c_printed.proofs.SmallLaws.{every-append}
use Rattle.c_recut.proofs.Tokens.{head-of, nil-of, one-of, split-of, between-of}
use Rattle.c_recut.proofs.Types.{type-first}
use Rattle.c_recut.proofs.CutExpression.{prefix-is, cut-tree, marks, mark-is}
use Rattle.c_recut.proofs.CutSimple.{StatementAs, MadeAs, Begins, keys, with-semicolon, made-return, made-break, made-declare, made-discard, made-call, made-assign, assign-semicolon}
use Rattle.c_recut.proofs.Quiet.{Quiet, NoSemicolon, type-quiet, callee-quiet, quiets, tree-quiet, trees-quiet, none-outside, no-semicolon, no-colon}
use Rattle.c_tree.specs.declared.symbol.Punctuator.TheVariants as mark
use Rattle.c_tree.specs.declared.expression.UnaryOp.TheVariants as sign
use Rattle.c_tree.specs.declared.expression.ExprKind.TheVariants as e
use Rattle.c_tree.specs.declared.statement.StmtKind.TheVariants as k
use Rattle.c_tree.specs.BareExpression as t
use Rattle.c_tree.specs.BareStatement as a

-- ---- beginnings

-- whether a statement may be followed by an `else`
abbrev ends : Action → Bool
ends (when c x) = false
ends x = true

abbrev head_kind : List TokenKind → TokenKind
head_kind [] = Null
head_kind (x ∷ xs) = x

name-begins : (x : List ℕ) → keyword_in x ≡ None → Begins (Word x)
name-begins x e = record { simple_is = ap (λ w. plain_key w && true) e; no_else = ap is_else_key e }

-- ---- the law

pub record StatementsAs (may : Bool) (room : ℕ) (ts : List Token) (list : Actions) : Type 0 where
  pub statements : List Stmt
  pub is : actions_of (map bare_statement statements) ≡ list
  pub all : AreStatements may room ts statements

pub record PartsAs (room : ℕ) (ts : List Token) (ps : Parts) : Type 0 where
  pub parts : List SwitchPart
  pub is : parts_of (map bare_switch_part parts) ≡ ps
  pub all : AreParts room ts parts

value-quiet : (v : Option Tree) → AllByRecursion NoSemicolon (value_tokens left v)
unfolding mark_in
value-quiet None = tt
value-quiet (Some t) = (refl, no-semicolon (tokens_of left t) (tree-quiet t))

result-quiet : (v : Option Tree) → AllByRecursion NoSemicolon (result_tokens left v)
result-quiet None = tt
result-quiet (Some t) = no-semicolon (tokens_of left t) (tree-quiet t)

callee-begins : (f : Callee) → IsFreeCallee f → Begins (left_callee f)
callee-begins (callee.Name n) h = name-begins n h.1
callee-begins callee.Memset h = record { simple_is = refl; no_else = refl }

record MarkBegins : Type 0 where
  b_open : Begins (Mark (codes "("))
  b_return : Begins (Word (codes "return"))
  b_break : Begins (Word (codes "break"))
  s_open : is_semicolon (Mark (codes "(")) ≡ false
  s_close : is_semicolon (Mark (codes ")")) ≡ false

begins : MarkBegins
unfolding keyword_in mark_in
begins = record {
  b_open = record { simple_is = refl; no_else = refl };
  b_return = record { simple_is = refl; no_else = refl };
  b_break = record { simple_is = refl; no_else = refl };
  s_open = refl;
  s_close = refl;
}

-- tokens in a row before a semicolon
semicolon-row : (may : Bool) (room : ℕ) (row : List TokenKind) (kind : TokenKind) (ks : List TokenKind) (x : Action) (ts : List Token) → row ≡ kind ∷ ks → kinds_of ts ≡ row ++ Mark (codes ";") ∷ [] → Begins kind
    → AllByRecursion NoSemicolon row → ((us : List Token) → kinds_of us ≡ row → MadeAs may room us x) → StatementAs may room true ts x
semicolon-row may room row kind ks x ts is e b quiet make =
    with-semicolon may room kind ks x ts (e ∙ ap (λ r. r ++ Mark (codes ";") ∷ []) is) b (subst (λ r. AllByRecursion NoSemicolon r) is quiet) (λ us f. make us (f ∙ sym is))

cut-assign : (may : Bool) (room : ℕ) (t : Tree) (o : _) (v : Tree) (base : List ℕ) (ks : List TokenKind) (ts : List Token) → tokens_of left t ≡ Word base ∷ ks → keyword_in base ≡ None → is_target_tree t ≡ true → Fits 0 t → Within room t → Fits 0 v → Within room v
    → kinds_of ts ≡ tokens_of left t ++ Mark (assign_text o) ∷ (tokens_of left v ++ Mark (codes ";") ∷ []) → StatementAs may room true ts (assign t o v)
cut-assign may room t o v base ks ts is free q h w g z e =
    let row = tokens_of left t ++ Mark (assign_text o) ∷ tokens_of left v in
    semicolon-row may room row (Word base) (ks ++ Mark (assign_text o) ∷ tokens_of left v) (assign t o v) ts
    (ap (λ r. r ++ Mark (assign_text o) ∷ tokens_of left v) is)
    (e ∙ sym (append_assoc (tokens_of left t) (Mark (assign_text o) ∷ tokens_of left v) (Mark (codes ";") ∷ [])))
    (name-begins base free)
    (every-append NoSemicolon (tokens_of left t) (Mark (assign_text o) ∷ tokens_of left v) (no-semicolon (tokens_of left t) (tree-quiet t)) (assign-semicolon o, no-semicolon (tokens_of left v) (tree-quiet v)))
    (λ us f. made-assign may room t o v us q h w g z f)

-- ---- case values

record CaseAs (room : ℕ) (ts : List Token) (t : Tree) : Type 0 where
  tree : Expr
  is : bare_expression tree ≡ t
  given : (after : Place) → case_value room ts after ≡ Ok tree
  closed : IsClosed ts

constant-case : (room : ℕ) (c : Constant) (ts : List Token) → kinds_of ts ≡ Number c ∷ [] → CaseAs room ts (constant c)
constant-case room c ts h =
    let a = head-of (Number c) [] ts h in
    let one = one-of (Number c) ts a in
    record {
      tree = node a.first.place (e.Constant c);
      is = bare-constant a.first.place c;
      given = λ after.
          ap (λ us. case_value room us after) one ∙ case_value-step room (a.first ∷ []) after ∙ ap (λ o. signed case_value room o a.first [] after) (ap sign_of a.first_kind)
          ∙ ap (λ u. unsigned case_value room u a.first.place []) a.first_kind;
      closed = subst IsClosed (sym one) (closed-flat a.first [] (λ d. ap (λ u. depth_after u d) a.first_kind) closed-none);
    }

-- a sign before a case value
signed-case : (room : ℕ) (u : UnaryOp) (t : Tree) (ts : List Token) → sign_of (Mark (sign_text u)) ≡ Some u → kinds_of ts ≡ Mark (sign_text u) ∷ tokens_of left t
    → ((us : List Token) → kinds_of us ≡ tokens_of left t → CaseAs room us t) → CaseAs room ts (unary u t)
signed-case room u t ts is q cut =
    let a = head-of (Mark (sign_text u)) (tokens_of left t) ts q in
    let x = cut a.rest a.rest_kinds in
    let flat = prefix-is-flat (Mark (sign_text u)) u (prefix-is u) in
    record {
      tree = node a.first.place (e.Unary u x.tree);
      is = bare-unary a.first.place u x.tree ∙ ap (unary u) x.is;
      given = λ after.
          ap (λ us. case_value room us after) a.is ∙ case_value-step room (a.first ∷ a.rest) after ∙ ap (λ o. signed case_value room o a.first a.rest after) (ap sign_of a.first_kind ∙ is)
          ∙ ap (λ r. r >>= (λ y. Ok (node a.first.place (e.Unary u y)))) (x.given after);
      closed = subst IsClosed (sym a.is) (closed-flat a.first a.rest (λ d. ap (λ k. depth_after k d) a.first_kind ∙ flat.depth d) x.closed);
    }

-- brackets round a case value
bracket-case : (room : ℕ) (t : Tree) (ts : List Token) → kinds_of ts ≡ Mark (codes "(") ∷ (tokens_of left t ++ Mark (codes ")") ∷ [])
    → ((us : List Token) → kinds_of us ≡ tokens_of left t → CaseAs room us t) → CaseAs (suc room) ts (bracket t)
bracket-case room t ts q cut =
    let b = between-of (Mark (codes "(")) (tokens_of left t) (Mark (codes ")")) [] ts q in
    let x = cut b.inner b.inner_kinds in
    let open_is = mark-is b.first.kind _ mark.OpenParen b.first_kind marks.open_is in
    let close_is = mark-is b.last.kind _ mark.CloseParen b.last_kind marks.close_is in
    let unlevelled = unlevelled-mark b.last.kind mark.CloseParen close_is refl in
    let inner = b.inner ++ b.last ∷ [] in
    let whole : ts ≡ b.first ∷ inner = b.is ∙ ap (λ us. b.first ∷ (b.inner ++ b.last ∷ us)) (nil-of b.rest b.rest_kinds) in
    record {
      tree = node b.first.place (e.Bracket x.tree);
      is = bare-bracket b.first.place x.tree ∙ ap bracket x.is;
      given = λ after.
          ap (λ us. case_value (suc room) us after) whole ∙ case_value-step (suc room) (b.first ∷ inner) after
          ∙ ap (λ m. signed case_value (suc room) (sign_mark m) b.first inner after) open_is
          ∙ ap (λ k. unsigned case_value (suc room) k b.first.place inner) b.first_kind
          ∙ ap (λ m. value_at_mark case_value (suc room) (is_bracket Round (mark_opens m)) b.first.place inner) marks.open_is
          ∙ ap (in_round case_value (suc room) b.first.place) (closed-is b.last b.inner (round-closes b.last.kind close_is) unlevelled x.closed)
          ∙ ap (λ r. r >>= (λ y. Ok (node b.first.place (e.Bracket y)))) (inside-room room b.first.place (λ r. case_value r b.inner b.last.place) ∙ x.given b.last.place);
      closed = subst IsClosed (sym whole) (around-closed b.first b.last b.inner [] (round-opens b.first.kind open_is) (round-closes b.last.kind close_is) unlevelled x.closed closed-none);
    }

plus-is : sign_of (Mark (sign_text sign.Plus)) ≡ Some sign.Plus
unfolding mark_in
plus-is = refl

minus-is : sign_of (Mark (sign_text sign.Minus)) ≡ Some sign.Minus
unfolding mark_in
minus-is = refl

cut-case : (room : ℕ) (t : Tree) (ts : List Token) → IsCase t → Within room t → kinds_of ts ≡ tokens_of left t → CaseAs room ts t
cut-case room (constant c) ts h w q = constant-case room c ts q
cut-case room (unary sign.Plus x) ts h w q = signed-case room sign.Plus x ts plus-is q (λ us f. cut-case room x us h.1 w f)
cut-case room (unary sign.Minus x) ts h w q = signed-case room sign.Minus x ts minus-is q (λ us f. cut-case room x us h.1 w f)
cut-case zero (bracket x) ts h w q = absurd w
cut-case (suc room) (bracket x) ts h w q = bracket-case room x ts q (λ us f. cut-case room x us h w f)
cut-case room _ ts h w q = absurd h

-- ---- among the parts of a switch

abbrev PartKind : TokenKind → Type 0
PartKind k = (part_key (keyword_of k) && not (is_type_word k)) ≡ true

word-part : (w : List ℕ) → keyword_in w ≡ None → PartKind (Word w)
word-part w h = ap (λ o. part_key o && not (is_type_keyword o)) h

callee-part : (f : Callee) → IsFreeCallee f → PartKind (left_callee f)
callee-part (callee.Name n) h = word-part n h.1
callee-part callee.Memset h = refl

target-part : (t : Tree) (rest : List TokenKind) → is_target_tree t ≡ true → Fits 0 t → PartKind (head_kind (tokens_of left t ++ rest))
target-part (name n) rest q h = word-part n h.1
target-part (member b f) rest q h = word-part b h.0.1
target-part (element b i) rest q h = word-part b h.0.1
target-part (constant c) rest q h = cc
target-part null rest q h = cc
target-part (t.call f us) rest q h = cc
target-part (unary u x) rest q h = cc
target-part (cast to x) rest q h = cc
target-part (binary o l r) rest q h = cc
target-part (bracket x) rest q h = cc

part-begins : (x : Action) → is_declaration x ≡ false → FitsAction true x → PartKind (head_kind (action_tokens left x))
unfolding keyword_in mark_in
part-begins (declare s x v) q h = cc
part-begins (assign t o v) q h = target-part t _ h.0 h.1
part-begins (a.call f us) q h = callee-part f h.0
part-begins (discard x) q h = refl
part-begins empty q h = refl
part-begins (block list) q h = refl
part-begins (when c x) q h = refl
part-begins (choose c x y) q h = refl
part-begins (return v) q h = refl
part-begins break q h = refl
part-begins (switch v ps) q h = refl

first-kind : (first : Token) (others ts : List Token) (ks : List TokenKind) → ts ≡ first ∷ others → kinds_of ts ≡ ks → first.kind ≡ head_kind ks
first-kind first others ts ks is h = ap (λ us. head_kind (kinds_of us)) (sym is) ∙ ap head_kind h

-- ---- the law

bare-labels : (v : Expr) (t : Tree) (p : Place) (qs : List SwitchPart) (ps : Parts) → bare_expression v ≡ t → parts_of (map bare_switch_part qs) ≡ ps → parts_of (map bare_switch_part (Label (Some v) p ∷ qs)) ≡ label (Some t) ps
bare-labels v t p qs ps e f = (λ j. before (bare-label (Some v) p j) (f j)) ∙ ap (λ u. label (Some u) ps) e

-- a block, from its statements
made-block : (may : Bool) (room : ℕ) (list : Actions) (ts : List Token) → ((us : List Token) → kinds_of us ≡ actions_tokens left list → StatementsAs may room us list) → kinds_of ts ≡ action_tokens left (block list) → StatementAs may (suc room) true ts (block list)
made-block may room list ts cut q =
    let b = between-of (Mark (codes "{")) (actions_tokens left list) (Mark (codes "}")) [] ts q in
    let z = cut b.inner b.inner_kinds in
    let whole : ts ≡ b.first ∷ (b.inner ++ b.last ∷ []) = b.is ∙ ap (λ us. b.first ∷ (b.inner ++ b.last ∷ us)) (nil-of b.rest b.rest_kinds) in
    let made = stmt b.first.place (k.Block z.statements) in
    record {
      statement = made;
      is = bare-block b.first.place z.statements ∙ ap block z.is;
      part = subst (λ us. IsStatement may (suc room) true us made) (sym whole)
          (block-statement may room b.first b.last b.inner z.statements (mark-is b.first.kind _ mark.OpenBrace b.first_kind marks.open_brace) (mark-is b.last.kind _ mark.CloseBrace b.last_kind marks.close_brace) z.all);
    }

mutual
  cut-action : (may : Bool) (room : ℕ) (x : Action) (ts : List Token) → FitsAction may x → ActionWithin room x → kinds_of ts ≡ action_tokens left x → StatementAs may room (ends x) ts x
  cut-action may room (declare s x v) ts h i q =
      let w = type-first s in
      let row = left_type s ++ Word x ∷ value_tokens left v in
      semicolon-row may room row w.kind (w.rest ++ Word x ∷ value_tokens left v) (declare s x v) ts (ap (λ r. r ++ Word x ∷ value_tokens left v) w.is)
      (q ∙ sym (append_assoc (left_type s) (Word x ∷ value_tokens left v) (Mark (codes ";") ∷ []))) (record { simple_is = w.simple_is; no_else = w.no_else })
      (every-append NoSemicolon (left_type s) (Word x ∷ value_tokens left v) (no-semicolon (left_type s) (type-quiet s)) (refl, value-quiet v)) (λ us f. made-declare may room s x v us h.1 h.2 i f)
  cut-action may room (assign (name n) o v) ts h i q = cut-assign may room (name n) o v n [] ts refl h.1.1 h.0 h.1 i.0 h.2 i.1 q
  cut-action may room (assign (member b f) o v) ts h i q = cut-assign may room (member b f) o v b _ ts refl h.1.0.1 h.0 h.1 i.0 h.2 i.1 q
  cut-action may zero (assign (element b x) o v) ts h i q = absurd i.0
  cut-action may (suc room) (assign (element b x) o v) ts h i q = cut-assign may (suc room) (element b x) o v b _ ts refl h.1.0.1 h.0 h.1 i.0 h.2 i.1 q
  cut-action may room (assign (constant c) o v) ts h i q = absurd (false≢true h.0)
  cut-action may room (assign null o v) ts h i q = absurd (false≢true h.0)
  cut-action may room (assign (t.call f us) o v) ts h i q = absurd (false≢true h.0)
  cut-action may room (assign (unary u x) o v) ts h i q = absurd (false≢true h.0)
  cut-action may room (assign (cast to x) o v) ts h i q = absurd (false≢true h.0)
  cut-action may room (assign (binary p l r) o v) ts h i q = absurd (false≢true h.0)
  cut-action may room (assign (bracket x) o v) ts h i q = absurd (false≢true h.0)
  cut-action may zero (a.call f us) ts h i q = absurd i
  cut-action may (suc room) (a.call f us) ts h i q =
      let row = left_callee f ∷ Mark (codes "(") ∷ (all_tokens left true us ++ Mark (codes ")") ∷ []) in
      semicolon-row may (suc room) row (left_callee f) (Mark (codes "(") ∷ (all_tokens left true us ++ Mark (codes ")") ∷ [])) (a.call f us) ts refl
      (q ∙ ap (λ r. left_callee f ∷ Mark (codes "(") ∷ r) (sym (append_assoc (all_tokens left true us) (Mark (codes ")") ∷ []) (Mark (codes ";") ∷ [])))) (callee-begins f h.0)
      (no-semicolon row (callee-quiet f, (quiets.q_open, every-append Quiet (all_tokens left true us) (Mark (codes ")") ∷ []) (trees-quiet true us) (quiets.q_close, tt)))) (λ vs f'. made-call may room f us vs h.0 h.1 i f')
  cut-action may zero (discard x) ts h i q = absurd i
  cut-action may (suc room) (discard x) ts h i q =
      semicolon-row may (suc room) (Mark (codes "(") ∷ Word (codes "void") ∷ Mark (codes ")") ∷ Word x ∷ []) (Mark (codes "(")) _ (discard x) ts refl q begins.b_open
      (begins.s_open, (refl, (begins.s_close, (refl, tt)))) (λ us f. made-discard may room x us h f)
  cut-action may room empty ts h i q =
      let f = head-of (Mark (codes ";")) [] ts q in
      let one = one-of (Mark (codes ";")) ts f in
      record { statement = stmt f.first.place k.Empty; is = bare-empty f.first.place; part = subst (λ us. IsStatement may room true us (stmt f.first.place k.Empty)) (sym one) (empty-statement may room f.first (mark-is f.first.kind _ mark.Semicolon f.first_kind marks.semicolon_is)) }
  cut-action may zero (block list) ts h i q = absurd i
  cut-action may (suc room) (block list) ts h i q = made-block may room list ts (λ us f. cut-actions may room list us h i f) q
  cut-action may zero (when c x) ts h i q = absurd i
  cut-action may (suc room) (when c x) ts h g q =
      let i = head-of (Word (codes "if")) (Mark (codes "(") ∷ (tokens_of left c ++ Mark (codes ")") ∷ action_tokens left x)) ts q in
      let b = between-of (Mark (codes "(")) (tokens_of left c) (Mark (codes ")")) (action_tokens left x) i.rest i.rest_kinds in
      let y = cut-tree room 0 c b.inner (omega arith) h.0 g.0 b.inner_kinds in
      let z = cut-block may room x b.rest h.1 g.1 b.rest_kinds in
      let whole : ts ≡ i.first ∷ b.first ∷ (b.inner ++ b.last ∷ b.rest) = i.is ∙ ap (λ us. i.first ∷ us) b.is in
      let made = stmt i.first.place (k.If y.tree z.statement None) in
      record {
        statement = made;
        is = bare-when i.first.place y.tree z.statement ∙ (λ j. when (y.is j) (z.is j));
        part = subst (λ us. IsStatement may (suc room) false us made) (sym whole)
            (if-statement may room i.first b.first b.last b.inner y.tree (ap keyword_of i.first_kind ∙ keys.if_is) (mark-is b.first.kind _ mark.OpenParen b.first_kind marks.open_is) (mark-is b.last.kind _ mark.CloseParen b.last_kind marks.close_is)
            0 y.part true b.rest z.statement z.part);
      }
  cut-action may zero (choose c x y) ts h g q = absurd g
  cut-action may (suc room) (choose c x w) ts h g q =
      let behind = action_tokens left x ++ Word (codes "else") ∷ action_tokens left w in
      let i = head-of (Word (codes "if")) (Mark (codes "(") ∷ (tokens_of left c ++ Mark (codes ")") ∷ behind)) ts q in
      let b = between-of (Mark (codes "(")) (tokens_of left c) (Mark (codes ")")) behind i.rest i.rest_kinds in
      let s = split-of (action_tokens left x) (Word (codes "else") ∷ action_tokens left w) b.rest b.rest_kinds in
      let l = head-of (Word (codes "else")) (action_tokens left w) s.right s.right_kinds in
      let y = cut-tree room 0 c b.inner (omega arith) h.0 g.0 b.inner_kinds in
      let z = cut-block may room x s.left h.1 g.1 s.left_kinds in
      let o = cut-block may room w l.rest h.2 g.2 l.rest_kinds in
      let whole : ts ≡ i.first ∷ b.first ∷ (b.inner ++ b.last ∷ (s.left ++ l.first ∷ l.rest)) =
      i.is ∙ ap (λ us. i.first ∷ us) (b.is ∙ ap (λ us. b.first ∷ (b.inner ++ b.last ∷ us)) (s.is ∙ ap (λ us. s.left ++ us) l.is)) in
      let made = stmt i.first.place (k.If y.tree z.statement (Some o.statement)) in
      record {
        statement = made;
        is = bare-choose i.first.place y.tree z.statement o.statement ∙ (λ j. choose (y.is j) (z.is j) (o.is j));
        part = subst (λ us. IsStatement may (suc room) true us made) (sym whole)
            (if-else-statement may room i.first b.first b.last b.inner y.tree (ap keyword_of i.first_kind ∙ keys.if_is) (mark-is b.first.kind _ mark.OpenParen b.first_kind marks.open_is) (mark-is b.last.kind _ mark.CloseParen b.last_kind marks.close_is)
            0 y.part true l.first s.left l.rest z.statement o.statement (ap keyword_of l.first_kind ∙ keys.else_is) z.part o.part);
      }
  cut-action may room (return v) ts h i q =
      semicolon-row may room (Word (codes "return") ∷ result_tokens left v) (Word (codes "return")) (result_tokens left v) (return v) ts refl q begins.b_return (refl, result-quiet v) (λ us f. made-return may room v us h i f)
  cut-action true room break ts h i q = semicolon-row true room (Word (codes "break") ∷ []) (Word (codes "break")) [] break ts refl q begins.b_break (refl, tt) (λ us f. made-break room us f)
  cut-action false room break ts h i q = cc
  cut-action may zero (switch v ps) ts h i q = absurd i
  cut-action may (suc room) (switch v ps) ts h g q =
      let body = Mark (codes "{") ∷ (parts_tokens left ps ++ Mark (codes "}") ∷ []) in
      let i = head-of (Word (codes "switch")) (Mark (codes "(") ∷ (tokens_of left v ++ Mark (codes ")") ∷ body)) ts q in
      let b = between-of (Mark (codes "(")) (tokens_of left v) (Mark (codes ")")) body i.rest i.rest_kinds in
      let d = between-of (Mark (codes "{")) (parts_tokens left ps) (Mark (codes "}")) [] b.rest b.rest_kinds in
      let y = cut-tree room 0 v b.inner (omega arith) h.0 g.0 b.inner_kinds in
      let z = cut-parts room ps d.inner h.1 g.1 d.inner_kinds in
      let whole : ts ≡ i.first ∷ b.first ∷ (b.inner ++ b.last ∷ d.first ∷ (d.inner ++ d.last ∷ [])) =
      i.is ∙ ap (λ us. i.first ∷ us) (b.is ∙ ap (λ us. b.first ∷ (b.inner ++ b.last ∷ us)) (d.is ∙ ap (λ us. d.first ∷ (d.inner ++ d.last ∷ us)) (nil-of d.rest d.rest_kinds))) in
      let made = stmt i.first.place (k.Switch y.tree z.parts) in
      record {
        statement = made;
        is = bare-switch i.first.place y.tree z.parts ∙ (λ j. switch (y.is j) (z.is j));
        part = subst (λ us. IsStatement may (suc room) true us made) (sym whole)
            (switch-statement may room i.first b.first b.last d.first d.last b.inner d.inner y.tree z.parts (ap keyword_of i.first_kind ∙ keys.switch_is) (mark-is b.first.kind _ mark.OpenParen b.first_kind marks.open_is)
            (mark-is b.last.kind _ mark.CloseParen b.last_kind marks.close_is) (mark-is d.first.kind _ mark.OpenBrace d.first_kind marks.open_brace) (mark-is d.last.kind _ mark.CloseBrace d.last_kind marks.close_brace) 0 y.part z.all);
      }

  cut-block : (may : Bool) (room : ℕ) (x : Action) (ts : List Token) → FitsBlock may x → ActionWithin (suc room) x → kinds_of ts ≡ action_tokens left x → StatementAs may (suc room) true ts x
  cut-block may room (block list) ts h i q = made-block may room list ts (λ us f. cut-actions may room list us h i f) q
  cut-block may room _ ts h i q = absurd h

  pub cut-actions : (may : Bool) (room : ℕ) (list : Actions) (ts : List Token) → FitActions may list → ActionsWithin room list → kinds_of ts ≡ actions_tokens left list → StatementsAs may room ts list
  cut-actions may room no_more ts h i q = record { statements = []; is = refl; all = subst (λ us. AreStatements may room us []) (sym (nil-of ts q)) (no-statements may room) }
  cut-actions may room (then x rest) ts h i q =
      let s = split-of (action_tokens left x) (actions_tokens left rest) ts q in
      let y = cut-action may room x s.left h.0 i.0 s.left_kinds in
      let z = cut-actions may room rest s.right h.1 i.1 s.right_kinds in
      let made = y.statement ∷ z.statements in
      record {
        statements = made;
        is = λ j. then (y.is j) (z.is j);
        all = subst (λ us. AreStatements may room us made) (sym s.is) (more-statements may room (ends x) s.left s.right y.statement z.statements y.part z.all);
      }

  cut-parts : (room : ℕ) (ps : Parts) (ts : List Token) → FitParts ps → PartsWithin room ps → kinds_of ts ≡ parts_tokens left ps → PartsAs room ts ps
  cut-parts room done ts h i q = record { parts = []; is = refl; all = subst (λ us. AreParts room us []) (sym (nil-of ts q)) (no-parts room) }
  cut-parts room (label None ps) ts h i q =
      let w = head-of (Word (codes "default")) (Mark (codes ":") ∷ parts_tokens left ps) ts q in
      let c = head-of (Mark (codes ":")) (parts_tokens left ps) w.rest w.rest_kinds in
      let z = cut-parts room ps c.rest h.1 i.1 c.rest_kinds in
      let whole : ts ≡ w.first ∷ c.first ∷ c.rest = w.is ∙ ap (λ us. w.first ∷ us) c.is in
      let made = Label None w.first.place ∷ z.parts in
      record {
        parts = made;
        is = (λ j. before (bare-label None w.first.place j) (z.is j));
        all = subst (λ us. AreParts room us made) (sym whole) (default-label room w.first c.first c.rest z.parts (ap keyword_of w.first_kind ∙ keys.default_is) (mark-is c.first.kind _ mark.Colon c.first_kind marks.colon_is) z.all);
      }
  cut-parts room (label (Some t) ps) ts h i q =
      let b = between-of (Word (codes "case")) (tokens_of left t) (Mark (codes ":")) (parts_tokens left ps) ts q in
      let v = cut-case room t b.inner h.0 i.0 b.inner_kinds in
      let z = cut-parts room ps b.rest h.1 i.1 b.rest_kinds in
      let made = Label (Some v.tree) b.first.place ∷ z.parts in
      record {
        parts = made;
        is = bare-labels v.tree t b.first.place z.parts ps v.is z.is;
        all = subst (λ us. AreParts room us made) (sym b.is)
            (case-label room b.first b.last b.inner b.rest v.tree z.parts (ap keyword_of b.first_kind ∙ keys.case_is) (mark-is b.last.kind _ mark.Colon b.last_kind marks.colon_is) v.closed
            (none-outside _ 0 0 b.inner (tokens_of left t) b.inner_kinds (no-colon (tokens_of left t) (tree-quiet t))) (v.given b.last.place) z.all);
      }
  cut-parts room (statement x ps) ts h i q =
      let s = split-of (action_tokens left x) (parts_tokens left ps) ts q in
      let y = cut-action true room x s.left h.1 i.0 s.left_kinds in
      let z = cut-parts room ps s.right h.2 i.1 s.right_kinds in
      let made = Statement y.statement ∷ z.parts in
      let kind : y.part.first.kind ≡ head_kind (action_tokens left x) = first-kind y.part.first y.part.others s.left (action_tokens left x) y.part.is s.left_kinds in
      record {
        parts = made;
        is = (λ j. before (bare-statement-part y.statement j) (z.is j)) ∙ ap (λ u. statement u ps) y.is;
        all = subst (λ us. AreParts room us made) (sym s.is)
            (statement-among-parts room (ends x) s.left s.right y.statement z.parts y.part (ap (λ u. part_key (keyword_of u) && not (is_type_word u)) kind ∙ part-begins x h.0 h.1) z.all);
      }
