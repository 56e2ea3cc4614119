-- How statements that were read make up others.
use Rattle.std.proofs.Common.{◌≡◌, ℕ, suc, ◌+◌, ◌-◌, ◌==◌, Bool, true, false, not, ◌||◌, ◌&&◌, cond, List, [], ◌∷◌, ◌++◌, length, take, drop, Option, Some, None, Ok, Err, refl, sym, ap, ◌∙◌, arith, append_assoc, length-append, add-one}
use Rattle.std.proofs.lemmas.Bool.{false≢true}
use Rattle.std.proofs.Math.Seq.{take-append_seam, drop-append_seam, drop-append-add}
use Rattle.std.proofs.lemmas.Option.{none-some}
use Rattle.c_text.specs.declared.place.Place.{Place}
use Rattle.c_text.specs.declared.token.Token.{Token}
use Rattle.c_text.specs.declared.token.TokenKind.{TokenKind}
use Rattle.c_text.specs.declared.token.TokenKind.TheVariants.{Word, Constant as Number, Quoted, Mark, TypeName, Null, Memset}
use Rattle.c_tree.specs.declared.symbol.Bracket.{Bracket}
use Rattle.c_tree.specs.declared.symbol.Bracket.TheVariants.{Round, Square, Brace}
use Rattle.c_tree.specs.declared.symbol.Keyword.{Keyword}
use Rattle.c_tree.specs.declared.symbol.Keyword.TheVariants as key
use Rattle.c_tree.specs.declared.symbol.Punctuator.{Punctuator}
use Rattle.c_tree.specs.declared.symbol.Punctuator.TheVariants as mark
use Rattle.c_tree.specs.declared.expression.Expr.{Expr}
use Rattle.c_tree.specs.declared.statement.Stmt.{Stmt}
use Rattle.c_tree.specs.declared.statement.StmtKind.TheVariants as k
use Rattle.c_tree.specs.declared.statement.SwitchPart.{SwitchPart}
use Rattle.c_tree.specs.declared.statement.SwitchPart.TheVariants.{Label, Statement}
use Rattle.c_tree.specs.Sequence.{Reading, all_read, place_at}
use Rattle.cg_out.specs.Words.{◌>>=◌, counted}
use Rattle.c_tree.specs.Symbol.{keyword_of, mark_of, is_semicolon, is_semicolon_mark, is_colon, is_colon_mark}
use Rattle.c_tree.specs.Brackets.{opens, mark_opens, depth_after, closing_from, first_outside, syntax}
use Rattle.c_tree.specs.TypeName.{is_type_word}
use Rattle.c_tree.specs.CaseValue.{case_value}
use Rattle.c_tree.specs.ExpressionCut.{inside, expression_of as cut_expression}
use Rattle.c_tree.specs.StatementCut.{StatementRead, stmt, is_else, is_else_key, each, statement_of, by_first, by_mark, unless_empty, block_at, if_by, if_at, if_branches, else_at, else_by, simple, simple_at, switch_part, part_by, case_at, statement_part, switch_parts, switch_by, switch_block, switch_at, switch_round}
use Rattle.c_tree.specs.TokenRun.{depth_over, IsClosed}
use Rattle.c_parts.specs.ExpressionPart.{IsPart}
use Rattle.c_parts.specs.StatementPart.{no_else, IsStatement, AreStatements, begins_simple, plain_key, plain_open, part_key, begins_part, AreParts}
use Rattle.c_tree.proofs.StatementSteps.{statement_of-step}
use Rattle.c_tree.proofs.ExpressionTokens.{inside-room}
use Rattle.c_parts.proofs.ExpressionParts.{IsOpen, closed-none, closed-flat, closed-append, close-at, around-closed, round-opens, round-closes, unlevelled-mark}
use Rattle.c_tree.specs.Operators.{operator}
use Rattle.cg_out.proofs.WordLaws.{both}

-- ---- one behind the other

-- tokens that a part has taken are passed over
pub skip-over : {A : Type 0} (r : Reading A) (xs ys : List Token) → all_read r (length xs) (xs ++ ys) ≡ all_read r 0 ys
skip-over r [] ys = refl
skip-over r (x ∷ xs) ys = skip-over r xs ys

pub no-statements : (may : Bool) (room : ℕ) → AreStatements may room [] []
no-statements may room = record { begins = refl; given = λ after. refl; closed = closed-none }

or-is : (finished b : Bool) → b ≡ true → (finished || b) ≡ true
or-is true b e = refl
or-is false b e = e

pub more-statements : (may : Bool) (room : ℕ) (finished : Bool) (p q : List Token) (s : Stmt) (ss : List Stmt)
    → IsStatement may room finished p s → AreStatements may room q ss → AreStatements may room (p ++ q) (s ∷ ss)
more-statements may room finished p q s ss one more = record {
  begins = ap (λ ts. no_else (ts ++ q)) one.is ∙ ap not one.begins;
  given = λ after.
      let r = each statement_of may room after in
      let reads : statement_of may room (one.first ∷ (one.others ++ q)) after ≡ Ok (s, length one.others) =
      ap (λ ts. statement_of may room (ts ++ q) after) (sym one.is) ∙ one.reads q after (or-is finished (no_else q) more.begins) in
      ap (λ ts. all_read r 0 (ts ++ q)) one.is
      ∙ ap (λ got. got >>= λ x. all_read r x.1 (one.others ++ q) >>= λ xs. Ok (x.0 ∷ xs)) reads
      ∙ ap (λ got. got >>= λ xs. Ok (s ∷ xs)) (skip-over r one.others q ∙ more.given after);
  closed = closed-append p q one.closed more.closed;
}

-- ---- what a punctuator is

mark-no-keyword : (kind : TokenKind) (m : Punctuator) → mark_of kind ≡ Some m → keyword_of kind ≡ None
mark-no-keyword (Mark spelling) m e = refl
mark-no-keyword (Word w) m e = absurd (none-some m e)
mark-no-keyword (Number c) m e = absurd (none-some m e)
mark-no-keyword (Quoted q) m e = absurd (none-some m e)
mark-no-keyword (TypeName s) m e = absurd (none-some m e)
mark-no-keyword Null m e = absurd (none-some m e)
mark-no-keyword Memset m e = absurd (none-some m e)

mark-no-else : (kind : TokenKind) (m : Punctuator) → mark_of kind ≡ Some m → is_else kind ≡ false
mark-no-else kind m e = ap is_else_key (mark-no-keyword kind m e)

-- a statement that begins with a punctuator
by-mark : (may : Bool) (room : ℕ) (t : Token) (ts : List Token) (after : Place) (m : Punctuator) → mark_of t.kind ≡ Some m
    → statement_of may room (t ∷ ts) after ≡ by_mark (mark_opens (Some m)) statement_of may room t ts after
by-mark may room t ts after m e =
    statement_of-step may room (t ∷ ts) after
    ∙ ap (λ key. by_first key statement_of may room t ts after) (mark-no-keyword t.kind m e)
    ∙ ap (λ o. by_mark (mark_opens o) statement_of may room t ts after) e

-- ---- the empty statement (ISO/IEC 9899:1999, 6.8.3)

pub empty-statement : (may : Bool) (room : ℕ) (t : Token) → mark_of t.kind ≡ Some mark.Semicolon → IsStatement may room true (t ∷ []) (stmt t.place k.Empty)
empty-statement may room t e = record {
  first = t;
  others = [];
  is = refl;
  begins = mark-no-else t.kind mark.Semicolon e;
  reads = λ rest after h. by-mark may room t rest after mark.Semicolon e ∙ ap (λ o. unless_empty (is_semicolon_mark o) may room t rest after) e;
  closed = closed-flat t [] (λ d. rw e refl) closed-none;
}

-- ---- blocks (6.8.2)

pub brace-opens : (kind : TokenKind) → mark_of kind ≡ Some mark.OpenBrace → IsOpen kind
brace-opens kind e = record { depth = λ d. rw e refl; comma = rw e refl; unlevelled = rw e refl }

pub brace-closes : (kind : TokenKind) → mark_of kind ≡ Some mark.CloseBrace → (d : ℕ) → depth_after kind d ≡ d - 1
brace-closes kind e d = rw e refl

pub block-statement : (may : Bool) (room : ℕ) (o c : Token) (q : List Token) (ss : List Stmt) → mark_of o.kind ≡ Some mark.OpenBrace → mark_of c.kind ≡ Some mark.CloseBrace
    → AreStatements may room q ss → IsStatement may (suc room) true (o ∷ (q ++ c ∷ [])) (stmt o.place (k.Block ss))
block-statement may room o c q ss eo ec inner = record {
  first = o;
  others = q ++ c ∷ [];
  is = refl;
  begins = mark-no-else o.kind mark.OpenBrace eo;
  reads = λ rest after h.
      let closes_one = brace-closes c.kind ec in
      let flat = unlevelled-mark c.kind mark.CloseBrace ec refl in
      let whole : ((q ++ c ∷ []) ++ rest) ≡ q ++ c ∷ rest = append_assoc q (c ∷ []) rest in
      let list : inside (suc room) o.place (λ r. all_read (each statement_of may r c.place) 0 q) ≡ Ok ss = inside-room room o.place (λ r. all_read (each statement_of may r c.place) 0 q) ∙ inner.given c.place in
      let count : length q + 1 ≡ length (q ++ c ∷ []) = sym (length-append q (c ∷ [])) in
      by-mark may (suc room) o ((q ++ c ∷ []) ++ rest) after mark.OpenBrace eo
      ∙ ap (λ ts. block_at statement_of may (suc room) o.place (closing_from 0 1 ts) ts after) whole
      ∙ ap (λ i. block_at statement_of may (suc room) o.place i (q ++ c ∷ rest) after) (close-at c q rest closes_one flat inner.closed)
      ∙ ap (λ ts. inside (suc room) o.place (λ r. all_read (each statement_of may r (place_at ts after)) 0 (take (length q) (q ++ c ∷ rest))) >>= λ xs. Ok (stmt o.place (k.Block xs), length q + 1)) (drop-append_seam q (c ∷ rest))
      ∙ ap (λ ts. inside (suc room) o.place (λ r. all_read (each statement_of may r c.place) 0 ts) >>= λ xs. Ok (stmt o.place (k.Block xs), length q + 1)) (take-append_seam q (c ∷ rest))
      ∙ ap (λ got. got >>= λ xs. Ok (stmt o.place (k.Block xs), length q + 1)) list
      ∙ ap (λ n. Ok (stmt o.place (k.Block ss), n)) count;
  closed = around-closed o c q [] (brace-opens o.kind eo) (brace-closes c.kind ec) (unlevelled-mark c.kind mark.CloseBrace ec refl) inner.closed closed-none;
}

-- ---- `if` (6.8.4.1)

keyword-flat : (kind : TokenKind) (w : Keyword) → keyword_of kind ≡ Some w → (d : ℕ) → depth_after kind d ≡ d
keyword-flat (Word w) k e d = refl
keyword-flat (Mark spelling) w e d = absurd (none-some w e)
keyword-flat (Number c) w e d = absurd (none-some w e)
keyword-flat (Quoted q) w e d = absurd (none-some w e)
keyword-flat (TypeName s) w e d = absurd (none-some w e)
keyword-flat Null w e d = absurd (none-some w e)
keyword-flat Memset w e d = absurd (none-some w e)

-- what stands behind a token that stands behind others
drop-behind : (xs : List Token) (t : Token) (ys : List Token) → drop (length xs + 1) (xs ++ t ∷ ys) ≡ ys
drop-behind xs t ys = drop-append-add xs (t ∷ ys) 1

else-none : (may : Bool) (room : ℕ) (place : Place) (e : Expr) (s : Stmt) (n : ℕ) (rest : List Token) (after : Place) → no_else rest ≡ true
    → else_at statement_of may room place e s n rest after ≡ Ok (stmt place (k.If e s None), n)
else-none may room place e s n [] after h = refl
else-none may room place e s n (t ∷ ts) after h = by-test (is_else t.kind) h
  where
    by-test : (b : Bool) → not b ≡ true → else_by statement_of may room b place e s n ts after ≡ Ok (stmt place (k.If e s None), n)
    by-test false g = refl
    by-test true g = absurd (false≢true g)

-- the condition of an `if`, and what stands behind it
module _ (may : Bool) (room : ℕ) (i o c : Token) (e : List Token) (tree : Expr) (ei : keyword_of i.kind ≡ Some key.If) (eo : mark_of o.kind ≡ Some mark.OpenParen) (ec : mark_of c.kind ≡ Some mark.CloseParen)
    (bound : ℕ) (part : IsPart room bound e tree) where
  round-flat : operator c.kind ≡ None
  round-flat = unlevelled-mark c.kind mark.CloseParen ec refl

  condition : (q : List Token) (after : Place) → statement_of may (suc room) (i ∷ o ∷ (e ++ c ∷ q)) after ≡ if_branches statement_of may (suc room) i.place tree (length e + 2) q after
  condition q after =
      let ts = e ++ c ∷ q in
      let cuts : inside (suc room) o.place (λ r. cut_expression r e c.place) ≡ Ok tree = inside-room room o.place (λ r. cut_expression r e c.place) ∙ part.cuts c.place in
      statement_of-step may (suc room) (i ∷ o ∷ ts) after
      ∙ ap (λ w. by_first w statement_of may (suc room) i (o ∷ ts) after) ei
      ∙ ap (λ m. if_by statement_of may (suc room) i.place (mark_opens m) o.place ts after) eo
      ∙ ap (λ n. if_at statement_of may (suc room) i.place o.place n ts after) (close-at c e q (round-closes c.kind ec) round-flat part.closed)
      ∙ ap (λ us. inside (suc room) o.place (λ r. cut_expression r (take (length e) ts) (place_at us after)) >>= λ x. if_branches statement_of may (suc room) i.place x (length e + 2) (drop (length e + 1) ts) after) (drop-append_seam e (c ∷ q))
      ∙ ap (λ us. inside (suc room) o.place (λ r. cut_expression r us c.place) >>= λ x. if_branches statement_of may (suc room) i.place x (length e + 2) (drop (length e + 1) ts) after) (take-append_seam e (c ∷ q))
      ∙ ap (λ got. got >>= λ x. if_branches statement_of may (suc room) i.place x (length e + 2) (drop (length e + 1) ts) after) cuts
      ∙ ap (λ us. if_branches statement_of may (suc room) i.place tree (length e + 2) us after) (drop-behind e c q)

  condition-closed : (q : List Token) → IsClosed q → IsClosed (i ∷ o ∷ (e ++ c ∷ q))
  condition-closed q more = closed-flat i (o ∷ (e ++ c ∷ q)) (keyword-flat i.kind key.If ei) (around-closed o c e q (round-opens o.kind eo) (round-closes c.kind ec) round-flat part.closed more)

  condition-begins : is_else i.kind ≡ false
  condition-begins = ap is_else_key ei

  -- behind the first branch
  first-branch : (finished : Bool) (p : List Token) (s : Stmt) (one : IsStatement may (suc room) finished p s) (rest : List Token) (after : Place) → (finished || no_else rest) ≡ true
      → if_branches statement_of may (suc room) i.place tree (length e + 2) (p ++ rest) after ≡ else_at statement_of may (suc room) i.place tree s (length e + 2 + 1 + length one.others) rest after
  first-branch finished p s one rest after h =
      let n = length e + 2 + 1 + length one.others in
      let behind : drop (length one.others + 1) ((one.first ∷ one.others) ++ rest) ≡ rest = ap (λ m. drop m (one.first ∷ (one.others ++ rest))) (add-one (length one.others)) ∙ drop-append_seam one.others rest in
      ap (λ got. got >>= λ x. else_at statement_of may (suc room) i.place tree x.0 (length e + 2 + 1 + x.1) (drop (x.1 + 1) (p ++ rest)) after) (one.reads rest after h)
      ∙ ap (λ ts. else_at statement_of may (suc room) i.place tree s n (drop (length one.others + 1) (ts ++ rest)) after) one.is
      ∙ ap (λ ts. else_at statement_of may (suc room) i.place tree s n ts after) behind

  pub if-statement : (finished : Bool) (p : List Token) (s : Stmt) → IsStatement may (suc room) finished p s → IsStatement may (suc room) false (i ∷ o ∷ (e ++ c ∷ p)) (stmt i.place (k.If tree s None))
  if-statement finished p s one = record {
    first = i;
    others = o ∷ (e ++ c ∷ p);
    is = refl;
    begins = condition-begins;
    reads = λ rest after h.
        let count : length e + 2 + 1 + length one.others ≡ length (o ∷ (e ++ c ∷ p)) = omega (arith, length-append e (c ∷ p), ap length one.is) in
        ap (λ ts. statement_of may (suc room) (i ∷ o ∷ ts) after) (append_assoc e (c ∷ p) rest)
        ∙ condition (p ++ rest) after
        ∙ first-branch finished p s one rest after (or-is finished (no_else rest) h)
        ∙ else-none may (suc room) i.place tree s (length e + 2 + 1 + length one.others) rest after h
        ∙ ap (λ n. Ok (stmt i.place (k.If tree s None), n)) count;
    closed = condition-closed p one.closed;
  }

  pub if-else-statement : (finished : Bool) (l : Token) (p q : List Token) (s t : Stmt) → keyword_of l.kind ≡ Some key.Else → IsStatement may (suc room) true p s → IsStatement may (suc room) finished q t
      → IsStatement may (suc room) finished (i ∷ o ∷ (e ++ c ∷ (p ++ l ∷ q))) (stmt i.place (k.If tree s (Some t)))
  if-else-statement finished l p q s t el one two = record {
    first = i;
    others = o ∷ (e ++ c ∷ (p ++ l ∷ q));
    is = refl;
    begins = condition-begins;
    reads = λ rest after h.
        let n = length e + 2 + 1 + length one.others in
        let count : n + 2 + length two.others ≡ length (o ∷ (e ++ c ∷ (p ++ l ∷ q))) = omega (arith, length-append e (c ∷ (p ++ l ∷ q)), length-append p (l ∷ q), ap length one.is, ap length two.is) in
        ap (λ ts. statement_of may (suc room) (i ∷ o ∷ ts) after) (append_assoc e (c ∷ (p ++ l ∷ q)) rest)
        ∙ ap (λ ts. statement_of may (suc room) (i ∷ o ∷ (e ++ c ∷ ts)) after) (append_assoc p (l ∷ q) rest)
        ∙ condition (p ++ l ∷ (q ++ rest)) after
        ∙ first-branch true p s one (l ∷ (q ++ rest)) after refl
        ∙ ap (λ w. else_by statement_of may (suc room) (is_else_key w) i.place tree s n (q ++ rest) after) el
        ∙ ap (λ got. got >>= λ x. Ok (stmt i.place (k.If tree s (Some x.0)), n + 2 + x.1)) (two.reads rest after h)
        ∙ ap (λ m. Ok (stmt i.place (k.If tree s (Some t)), m)) count;
    closed = condition-closed (p ++ l ∷ q) (closed-append p (l ∷ q) one.closed (closed-flat l q (keyword-flat l.kind key.Else el) two.closed));
  }

-- ---- statements that end with a semicolon

outside-by : (b : Bool) (at : ℕ) (f g last : Option ℕ) → cond b (Some at) f ≡ None → (f ≡ None → g ≡ last) → cond b (Some at) g ≡ last
outside-by true at f g last h ih = absurd (none-some at (sym h))
outside-by false at f g last h ih = ih h

-- a test outside brackets goes on behind tokens that it does not find it in
pub first_outside-append : (passes : TokenKind → Bool) (at depth : ℕ) (xs ys : List Token) → first_outside passes at depth xs ≡ None
    → first_outside passes at depth (xs ++ ys) ≡ first_outside passes (at + length xs) (depth_over depth xs) ys
first_outside-append passes at depth [] ys h = ap (λ n. first_outside passes n depth ys) (omega arith)
first_outside-append passes at depth (x ∷ xs) ys h =
    let next = depth_after x.kind depth in
    let count : at + 1 + length xs ≡ at + length (x ∷ xs) = omega arith in
    outside-by (depth == 0 && passes x.kind) at (first_outside passes (at + 1) next xs) (first_outside passes (at + 1) next (xs ++ ys)) (first_outside passes (at + length (x ∷ xs)) (depth_over next xs) ys) h
    (λ none. first_outside-append passes (at + 1) next xs ys none ∙ ap (λ n. first_outside passes n (depth_over next xs) ys) count)

-- it is found behind tokens whose brackets match
pub first_outside-at : (passes : TokenKind → Bool) (xs : List Token) (t : Token) (ys : List Token) → IsClosed xs → first_outside passes 0 0 xs ≡ None → passes t.kind ≡ true
    → first_outside passes 0 0 (xs ++ t ∷ ys) ≡ Some (length xs)
first_outside-at passes xs t ys closed h e =
    let z : 0 + length xs ≡ length xs = omega arith in
    first_outside-append passes 0 0 xs (t ∷ ys) h
    ∙ ap (λ d. first_outside passes (0 + length xs) d (t ∷ ys)) closed.flat
    ∙ ap (λ b. cond b (Some (0 + length xs)) (first_outside passes (0 + length xs + 1) (depth_after t.kind 0) ys)) e
    ∙ ap Some z

simple-open : (b : Option Bracket) (may : Bool) (room : ℕ) (t : Token) (ts : List Token) (after : Place) → plain_open b ≡ true → by_mark b statement_of may room t ts after ≡ unless_empty (is_semicolon t.kind) may room t ts after
simple-open (Some Brace) may room t ts after h = absurd (false≢true h)
simple-open (Some Round) may room t ts after h = refl
simple-open (Some Square) may room t ts after h = refl
simple-open None may room t ts after h = refl

simple-key : (w : Option Keyword) (may : Bool) (room : ℕ) (t : Token) (ts : List Token) (after : Place) → plain_key w ≡ true → by_first w statement_of may room t ts after ≡ by_mark (opens t.kind) statement_of may room t ts after
simple-key None may room t ts after h = refl
simple-key (Some key.Bool) may room t ts after h = refl
simple-key (Some key.Break) may room t ts after h = refl
simple-key (Some key.Case) may room t ts after h = refl
simple-key (Some key.Char) may room t ts after h = refl
simple-key (Some key.Const) may room t ts after h = refl
simple-key (Some key.Default) may room t ts after h = refl
simple-key (Some key.Else) may room t ts after h = refl
simple-key (Some key.If) may room t ts after h = absurd (false≢true h)
simple-key (Some key.Int) may room t ts after h = refl
simple-key (Some key.Long) may room t ts after h = refl
simple-key (Some key.Return) may room t ts after h = refl
simple-key (Some key.Short) may room t ts after h = refl
simple-key (Some key.Signed) may room t ts after h = refl
simple-key (Some key.Static) may room t ts after h = refl
simple-key (Some key.Struct) may room t ts after h = refl
simple-key (Some key.Switch) may room t ts after h = absurd (false≢true h)
simple-key (Some key.Unsigned) may room t ts after h = refl
simple-key (Some key.Void) may room t ts after h = refl
simple-key (Some key.Other) may room t ts after h = refl

not-empty : (may : Bool) (room : ℕ) (t : Token) (ts : List Token) (after : Place) (s : Stmt) (n : ℕ) → first_outside is_semicolon 0 0 (t ∷ ts) ≡ Some n → is_semicolon t.kind ≡ false
    → unless_empty (is_semicolon t.kind) may room t ts after ≡ simple_at may room (Some n) (t ∷ ts) after
not-empty may room t ts after s n h e = ap (λ b. unless_empty b may room t ts after) e ∙ ap (λ i. simple_at may room i (t ∷ ts) after) h

-- no semicolon is found at the front, so the first token is none
no-semicolon : (t : Token) (ts : List Token) → first_outside is_semicolon 0 0 (t ∷ ts) ≡ None → is_semicolon t.kind ≡ false
no-semicolon t ts h = by-test (is_semicolon t.kind) h
  where
    by-test : (b : Bool) → cond b (Some 0) (first_outside is_semicolon 1 (depth_after t.kind 0) ts) ≡ None → b ≡ false
    by-test true g = absurd (none-some 0 (sym g))
    by-test false g = refl

-- tokens up to a semicolon, which they do not hold outside brackets
pub simple-statement : (may : Bool) (room : ℕ) (f : Token) (fs : List Token) (t : Token) (s : Stmt) → begins_simple f ≡ true → is_else f.kind ≡ false → first_outside is_semicolon 0 0 (f ∷ fs) ≡ None
    → IsClosed (f ∷ fs) → mark_of t.kind ≡ Some mark.Semicolon → simple may room (f ∷ fs) t.place ≡ Ok s → IsStatement may room true (f ∷ (fs ++ t ∷ [])) s
simple-statement may room f fs t s begun no_else_there quiet closed et made = record {
  first = f;
  others = fs ++ t ∷ [];
  is = refl;
  begins = no_else_there;
  reads = λ rest after h.
      let two = both (plain_key (keyword_of f.kind)) (plain_open (opens f.kind)) begun in
      let found : first_outside is_semicolon 0 0 ((f ∷ fs) ++ t ∷ rest) ≡ Some (length (f ∷ fs)) = first_outside-at is_semicolon (f ∷ fs) t rest closed quiet (ap is_semicolon_mark et) in
      let count : length (f ∷ fs) ≡ length (fs ++ t ∷ []) = omega (arith, length-append fs (t ∷ [])) in
      ap (λ ts. statement_of may room (f ∷ ts) after) (append_assoc fs (t ∷ []) rest)
      ∙ statement_of-step may room (f ∷ (fs ++ t ∷ rest)) after
      ∙ simple-key (keyword_of f.kind) may room f (fs ++ t ∷ rest) after two.0
      ∙ simple-open (opens f.kind) may room f (fs ++ t ∷ rest) after two.1
      ∙ not-empty may room f (fs ++ t ∷ rest) after s (length (f ∷ fs)) found (no-semicolon f fs quiet)
      ∙ ap (λ ts. counted (length (f ∷ fs)) (simple may room (take (length (f ∷ fs)) ((f ∷ fs) ++ t ∷ rest)) (place_at ts after))) (drop-append_seam (f ∷ fs) (t ∷ rest))
      ∙ ap (λ ts. counted (length (f ∷ fs)) (simple may room ts t.place)) (take-append_seam (f ∷ fs) (t ∷ rest))
      ∙ ap (λ got. counted (length (f ∷ fs)) got) made
      ∙ ap (λ n. Ok (s, n)) count;
  closed = closed-append (f ∷ fs) (t ∷ []) closed (closed-flat t [] (λ d. rw et refl) closed-none);
}

-- ---- `switch` (6.8.4.2)

pub no-parts : (room : ℕ) → AreParts room [] []
no-parts room = record { begins = refl; given = λ after. refl; closed = closed-none }

-- a part at the front that is read with so many tokens behind its first, and the parts behind them
part-before : (room : ℕ) (after : Place) (f : Token) (others q : List Token) (p : SwitchPart) (ps : List SwitchPart) → switch_part statement_of room after f (others ++ q) ≡ Ok (p, length others)
    → all_read (switch_part statement_of room after) 0 q ≡ Ok ps → all_read (switch_part statement_of room after) 0 (f ∷ (others ++ q)) ≡ Ok (p ∷ ps)
part-before room after f others q p ps one more =
    let r = switch_part statement_of room after in
    ap (λ got. got >>= λ x. all_read r x.1 (others ++ q) >>= λ xs. Ok (x.0 ∷ xs)) one
    ∙ ap (λ got. got >>= λ xs. Ok (p ∷ xs)) (skip-over r others q ∙ more)

-- `case`, a value and a colon, which the value does not hold outside brackets
pub case-label : (room : ℕ) (w c : Token) (v q : List Token) (e : Expr) (ps : List SwitchPart) → keyword_of w.kind ≡ Some key.Case → mark_of c.kind ≡ Some mark.Colon
    → IsClosed v → first_outside is_colon 0 0 v ≡ None → case_value room v c.place ≡ Ok e → AreParts room q ps → AreParts room (w ∷ (v ++ c ∷ q)) (Label (Some e) w.place ∷ ps)
case-label room w c v q e ps ew ec closed quiet made more = record {
  begins = ap (λ k. not (is_else_key k)) ew;
  given = λ after.
      let found : first_outside is_colon 0 0 (v ++ c ∷ q) ≡ Some (length v) = first_outside-at is_colon v c q closed quiet (ap is_colon_mark ec) in
      let count : length v + 1 ≡ length (v ++ c ∷ []) = sym (length-append v (c ∷ [])) in
      let one : switch_part statement_of room after w (v ++ c ∷ q) ≡ Ok (Label (Some e) w.place, length (v ++ c ∷ [])) =
      ap (λ k. part_by k (statement_of true room (w ∷ (v ++ c ∷ q)) after) room after w (v ++ c ∷ q)) ew
      ∙ ap (λ i. case_at room w.place i (v ++ c ∷ q) after) found
      ∙ ap (λ ts. case_value room (take (length v) (v ++ c ∷ q)) (place_at ts after) >>= λ x. Ok (Label (Some x) w.place, length v + 1)) (drop-append_seam v (c ∷ q))
      ∙ ap (λ ts. case_value room ts c.place >>= λ x. Ok (Label (Some x) w.place, length v + 1)) (take-append_seam v (c ∷ q))
      ∙ ap (λ got. got >>= λ x. Ok (Label (Some x) w.place, length v + 1)) made
      ∙ ap (λ n. Ok (Label (Some e) w.place, n)) count
      in
      let whole : (v ++ c ∷ []) ++ q ≡ v ++ c ∷ q = append_assoc v (c ∷ []) q in
      ap (λ ts. all_read (switch_part statement_of room after) 0 (w ∷ ts)) (sym whole)
      ∙ part-before room after w (v ++ c ∷ []) q (Label (Some e) w.place) ps (ap (λ ts. switch_part statement_of room after w ts) whole ∙ one) (more.given after);
  closed = closed-flat w (v ++ c ∷ q) (keyword-flat w.kind key.Case ew) (closed-append v (c ∷ q) closed (closed-flat c q (λ d. rw ec refl) more.closed));
}

-- `default` and a colon
pub default-label : (room : ℕ) (w c : Token) (q : List Token) (ps : List SwitchPart) → keyword_of w.kind ≡ Some key.Default → mark_of c.kind ≡ Some mark.Colon
    → AreParts room q ps → AreParts room (w ∷ c ∷ q) (Label None w.place ∷ ps)
default-label room w c q ps ew ec more = record {
  begins = ap (λ k. not (is_else_key k)) ew;
  given = λ after.
      let one : switch_part statement_of room after w (c ∷ q) ≡ Ok (Label None w.place, 1) =
      ap (λ k. part_by k (statement_of true room (w ∷ c ∷ q) after) room after w (c ∷ q)) ew
      ∙ ap (λ m. cond (is_colon_mark m) (Ok (Label None w.place, 1)) (Err (syntax w.place))) ec
      in part-before room after w (c ∷ []) q (Label None w.place) ps one (more.given after);
  closed = closed-flat w (c ∷ q) (keyword-flat w.kind key.Default ew) (closed-flat c q (λ d. rw ec refl) more.closed);
}

part-key : (w : Option Keyword) (got : StatementRead) (room : ℕ) (after : Place) (t : Token) (ts : List Token) → part_key w ≡ true → part_by w got room after t ts ≡ statement_part (is_type_word t.kind) t.place got
part-key None got room after t ts h = refl
part-key (Some key.Bool) got room after t ts h = refl
part-key (Some key.Break) got room after t ts h = refl
part-key (Some key.Case) got room after t ts h = absurd (false≢true h)
part-key (Some key.Char) got room after t ts h = refl
part-key (Some key.Const) got room after t ts h = refl
part-key (Some key.Default) got room after t ts h = absurd (false≢true h)
part-key (Some key.Else) got room after t ts h = refl
part-key (Some key.If) got room after t ts h = refl
part-key (Some key.Int) got room after t ts h = refl
part-key (Some key.Long) got room after t ts h = refl
part-key (Some key.Return) got room after t ts h = refl
part-key (Some key.Short) got room after t ts h = refl
part-key (Some key.Signed) got room after t ts h = refl
part-key (Some key.Static) got room after t ts h = refl
part-key (Some key.Struct) got room after t ts h = refl
part-key (Some key.Switch) got room after t ts h = refl
part-key (Some key.Unsigned) got room after t ts h = refl
part-key (Some key.Void) got room after t ts h = refl
part-key (Some key.Other) got room after t ts h = refl

not-true : (b : Bool) → not b ≡ true → b ≡ false
not-true false h = refl
not-true true h = absurd (false≢true h)

-- a statement that begins with no word of a type
pub statement-among-parts : (room : ℕ) (finished : Bool) (p q : List Token) (s : Stmt) (ps : List SwitchPart) → (one : IsStatement true room finished p s) → begins_part one.first ≡ true
    → AreParts room q ps → AreParts room (p ++ q) (Statement s ∷ ps)
statement-among-parts room finished p q s ps one begun more = record {
  begins = ap (λ ts. no_else (ts ++ q)) one.is ∙ ap not one.begins;
  given = λ after.
      let two = both (part_key (keyword_of one.first.kind)) (not (is_type_word one.first.kind)) begun in
      let whole = one.first ∷ (one.others ++ q) in
      let got : statement_of true room whole after ≡ Ok (s, length one.others) = ap (λ ts. statement_of true room (ts ++ q) after) (sym one.is) ∙ one.reads q after (or-is finished (no_else q) more.begins) in
      let part_is : switch_part statement_of room after one.first (one.others ++ q) ≡ Ok (Statement s, length one.others) =
      part-key (keyword_of one.first.kind) (statement_of true room whole after) room after one.first (one.others ++ q) two.0
      ∙ ap (λ b. statement_part b one.first.place (statement_of true room whole after)) (not-true (is_type_word one.first.kind) two.1)
      ∙ ap (λ x. x >>= λ y. Ok (Statement y.0, y.1)) got
      in
      ap (λ ts. all_read (switch_part statement_of room after) 0 (ts ++ q)) one.is ∙ part-before room after one.first one.others q (Statement s) ps part_is (more.given after);
  closed = closed-append p q one.closed more.closed;
}

-- a value in brackets and parts in braces
module _ (may : Bool) (room : ℕ) (i o c b d : Token) (e q : List Token) (tree : Expr) (ps : List SwitchPart) (ei : keyword_of i.kind ≡ Some key.Switch)
    (eo : mark_of o.kind ≡ Some mark.OpenParen) (ec : mark_of c.kind ≡ Some mark.CloseParen) (eb : mark_of b.kind ≡ Some mark.OpenBrace) (ed : mark_of d.kind ≡ Some mark.CloseBrace)
    (bound : ℕ) (part_is : IsPart room bound e tree) (parts : AreParts room q ps) where
  switch-block : (rest : List Token) (after : Place) → switch_parts statement_of (suc room) i.place tree b.place (length e + 2 + 1) (closing_from 0 1 (q ++ d ∷ rest)) (q ++ d ∷ rest) after
      ≡ Ok (stmt i.place (k.Switch tree ps), length e + 2 + 1 + length q + 1)
  switch-block rest after =
      let n = length e + 2 + 1 in
      let list : inside (suc room) b.place (λ r. all_read (switch_part statement_of r d.place) 0 q) ≡ Ok ps = inside-room room b.place (λ r. all_read (switch_part statement_of r d.place) 0 q) ∙ parts.given d.place in
      ap (λ j. switch_parts statement_of (suc room) i.place tree b.place n j (q ++ d ∷ rest) after) (close-at d q rest (brace-closes d.kind ed) (unlevelled-mark d.kind mark.CloseBrace ed refl) parts.closed)
      ∙ ap (λ ts. inside (suc room) b.place (λ r. all_read (switch_part statement_of r (place_at ts after)) 0 (take (length q) (q ++ d ∷ rest))) >>= λ xs. Ok (stmt i.place (k.Switch tree xs), n + length q + 1)) (drop-append_seam q (d ∷ rest))
      ∙ ap (λ ts. inside (suc room) b.place (λ r. all_read (switch_part statement_of r d.place) 0 ts) >>= λ xs. Ok (stmt i.place (k.Switch tree xs), n + length q + 1)) (take-append_seam q (d ∷ rest))
      ∙ ap (λ got. got >>= λ xs. Ok (stmt i.place (k.Switch tree xs), n + length q + 1)) list

  switch-reads : (rest : List Token) (after : Place) → statement_of may (suc room) (i ∷ o ∷ (e ++ c ∷ b ∷ (q ++ d ∷ rest))) after ≡ Ok (stmt i.place (k.Switch tree ps), length e + 2 + 1 + length q + 1)
  switch-reads rest after =
      let behind = b ∷ (q ++ d ∷ rest) in
      let ts = e ++ c ∷ behind in
      let value : inside (suc room) o.place (λ r. cut_expression r e c.place) ≡ Ok tree = inside-room room o.place (λ r. cut_expression r e c.place) ∙ part_is.cuts c.place in
      statement_of-step may (suc room) (i ∷ o ∷ ts) after
      ∙ ap (λ w. by_first w statement_of may (suc room) i (o ∷ ts) after) ei
      ∙ ap (λ m. switch_round statement_of (suc room) i.place (mark_opens m) o.place ts after) eo
      ∙ ap (λ n. switch_at statement_of (suc room) i.place o.place n ts after) (close-at c e behind (round-closes c.kind ec) (unlevelled-mark c.kind mark.CloseParen ec refl) part_is.closed)
      ∙ ap (λ us. switch_block statement_of (suc room) i.place (inside (suc room) o.place (λ r. cut_expression r (take (length e) ts) (place_at us after))) (length e + 2) (drop (length e + 1) ts) after) (drop-append_seam e (c ∷ behind))
      ∙ ap (λ us. switch_block statement_of (suc room) i.place (inside (suc room) o.place (λ r. cut_expression r us c.place)) (length e + 2) (drop (length e + 1) ts) after) (take-append_seam e (c ∷ behind))
      ∙ ap (λ v. switch_block statement_of (suc room) i.place v (length e + 2) (drop (length e + 1) ts) after) value
      ∙ ap (λ us. switch_block statement_of (suc room) i.place (Ok tree) (length e + 2) us after) (drop-behind e c behind)
      ∙ ap (λ m. switch_by statement_of (suc room) i.place (Ok tree) (length e + 2) (mark_opens m) b.place (q ++ d ∷ rest) after) eb
      ∙ switch-block rest after

  pub switch-statement : IsStatement may (suc room) true (i ∷ o ∷ (e ++ c ∷ b ∷ (q ++ d ∷ []))) (stmt i.place (k.Switch tree ps))
  switch-statement = record {
    first = i;
    others = o ∷ (e ++ c ∷ b ∷ (q ++ d ∷ []));
    is = refl;
    begins = ap is_else_key ei;
    reads = λ rest after h.
        let count : length e + 2 + 1 + length q + 1 ≡ length (o ∷ (e ++ c ∷ b ∷ (q ++ d ∷ []))) = omega (arith, length-append e (c ∷ b ∷ (q ++ d ∷ [])), length-append q (d ∷ [])) in
        ap (λ ts. statement_of may (suc room) (i ∷ o ∷ ts) after) (append_assoc e (c ∷ b ∷ (q ++ d ∷ [])) rest)
        ∙ ap (λ ts. statement_of may (suc room) (i ∷ o ∷ (e ++ c ∷ b ∷ ts)) after) (append_assoc q (d ∷ []) rest)
        ∙ switch-reads rest after
        ∙ ap (λ n. Ok (stmt i.place (k.Switch tree ps), n)) count;
    closed =
        let block = around-closed b d q [] (brace-opens b.kind eb) (brace-closes d.kind ed) (unlevelled-mark d.kind mark.CloseBrace ed refl) parts.closed closed-none in
        closed-flat i (o ∷ (e ++ c ∷ b ∷ (q ++ d ∷ []))) (keyword-flat i.kind key.Switch ei)
        (around-closed o c e (b ∷ (q ++ d ∷ [])) (round-opens o.kind eo) (round-closes c.kind ec) (unlevelled-mark c.kind mark.CloseParen ec refl) part_is.closed block);
  }
