-- The tokens of statements that end with a semicolon are cut into the statements.
use Rattle.std.proofs.Common.{◌≡◌, ℕ, zero, suc, Bool, true, false, cond, List, [], ◌∷◌, ◌++◌, length, take, drop, Option, Some, None, is_some, Ok, refl, sym, ap, subst, ◌∙◌, arith}
use Rattle.std.specs.Prelude.{codes, ◌&&◌}
use Rattle.std.specs.List.{AllByRecursion}
use Rattle.std.proofs.Math.Seq.{take-append_seam, drop-append_seam}
use Rattle.c_text.specs.declared.place.Place.{Place}
use Rattle.c_text.specs.declared.token.Token.{Token}
use Rattle.c_text.specs.declared.token.TokenKind.{TokenKind}
use Rattle.c_text.specs.declared.token.TokenKind.TheVariants.{Word, Mark}
use Rattle.c_text.specs.declared.token.Spelled.{Spelled}
use Rattle.c_tree.specs.declared.symbol.Keyword.{Keyword}
use Rattle.c_tree.specs.declared.symbol.Bracket.TheVariants.{Round, Square}
use Rattle.c_tree.specs.declared.expression.Callee.{Callee}
use Rattle.c_tree.specs.declared.expression.Callee.TheVariants as callee
use Rattle.c_tree.specs.declared.expression.Expr.{Expr}
use Rattle.c_tree.specs.declared.statement.AssignOp.{AssignOp}
use Rattle.c_tree.specs.declared.statement.Stmt.{Stmt}
use Rattle.cg_out.specs.Words.{◌>>=◌}
use Rattle.c_tree.specs.Symbol.{keyword_in, keyword_of, mark_in, mark_of, name_of, callee_of, is_semicolon, is_equal_mark, is_arrow_mark}
use Rattle.c_tree.specs.Brackets.{opens, closes, mark_opens, mark_closes, is_bracket, depth_after, first_outside}
use Rattle.c_tree.specs.Operators.{assignment}
use Rattle.c_tree.specs.TypeName.{kinds_of}
use Rattle.c_tree.specs.ExpressionCut.{Closed, closed_in, closed, arguments, expression_of, start, operand}
use Rattle.c_tree.specs.StatementCut.{is_void, is_void_key, is_else, Simple, declares, discards, calls, assigns, unknown, or_form, declares_value, declares_name, declaration_by, declaration_form, discards_name, discard_form, call_by, call_form, is_one_name, is_target_rest, is_target, assigns_by, assigns_at, is_assignment, assign_by, assignment_form, form_of, stmt, by_form, return_of, simple_by, simple}
use Rattle.c_tree.specs.TokenRun.{IsClosed, is_keyword, begins_type}
use Rattle.c_parts.specs.ExpressionPart.{IsPart}
use Rattle.c_parts.specs.StatementPart.{IsStatement, plain_key, plain_open}
use Rattle.c_tree.specs.BareExpression.{Tree, Trees, constant, name, null, member, element, cast, unary, binary, bracket, none}
use Rattle.c_tree.specs.BareStatement.{Action, bare_statement}
use Rattle.c_tree.proofs.ExpressionTokens.{inside-room}
use Rattle.c_parts.proofs.ExpressionParts.{closed-none, closed-flat, closed-append, around-closed, round-opens, round-closes, square-closes, unlevelled-mark, closed-is}
use Rattle.c_parts.proofs.StatementParts.{simple-statement, first_outside-at}
use Rattle.c_parts.proofs.BareTrees.{bare-declare, bare-assign, bare-call-statement, bare-discard, bare-return, bare-break}
use Rattle.c_printed.specs.Spelling.{assign_text, left_type, left_callee, left}
use Rattle.c_printed.specs.PrintedExpression.{tokens_of, all_tokens}
use Rattle.c_printed.specs.PrintedStatement.{value_tokens, result_tokens}
use Rattle.c_printed.specs.Printable.{IsFree, IsFreeCallee, Fits, FitAll, FitsOption, is_target as is_target_tree}
use Rattle.c_printed.specs.Within.{Within, AllWithin, OptionWithin}
use Rattle.c_recut.proofs.Tokens.{Head, head-of, nil-of, one-of, split-of, between-of}
use Rattle.c_recut.proofs.CutExpression.{CutsAs, cut-tree, cut-inner, name-is, callee-is, marks, mark-is}
use Rattle.c_recut.proofs.Quiet.{tree-quiet, none-outside, no-assignment, NoSemicolon}
use Rattle.c_recut.proofs.Types.{type-first, free_key, front-none, Typed, typed-of}
use Rattle.c_tree.specs.declared.symbol.Keyword.TheVariants as key
use Rattle.c_tree.specs.declared.symbol.Punctuator.TheVariants as mark
use Rattle.c_tree.specs.declared.statement.AssignOp.TheVariants as set
use Rattle.c_tree.specs.declared.statement.StmtKind.TheVariants as k
use Rattle.c_tree.specs.BareExpression as t
use Rattle.c_tree.specs.BareStatement as a

-- ---- keywords

pub record Keywords : Type 0 where
  pub return_is : keyword_of (Word (codes "return")) ≡ Some key.Return
  pub break_is : keyword_of (Word (codes "break")) ≡ Some key.Break
  pub if_is : keyword_of (Word (codes "if")) ≡ Some key.If
  pub else_is : keyword_of (Word (codes "else")) ≡ Some key.Else
  pub switch_is : keyword_of (Word (codes "switch")) ≡ Some key.Switch
  pub case_is : keyword_of (Word (codes "case")) ≡ Some key.Case
  pub default_is : keyword_of (Word (codes "default")) ≡ Some key.Default
  pub void_is : keyword_of (Word (codes "void")) ≡ Some key.Void
  pub struct_is : keyword_of (Word (codes "struct")) ≡ Some key.Struct
  pub const_is : keyword_of (Word (codes "const")) ≡ Some key.Const
  pub static_is : keyword_of (Word (codes "static")) ≡ Some key.Static

pub keys : Keywords
unfolding keyword_in
keys = record { return_is = refl; break_is = refl; if_is = refl; else_is = refl; switch_is = refl; case_is = refl; default_is = refl; void_is = refl; struct_is = refl; const_is = refl; static_is = refl }

-- ---- a statement before its semicolon

pub record MadeAs (may : Bool) (room : ℕ) (ts : List Token) (x : Action) : Type 0 where
  pub statement : Stmt
  pub is : bare_statement statement ≡ x
  pub made : (after : Place) → simple may room ts after ≡ Ok statement
  pub closed : IsClosed ts

pub record StatementAs (may : Bool) (room : ℕ) (finished : Bool) (ts : List Token) (x : Action) : Type 0 where
  pub statement : Stmt
  pub is : bare_statement statement ≡ x
  pub part : IsStatement may room finished ts statement

-- a kind that begins a statement with a semicolon
pub record Begins (k : TokenKind) : Type 0 where
  pub simple_is : (plain_key (keyword_of k) && plain_open (opens k)) ≡ true
  pub no_else : is_else k ≡ false

pub with-semicolon : (may : Bool) (room : ℕ) (kind : TokenKind) (ks : List TokenKind) (x : Action) (ts : List Token) → kinds_of ts ≡ (kind ∷ ks) ++ Mark (codes ";") ∷ [] → Begins kind
    → AllByRecursion NoSemicolon (kind ∷ ks) → ((us : List Token) → kinds_of us ≡ kind ∷ ks → MadeAs may room us x) → StatementAs may room true ts x
with-semicolon may room kind ks x ts e begins quiet make =
    let s = split-of (kind ∷ ks) (Mark (codes ";") ∷ []) ts e in
    let f = head-of kind ks s.left s.left_kinds in
    let t = head-of (Mark (codes ";")) [] s.right s.right_kinds in
    let m = make s.left s.left_kinds in
    let none = none-outside is_semicolon 0 0 s.left (kind ∷ ks) s.left_kinds quiet in
    let part = simple-statement may room f.first f.rest t.first m.statement (ap (λ u. plain_key (keyword_of u) && plain_open (opens u)) f.first_kind ∙ begins.simple_is) (ap is_else f.first_kind ∙ begins.no_else)
    (ap (first_outside is_semicolon 0 0) (sym f.is) ∙ none) (subst IsClosed f.is m.closed) (mark-is t.first.kind _ mark.Semicolon t.first_kind marks.semicolon_is) (ap (λ us. simple may room us t.first.place) (sym f.is) ∙ m.made t.first.place) in
    let same : ts ≡ f.first ∷ (f.rest ++ t.first ∷ []) = s.is ∙ (λ i. f.is i ++ one-of (Mark (codes ";")) s.right t i) in
    record { statement = m.statement; is = m.is; part = subst (λ us. IsStatement may room true us m.statement) (sym same) part }

-- ---- `return` and `break`

pub keyword-flat : (kind : TokenKind) (w : List ℕ) → kind ≡ Word w → (d : ℕ) → depth_after kind d ≡ d
keyword-flat kind w e d = ap (λ u. depth_after u d) e

return-some : (room : ℕ) (place : Place) (ts : List Token) (e : Expr) (after : Place) → IsPart room 0 ts e → return_of room place ts after ≡ Ok (stmt place (k.Return (Some e)))
return-some room place [] e after part = absurd (clash (part.ended start))
  where
    clash : start ≡ operand → ⊥
    clash e = cc
return-some room place (t ∷ ts) e after part = ap (λ r. r >>= (λ v. Ok (stmt place (k.Return (Some v))))) (part.cuts after)

pub made-return : (may : Bool) (room : ℕ) (v : Option Tree) (ts : List Token) → FitsOption v → OptionWithin room v → kinds_of ts ≡ Word (codes "return") ∷ result_tokens left v → MadeAs may room ts (a.return v)
made-return may room None ts h w e =
    let f = head-of (Word (codes "return")) [] ts e in
    let one = one-of (Word (codes "return")) ts f in
    record {
      statement = stmt f.first.place (k.Return None);
      is = bare-return f.first.place None;
      made = λ after. ap (λ us. simple may room us after) one ∙ ap (λ w. simple_by w may room f.first [] after) (ap keyword_of f.first_kind ∙ keys.return_is);
      closed = subst IsClosed (sym one) (closed-flat f.first [] (keyword-flat f.first.kind _ f.first_kind) closed-none);
    }
made-return may room (Some t) ts h w e =
    let f = head-of (Word (codes "return")) (tokens_of left t) ts e in
    let x = cut-tree room 0 t f.rest (omega arith) h w f.rest_kinds in
    record {
      statement = stmt f.first.place (k.Return (Some x.tree));
      is = bare-return f.first.place (Some x.tree) ∙ ap (λ u. a.return (Some u)) x.is;
      made = λ after.
          ap (λ us. simple may room us after) f.is ∙ ap (λ w. simple_by w may room f.first f.rest after) (ap keyword_of f.first_kind ∙ keys.return_is)
          ∙ return-some room f.first.place f.rest x.tree after x.part;
      closed = subst IsClosed (sym f.is) (closed-flat f.first f.rest (keyword-flat f.first.kind _ f.first_kind) x.part.closed);
    }

pub made-break : (room : ℕ) (ts : List Token) → kinds_of ts ≡ Word (codes "break") ∷ [] → MadeAs true room ts a.break
made-break room ts e =
    let f = head-of (Word (codes "break")) [] ts e in
    let one = one-of (Word (codes "break")) ts f in
    record {
      statement = stmt f.first.place k.Break;
      is = bare-break f.first.place;
      made = λ after. ap (λ us. simple true room us after) one ∙ ap (λ w. simple_by w true room f.first [] after) (ap keyword_of f.first_kind ∙ keys.break_is);
      closed = subst IsClosed (sym one) (closed-flat f.first [] (keyword-flat f.first.kind _ f.first_kind) closed-none);
    }

-- ---- by form

formed : (w : Option Keyword) (may : Bool) (room : ℕ) (t : Token) (ts : List Token) (after : Place) → free_key w ≡ true → simple_by w may room t ts after ≡ by_form room t.place (form_of (t ∷ ts)) after
formed None may room t ts after h = refl
formed (Some key.Bool) may room t ts after h = refl
formed (Some key.Break) may room t ts after h = cc
formed (Some key.Case) may room t ts after h = refl
formed (Some key.Char) may room t ts after h = refl
formed (Some key.Const) may room t ts after h = cc
formed (Some key.Default) may room t ts after h = refl
formed (Some key.Else) may room t ts after h = refl
formed (Some key.If) may room t ts after h = refl
formed (Some key.Int) may room t ts after h = refl
formed (Some key.Long) may room t ts after h = refl
formed (Some key.Return) may room t ts after h = cc
formed (Some key.Short) may room t ts after h = refl
formed (Some key.Signed) may room t ts after h = refl
formed (Some key.Static) may room t ts after h = cc
formed (Some key.Struct) may room t ts after h = cc
formed (Some key.Switch) may room t ts after h = refl
formed (Some key.Unsigned) may room t ts after h = refl
formed (Some key.Void) may room t ts after h = refl
formed (Some key.Other) may room t ts after h = refl

-- the first token has this kind, and the form is this one
by-the-form : (may : Bool) (room : ℕ) (ts : List Token) (kind : TokenKind) (ks : List TokenKind) (form : Simple) (s : Stmt) (after : Place) → (f : Head kind ks ts) → free_key (keyword_of kind) ≡ true → form_of ts ≡ form
    → by_form room f.first.place form after ≡ Ok s → simple may room ts after ≡ Ok s
by-the-form may room ts kind ks form s after f free is made =
    ap (λ us. simple may room us after) f.is ∙ formed (keyword_of f.first.kind) may room f.first f.rest after (ap (λ u. free_key (keyword_of u)) f.first_kind ∙ free)
    ∙ ap (λ us. by_form room f.first.place (form_of us) after) (sym f.is) ∙ ap (λ x. by_form room f.first.place x after) is ∙ made

-- ---- declarations

form-declaration : (ts : List Token) (s : Spelled) (x : List ℕ) (p : Place) (v : Option (List Token)) → declaration_form ts ≡ declares s x p v → form_of ts ≡ declares s x p v
unfolding form_of
form-declaration ts s x p v e = ap (λ d. or_form d (or_form (discard_form ts) (or_form (call_form ts) (assignment_form ts)))) e

declares-at : (s : Spelled) (ts : List Token) (k : TokenKind) (ks : List TokenKind) (t : Typed s (k ∷ ks) ts) → declaration_form ts ≡ declares_name s t.rest
declares-at s ts k ks t = ap (λ f. declaration_by f ts) t.front ∙ ap (declares_name s) t.behind

pub made-declare : (may : Bool) (room : ℕ) (s : Spelled) (x : List ℕ) (v : Option Tree) (ts : List Token) → IsFree x → FitsOption v → OptionWithin room v → kinds_of ts ≡ left_type s ++ Word x ∷ value_tokens left v → MadeAs may room ts (a.declare s x v)
made-declare may room s x None ts h g i e =
    let t = typed-of s (Word x) [] ts e h.1 in
    let n = head-of (Word x) [] t.rest t.rest_kinds in
    let one = one-of (Word x) t.rest n in
    let w = type-first s in
    let f = head-of w.kind (w.rest ++ Word x ∷ []) ts (e ∙ ap (λ ks. ks ++ Word x ∷ []) w.is) in
    let found : declaration_form ts ≡ declares s x n.first.place None =
    declares-at s ts (Word x) [] t ∙ ap (declares_name s) one ∙ ap (λ o. declares_value s o n.first.place []) (name-is x n.first.kind n.first_kind h.1) in
    record {
      statement = stmt n.first.place (k.Declare s x None);
      is = bare-declare n.first.place s x None;
      made = λ after. by-the-form may room ts w.kind (w.rest ++ Word x ∷ []) (declares s x n.first.place None) (stmt n.first.place (k.Declare s x None)) after f w.free (form-declaration ts s x n.first.place None found) refl;
      closed = subst IsClosed (sym (t.is ∙ ap (λ us. t.words ++ us) one)) (closed-append t.words (n.first ∷ []) t.closed (closed-flat n.first [] (keyword-flat n.first.kind x n.first_kind) closed-none));
    }
made-declare may room s x (Some z) ts h g i e =
    let t = typed-of s (Word x) (Mark (codes "=") ∷ tokens_of left z) ts e h.1 in
    let n = head-of (Word x) (Mark (codes "=") ∷ tokens_of left z) t.rest t.rest_kinds in
    let q = head-of (Mark (codes "=")) (tokens_of left z) n.rest n.rest_kinds in
    let y = cut-tree room 0 z q.rest (omega arith) g i q.rest_kinds in
    let w = type-first s in
    let others = w.rest ++ Word x ∷ Mark (codes "=") ∷ tokens_of left z in
    let f = head-of w.kind others ts (e ∙ ap (λ ks. ks ++ Word x ∷ Mark (codes "=") ∷ tokens_of left z) w.is) in
    let rest_is : t.rest ≡ n.first ∷ q.first ∷ q.rest = n.is ∙ ap (λ us. n.first ∷ us) q.is in
    let equals : mark_of q.first.kind ≡ Some mark.Equal = mark-is q.first.kind _ mark.Equal q.first_kind marks.equal_is in
    let form = declares s x n.first.place (Some q.rest) in
    let found : declaration_form ts ≡ form =
    declares-at s ts (Word x) (Mark (codes "=") ∷ tokens_of left z) t ∙ ap (declares_name s) rest_is
    ∙ ap (λ o. declares_value s o n.first.place (q.first ∷ q.rest)) (name-is x n.first.kind n.first_kind h.1)
    ∙ ap (λ m. cond (is_equal_mark m) form unknown) equals in
    let made = stmt n.first.place (k.Declare s x (Some y.tree)) in
    record {
      statement = made;
      is = bare-declare n.first.place s x (Some y.tree) ∙ ap (λ u. a.declare s x (Some u)) y.is;
      made = λ after. by-the-form may room ts w.kind others form made after f w.free (form-declaration ts s x n.first.place (Some q.rest) found)
          (ap (λ r. r >>= (λ u. Ok (stmt n.first.place (k.Declare s x (Some u))))) (y.part.cuts after));
      closed = subst IsClosed (sym (t.is ∙ ap (λ us. t.words ++ us) rest_is))
          (closed-append t.words (n.first ∷ q.first ∷ q.rest) t.closed (closed-flat n.first (q.first ∷ q.rest) (keyword-flat n.first.kind x n.first_kind) (closed-flat q.first q.rest (λ d. rw equals refl) y.part.closed)));
    }

-- ---- what is no declaration

declaration-none : (ts : List Token) → begins_type ts ≡ false → declaration_form ts ≡ unknown
declaration-none ts e = ap (λ f. declaration_by f ts) (front-none ts e)

form-behind : (ts : List Token) (form : Simple) → begins_type ts ≡ false → or_form (discard_form ts) (or_form (call_form ts) (assignment_form ts)) ≡ form → form_of ts ≡ form
unfolding form_of
form-behind ts form e f = ap (λ d. or_form d (or_form (discard_form ts) (or_form (call_form ts) (assignment_form ts)))) (declaration-none ts e) ∙ f

discard-none : (t : Token) (ts : List Token) → is_bracket Round (opens t.kind) ≡ false → discard_form (t ∷ ts) ≡ unknown
discard-none t [] e = refl
discard-none t (b ∷ []) e = refl
discard-none t (b ∷ c ∷ []) e = refl
discard-none t (b ∷ c ∷ d ∷ []) e = ap (λ r. cond (r && (is_void b.kind && is_bracket Round (closes c.kind))) (discards_name (name_of d.kind) d.place t.place) unknown) e
discard-none t (b ∷ c ∷ d ∷ f ∷ rest) e = refl

pub made-discard : (may : Bool) (room : ℕ) (x : List ℕ) (ts : List Token) → IsFree x → kinds_of ts ≡ Mark (codes "(") ∷ Word (codes "void") ∷ Mark (codes ")") ∷ Word x ∷ [] → MadeAs may (suc room) ts (a.discard x)
made-discard may room x ts h e =
    let o = head-of (Mark (codes "(")) (Word (codes "void") ∷ Mark (codes ")") ∷ Word x ∷ []) ts e in
    let v = head-of (Word (codes "void")) (Mark (codes ")") ∷ Word x ∷ []) o.rest o.rest_kinds in
    let c = head-of (Mark (codes ")")) (Word x ∷ []) v.rest v.rest_kinds in
    let n = head-of (Word x) [] c.rest c.rest_kinds in
    let open_is = mark-is o.first.kind _ mark.OpenParen o.first_kind marks.open_is in
    let close_is = mark-is c.first.kind _ mark.CloseParen c.first_kind marks.close_is in
    let whole : ts ≡ o.first ∷ v.first ∷ c.first ∷ n.first ∷ [] = o.is ∙ ap (λ us. o.first ∷ us) (v.is ∙ ap (λ us. v.first ∷ us) (c.is ∙ ap (λ us. c.first ∷ us) (one-of (Word x) c.rest n))) in
    let form = discards x n.first.place o.first.place in
    let list = o.first ∷ v.first ∷ c.first ∷ n.first ∷ [] in
    let found : discard_form list ≡ form =
    ap (λ m. cond (is_bracket Round (mark_opens m) && (is_void v.first.kind && is_bracket Round (closes c.first.kind))) (discards_name (name_of n.first.kind) n.first.place o.first.place) unknown) open_is
    ∙ ap (λ w. cond (is_void_key w && is_bracket Round (closes c.first.kind)) (discards_name (name_of n.first.kind) n.first.place o.first.place) unknown) (ap keyword_of v.first_kind ∙ keys.void_is)
    ∙ ap (λ m. cond (is_bracket Round (mark_closes m)) (discards_name (name_of n.first.kind) n.first.place o.first.place) unknown) close_is
    ∙ ap (λ y. discards_name y n.first.place o.first.place) (name-is x n.first.kind n.first_kind h.1) in
    let untyped : begins_type list ≡ false = ap is_keyword o.first_kind in
    record {
      statement = stmt n.first.place (k.Discard x);
      is = bare-discard n.first.place x;
      made = λ after. by-the-form may (suc room) ts (Mark (codes "(")) (Word (codes "void") ∷ Mark (codes ")") ∷ Word x ∷ []) form (stmt n.first.place (k.Discard x)) after o refl
          (ap form_of whole ∙ form-behind list form untyped (ap (λ d. or_form d (or_form (call_form list) (assignment_form list))) found)) (inside-room room o.first.place (λ r. Ok (stmt n.first.place (k.Discard x))));
      closed = subst IsClosed (sym whole) (around-closed o.first c.first (v.first ∷ []) (n.first ∷ []) (round-opens o.first.kind open_is) (round-closes c.first.kind close_is) (unlevelled-mark c.first.kind mark.CloseParen close_is refl)
          (closed-flat v.first [] (keyword-flat v.first.kind _ v.first_kind) closed-none) (closed-flat n.first [] (keyword-flat n.first.kind x n.first_kind) closed-none));
    }

-- ---- calls

callee-flat : (f : Callee) → (is_bracket Round (opens (left_callee f)) ≡ false) × ((d : ℕ) → depth_after (left_callee f) d ≡ d)
callee-flat (callee.Name n) = (refl, (λ d. refl))
callee-flat callee.Memset = (refl, (λ d. refl))

callee-free : (f : Callee) → IsFreeCallee f → (keyword_of (left_callee f) ≡ None) × (is_keyword (left_callee f) ≡ false)
callee-free (callee.Name n) h = (h.1, ap (λ (o : Option Keyword). is_some o) h.1)
callee-free callee.Memset h = (refl, refl)

pub made-call : (may : Bool) (room : ℕ) (f : Callee) (us : Trees) (ts : List Token) → IsFreeCallee f → FitAll us → AllWithin room us → kinds_of ts ≡ left_callee f ∷ Mark (codes "(") ∷ (all_tokens left true us ++ Mark (codes ")") ∷ []) → MadeAs may (suc room) ts (a.call f us)
made-call may room f us ts h g w e =
    let n = head-of (left_callee f) (Mark (codes "(") ∷ (all_tokens left true us ++ Mark (codes ")") ∷ [])) ts e in
    let b = between-of (Mark (codes "(")) (all_tokens left true us) (Mark (codes ")")) [] n.rest n.rest_kinds in
    let x = cut-inner room us b.inner g w b.inner_kinds in
    let open_is = mark-is b.first.kind _ mark.OpenParen b.first_kind marks.open_is in
    let close_is = mark-is b.last.kind _ mark.CloseParen b.last_kind marks.close_is in
    let whole : ts ≡ n.first ∷ b.first ∷ (b.inner ++ b.last ∷ []) = n.is ∙ ap (λ us. n.first ∷ us) (b.is ∙ ap (λ us. b.first ∷ (b.inner ++ b.last ∷ us)) (nil-of b.rest b.rest_kinds)) in
    let list = n.first ∷ b.first ∷ (b.inner ++ b.last ∷ []) in
    let form = calls f n.first.place b.first.place (closed_in b.inner b.last.place) in
    let flat = callee-flat f in
    let free = callee-free f h in
    let found : call_form list ≡ form =
    ap (λ m. cond (is_bracket Round (mark_opens m)) (call_by (callee_of n.first.kind) n.first.place b.first.place (closed (b.inner ++ b.last ∷ []))) unknown) open_is
    ∙ ap (λ o. call_by o n.first.place b.first.place (closed (b.inner ++ b.last ∷ []))) (callee-is f n.first.kind n.first_kind h)
    ∙ ap (λ c. call_by (Some f) n.first.place b.first.place c) (closed-is b.last b.inner (round-closes b.last.kind close_is) (unlevelled-mark b.last.kind mark.CloseParen close_is refl) x.inner.closed) in
    let made = stmt n.first.place (k.Call f x.trees) in
    record {
      statement = made;
      is = bare-call-statement n.first.place f x.trees ∙ ap (a.call f) x.is;
      made = λ after. by-the-form may (suc room) ts (left_callee f) _ form made after n (ap free_key free.0)
          (ap form_of whole ∙ form-behind list form (ap is_keyword n.first_kind ∙ free.1)
          (ap (λ d. or_form d (or_form (call_form list) (assignment_form list))) (discard-none n.first (b.first ∷ (b.inner ++ b.last ∷ [])) (ap (λ u. is_bracket Round (opens u)) n.first_kind ∙ flat.0)) ∙ ap (λ d. or_form d (assignment_form list)) found))
          (ap (λ r. r >>= (λ es. Ok (stmt n.first.place (k.Call f es)))) (inside-room room b.first.place (λ r. arguments expression_of r b.inner b.last.place) ∙ x.inner.given b.last.place));
      closed = subst IsClosed (sym whole) (closed-flat n.first (b.first ∷ (b.inner ++ b.last ∷ [])) (λ d. ap (λ u. depth_after u d) n.first_kind ∙ flat.1 d)
          (around-closed b.first b.last b.inner [] (round-opens b.first.kind open_is) (round-closes b.last.kind close_is) (unlevelled-mark b.last.kind mark.CloseParen close_is refl) x.inner.closed closed-none));
    }

-- ---- assignments

assign-is : (o : AssignOp) → assignment (Mark (assign_text o)) ≡ Some o
unfolding mark_in
assign-is set.Set = refl
assign-is set.BitOr = refl
assign-is set.BitAnd = refl
assign-is set.BitXor = refl
assign-is set.Add = refl
assign-is set.Subtract = refl
assign-is set.ShiftLeft = refl
assign-is set.ShiftRight = refl

-- an operator of an assignment opens and closes nothing
record IsSet (k : TokenKind) : Type 0 where
  unopened : is_bracket Round (opens k) ≡ false
  flat : (d : ℕ) → depth_after k d ≡ d
  semicolon : is_semicolon k ≡ false

assign-flat : (o : AssignOp) → IsSet (Mark (assign_text o))
unfolding mark_in
assign-flat set.Set = record { unopened = refl; flat = λ d. refl; semicolon = refl }
assign-flat set.BitOr = record { unopened = refl; flat = λ d. refl; semicolon = refl }
assign-flat set.BitAnd = record { unopened = refl; flat = λ d. refl; semicolon = refl }
assign-flat set.BitXor = record { unopened = refl; flat = λ d. refl; semicolon = refl }
assign-flat set.Add = record { unopened = refl; flat = λ d. refl; semicolon = refl }
assign-flat set.Subtract = record { unopened = refl; flat = λ d. refl; semicolon = refl }
assign-flat set.ShiftLeft = record { unopened = refl; flat = λ d. refl; semicolon = refl }
assign-flat set.ShiftRight = record { unopened = refl; flat = λ d. refl; semicolon = refl }

pub assign-semicolon : (o : AssignOp) → is_semicolon (Mark (assign_text o)) ≡ false
assign-semicolon o = (assign-flat o).semicolon

-- a target, cut into its name and what stands behind it
record TargetAs (room : ℕ) (ts : List Token) (t : Tree) : Type 0 where
  base : List ℕ
  first : Token
  others : List Token
  is : ts ≡ first ∷ others
  first_kind : first.kind ≡ Word base
  free : keyword_in base ≡ None
  fits : is_target ts ≡ true
  next : (y : Token) (ys : List Token) → is_bracket Round (opens y.kind) ≡ false → call_form (first ∷ (others ++ y ∷ ys)) ≡ unknown
  tree : CutsAs room 0 ts t

call-none : (x y : Token) (zs : List Token) → is_bracket Round (opens y.kind) ≡ false → call_form (x ∷ y ∷ zs) ≡ unknown
call-none x y zs e = ap (λ b. cond b (call_by (callee_of x.kind) x.place y.place (closed zs)) unknown) e

cut-target : (room : ℕ) (t : Tree) (ts : List Token) → is_target_tree t ≡ true → Fits 0 t → Within room t → kinds_of ts ≡ tokens_of left t → TargetAs room ts t
cut-target room (name n) ts q h w e =
    let a = head-of (Word n) [] ts e in
    let one = one-of (Word n) ts a in
    record {
      base = n;
      first = a.first;
      others = [];
      is = one;
      first_kind = a.first_kind;
      free = h.1;
      fits = ap is_target one ∙ ap (λ o. is_some o && true) (name-is n a.first.kind a.first_kind h.1);
      next = λ y ys f. call-none a.first y ys f;
      tree = cut-tree room 0 (name n) ts (omega arith) h w e;
    }
cut-target room (member base field) ts q h w e =
    let a = head-of (Word base) (Mark (codes "->") ∷ Word field ∷ []) ts e in
    let b = head-of (Mark (codes "->")) (Word field ∷ []) a.rest a.rest_kinds in
    let c = head-of (Word field) [] b.rest b.rest_kinds in
    let arrow_is = mark-is b.first.kind _ mark.Arrow b.first_kind marks.arrow_is in
    let whole : ts ≡ a.first ∷ b.first ∷ c.first ∷ [] = a.is ∙ ap (λ xs. a.first ∷ xs) (b.is ∙ ap (λ xs. b.first ∷ xs) (one-of (Word field) b.rest c)) in
    record {
      base = base;
      first = a.first;
      others = b.first ∷ c.first ∷ [];
      is = whole;
      first_kind = a.first_kind;
      free = h.0.1;
      fits =
          ap is_target whole ∙ ap (λ o. is_some o && is_target_rest (b.first ∷ c.first ∷ [])) (name-is base a.first.kind a.first_kind h.0.1)
          ∙ ap (λ m. cond (is_bracket Square (mark_opens m)) (is_some (closed (c.first ∷ []))) (is_arrow_mark m && is_one_name (c.first ∷ []))) arrow_is
          ∙ ap (λ (o : Option (List ℕ)). is_some o) (name-is field c.first.kind c.first_kind h.1.1);
      next = λ y ys f. call-none a.first b.first (c.first ∷ y ∷ ys) (ap (λ m. is_bracket Round (mark_opens m)) arrow_is);
      tree = cut-tree room 0 (member base field) ts (omega arith) h w e;
    }
cut-target zero (element base i) ts q h w e = absurd w
cut-target (suc room) (element base i) ts q h w e =
    let a = head-of (Word base) (Mark (codes "[") ∷ (tokens_of left i ++ Mark (codes "]") ∷ [])) ts e in
    let b = between-of (Mark (codes "[")) (tokens_of left i) (Mark (codes "]")) [] a.rest a.rest_kinds in
    let x = cut-tree room 0 i b.inner (omega arith) h.1 w b.inner_kinds in
    let open_is = mark-is b.first.kind _ mark.OpenBracket b.first_kind marks.open_square in
    let close_is = mark-is b.last.kind _ mark.CloseBracket b.last_kind marks.close_square in
    let rest = b.inner ++ b.last ∷ [] in
    let whole : ts ≡ a.first ∷ b.first ∷ rest = a.is ∙ ap (λ xs. a.first ∷ xs) (b.is ∙ ap (λ xs. b.first ∷ (b.inner ++ b.last ∷ xs)) (nil-of b.rest b.rest_kinds)) in
    record {
      base = base;
      first = a.first;
      others = b.first ∷ rest;
      is = whole;
      first_kind = a.first_kind;
      free = h.0.1;
      fits =
          ap is_target whole ∙ ap (λ o. is_some o && is_target_rest (b.first ∷ rest)) (name-is base a.first.kind a.first_kind h.0.1)
          ∙ ap (λ m. cond (is_bracket Square (mark_opens m)) (is_some (closed rest)) (is_arrow_mark m && is_one_name rest)) open_is
          ∙ ap (λ (o : Option Closed). is_some o) (closed-is b.last b.inner (square-closes b.last.kind close_is) (unlevelled-mark b.last.kind mark.CloseBracket close_is refl) x.part.closed);
      next = λ y ys f. call-none a.first b.first (rest ++ y ∷ ys) (ap (λ m. is_bracket Round (mark_opens m)) open_is);
      tree = cut-tree (suc room) 0 (element base i) ts (omega arith) h w e;
    }
cut-target room null ts q h w e = cc
cut-target room (constant c) ts q h w e = cc
cut-target room (t.call f us) ts q h w e = cc
cut-target room (unary u x) ts q h w e = cc
cut-target room (cast to x) ts q h w e = cc
cut-target room (binary o l r) ts q h w e = cc
cut-target room (bracket x) ts q h w e = cc

pub made-assign : (may : Bool) (room : ℕ) (t : Tree) (o : AssignOp) (v : Tree) (ts : List Token) → is_target_tree t ≡ true → Fits 0 t → Within room t → Fits 0 v → Within room v → kinds_of ts ≡ tokens_of left t ++ Mark (assign_text o) ∷ tokens_of left v → MadeAs may room ts (a.assign t o v)
made-assign may room t o v ts q h w g z e =
    let s = split-of (tokens_of left t) (Mark (assign_text o) ∷ tokens_of left v) ts e in
    let m = head-of (Mark (assign_text o)) (tokens_of left v) s.right s.right_kinds in
    let x = cut-target room t s.left q h w s.left_kinds in
    let y = cut-tree room 0 v m.rest (omega arith) g z m.rest_kinds in
    let flat = assign-flat o in
    let op_is : assignment m.first.kind ≡ Some o = ap assignment m.first_kind ∙ assign-is o in
    let whole : ts ≡ s.left ++ m.first ∷ m.rest = s.is ∙ ap (λ us. s.left ++ us) m.is in
    let list : ts ≡ x.first ∷ (x.others ++ m.first ∷ m.rest) = whole ∙ ap (λ us. us ++ m.first ∷ m.rest) x.is in
    let form = assigns s.left o m.first.place m.rest in
    let at : first_outside is_assignment 0 0 ts ≡ Some (length s.left) =
    ap (first_outside is_assignment 0 0) whole
    ∙ first_outside-at is_assignment s.left m.first m.rest x.tree.part.closed (none-outside is_assignment 0 0 s.left (tokens_of left t) s.left_kinds (no-assignment (tokens_of left t) (tree-quiet t)))
    (ap (λ (z : Option AssignOp). is_some z) op_is) in
    let found : assignment_form ts ≡ form =
    ap (λ i. assign_by i ts) at
    ∙ ap (λ us. assigns_at (take (length s.left) us) (drop (length s.left) us)) whole
    ∙ (λ i. assigns_at (take-append_seam s.left (m.first ∷ m.rest) i) (drop-append_seam s.left (m.first ∷ m.rest) i))
    ∙ (λ i. assigns_by (x.fits i) (op_is i) s.left m.first.place m.rest) in
    let no_discard : discard_form ts ≡ unknown = ap discard_form list ∙ discard-none x.first (x.others ++ m.first ∷ m.rest) (ap (λ u. is_bracket Round (opens u)) x.first_kind) in
    let no_call : call_form ts ≡ unknown = ap call_form list ∙ x.next m.first m.rest (ap (λ u. is_bracket Round (opens u)) m.first_kind ∙ flat.unopened) in
    let untyped : begins_type ts ≡ false = ap begins_type list ∙ ap is_keyword x.first_kind ∙ ap (λ (z : Option Keyword). is_some z) x.free in
    let f : Head (Word x.base) (kinds_of (x.others ++ m.first ∷ m.rest)) ts = record { first = x.first; rest = x.others ++ m.first ∷ m.rest; is = list; first_kind = x.first_kind; rest_kinds = refl } in
    let made = stmt m.first.place (k.Assign x.tree.tree o y.tree) in
    record {
      statement = made;
      is = bare-assign m.first.place x.tree.tree o y.tree ∙ (λ i. a.assign (x.tree.is i) o (y.is i));
      made = λ after. by-the-form may room ts (Word x.base) (kinds_of (x.others ++ m.first ∷ m.rest)) form made after f (ap free_key x.free)
          (form-behind ts form untyped (ap (λ d. or_form d (or_form (call_form ts) (assignment_form ts))) no_discard ∙ ap (λ d. or_form d (assignment_form ts)) no_call ∙ found))
          (ap (λ r. r >>= (λ a. expression_of room m.rest after >>= (λ b. Ok (stmt m.first.place (k.Assign a o b))))) (x.tree.part.cuts m.first.place)
          ∙ ap (λ r. r >>= (λ b. Ok (stmt m.first.place (k.Assign x.tree.tree o b)))) (y.part.cuts after));
      closed = subst IsClosed (sym whole) (closed-append s.left (m.first ∷ m.rest) x.tree.part.closed (closed-flat m.first m.rest (λ d. ap (λ u. depth_after u d) m.first_kind ∙ flat.flat d) y.part.closed));
    }
