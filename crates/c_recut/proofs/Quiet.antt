-- The tokens of an expression hold no semicolon, no colon and no operator of an assignment.
use Rattle.std.proofs.Common.{◌≡◌, ℕ, ◌+◌, ◌==◌, Bool, true, false, cond, List, [], ◌∷◌, ◌++◌, Some, None, refl, ap, ◌∙◌}
use Rattle.std.specs.Prelude.{codes, ◌&&◌}
use Rattle.std.specs.List.{AllByRecursion}
use Rattle.c_text.specs.declared.token.Token.{Token}
use Rattle.c_text.specs.declared.token.TokenKind.{TokenKind}
use Rattle.c_text.specs.declared.token.TokenKind.TheVariants.{Word, Mark}
use Rattle.c_text.specs.declared.token.Spelled.{Spelled}
use Rattle.c_tree.specs.declared.expression.Callee.{Callee}
use Rattle.c_tree.specs.declared.expression.Callee.TheVariants as callee
use Rattle.c_tree.specs.declared.expression.UnaryOp.{UnaryOp}
use Rattle.c_tree.specs.declared.expression.BinaryOp.{BinaryOp}
use Rattle.c_tree.specs.Symbol.{mark_in, is_semicolon, is_colon}
use Rattle.c_tree.specs.Brackets.{first_outside, depth_after}
use Rattle.c_tree.specs.StatementCut.{is_assignment}
use Rattle.c_tree.specs.TypeName.{kinds_of}
use Rattle.c_tree.specs.BareExpression.{Tree, Trees, constant, name, null, member, element, call, unary, cast, binary, bracket, none, more}
use Rattle.c_printed.specs.Spelling.{sign_text, operator_text, left_type, left_callee, left}
use Rattle.c_printed.specs.PrintedExpression.{comma, tokens_of, all_tokens}
use Rattle.c_printed.proofs.SmallLaws.{and-false, every-append}
use Rattle.c_recut.proofs.Tokens.{every-is}
use Rattle.c_recut.proofs.Types.{type-all}
use Rattle.c_tree.specs.declared.expression.UnaryOp.TheVariants as sign
use Rattle.c_tree.specs.declared.expression.BinaryOp.TheVariants as op

-- ---- quiet tokens

pub record Quiet (k : TokenKind) : Type 0 where
  pub semicolon : is_semicolon k ≡ false
  pub colon : is_colon k ≡ false
  pub assignment : is_assignment k ≡ false

abbrev pub AllQuiet : List TokenKind → Type 0
AllQuiet ks = AllByRecursion Quiet ks

word-quiet : (w : List ℕ) → Quiet (Word w)
word-quiet w = record { semicolon = refl; colon = refl; assignment = refl }

operator-quiet : (o : BinaryOp) → Quiet (Mark (operator_text o))
unfolding mark_in
operator-quiet op.LogicalOr = record { semicolon = refl; colon = refl; assignment = refl }
operator-quiet op.LogicalAnd = record { semicolon = refl; colon = refl; assignment = refl }
operator-quiet op.BitOr = record { semicolon = refl; colon = refl; assignment = refl }
operator-quiet op.BitXor = record { semicolon = refl; colon = refl; assignment = refl }
operator-quiet op.BitAnd = record { semicolon = refl; colon = refl; assignment = refl }
operator-quiet op.Equal = record { semicolon = refl; colon = refl; assignment = refl }
operator-quiet op.NotEqual = record { semicolon = refl; colon = refl; assignment = refl }
operator-quiet op.Less = record { semicolon = refl; colon = refl; assignment = refl }
operator-quiet op.Greater = record { semicolon = refl; colon = refl; assignment = refl }
operator-quiet op.LessEqual = record { semicolon = refl; colon = refl; assignment = refl }
operator-quiet op.GreaterEqual = record { semicolon = refl; colon = refl; assignment = refl }
operator-quiet op.ShiftLeft = record { semicolon = refl; colon = refl; assignment = refl }
operator-quiet op.ShiftRight = record { semicolon = refl; colon = refl; assignment = refl }
operator-quiet op.Add = record { semicolon = refl; colon = refl; assignment = refl }
operator-quiet op.Subtract = record { semicolon = refl; colon = refl; assignment = refl }

sign-quiet : (u : UnaryOp) → Quiet (Mark (sign_text u))
unfolding mark_in
sign-quiet sign.Plus = record { semicolon = refl; colon = refl; assignment = refl }
sign-quiet sign.Minus = record { semicolon = refl; colon = refl; assignment = refl }
sign-quiet sign.Complement = record { semicolon = refl; colon = refl; assignment = refl }
sign-quiet sign.Not = record { semicolon = refl; colon = refl; assignment = refl }

pub type-quiet : (s : Spelled) → AllQuiet (left_type s)
type-quiet s = type-all Quiet word-quiet (λ u. record { semicolon = refl; colon = refl; assignment = refl }) s

pub callee-quiet : (f : Callee) → Quiet (left_callee f)
callee-quiet (callee.Name n) = word-quiet n
callee-quiet callee.Memset = record { semicolon = refl; colon = refl; assignment = refl }

pub record QuietMarks : Type 0 where
  pub q_open : Quiet (Mark (codes "("))
  pub q_close : Quiet (Mark (codes ")"))
  pub q_open_square : Quiet (Mark (codes "["))
  pub q_close_square : Quiet (Mark (codes "]"))
  pub q_arrow : Quiet (Mark (codes "->"))
  pub q_comma : Quiet (Mark (codes ","))

pub quiets : QuietMarks
unfolding mark_in
quiets = record {
  q_open = record { semicolon = refl; colon = refl; assignment = refl };
  q_close = record { semicolon = refl; colon = refl; assignment = refl };
  q_open_square = record { semicolon = refl; colon = refl; assignment = refl };
  q_close_square = record { semicolon = refl; colon = refl; assignment = refl };
  q_arrow = record { semicolon = refl; colon = refl; assignment = refl };
  q_comma = record { semicolon = refl; colon = refl; assignment = refl };
}

comma-quiet : (b : Bool) → AllQuiet (comma b)
comma-quiet true = tt
comma-quiet false = (quiets.q_comma, tt)

mutual
  pub tree-quiet : (t : Tree) → AllQuiet (tokens_of left t)
  tree-quiet (constant c) = (record { semicolon = refl; colon = refl; assignment = refl }, tt)
  tree-quiet (name n) = (word-quiet n, tt)
  tree-quiet null = (record { semicolon = refl; colon = refl; assignment = refl }, tt)
  tree-quiet (member base field) = (word-quiet base, (quiets.q_arrow, (word-quiet field, tt)))
  tree-quiet (element base i) = (word-quiet base, (quiets.q_open_square, every-append Quiet (tokens_of left i) (Mark (codes "]") ∷ []) (tree-quiet i) (quiets.q_close_square, tt)))
  tree-quiet (call f ts) = (callee-quiet f, (quiets.q_open, every-append Quiet (all_tokens left true ts) (Mark (codes ")") ∷ []) (trees-quiet true ts) (quiets.q_close, tt)))
  tree-quiet (unary u x) = (sign-quiet u, tree-quiet x)
  tree-quiet (cast to x) = (quiets.q_open, every-append Quiet (left_type to) (Mark (codes ")") ∷ tokens_of left x) (type-quiet to) (quiets.q_close, tree-quiet x))
  tree-quiet (binary o l r) = every-append Quiet (tokens_of left l) (Mark (operator_text o) ∷ tokens_of left r) (tree-quiet l) (operator-quiet o, tree-quiet r)
  tree-quiet (bracket x) = (quiets.q_open, every-append Quiet (tokens_of left x) (Mark (codes ")") ∷ []) (tree-quiet x) (quiets.q_close, tt))

  pub trees-quiet : (first : Bool) (ts : Trees) → AllQuiet (all_tokens left first ts)
  trees-quiet first none = tt
  trees-quiet first (more t ts) = every-append Quiet (comma first) (tokens_of left t ++ all_tokens left false ts) (comma-quiet first) (every-append Quiet (tokens_of left t) (all_tokens left false ts) (tree-quiet t) (trees-quiet false ts))

-- a test that no kind passes is found nowhere
pub none-outside : (p : TokenKind → Bool) (at depth : ℕ) (ts : List Token) (ks : List TokenKind) → kinds_of ts ≡ ks → AllByRecursion (λ (k : TokenKind). p k ≡ false) ks → first_outside p at depth ts ≡ None
none-outside p at depth [] ks e h = refl
none-outside p at depth (t ∷ ts) [] e h = cc
none-outside p at depth (t ∷ ts) (k ∷ ks) e h =
    let same : t.kind ≡ k = cc in
    let rest : kinds_of ts ≡ ks = cc in
    ap (λ b. cond (depth == 0 && b) (Some at) (first_outside p (at + 1) (depth_after t.kind depth) ts)) (ap p same ∙ h.0)
    ∙ ap (λ b. cond b (Some at) (first_outside p (at + 1) (depth_after t.kind depth) ts)) (and-false (depth == 0))
    ∙ none-outside p (at + 1) (depth_after t.kind depth) ts ks rest h.1

abbrev pub NoSemicolon : TokenKind → Type 0
NoSemicolon k = is_semicolon k ≡ false

pub no-semicolon : (ks : List TokenKind) → AllQuiet ks → AllByRecursion NoSemicolon ks
no-semicolon ks h = every-is Quiet NoSemicolon (λ k q. q.semicolon) ks h

pub no-colon : (ks : List TokenKind) → AllQuiet ks → AllByRecursion (λ (k : TokenKind). is_colon k ≡ false) ks
no-colon ks h = every-is Quiet (λ (k : TokenKind). is_colon k ≡ false) (λ k q. q.colon) ks h

pub no-assignment : (ks : List TokenKind) → AllQuiet ks → AllByRecursion (λ (k : TokenKind). is_assignment k ≡ false) ks
no-assignment ks h = every-is Quiet (λ (k : TokenKind). is_assignment k ≡ false) (λ k q. q.assignment) ks h
