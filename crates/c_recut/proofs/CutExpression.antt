-- The tokens of an expression are cut into the expression.
use Rattle.std.proofs.Common.{◌≡◌, ℕ, zero, suc, ◌+◌, ◌-◌, ◌≤◌, true, false, List, [], ◌∷◌, ◌++◌, Some, None, refl, sym, ap, subst, ◌∙◌, append-nil, arith}
use Rattle.std.specs.Prelude.{codes}
use Rattle.c_text.specs.declared.token.Token.{Token}
use Rattle.c_text.specs.declared.token.TokenKind.{TokenKind}
use Rattle.c_text.specs.declared.token.TokenKind.TheVariants.{Word, Constant as Number, Mark, Null}
use Rattle.c_tree.specs.declared.expression.Callee.{Callee}
use Rattle.c_tree.specs.declared.expression.Callee.TheVariants as callee
use Rattle.c_tree.specs.declared.expression.Expr.{Expr}
use Rattle.c_tree.specs.declared.expression.UnaryOp.{UnaryOp}
use Rattle.c_tree.specs.declared.expression.BinaryOp.{BinaryOp}
use Rattle.c_tree.specs.Symbol.{keyword_in, mark_in, mark_of, name_of, function_named, callee_of, unless_keyword}
use Rattle.c_tree.specs.Operators.{operator, prefix}
use Rattle.c_tree.specs.TypeName.{spelled_of, kinds_of}
use Rattle.c_tree.specs.ExpressionCut.{node}
use Rattle.c_parts.specs.ExpressionPart.{IsPart, IsInner, AreArgs}
use Rattle.c_tree.specs.BareExpression.{Tree, Trees, constant, name, null, member, element, call, unary, cast, binary, bracket, none, more, bare_expression}
use Rattle.c_tree.specs.BareStatement.{bare_all}
use Rattle.c_tree.proofs.ExpressionTokens.{suc-not-zero}
use Rattle.c_parts.proofs.ExpressionParts.{constant-part, null-part, name-part, signed, bracketed, called-part, element-part, member-part, cast-part, joined, weaker, one-arg, more-args, inner-none, inner-some}
use Rattle.c_parts.proofs.BareTrees.{bare-constant, bare-name, bare-null, bare-member, bare-element, bare-call, bare-unary, bare-cast, bare-binary, bare-bracket}
use Rattle.c_printed.specs.Spelling.{sign_text, operator_text, level_of, left_type, left_callee, left}
use Rattle.c_printed.specs.PrintedExpression.{tokens_of, all_tokens}
use Rattle.c_printed.specs.Printable.{IsFreeCallee, Fits, FitAll}
use Rattle.c_printed.specs.Within.{Within, AllWithin}
use Rattle.c_recut.proofs.Types.{words-kinds, type-words, type-spelled}
use Rattle.c_recut.proofs.Tokens.{head-of, nil-of, one-of, split-of, between-of}
use Rattle.c_tree.specs.declared.symbol.Punctuator.TheVariants as mark
use Rattle.c_tree.specs.declared.expression.ExprKind.TheVariants as k
use Rattle.c_tree.specs.declared.expression.UnaryOp.TheVariants as sign
use Rattle.c_tree.specs.declared.expression.BinaryOp.TheVariants as op

-- ---- tokens

pub name-is : (n : List ℕ) (kind : TokenKind) → kind ≡ Word n → keyword_in n ≡ None → name_of kind ≡ Some n
name-is n kind e f = ap name_of e ∙ ap (λ o. unless_keyword o n) f

pub callee-is : (f : Callee) (kind : TokenKind) → kind ≡ left_callee f → IsFreeCallee f → callee_of kind ≡ Some f
callee-is (callee.Name n) kind e h = ap callee_of e ∙ ap (λ o. function_named (unless_keyword o n)) h.1
callee-is callee.Memset kind e h = ap callee_of e

operator-is : (o : BinaryOp) → operator (Mark (operator_text o)) ≡ Some (level_of o, o)
unfolding mark_in
operator-is op.LogicalOr = refl
operator-is op.LogicalAnd = refl
operator-is op.BitOr = refl
operator-is op.BitXor = refl
operator-is op.BitAnd = refl
operator-is op.Equal = refl
operator-is op.NotEqual = refl
operator-is op.Less = refl
operator-is op.Greater = refl
operator-is op.LessEqual = refl
operator-is op.GreaterEqual = refl
operator-is op.ShiftLeft = refl
operator-is op.ShiftRight = refl
operator-is op.Add = refl
operator-is op.Subtract = refl

pub prefix-is : (u : UnaryOp) → prefix (Mark (sign_text u)) ≡ Some u
unfolding mark_in
prefix-is sign.Plus = refl
prefix-is sign.Minus = refl
prefix-is sign.Complement = refl
prefix-is sign.Not = refl

pub record Marks : Type 0 where
  pub open_is : mark_of (Mark (codes "(")) ≡ Some mark.OpenParen
  pub close_is : mark_of (Mark (codes ")")) ≡ Some mark.CloseParen
  pub open_square : mark_of (Mark (codes "[")) ≡ Some mark.OpenBracket
  pub close_square : mark_of (Mark (codes "]")) ≡ Some mark.CloseBracket
  pub open_brace : mark_of (Mark (codes "{")) ≡ Some mark.OpenBrace
  pub close_brace : mark_of (Mark (codes "}")) ≡ Some mark.CloseBrace
  pub arrow_is : mark_of (Mark (codes "->")) ≡ Some mark.Arrow
  pub comma_is : mark_of (Mark (codes ",")) ≡ Some mark.Comma
  pub semicolon_is : mark_of (Mark (codes ";")) ≡ Some mark.Semicolon
  pub colon_is : mark_of (Mark (codes ":")) ≡ Some mark.Colon
  pub star_is : mark_of (Mark (codes "*")) ≡ Some mark.Star
  pub equal_is : mark_of (Mark (codes "=")) ≡ Some mark.Equal

pub marks : Marks
unfolding mark_in
marks = record { open_is = refl; close_is = refl; open_square = refl; close_square = refl; open_brace = refl; close_brace = refl; arrow_is = refl; comma_is = refl; semicolon_is = refl; colon_is = refl; star_is = refl; equal_is = refl }

pub mark-is : (kind m : TokenKind) (p : _) → kind ≡ m → mark_of m ≡ Some p → mark_of kind ≡ Some p
mark-is kind m p e f = ap mark_of e ∙ f

-- ---- the law

pub record CutsAs (room bound : ℕ) (ts : List Token) (t : Tree) : Type 0 where
  pub tree : Expr
  pub is : bare_expression tree ≡ t
  pub part : IsPart room bound ts tree

pub record ArgsAs (room : ℕ) (ts : List Token) (us : Trees) : Type 0 where
  pub trees : List Expr
  pub is : bare_all trees ≡ us
  pub args : AreArgs room ts trees

at-bound : (room bound : ℕ) (ts us : List Token) (t : Tree) (e : Expr) → bound ≤ 9 → ts ≡ us → bare_expression e ≡ t → IsPart room 9 us e → CutsAs room bound ts t
at-bound room bound ts us t e le same is part = record { tree = e; is = is; part = weaker room 9 bound ts e le (subst (λ xs. IsPart room 9 xs e) (sym same) part) }

less : (room : ℕ) → room ≡ suc room - 1
less room = omega arith

level-le : (o : BinaryOp) → level_of o ≤ 8
level-le op.LogicalOr = omega arith
level-le op.LogicalAnd = omega arith
level-le op.BitOr = omega arith
level-le op.BitXor = omega arith
level-le op.BitAnd = omega arith
level-le op.Equal = omega arith
level-le op.NotEqual = omega arith
level-le op.Less = omega arith
level-le op.Greater = omega arith
level-le op.LessEqual = omega arith
level-le op.GreaterEqual = omega arith
level-le op.ShiftLeft = omega arith
level-le op.ShiftRight = omega arith
level-le op.Add = omega arith
level-le op.Subtract = omega arith

pub record InnerAs (room : ℕ) (ts : List Token) (us : Trees) : Type 0 where
  pub trees : List Expr
  pub is : bare_all trees ≡ us
  pub inner : IsInner room ts trees

-- what stands behind an argument: a comma and others, or nothing
record RestAs (room : ℕ) (ts : List Token) (us : Trees) : Type 0 where
  with : (bound : ℕ) (p : List Token) (t : Tree) → CutsAs room bound p t → ArgsAs room (p ++ ts) (more t us)

none-behind : (room bound : ℕ) (p ts : List Token) (t : Tree) → CutsAs room bound p t → ts ≡ [] → ArgsAs room (p ++ ts) (more t none)
none-behind room bound p ts t x e = record {
  trees = x.tree ∷ [];
  is = ap (λ u. more u none) x.is;
  args = subst (λ xs. AreArgs room xs (x.tree ∷ [])) (sym (ap (λ xs. p ++ xs) e ∙ append-nil p)) (one-arg room bound p x.tree x.part);
}

more-behind : (room bound : ℕ) (p : List Token) (t : Tree) → CutsAs room bound p t → (c : Token) → mark_of c.kind ≡ Some mark.Comma → (q : List Token) (us : Trees) → ArgsAs room q us → (ts : List Token) → ts ≡ c ∷ q → ArgsAs room (p ++ ts) (more t us)
more-behind room bound p t x c is q us all ts e = record {
  trees = x.tree ∷ all.trees;
  is = λ i. more (x.is i) (all.is i);
  args = subst (λ xs. AreArgs room xs (x.tree ∷ all.trees)) (sym (ap (λ xs. p ++ xs) e)) (more-args room bound c p q x.tree all.trees is x.part all.args);
}

mutual
  pub cut-tree : (room bound : ℕ) (t : Tree) (ts : List Token) → bound ≤ 9 → Fits bound t → Within room t → kinds_of ts ≡ tokens_of left t → CutsAs room bound ts t
  cut-tree room bound (constant c) ts le h w e =
      let a = head-of (Number c) [] ts e in
      at-bound room bound ts (a.first ∷ []) (constant c) (node a.first.place (k.Constant c)) le (one-of (Number c) ts a) (bare-constant a.first.place c) (constant-part room a.first c a.first_kind)
  cut-tree room bound (name n) ts le h w e =
      let a = head-of (Word n) [] ts e in
      at-bound room bound ts (a.first ∷ []) (name n) (node a.first.place (k.Name n)) le (one-of (Word n) ts a) (bare-name a.first.place n) (name-part room a.first n (name-is n a.first.kind a.first_kind h.1))
  cut-tree room bound null ts le h w e =
      let a = head-of Null [] ts e in
      at-bound room bound ts (a.first ∷ []) null (node a.first.place k.Null) le (one-of Null ts a) (bare-null a.first.place) (null-part room a.first a.first_kind)
  cut-tree room bound (member base field) ts le h w e =
      let a = head-of (Word base) (Mark (codes "->") ∷ Word field ∷ []) ts e in
      let b = head-of (Mark (codes "->")) (Word field ∷ []) a.rest a.rest_kinds in
      let c = head-of (Word field) [] b.rest b.rest_kinds in
      at-bound room bound ts (a.first ∷ b.first ∷ c.first ∷ []) (member base field) (node a.first.place (k.Member base field)) le
      (a.is ∙ ap (λ xs. a.first ∷ xs) (b.is ∙ ap (λ xs. b.first ∷ xs) (one-of (Word field) b.rest c))) (bare-member a.first.place base field)
      (member-part room a.first b.first c.first base field (name-is base a.first.kind a.first_kind h.0.1) (mark-is b.first.kind _ mark.Arrow b.first_kind marks.arrow_is) (name-is field c.first.kind c.first_kind h.1.1))
  cut-tree zero bound (element base i) ts le h w e = absurd w
  cut-tree (suc room) bound (element base i) ts le h w e =
      let a = head-of (Word base) (Mark (codes "[") ∷ (tokens_of left i ++ Mark (codes "]") ∷ [])) ts e in
      let b = between-of (Mark (codes "[")) (tokens_of left i) (Mark (codes "]")) [] a.rest a.rest_kinds in
      let x = cut-tree room 0 i b.inner (omega arith) h.1 w b.inner_kinds in
      at-bound (suc room) bound ts (a.first ∷ b.first ∷ (b.inner ++ b.last ∷ [])) (element base i) (node a.first.place (k.Element base x.tree)) le
      (a.is ∙ ap (λ xs. a.first ∷ xs) (b.is ∙ ap (λ xs. b.first ∷ (b.inner ++ b.last ∷ xs)) (nil-of b.rest b.rest_kinds)))
      (bare-element a.first.place base x.tree ∙ ap (element base) x.is)
      (element-part (suc room) 0 a.first b.first b.last base b.inner x.tree (name-is base a.first.kind a.first_kind h.0.1) (mark-is b.first.kind _ mark.OpenBracket b.first_kind marks.open_square)
      (mark-is b.last.kind _ mark.CloseBracket b.last_kind marks.close_square) (suc-not-zero room) (subst (λ r. IsPart r 0 b.inner x.tree) (less room) x.part))
  cut-tree zero bound (call f us) ts le h w e = absurd w
  cut-tree (suc room) bound (call f us) ts le h w e =
      let a = head-of (left_callee f) (Mark (codes "(") ∷ (all_tokens left true us ++ Mark (codes ")") ∷ [])) ts e in
      let b = between-of (Mark (codes "(")) (all_tokens left true us) (Mark (codes ")")) [] a.rest a.rest_kinds in
      let x = cut-inner room us b.inner h.1 w b.inner_kinds in
      at-bound (suc room) bound ts (a.first ∷ b.first ∷ (b.inner ++ b.last ∷ [])) (call f us) (node a.first.place (k.Call f x.trees)) le
      (a.is ∙ ap (λ xs. a.first ∷ xs) (b.is ∙ ap (λ xs. b.first ∷ (b.inner ++ b.last ∷ xs)) (nil-of b.rest b.rest_kinds)))
      (bare-call a.first.place f x.trees ∙ ap (call f) x.is)
      (called-part (suc room) a.first b.first b.last f b.inner x.trees (callee-is f a.first.kind a.first_kind h.0) (mark-is b.first.kind _ mark.OpenParen b.first_kind marks.open_is)
      (mark-is b.last.kind _ mark.CloseParen b.last_kind marks.close_is) (suc-not-zero room) (subst (λ r. IsInner r b.inner x.trees) (less room) x.inner))
  cut-tree room bound (unary u t) ts le h w e =
      let a = head-of (Mark (sign_text u)) (tokens_of left t) ts e in
      let x = cut-tree room 9 t a.rest (omega arith) h.1 w a.rest_kinds in
      at-bound room bound ts (a.first ∷ a.rest) (unary u t) (node a.first.place (k.Unary u x.tree)) le a.is (bare-unary a.first.place u x.tree ∙ ap (unary u) x.is)
      (signed room a.first u a.rest x.tree (ap prefix a.first_kind ∙ prefix-is u) x.part)
  cut-tree zero bound (cast to t) ts le h w e = absurd w
  cut-tree (suc room) bound (cast to t) ts le h w e =
      let b = between-of (Mark (codes "(")) (left_type to) (Mark (codes ")")) (tokens_of left t) ts e in
      let x = cut-tree (suc room) 9 t b.rest (omega arith) h.1 w b.rest_kinds in
      at-bound (suc room) bound ts (b.first ∷ (b.inner ++ b.last ∷ b.rest)) (cast to t) (node b.first.place (k.Cast to x.tree)) le b.is (bare-cast b.first.place to x.tree ∙ ap (cast to) x.is)
      (cast-part (suc room) b.first b.last b.inner b.rest to x.tree (mark-is b.first.kind _ mark.OpenParen b.first_kind marks.open_is) (mark-is b.last.kind _ mark.CloseParen b.last_kind marks.close_is)
      (words-kinds b.inner (left_type to) b.inner_kinds (type-words to)) (ap spelled_of b.inner_kinds ∙ type-spelled to) (suc-not-zero room) x.part)
  cut-tree room bound (binary o l r) ts le h w e =
      let s = split-of (tokens_of left l) (Mark (operator_text o) ∷ tokens_of left r) ts e in
      let a = head-of (Mark (operator_text o)) (tokens_of left r) s.right s.right_kinds in
      let below = level-le o in
      let x = cut-tree room (level_of o) l s.left (omega (arith, below)) h.1 w.0 s.left_kinds in
      let y = cut-tree room (level_of o + 1) r a.rest (omega (arith, below)) h.2 w.1 a.rest_kinds in
      let made = node a.first.place (k.Binary o x.tree y.tree) in
      let whole = joined room (level_of o) o a.first s.left a.rest x.tree y.tree (ap operator a.first_kind ∙ operator-is o) x.part y.part in
      record {
        tree = made;
        is = bare-binary a.first.place o x.tree y.tree ∙ (λ i. binary o (x.is i) (y.is i));
        part = weaker room (level_of o) bound ts made h.0 (subst (λ xs. IsPart room (level_of o) xs made) (sym (s.is ∙ ap (λ xs. s.left ++ xs) a.is)) whole);
      }
  cut-tree zero bound (bracket t) ts le h w e = absurd w
  cut-tree (suc room) bound (bracket t) ts le h w e =
      let b = between-of (Mark (codes "(")) (tokens_of left t) (Mark (codes ")")) [] ts e in
      let x = cut-tree room 0 t b.inner (omega arith) h w b.inner_kinds in
      at-bound (suc room) bound ts (b.first ∷ (b.inner ++ b.last ∷ [])) (bracket t) (node b.first.place (k.Bracket x.tree)) le
      (b.is ∙ ap (λ xs. b.first ∷ (b.inner ++ b.last ∷ xs)) (nil-of b.rest b.rest_kinds)) (bare-bracket b.first.place x.tree ∙ ap bracket x.is)
      (bracketed (suc room) 0 b.first b.last b.inner x.tree (mark-is b.first.kind _ mark.OpenParen b.first_kind marks.open_is) (mark-is b.last.kind _ mark.CloseParen b.last_kind marks.close_is) (suc-not-zero room)
      (subst (λ r. IsPart r 0 b.inner x.tree) (less room) x.part))

  pub cut-inner : (room : ℕ) (us : Trees) (ts : List Token) → FitAll us → AllWithin room us → kinds_of ts ≡ all_tokens left true us → InnerAs room ts us
  cut-inner room none ts h w e = record { trees = []; is = refl; inner = subst (λ xs. IsInner room xs []) (sym (nil-of ts e)) (inner-none room) }
  cut-inner room (more t us) ts h w e =
      let s = split-of (tokens_of left t) (all_tokens left false us) ts e in
      let x = cut-tree room 0 t s.left (omega arith) h.0 w.0 s.left_kinds in
      let r = cut-args room us s.right h.1 w.1 s.right_kinds in
      let all = r.with 0 s.left t x in
      record { trees = all.trees; is = all.is; inner = inner-some room ts all.trees (subst (λ xs. AreArgs room xs all.trees) (sym s.is) all.args) }

  cut-args : (room : ℕ) (us : Trees) (ts : List Token) → FitAll us → AllWithin room us → kinds_of ts ≡ all_tokens left false us → RestAs room ts us
  cut-args room none ts h w e = record { with = λ bound p t x. none-behind room bound p ts t x (nil-of ts e) }
  cut-args room (more t us) ts h w e =
      let c = head-of (Mark (codes ",")) (tokens_of left t ++ all_tokens left false us) ts e in
      let s = split-of (tokens_of left t) (all_tokens left false us) c.rest c.rest_kinds in
      let x = cut-tree room 0 t s.left (omega arith) h.0 w.0 s.left_kinds in
      let r = cut-args room us s.right h.1 w.1 s.right_kinds in
      let all = r.with 0 s.left t x in
      record { with = λ bound p u y. more-behind room bound p u y c.first (mark-is c.first.kind _ mark.Comma c.first_kind marks.comma_is) (s.left ++ s.right) (more t us) all ts (c.is ∙ ap (λ xs. c.first ∷ xs) s.is) }
