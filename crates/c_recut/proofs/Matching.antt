-- The brackets in the tokens of a unit match.
use Rattle.std.proofs.Common.{◌≡◌, ℕ, ◌+◌, Bool, true, false, cond, List, [], ◌∷◌, ◌++◌, length, Option, Some, None, refl, sym, ap, ◌∙◌, arith, append_assoc, append-nil, length-append}
use Rattle.std.specs.Prelude.{codes}
use Rattle.std.specs.List.{AllByRecursion}
use Rattle.c_text.specs.declared.token.Token.{Token}
use Rattle.c_text.specs.declared.token.TokenKind.{TokenKind}
use Rattle.c_text.specs.declared.token.TokenKind.TheVariants.{Word, Constant as Number, Mark, Null}
use Rattle.c_text.specs.declared.token.Spelled.{Spelled}
use Rattle.c_text.specs.declared.token.Spelled.TheVariants.{Exact}
use Rattle.c_tree.specs.declared.symbol.Bracket.{Bracket}
use Rattle.c_tree.specs.declared.symbol.Bracket.TheVariants.{Round, Square, Brace}
use Rattle.c_tree.specs.declared.expression.Callee.{Callee}
use Rattle.c_tree.specs.declared.expression.Callee.TheVariants as callee
use Rattle.c_tree.specs.declared.expression.UnaryOp.{UnaryOp}
use Rattle.c_tree.specs.declared.expression.BinaryOp.{BinaryOp}
use Rattle.c_tree.specs.declared.statement.AssignOp.{AssignOp}
use Rattle.c_tree.specs.declared.item.CType.{CType}
use Rattle.c_tree.specs.declared.item.CType.TheVariants.{Void, Integer, Pointer}
use Rattle.c_tree.specs.declared.item.Target.{Target}
use Rattle.c_tree.specs.declared.item.Target.TheVariants.{Byte, Struct}
use Rattle.c_tree.specs.Symbol.{mark_in}
use Rattle.c_tree.specs.Brackets.{opens, closes, same_bracket, Open, within, walk_by, mismatch, deep_from, unfit, syntax, bracket_fault, fault_of}
use Rattle.c_tree.specs.TypeName.{kinds_of}
use Rattle.c_tree.specs.BareExpression.{Tree, Trees, constant, name, null, member, element, call, unary, cast, binary, bracket, none, more}
use Rattle.c_tree.specs.BareStatement.{Action, Actions, Parts, declare, assign, discard, empty, block, when, choose, return, break, switch, no_more, then, done, label, statement}
use Rattle.c_tree.specs.BareStatement as a
use Rattle.c_tree.specs.BareUnit.{BareField, BareHead, BareItem, struct, function}
use Rattle.c_printed.specs.Spelling.{sign_text, operator_text, assign_text, left_type, left_callee, left}
use Rattle.c_printed.specs.PrintedExpression.{comma, tokens_of, all_tokens}
use Rattle.c_printed.specs.PrintedStatement.{value_tokens, result_tokens, label_tokens, action_tokens, actions_tokens, parts_tokens}
use Rattle.c_printed.specs.PrintedItem.{const_tokens, target_tokens, named_tokens, fields_tokens, params_tokens, all_params_tokens, static_tokens, head_tokens, body_tokens, item_tokens}
use Rattle.c_printed.proofs.UnitReading.{items_tokens}
use Rattle.c_recut.proofs.Types.{type-all}
use Rattle.c_recut.proofs.Tokens.{head-of, nil-of, split-of}
use Rattle.c_tree.specs.declared.expression.UnaryOp.TheVariants as sign
use Rattle.c_tree.specs.declared.expression.BinaryOp.TheVariants as op
use Rattle.c_tree.specs.declared.statement.AssignOp.TheVariants as set

-- ---- tokens with brackets that match

record Matched (ks : List TokenKind) : Type 0 where
  walks : (ts : List Token) → kinds_of ts ≡ ks → (at : ℕ) (os : List Open) (rest : List Token) → mismatch at (within os) (ts ++ rest) ≡ mismatch (at + length ts) (within os) rest

m-none : Matched []
m-none = record {
  walks = λ ts e at os rest. let z : at ≡ at + 0 = omega arith in ap (λ us. mismatch at (within os) (us ++ rest)) (nil-of ts e) ∙ ap (λ n. mismatch n (within os) rest) z ∙ ap (λ us. mismatch (at + length us) (within os) rest) (sym (nil-of ts e));
}

abbrev IsFlat : TokenKind → Type 0
IsFlat k = (opens k ≡ None) × (closes k ≡ None)

m-flat : (k : TokenKind) (ks : List TokenKind) → IsFlat k → Matched ks → Matched (k ∷ ks)
m-flat k ks f m = record {
  walks = λ ts e at os rest.
      let t = head-of k ks ts e in
      let n : at + 1 + length t.rest ≡ at + length (t.first ∷ t.rest) = omega arith in
      ap (λ us. mismatch at (within os) (us ++ rest)) t.is
      ∙ ap (λ l. mismatch (at + 1) (walk_by (opens l) (closes l) at t.first.place os) (t.rest ++ rest)) t.first_kind
      ∙ (λ i. mismatch (at + 1) (walk_by (f.0 i) (f.1 i) at t.first.place os) (t.rest ++ rest))
      ∙ m.walks t.rest t.rest_kinds (at + 1) os rest ∙ ap (λ x. mismatch x (within os) rest) n ∙ ap (λ us. mismatch (at + length us) (within os) rest) (sym t.is);
}

m-row : (ks ls : List TokenKind) → Matched ks → Matched ls → Matched (ks ++ ls)
m-row ks ls m n = record {
  walks = λ ts e at os rest.
      let s = split-of ks ls ts e in
      let z : at + length s.left + length s.right ≡ at + length (s.left ++ s.right) = omega (arith, length-append s.left s.right) in
      ap (λ us. mismatch at (within os) (us ++ rest)) s.is ∙ ap (mismatch at (within os)) (append_assoc s.left s.right rest)
      ∙ m.walks s.left s.left_kinds at os (s.right ++ rest) ∙ n.walks s.right s.right_kinds (at + length s.left) os rest ∙ ap (λ x. mismatch x (within os) rest) z ∙ ap (λ us. mismatch (at + length us) (within os) rest) (sym s.is);
}

-- two brackets that belong together
record Pair (o c : TokenKind) : Type 0 where
  kind : Bracket
  o_opens : opens o ≡ Some kind
  c_opens : opens c ≡ None
  c_closes : closes c ≡ Some kind
  same : same_bracket kind kind ≡ true

m-closing : (o c : TokenKind) (ks ls : List TokenKind) → Pair o c → Matched ks → Matched ls → Matched (o ∷ (ks ++ c ∷ ls))
m-closing o c ks ls p m n = record {
  walks = λ ts e at os rest.
      let t = head-of o (ks ++ c ∷ ls) ts e in
      let s = split-of ks (c ∷ ls) t.rest t.rest_kinds in
      let z = head-of c ls s.right s.right_kinds in
      let whole : ts ≡ t.first ∷ (s.left ++ z.first ∷ z.rest) = t.is ∙ ap (λ us. t.first ∷ us) (s.is ∙ ap (λ us. s.left ++ us) z.is) in
      let now : List Open = record { bracket = p.kind; at = at; place = t.first.place } ∷ os in
      let there = at + 1 + length s.left in
      let x : there + 1 + length z.rest ≡ at + length (t.first ∷ (s.left ++ z.first ∷ z.rest)) = omega (arith, length-append s.left (z.first ∷ z.rest)) in
      ap (λ us. mismatch at (within os) (us ++ rest)) whole
      ∙ ap (λ q. mismatch (at + 1) (walk_by q (closes t.first.kind) at t.first.place os) ((s.left ++ z.first ∷ z.rest) ++ rest)) (ap opens t.first_kind ∙ p.o_opens)
      ∙ ap (mismatch (at + 1) (within now)) (append_assoc s.left (z.first ∷ z.rest) rest)
      ∙ m.walks s.left s.left_kinds (at + 1) now (z.first ∷ (z.rest ++ rest))
      ∙ ap (λ q. mismatch (there + 1) (walk_by q (closes z.first.kind) there z.first.place now) (z.rest ++ rest)) (ap opens z.first_kind ∙ p.c_opens)
      ∙ ap (λ q. mismatch (there + 1) (walk_by None q there z.first.place now) (z.rest ++ rest)) (ap closes z.first_kind ∙ p.c_closes)
      ∙ ap (λ b. mismatch (there + 1) (cond b (within os) (unfit (record { at = there; refusal = syntax z.first.place }))) (z.rest ++ rest)) p.same
      ∙ n.walks z.rest z.rest_kinds (there + 1) os rest ∙ ap (λ y. mismatch y (within os) rest) x ∙ ap (λ us. mismatch (at + length us) (within os) rest) (sym whole);
}

-- ---- the punctuators

record Pairs : Type 0 where
  round : Pair (Mark (codes "(")) (Mark (codes ")"))
  square : Pair (Mark (codes "[")) (Mark (codes "]"))
  brace : Pair (Mark (codes "{")) (Mark (codes "}"))
  f_arrow : IsFlat (Mark (codes "->"))
  f_comma : IsFlat (Mark (codes ","))
  f_semicolon : IsFlat (Mark (codes ";"))
  f_colon : IsFlat (Mark (codes ":"))
  f_equal : IsFlat (Mark (codes "="))
  f_star : IsFlat (Mark (codes "*"))

pairs : Pairs
unfolding mark_in
pairs = record {
  round = record { kind = Round; o_opens = refl; c_opens = refl; c_closes = refl; same = refl };
  square = record { kind = Square; o_opens = refl; c_opens = refl; c_closes = refl; same = refl };
  brace = record { kind = Brace; o_opens = refl; c_opens = refl; c_closes = refl; same = refl };
  f_arrow = (refl, refl);
  f_comma = (refl, refl);
  f_semicolon = (refl, refl);
  f_colon = (refl, refl);
  f_equal = (refl, refl);
  f_star = (refl, refl);
}

operator-flat : (o : BinaryOp) → IsFlat (Mark (operator_text o))
unfolding mark_in
operator-flat op.LogicalOr = (refl, refl)
operator-flat op.LogicalAnd = (refl, refl)
operator-flat op.BitOr = (refl, refl)
operator-flat op.BitXor = (refl, refl)
operator-flat op.BitAnd = (refl, refl)
operator-flat op.Equal = (refl, refl)
operator-flat op.NotEqual = (refl, refl)
operator-flat op.Less = (refl, refl)
operator-flat op.Greater = (refl, refl)
operator-flat op.LessEqual = (refl, refl)
operator-flat op.GreaterEqual = (refl, refl)
operator-flat op.ShiftLeft = (refl, refl)
operator-flat op.ShiftRight = (refl, refl)
operator-flat op.Add = (refl, refl)
operator-flat op.Subtract = (refl, refl)

sign-flat : (u : UnaryOp) → IsFlat (Mark (sign_text u))
unfolding mark_in
sign-flat sign.Plus = (refl, refl)
sign-flat sign.Minus = (refl, refl)
sign-flat sign.Complement = (refl, refl)
sign-flat sign.Not = (refl, refl)

assign-flat : (o : AssignOp) → IsFlat (Mark (assign_text o))
unfolding mark_in
assign-flat set.Set = (refl, refl)
assign-flat set.BitOr = (refl, refl)
assign-flat set.BitAnd = (refl, refl)
assign-flat set.BitXor = (refl, refl)
assign-flat set.Add = (refl, refl)
assign-flat set.Subtract = (refl, refl)
assign-flat set.ShiftLeft = (refl, refl)
assign-flat set.ShiftRight = (refl, refl)

word : (w : List ℕ) (ks : List TokenKind) → Matched ks → Matched (Word w ∷ ks)
word w ks m = m-flat (Word w) ks (refl, refl) m

m-flats : (ks : List TokenKind) → AllByRecursion IsFlat ks → Matched ks
m-flats [] h = m-none
m-flats (k ∷ ks) h = m-flat k ks h.0 (m-flats ks h.1)

m-type : (s : Spelled) → Matched (left_type s)
m-type s = m-flats (left_type s) (type-all IsFlat (λ w. (refl, refl)) (λ u. (refl, refl)) s)

callee-flat : (f : Callee) → IsFlat (left_callee f)
callee-flat (callee.Name n) = (refl, refl)
callee-flat callee.Memset = (refl, refl)

m-comma : (b : Bool) → Matched (comma b)
m-comma true = m-none
m-comma false = m-flat _ [] pairs.f_comma m-none

-- ---- expressions

mutual
  m-tree : (t : Tree) → Matched (tokens_of left t)
  m-tree (constant c) = m-flat (Number c) [] (refl, refl) m-none
  m-tree (name n) = word n [] m-none
  m-tree null = m-flat Null [] (refl, refl) m-none
  m-tree (member base field) = word base _ (m-flat _ _ pairs.f_arrow (word field [] m-none))
  m-tree (element base i) = word base _ (m-closing _ _ (tokens_of left i) [] pairs.square (m-tree i) m-none)
  m-tree (call f ts) = m-flat (left_callee f) _ (callee-flat f) (m-closing _ _ (all_tokens left true ts) [] pairs.round (m-trees true ts) m-none)
  m-tree (unary u x) = m-flat _ _ (sign-flat u) (m-tree x)
  m-tree (cast to x) = m-closing _ _ (left_type to) (tokens_of left x) pairs.round (m-type to) (m-tree x)
  m-tree (binary o l r) = m-row (tokens_of left l) _ (m-tree l) (m-flat _ _ (operator-flat o) (m-tree r))
  m-tree (bracket x) = m-closing _ _ (tokens_of left x) [] pairs.round (m-tree x) m-none

  m-trees : (first : Bool) (ts : Trees) → Matched (all_tokens left first ts)
  m-trees first none = m-none
  m-trees first (more t ts) = m-row (comma first) _ (m-comma first) (m-row (tokens_of left t) _ (m-tree t) (m-trees false ts))

-- ---- statements

m-end : Matched (Mark (codes ";") ∷ [])
m-end = m-flat _ [] pairs.f_semicolon m-none

m-value : (v : Option Tree) → Matched (value_tokens left v)
m-value None = m-none
m-value (Some t) = m-flat _ _ pairs.f_equal (m-tree t)

m-result : (v : Option Tree) → Matched (result_tokens left v)
m-result None = m-none
m-result (Some t) = m-tree t

m-label : (v : Option Tree) → Matched (label_tokens left v)
m-label None = word _ [] m-none
m-label (Some t) = word _ _ (m-tree t)

mutual
  m-action : (x : Action) → Matched (action_tokens left x)
  m-action (declare s x v) = m-row (left_type s) _ (m-type s) (word x _ (m-row (value_tokens left v) _ (m-value v) m-end))
  m-action (assign t o v) = m-row (tokens_of left t) _ (m-tree t) (m-flat _ _ (assign-flat o) (m-row (tokens_of left v) _ (m-tree v) m-end))
  m-action (a.call f ts) = m-flat (left_callee f) _ (callee-flat f) (m-closing _ _ (all_tokens left true ts) _ pairs.round (m-trees true ts) m-end)
  m-action (discard x) = m-closing _ _ (Word (codes "void") ∷ []) _ pairs.round (word _ [] m-none) (word x _ m-end)
  m-action empty = m-end
  m-action (block list) = m-closing _ _ (actions_tokens left list) [] pairs.brace (m-actions list) m-none
  m-action (when c x) = word _ _ (m-closing _ _ (tokens_of left c) _ pairs.round (m-tree c) (m-action x))
  m-action (choose c x y) =
      word _ _ (m-closing _ _ (tokens_of left c) _ pairs.round (m-tree c) (m-row (action_tokens left x) _ (m-action x) (word _ _ (m-action y))))
  m-action (return v) = word _ _ (m-row (result_tokens left v) _ (m-result v) m-end)
  m-action break = word _ _ m-end
  m-action (switch v ps) =
      word _ _ (m-closing _ _ (tokens_of left v) _ pairs.round (m-tree v) (m-closing _ _ (parts_tokens left ps) [] pairs.brace (m-parts ps) m-none))

  m-actions : (list : Actions) → Matched (actions_tokens left list)
  m-actions no_more = m-none
  m-actions (then x rest) = m-row (action_tokens left x) _ (m-action x) (m-actions rest)

  m-parts : (ps : Parts) → Matched (parts_tokens left ps)
  m-parts done = m-none
  m-parts (label v ps) = m-row (label_tokens left v) _ (m-label v) (m-flat _ _ pairs.f_colon (m-parts ps))
  m-parts (statement x ps) = m-row (action_tokens left x) _ (m-action x) (m-parts ps)

-- ---- items

m-const : (c : Bool) → Matched (const_tokens c)
m-const true = word _ [] m-none
m-const false = m-none

m-static : (c : Bool) → Matched (static_tokens c)
m-static true = word _ [] m-none
m-static false = m-none

m-target : (t : Target) → Matched (target_tokens left t)
m-target Byte = m-type (Exact 8 false)
m-target (Struct tag) = word _ _ (word tag [] m-none)

m-named : (t : CType) (n : List ℕ) → Matched (named_tokens left t n)
m-named Void n = word _ _ (word n [] m-none)
m-named (Integer s) n = m-row (left_type s) _ (m-type s) (word n [] m-none)
m-named (Pointer to c) n = m-row (const_tokens c) _ (m-const c) (m-row (target_tokens left to) _ (m-target to) (m-flat _ _ pairs.f_star (word n [] m-none)))

m-fields : (fs : List BareField) → Matched (fields_tokens left fs)
m-fields [] = m-none
m-fields (f ∷ fs) = m-row (named_tokens left f.kind f.name) _ (m-named f.kind f.name) (m-flat _ _ pairs.f_semicolon (m-fields fs))

m-params : (first : Bool) (ps : List BareField) → Matched (params_tokens left first ps)
m-params first [] = m-none
m-params first (p ∷ ps) = m-row (comma first) _ (m-comma first) (m-row (named_tokens left p.kind p.name) _ (m-named p.kind p.name) (m-params false ps))

m-all-params : (ps : List BareField) → Matched (all_params_tokens left ps)
m-all-params [] = word _ [] m-none
m-all-params (p ∷ ps) = m-params true (p ∷ ps)

m-head : (h : BareHead) → Matched (head_tokens left h)
m-head h =
    m-row (static_tokens h.fixed) _ (m-static h.fixed)
    (m-row (named_tokens left h.returns h.name) _ (m-named h.returns h.name) (m-closing _ _ (all_params_tokens left h.params) [] pairs.round (m-all-params h.params) m-none))

m-body : (body : Option Actions) → Matched (body_tokens left body)
m-body None = m-end
m-body (Some list) = m-closing _ _ (actions_tokens left list) [] pairs.brace (m-actions list) m-none

m-item : (i : BareItem) → Matched (item_tokens left i)
m-item (struct tag fs) = word _ _ (word tag _ (m-closing _ _ (fields_tokens left fs) _ pairs.brace (m-fields fs) m-end))
m-item (function h body) = m-row (head_tokens left h) (body_tokens left body) (m-head h) (m-body body)

m-items : (is : List BareItem) → Matched (items_tokens is)
m-items [] = m-none
m-items (i ∷ is) = m-row (item_tokens left i) (items_tokens is) (m-item i) (m-items is)

-- the brackets match in the tokens of items
pub no-fault : (is : List BareItem) (ts : List Token) → kinds_of ts ≡ items_tokens is → bracket_fault ts ≡ None
unfolding bracket_fault
no-fault is ts e =
    ap (λ f. fault_of f (deep_from 0 0 ts)) (ap (mismatch 0 (within [])) (sym (append-nil ts)) ∙ (m-items is).walks ts e 0 [] [])
