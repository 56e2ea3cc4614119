-- The tokens of prototypes and definitions of functions are cut into the functions.
use Rattle.std.proofs.Common.{◌≡◌, ℕ, zero, suc, ◌+◌, ◌-◌, ◌==◌, ◌<◌, Bool, true, false, cond, List, [], ◌∷◌, ◌++◌, length, take, drop, map, Option, Some, None, Ok, refl, sym, ap, ◌∙◌, arith, append_assoc, add-one, length-append}
use Rattle.std.specs.Prelude.{codes}
use Rattle.std.specs.List.{AllByRecursion}
use Rattle.std.proofs.Math.Seq.{take-append_seam, drop-append_seam, drop-append-add}
use Rattle.c_text.specs.declared.place.Place.{Place}
use Rattle.c_text.specs.declared.token.Token.{Token}
use Rattle.c_text.specs.declared.token.TokenKind.{TokenKind}
use Rattle.c_text.specs.declared.token.TokenKind.TheVariants.{Word, Mark}
use Rattle.c_tree.specs.declared.symbol.Bracket.{Bracket}
use Rattle.c_tree.specs.declared.symbol.Bracket.TheVariants.{Brace}
use Rattle.c_tree.specs.declared.statement.Stmt.{Stmt}
use Rattle.c_tree.specs.declared.item.CType.{CType}
use Rattle.c_tree.specs.declared.item.CType.TheVariants.{Void, Integer, Pointer}
use Rattle.c_tree.specs.declared.item.Field.{Field}
use Rattle.c_tree.specs.declared.item.Item.{Item}
use Rattle.cg_out.specs.Words.{◌>>=◌, counted}
use Rattle.c_tree.specs.Symbol.{keyword_of, mark_of, is_semicolon_mark}
use Rattle.c_tree.specs.Brackets.{opens, closes, mark_opens, mark_closes, depth_by, depth_after, closing_from}
use Rattle.c_tree.specs.declared.symbol.TheConstants.{MOST_OPEN}
use Rattle.c_tree.specs.TypeName.{kinds_of, front_type}
use Rattle.c_tree.specs.ExpressionCut.{Closed, closed_in, closed, inside}
use Rattle.c_tree.specs.StatementCut.{is_void, is_void_key, statements}
use Rattle.c_tree.specs.Sequence.{place_at}
use Rattle.c_tree.specs.TokenRun.{depth_over, IsClosed}
use Rattle.c_tree.specs.ParameterCut.{parameters}
use Rattle.c_tree.specs.FunctionCut.{body_tail, semicolon_tail, tail_of, function, with_tail, with_parameters, with_name, with_returns, returns_integer, returns_by, function_of, maybe_static, function_item, function_at, FunctionHead as Heading}
use Rattle.c_tree.specs.UnitCut.{ends_item, item_end, item_by}
use Rattle.c_tree.specs.BareStatement.{Actions}
use Rattle.c_tree.specs.BareUnit.{BareHead, bare_field, bare_body, bare_item}
use Rattle.c_tree.proofs.ExpressionTokens.{closing-rest}
use Rattle.c_parts.proofs.ExpressionParts.{close-at, closed-is, over-one, round-closes, unlevelled-mark}
use Rattle.c_parts.proofs.StatementParts.{brace-closes}
use Rattle.c_printed.specs.Spelling.{left_type, left}
use Rattle.c_printed.specs.PrintedStatement.{actions_tokens}
use Rattle.c_printed.specs.PrintedItem.{named_tokens, all_params_tokens, static_tokens, head_tokens, body_tokens}
use Rattle.c_printed.specs.PrintableItem.{IsReturned, IsHead, FitsBody}
use Rattle.c_printed.specs.Within.{BodyWithin}
use Rattle.c_recut.proofs.Tokens.{head-of, nil-of, one-of, between-of}
use Rattle.c_recut.proofs.CutExpression.{name-is, marks, mark-is}
use Rattle.c_recut.proofs.CutSimple.{keys}
use Rattle.c_recut.proofs.Types.{type-first, free_key, typed-of}
use Rattle.c_recut.proofs.CutStatement.{cut-actions}
use Rattle.c_recut.proofs.CutItem.{Calm, word-calm, type-calm, not-static, not-struct-item, ItemAs, cut-params}
use Rattle.c_tree.specs.declared.symbol.Punctuator.TheVariants as mark
use Rattle.c_tree.specs.BareUnit as u

-- ---- where an item ends

item-over : (at d : ℕ) (xs ys : List Token) → closing_from at d xs ≡ None → item_end at d (xs ++ ys) ≡ item_end (at + length xs) (depth_over d xs) ys
item-over at d [] ys e = let z : at ≡ at + 0 = omega arith in ap (λ n. item_end n d ys) z
item-over at d (x ∷ xs) ys e =
    let c = closing-rest at d x xs e in
    let z : at + 1 + length xs ≡ at + length (x ∷ xs) = omega arith in
    ap (λ b. cond b (Some at) (item_end (at + 1) (depth_after x.kind d) (xs ++ ys))) (not-end (depth_after x.kind d) (closes x.kind) x.kind c.0)
    ∙ item-over (at + 1) (depth_after x.kind d) xs ys c.1 ∙ ap (λ n. item_end n (depth_over (depth_after x.kind d) xs) ys) z
  where
    not-end : (n : ℕ) (b : Option Bracket) (k : TokenKind) → n == 0 ≡ false → ends_item n b k ≡ false
    not-end zero b k e = cc
    not-end (suc n) b k e = refl

calm-end : (at : ℕ) (xs ys : List Token) (ks : List TokenKind) → kinds_of xs ≡ ks → AllByRecursion Calm ks → item_end at 0 (xs ++ ys) ≡ item_end (at + length xs) 0 ys
calm-end at [] ys ks e h = let z : at ≡ at + 0 = omega arith in ap (λ n. item_end n 0 ys) z
calm-end at (x ∷ xs) ys [] e h = cc
calm-end at (x ∷ xs) ys (k ∷ ks) e h =
    let same : x.kind ≡ k = cc in
    let rest : kinds_of xs ≡ ks = cc in
    let z : at + 1 + length xs ≡ at + length (x ∷ xs) = omega arith in
    ap (λ l. cond (ends_item (depth_after l 0) (closes l) l) (Some at) (item_end (at + 1) (depth_after l 0) (xs ++ ys))) same
    ∙ ap (λ d. cond (ends_item d (closes k) k) (Some at) (item_end (at + 1) d (xs ++ ys))) (h.0.flat 0)
    ∙ ap (λ b. cond (ends_item 0 b k) (Some at) (item_end (at + 1) 0 (xs ++ ys))) h.0.no_close
    ∙ ap (λ b. cond b (Some at) (item_end (at + 1) 0 (xs ++ ys))) h.0.no_semicolon
    ∙ calm-end (at + 1) xs ys ks rest h.1 ∙ ap (λ n. item_end n 0 ys) z

-- parameters in brackets
round-end : (at : ℕ) (o c : Token) (ps ys : List Token) → mark_of o.kind ≡ Some mark.OpenParen → mark_of c.kind ≡ Some mark.CloseParen → IsClosed ps → item_end at 0 (o ∷ (ps ++ c ∷ ys)) ≡ item_end (at + 1 + length ps + 1) 0 ys
round-end at o c ps ys eo ec h =
    ap (λ m. cond (ends_item (depth_by (mark_opens m) (mark_closes m) 0) (mark_closes m) o.kind) (Some at) (item_end (at + 1) (depth_by (mark_opens m) (mark_closes m) 0) (ps ++ c ∷ ys))) eo
    ∙ item-over (at + 1) 1 ps (c ∷ ys) (h.inside (at + 1)) ∙ ap (λ d. item_end (at + 1 + length ps) d (c ∷ ys)) (over-one ps h)
    ∙ ap (λ m. cond (ends_item (depth_by (mark_opens m) (mark_closes m) 1) (mark_closes m) c.kind) (Some (at + 1 + length ps)) (item_end (at + 1 + length ps + 1) (depth_by (mark_opens m) (mark_closes m) 1) ys)) ec
    ∙ ap (λ m. cond (is_semicolon_mark m) (Some (at + 1 + length ps)) (item_end (at + 1 + length ps + 1) 0 ys)) ec

semicolon-end : (at : ℕ) (z : Token) (ys : List Token) → mark_of z.kind ≡ Some mark.Semicolon → item_end at 0 (z ∷ ys) ≡ Some at
semicolon-end at z ys e =
    ap (λ m. cond (ends_item (depth_by (mark_opens m) (mark_closes m) 0) (mark_closes m) z.kind) (Some at) (item_end (at + 1) (depth_by (mark_opens m) (mark_closes m) 0) ys)) e
    ∙ ap (λ m. cond (is_semicolon_mark m) (Some at) (item_end (at + 1) 0 ys)) e

brace-end : (at : ℕ) (o c : Token) (b ys : List Token) → mark_of o.kind ≡ Some mark.OpenBrace → mark_of c.kind ≡ Some mark.CloseBrace → IsClosed b → item_end at 0 (o ∷ (b ++ c ∷ ys)) ≡ Some (at + 1 + length b)
brace-end at o c b ys eo ec h =
    ap (λ m. cond (ends_item (depth_by (mark_opens m) (mark_closes m) 0) (mark_closes m) o.kind) (Some at) (item_end (at + 1) (depth_by (mark_opens m) (mark_closes m) 0) (b ++ c ∷ ys))) eo
    ∙ item-over (at + 1) 1 b (c ∷ ys) (h.inside (at + 1)) ∙ ap (λ d. item_end (at + 1 + length b) d (c ∷ ys)) (over-one b h)
    ∙ ap (λ m. cond (ends_item (depth_by (mark_opens m) (mark_closes m) 1) (mark_closes m) c.kind) (Some (at + 1 + length b)) (item_end (at + 1 + length b + 1) (depth_by (mark_opens m) (mark_closes m) 1) ys)) ec

-- ---- what stands behind the parameters

record TailAs (body : Option Actions) (ts : List Token) : Type 0 where
  list : Option (List Stmt)
  close : Place
  is : bare_body list ≡ body
  ends : (at : ℕ) (ys : List Token) → item_end at 0 (ts ++ ys) ≡ Some (at + length ts - 1)
  some : (n : ℕ) × (length ts ≡ suc n)
  made : (first : Place) (h : Heading) (c : Closed) (ps : List Field) → parameters c ≡ Ok ps → with_tail first h c (tail_of ts) ≡ Ok (function h ps list close)

tail-body : (b : Token) (ts : List Token) (c : Token) → tail_of (b ∷ (ts ++ c ∷ [])) ≡ body_tail (opens b.kind) b.place (closed (ts ++ c ∷ []))
tail-body b [] c = refl
tail-body b (t ∷ ts) c = refl

cut-tail : (body : Option Actions) (ts : List Token) → FitsBody body → BodyWithin body → kinds_of ts ≡ body_tokens left body → TailAs body ts
cut-tail None ts h w e =
    let z = head-of (Mark (codes ";")) [] ts e in
    let one = one-of (Mark (codes ";")) ts z in
    let is = mark-is z.first.kind _ mark.Semicolon z.first_kind marks.semicolon_is in
    record {
      list = None;
      close = z.first.place;
      is = refl;
      ends = λ at ys. let n : at ≡ at + length (z.first ∷ []) - 1 = omega arith in ap (λ us. item_end at 0 (us ++ ys)) one ∙ semicolon-end at z.first ys is ∙ ap Some n ∙ ap (λ us. Some (at + length us - 1)) (sym one);
      some = (0, ap length one);
      made = λ first h c ps p. ap (λ us. with_tail first h c (tail_of us)) one ∙ ap (λ m. with_tail first h c (semicolon_tail (is_semicolon_mark m) z.first.place)) is ∙ ap (λ r. r >>= (λ qs. Ok (function h qs None z.first.place))) p;
    }
cut-tail (Some list) ts h w e =
    let b = between-of (Mark (codes "{")) (actions_tokens left list) (Mark (codes "}")) [] ts e in
    let x = cut-actions false 63 list b.inner h w b.inner_kinds in
    let open_is = mark-is b.first.kind _ mark.OpenBrace b.first_kind marks.open_brace in
    let close_is = mark-is b.last.kind _ mark.CloseBrace b.last_kind marks.close_brace in
    let whole : ts ≡ b.first ∷ (b.inner ++ b.last ∷ []) = b.is ∙ ap (λ us. b.first ∷ (b.inner ++ b.last ∷ us)) (nil-of b.rest b.rest_kinds) in
    let count : length (b.inner ++ b.last ∷ []) ≡ length b.inner + 1 = length-append b.inner (b.last ∷ []) in
    record {
      list = Some x.statements;
      close = b.last.place;
      is = ap (λ (y : Actions). Some y) x.is;
      ends = λ at ys.
          let n : at + 1 + length b.inner ≡ at + length (b.first ∷ (b.inner ++ b.last ∷ [])) - 1 = omega (arith, count) in
          ap (λ us. item_end at 0 (us ++ ys)) whole ∙ ap (λ us. item_end at 0 (b.first ∷ us)) (append_assoc b.inner (b.last ∷ []) ys)
          ∙ brace-end at b.first b.last b.inner ys open_is close_is x.all.closed ∙ ap Some n ∙ ap (λ us. Some (at + length us - 1)) (sym whole);
      some = (length (b.inner ++ b.last ∷ []), ap length whole);
      made = λ first h c ps p.
          ap (λ us. with_tail first h c (tail_of us)) whole ∙ ap (with_tail first h c) (tail-body b.first b.inner b.last)
          ∙ ap (λ m. with_tail first h c (body_tail (mark_opens m) b.first.place (closed (b.inner ++ b.last ∷ [])))) open_is
          ∙ ap (λ d. with_tail first h c (body_tail (Some Brace) b.first.place d)) (closed-is b.last b.inner (brace-closes b.last.kind close_is) (unlevelled-mark b.last.kind mark.CloseBrace close_is refl) x.all.closed)
          ∙ ap (λ r. r >>= (λ qs. inside MOST_OPEN b.first.place (λ r. statements r b.inner b.last.place) >>= λ ss. Ok (function h qs (Some ss) b.last.place))) p
          ∙ ap (λ r. r >>= (λ ss. Ok (function h ps (Some ss) b.last.place))) (x.all.given b.last.place);
    }

-- ---- from the name on

record RestAs (h : BareHead) (body : Option Actions) (ts : List Token) : Type 0 where
  name_place : Place
  params : List Field
  list : Option (List Stmt)
  close : Place
  params_are : map bare_field params ≡ h.params
  body_is : bare_body list ≡ body
  made : (first : Place) (returns : CType) → with_returns first h.fixed returns ts ≡ Ok (function (record { fixed = h.fixed; returns = returns; name = h.name; place = name_place }) params list close)
  ends : (at : ℕ) (ys : List Token) → item_end at 0 (ts ++ ys) ≡ Some (at + length ts - 1)

abbrev rest_tokens : BareHead → Option Actions → List TokenKind
rest_tokens h body = Word h.name ∷ Mark (codes "(") ∷ (all_params_tokens left h.params ++ Mark (codes ")") ∷ body_tokens left body)

cut-rest : (h : BareHead) (body : Option Actions) (ts : List Token) → IsHead h → FitsBody body → BodyWithin body → kinds_of ts ≡ rest_tokens h body → RestAs h body ts
cut-rest h body ts is fits w e =
    let n = head-of (Word h.name) (Mark (codes "(") ∷ (all_params_tokens left h.params ++ Mark (codes ")") ∷ body_tokens left body)) ts e in
    let b = between-of (Mark (codes "(")) (all_params_tokens left h.params) (Mark (codes ")")) (body_tokens left body) n.rest n.rest_kinds in
    let x = cut-params h.params b.inner is.params b.inner_kinds in
    let t = cut-tail body b.rest fits w b.rest_kinds in
    let open_is = mark-is b.first.kind _ mark.OpenParen b.first_kind marks.open_is in
    let close_is = mark-is b.last.kind _ mark.CloseParen b.last_kind marks.close_is in
    let inner = b.inner ++ b.last ∷ b.rest in
    let whole : ts ≡ n.first ∷ b.first ∷ inner = n.is ∙ ap (λ us. n.first ∷ us) b.is in
    record {
      name_place = n.first.place;
      params = x.list;
      list = t.list;
      close = t.close;
      params_are = x.is;
      body_is = t.is;
      made = λ first returns.
          let heading : Heading = record { fixed = h.fixed; returns = returns; name = h.name; place = n.first.place } in
          ap (with_returns first h.fixed returns) whole
          ∙ ap (λ o. with_name first h.fixed returns o n.first.place (opens b.first.kind) inner) (name-is h.name n.first.kind n.first_kind is.name.1)
          ∙ ap (λ m. with_name first h.fixed returns (Some h.name) n.first.place (mark_opens m) inner) open_is
          ∙ ap (λ i. with_parameters first heading i inner) (close-at b.last b.inner b.rest (round-closes b.last.kind close_is) (unlevelled-mark b.last.kind mark.CloseParen close_is refl) x.closed)
          ∙ ap (λ us. with_tail first heading (closed_in (take (length b.inner) inner) (place_at us first)) (tail_of (drop (length b.inner + 1) inner))) (drop-append_seam b.inner (b.last ∷ b.rest))
          ∙ ap (λ us. with_tail first heading (closed_in us b.last.place) (tail_of (drop (length b.inner + 1) inner))) (take-append_seam b.inner (b.last ∷ b.rest))
          ∙ ap (λ us. with_tail first heading (closed_in b.inner b.last.place) (tail_of us)) (drop-append-add b.inner (b.last ∷ b.rest) 1)
          ∙ t.made first heading (closed_in b.inner b.last.place) x.list (x.given b.last.place);
      ends = λ at ys.
          let count : at + 1 + 1 + length b.inner + 1 + length b.rest - 1 ≡ at + length (n.first ∷ b.first ∷ inner) - 1 = omega (arith, length-append b.inner (b.last ∷ b.rest)) in
          ap (λ us. item_end at 0 (us ++ ys)) whole
          ∙ calm-end at (n.first ∷ []) (b.first ∷ (inner ++ ys)) (Word h.name ∷ []) (ap (λ k. k ∷ []) n.first_kind) (word-calm h.name, tt)
          ∙ ap (λ us. item_end (at + 1) 0 (b.first ∷ us)) (append_assoc b.inner (b.last ∷ b.rest) ys)
          ∙ round-end (at + 1) b.first b.last b.inner (b.rest ++ ys) open_is close_is x.closed
          ∙ t.ends (at + 1 + 1 + length b.inner + 1) ys ∙ ap Some count ∙ ap (λ us. Some (at + length us - 1)) (sym whole);
    }

-- ---- with the type before the name

record TypedAs (h : BareHead) (body : Option Actions) (ts : List Token) : Type 0 where
  name_place : Place
  params : List Field
  list : Option (List Stmt)
  close : Place
  params_are : map bare_field params ≡ h.params
  body_is : bare_body list ≡ body
  first : Token
  others : List Token
  is : ts ≡ first ∷ others
  key_is : free_key (keyword_of first.kind) ≡ true
  made : (place : Place) → function_of place h.fixed ts ≡ Ok (function (record { fixed = h.fixed; returns = h.returns; name = h.name; place = name_place }) params list close)
  ends : (at : ℕ) (ys : List Token) → item_end at 0 (ts ++ ys) ≡ Some (at + length ts - 1)

length-rest : (xs ys : List Token) (at : ℕ) → 0 < length ys → at + length xs + length ys - 1 ≡ at + length (xs ++ ys) - 1
length-rest xs ys at h = omega (arith, length-append xs ys)

cut-typed : (t : CType) (h : BareHead) (body : Option Actions) (ts : List Token) → h.returns ≡ t → IsReturned t → IsHead h → FitsBody body → BodyWithin body → kinds_of ts ≡ named_tokens left t h.name ++ Mark (codes "(") ∷ (all_params_tokens left h.params ++ Mark (codes ")") ∷ body_tokens left body)
    → TypedAs h body ts
cut-typed Void h body ts same i is fits w e =
    let x = head-of (Word (codes "void")) (rest_tokens h body) ts e in
    let r = cut-rest h body x.rest is fits w x.rest_kinds in
    let key_void = ap keyword_of x.first_kind ∙ keys.void_is in
    record {
      name_place = r.name_place;
      params = r.params;
      list = r.list;
      close = r.close;
      params_are = r.params_are;
      body_is = r.body_is;
      first = x.first;
      others = x.rest;
      is = x.is;
      key_is = ap free_key key_void;
      made = λ place.
          ap (function_of place h.fixed) x.is ∙ ap (λ w. returns_by (is_void_key w) place h.fixed x.first x.rest) key_void ∙ r.made place Void
          ∙ ap (λ t. Ok (function (record { fixed = h.fixed; returns = t; name = h.name; place = r.name_place }) r.params r.list r.close)) (sym same);
      ends = λ at ys.
          let count : at + 1 + length x.rest - 1 ≡ at + length (x.first ∷ x.rest) - 1 = omega arith in
          ap (λ us. item_end at 0 (us ++ ys)) x.is
          ∙ calm-end at (x.first ∷ []) (x.rest ++ ys) (Word (codes "void") ∷ []) (ap (λ k. k ∷ []) x.first_kind) (word-calm _, tt)
          ∙ r.ends (at + 1) ys ∙ ap Some count ∙ ap (λ us. Some (at + length us - 1)) (sym x.is);
    }
cut-typed (Integer s) h body ts same i is fits w e =
    let behind = Mark (codes "(") ∷ (all_params_tokens left h.params ++ Mark (codes ")") ∷ body_tokens left body) in
    let e1 : kinds_of ts ≡ left_type s ++ rest_tokens h body = e ∙ append_assoc (left_type s) (Word h.name ∷ []) behind in
    let t = typed-of s (Word h.name) behind ts e1 is.name.1 in
    let r = cut-rest h body t.rest is fits w t.rest_kinds in
    let f = type-first s in
    let x = head-of f.kind (f.rest ++ rest_tokens h body) ts (e1 ∙ ap (λ ks. ks ++ rest_tokens h body) f.is) in
    let some : 0 < length t.rest = more t.rest behind t.rest_kinds in
    record {
      name_place = r.name_place;
      params = r.params;
      list = r.list;
      close = r.close;
      params_are = r.params_are;
      body_is = r.body_is;
      first = x.first;
      others = x.rest;
      is = x.is;
      key_is = ap (λ k. free_key (keyword_of k)) x.first_kind ∙ f.free;
      made = λ place.
          ap (function_of place h.fixed) x.is ∙ ap (λ b. returns_by b place h.fixed x.first x.rest) (ap is_void x.first_kind ∙ f.no_void)
          ∙ ap (λ us. returns_integer place h.fixed (front_type us) us) (sym x.is) ∙ ap (λ y. returns_integer place h.fixed y ts) t.front
          ∙ ap (with_returns place h.fixed (Integer s)) t.behind ∙ r.made place (Integer s)
          ∙ ap (λ u. Ok (function (record { fixed = h.fixed; returns = u; name = h.name; place = r.name_place }) r.params r.list r.close)) (sym same);
      ends = λ at ys.
          ap (λ us. item_end at 0 (us ++ ys)) t.is ∙ ap (item_end at 0) (append_assoc t.words t.rest ys)
          ∙ calm-end at t.words (t.rest ++ ys) (left_type s) t.words_kinds (type-calm s) ∙ r.ends (at + length t.words) ys
          ∙ ap Some (length-rest t.words t.rest at some) ∙ ap (λ us. Some (at + length us - 1)) (sym t.is);
    }
  where
    more : (us : List Token) (ks : List TokenKind) → kinds_of us ≡ Word h.name ∷ ks → 0 < length us
    more [] ks e = cc
    more (u ∷ us) ks e = omega arith
cut-typed (Pointer to c) h body ts same i is fits w e = absurd i

-- ---- the whole

head-is : (h : BareHead) (params : List Field) (list : Option (List Stmt)) (place close : Place) (body : Option Actions) → map bare_field params ≡ h.params → bare_body list ≡ body
    → bare_item (function (record { fixed = h.fixed; returns = h.returns; name = h.name; place = place }) params list close) ≡ u.function h body
head-is h params list place close body e f = λ i. u.function (record { fixed = h.fixed; returns = h.returns; name = h.name; params = e i }) (f i)

-- an item that is read to its end
ended : (first : Token) (others ts : List Token) (got : Item) → ts ≡ first ∷ others → ((at : ℕ) (ys : List Token) → item_end at 0 (ts ++ ys) ≡ Some (at + length ts - 1)) → function_item first.place (first ∷ others) ≡ Ok got
    → (rest : List Token) → function_at (item_end 0 0 (first ∷ (others ++ rest))) first (others ++ rest) ≡ Ok (got, length others)
ended first others ts got is ends made rest =
    let at : 0 + length (first ∷ others) - 1 ≡ length others = omega arith in
    ap (λ i. function_at i first (others ++ rest)) (ap (λ us. item_end 0 0 (us ++ rest)) (sym is) ∙ ends 0 rest ∙ ap (λ us. Some (0 + length us - 1)) is ∙ ap Some at)
    ∙ ap (λ n. counted (length others) (function_item first.place (take n (first ∷ (others ++ rest))))) (add-one (length others))
    ∙ ap (λ us. counted (length others) (function_item first.place us)) (take-append_seam (first ∷ others) rest)
    ∙ ap (λ r. counted (length others) r) made

cut-fixed : (b : Bool) (h : BareHead) (body : Option Actions) (ts : List Token) → h.fixed ≡ b → IsHead h → FitsBody body → BodyWithin body
    → kinds_of ts ≡ static_tokens b ++ (named_tokens left h.returns h.name ++ Mark (codes "(") ∷ (all_params_tokens left h.params ++ Mark (codes ")") ∷ body_tokens left body)) → ItemAs ts (u.function h body)
cut-fixed true h body ts same is fits w e =
    let s = head-of (Word (codes "static")) _ ts e in
    let x = cut-typed h.returns h body s.rest refl is.returns is fits w s.rest_kinds in
    let key_static = ap keyword_of s.first_kind ∙ keys.static_is in
    let got = function (record { fixed = h.fixed; returns = h.returns; name = h.name; place = x.name_place }) x.params x.list x.close in
    let ends : (at : ℕ) (ys : List Token) → item_end at 0 (ts ++ ys) ≡ Some (at + length ts - 1) = λ at ys.
    let count : at + 1 + length s.rest - 1 ≡ at + length (s.first ∷ s.rest) - 1 = omega arith in
    ap (λ us. item_end at 0 (us ++ ys)) s.is
    ∙ calm-end at (s.first ∷ []) (s.rest ++ ys) (Word (codes "static") ∷ []) (ap (λ k. k ∷ []) s.first_kind) (word-calm _, tt)
    ∙ x.ends (at + 1) ys ∙ ap Some count ∙ ap (λ us. Some (at + length us - 1)) (sym s.is) in
    let made : function_item s.first.place (s.first ∷ s.rest) ≡ Ok got =
    ap (λ w. maybe_static w s.first s.rest) key_static ∙ ap (λ b. function_of s.first.place b s.rest) (sym same) ∙ x.made s.first.place in
    record {
      item = got;
      is = head-is h x.params x.list x.name_place x.close body x.params_are x.body_is;
      first = s.first;
      others = s.rest;
      whole = s.is;
      reads = λ rest. ap (λ w. item_by w s.first (s.rest ++ rest)) key_static ∙ ended s.first s.rest ts got s.is ends made rest;
    }
cut-fixed false h body ts same is fits w e =
    let x = cut-typed h.returns h body ts refl is.returns is fits w e in
    let got = function (record { fixed = h.fixed; returns = h.returns; name = h.name; place = x.name_place }) x.params x.list x.close in
    let made : function_item x.first.place (x.first ∷ x.others) ≡ Ok got =
    not-static (keyword_of x.first.kind) x.first x.others x.key_is ∙ ap (λ us. function_of x.first.place false us) (sym x.is) ∙ ap (λ b. function_of x.first.place b ts) (sym same) ∙ x.made x.first.place in
    record {
      item = got;
      is = head-is h x.params x.list x.name_place x.close body x.params_are x.body_is;
      first = x.first;
      others = x.others;
      whole = x.is;
      reads = λ rest. not-struct-item (keyword_of x.first.kind) x.first (x.others ++ rest) x.key_is ∙ ended x.first x.others ts got x.is x.ends made rest;
    }

-- a prototype or a definition
pub cut-function : (h : BareHead) (body : Option Actions) (ts : List Token) → IsHead h → FitsBody body → BodyWithin body → kinds_of ts ≡ head_tokens left h ++ body_tokens left body → ItemAs ts (u.function h body)
cut-function h body ts is fits w e =
    let named = named_tokens left h.returns h.name in
    let params = all_params_tokens left h.params in
    cut-fixed h.fixed h body ts refl is fits w
    (e ∙ append_assoc (static_tokens h.fixed) (named ++ Mark (codes "(") ∷ (params ++ Mark (codes ")") ∷ [])) (body_tokens left body)
    ∙ ap (λ ks. static_tokens h.fixed ++ ks) (append_assoc named (Mark (codes "(") ∷ (params ++ Mark (codes ")") ∷ [])) (body_tokens left body)
    ∙ ap (λ ks. named ++ Mark (codes "(") ∷ ks) (append_assoc params (Mark (codes ")") ∷ []) (body_tokens left body))))
