-- The tokens of a struct are cut into the struct, and those of parameters into the parameters.
use Rattle.std.proofs.Common.{◌≡◌, ℕ, ◌+◌, ◌==◌, Bool, true, false, cond, ◌||◌, List, [], ◌∷◌, ◌++◌, length, take, map, Option, Some, None, Result, Ok, refl, sym, ap, subst, ◌∙◌, arith, append_assoc, append-nil, length-append}
use Rattle.std.specs.Prelude.{codes, ◌&&◌}
use Rattle.std.specs.List.{AllByRecursion}
use Rattle.std.proofs.Math.Seq.{take-append_seam, drop-append_seam}
use Rattle.c_text.specs.declared.place.Place.{Place}
use Rattle.c_text.specs.declared.token.Token.{Token}
use Rattle.c_text.specs.declared.token.TokenKind.{TokenKind}
use Rattle.c_text.specs.declared.token.TokenKind.TheVariants.{Word, Mark, TypeName}
use Rattle.c_text.specs.declared.token.Spelled.{Spelled}
use Rattle.c_text.specs.declared.token.Spelled.TheVariants.{Exact}
use Rattle.c_tree.specs.declared.symbol.Bracket.TheVariants.{Brace}
use Rattle.c_tree.specs.declared.symbol.Keyword.{Keyword}
use Rattle.c_tree.specs.declared.item.CType.{CType}
use Rattle.c_tree.specs.declared.item.CType.TheVariants.{Void, Integer, Pointer}
use Rattle.c_tree.specs.declared.item.Target.{Target}
use Rattle.c_tree.specs.declared.item.Target.TheVariants.{Byte, Struct}
use Rattle.c_tree.specs.declared.item.Field.{Field}
use Rattle.c_tree.specs.declared.item.Item.{Item}
use Rattle.c_text.specs.Refusal.{Refusal}
use Rattle.c_tree.specs.Sequence.{Reading, all_read, place_at}
use Rattle.cg_out.specs.Words.{◌>>=◌, counted}
use Rattle.c_tree.specs.Symbol.{keyword_in, keyword_of, mark_in, mark_of, is_semicolon, is_semicolon_mark, is_star, is_star_mark, is_comma}
use Rattle.c_tree.specs.Brackets.{opens, closes, mark_opens, mark_closes, depth_by, depth_after, closing_from, first_outside}
use Rattle.c_tree.specs.TypeName.{kinds_of}
use Rattle.c_tree.specs.ExpressionCut.{closed_in, closed, parts}
use Rattle.c_tree.specs.StatementCut.{is_void, is_void_key}
use Rattle.c_tree.specs.TokenRun.{has_comma, IsClosed}
use Rattle.c_tree.specs.DeclarationCut.{field, named_by, declared_as, integer_by, integer}
use Rattle.c_tree.specs.StructCut.{struct_field, field_at, each_field, fields_in, struct_item, struct_of, struct_at}
use Rattle.c_tree.specs.ParameterCut.{is_byte, pointer_by, pointer, struct_pointer_by, struct_pointer, byte_pointer, is_byte_pointer, parameter_by, parameter_of, maybe_const, parameter, each_parameter, unless_void, is_void_alone, parameters}
use Rattle.c_tree.specs.FunctionCut.{function_of, maybe_static, function_at}
use Rattle.c_tree.specs.UnitCut.{item_end, item_by, each_item}
use Rattle.c_tree.specs.BareUnit.{BareField, BareItem, bare_field, bare_item}
use Rattle.c_tree.proofs.ExpressionTokens.{closing-rest}
use Rattle.c_parts.proofs.ExpressionParts.{closed-none, closed-flat, closed-append, closed-is, over-one, around-closed, unlevelled-mark, parts-seam, parts-one}
use Rattle.c_parts.proofs.StatementParts.{skip-over, first_outside-append, first_outside-at, brace-opens, brace-closes}
use Rattle.c_printed.specs.Spelling.{left_type, left}
use Rattle.c_printed.specs.PrintedItem.{const_tokens, target_tokens, named_tokens, fields_tokens, struct_tokens, params_tokens, all_params_tokens}
use Rattle.c_printed.specs.PrintableItem.{IsTarget, IsParameterType, IsParameter, IsIntegerType}
use Rattle.c_printed.specs.Printable.{IsFree}
use Rattle.c_printed.proofs.UnitFits.{IsMember, IsSomeMember}
use Rattle.c_printed.proofs.SmallLaws.{and-false, every-append}
use Rattle.c_recut.proofs.Tokens.{head-of, nil-of, one-of, split-of, between-of, every-is}
use Rattle.c_recut.proofs.Types.{type-all, type-first, free_key, typed-of}
use Rattle.c_recut.proofs.Quiet.{NoSemicolon, none-outside}
use Rattle.c_recut.proofs.CutExpression.{name-is, marks, mark-is}
use Rattle.c_recut.proofs.CutSimple.{keys, keyword-flat}
use Rattle.c_tree.specs.declared.symbol.Keyword.TheVariants as key
use Rattle.c_tree.specs.declared.symbol.Punctuator.TheVariants as mark
use Rattle.c_tree.specs.declared.item.Item.TheVariants as item
use Rattle.c_tree.specs.BareUnit as u

-- ---- one part at the front, and those behind it

pub all-one : {A : Type 0} (r : Reading A) (x : Token) (others q : List Token) (v : A) (vs : List A) → r x (others ++ q) ≡ Ok (v, length others) → all_read r 0 q ≡ Ok vs → all_read r 0 (x ∷ (others ++ q)) ≡ Ok (v ∷ vs)
all-one r x others q v vs e f = ap (λ got. got >>= λ y. all_read r y.1 (others ++ q) >>= λ ys. Ok (y.0 ∷ ys)) e ∙ ap (λ got. got >>= λ ys. Ok (v ∷ ys)) (skip-over r others q ∙ f)

-- ---- flat tokens

-- flat, no comma and no semicolon
pub record Calm (k : TokenKind) : Type 0 where
  pub flat : (d : ℕ) → depth_after k d ≡ d
  pub no_comma : is_comma k ≡ false
  pub no_semicolon : is_semicolon k ≡ false
  pub no_close : closes k ≡ None

pub word-calm : (w : List ℕ) → Calm (Word w)
word-calm w = record { flat = λ d. refl; no_comma = refl; no_semicolon = refl; no_close = refl }

star-calm : Calm (Mark (codes "*"))
unfolding mark_in
star-calm = record { flat = λ d. refl; no_comma = refl; no_semicolon = refl; no_close = refl }

pub type-calm : (s : Spelled) → AllByRecursion Calm (left_type s)
type-calm s = type-all Calm word-calm (λ u. record { flat = λ d. refl; no_comma = refl; no_semicolon = refl; no_close = refl }) s

const-calm : (c : Bool) → AllByRecursion Calm (const_tokens c)
const-calm true = (word-calm _, tt)
const-calm false = tt

target-calm : (t : Target) → AllByRecursion Calm (target_tokens left t)
target-calm Byte = type-calm (Exact 8 false)
target-calm (Struct tag) = (word-calm _, (word-calm _, tt))

named-calm : (t : CType) (n : List ℕ) → AllByRecursion Calm (named_tokens left t n)
named-calm Void n = (word-calm _, (word-calm _, tt))
named-calm (Integer s) n = every-append Calm (left_type s) (Word n ∷ []) (type-calm s) (word-calm n, tt)
named-calm (Pointer to c) n = every-append Calm (const_tokens c) _ (const-calm c) (every-append Calm (target_tokens left to) _ (target-calm to) (star-calm, (word-calm n, tt)))

calm-closed : (ts : List Token) (ks : List TokenKind) → kinds_of ts ≡ ks → AllByRecursion Calm ks → IsClosed ts
calm-closed ts [] e h = subst IsClosed (sym (nil-of ts e)) closed-none
calm-closed ts (k ∷ ks) e h =
    let f = head-of k ks ts e in
    subst IsClosed (sym f.is) (closed-flat f.first f.rest (λ d. ap (λ x. depth_after x d) f.first_kind ∙ h.0.flat d) (calm-closed f.rest ks f.rest_kinds h.1))

calm-comma : (d : ℕ) (ts : List Token) (ks : List TokenKind) → kinds_of ts ≡ ks → AllByRecursion Calm ks → has_comma d ts ≡ false
calm-comma d [] ks e h = refl
calm-comma d (t ∷ ts) [] e h = cc
calm-comma d (t ∷ ts) (k ∷ ks) e h =
    let same : t.kind ≡ k = cc in
    let rest : kinds_of ts ≡ ks = cc in
    ap (λ b. (d == 0 && b) || has_comma (depth_after t.kind d) ts) (ap is_comma same ∙ h.0.no_comma) ∙ ap (λ b. b || has_comma (depth_after t.kind d) ts) (and-false (d == 0)) ∙ calm-comma (depth_after t.kind d) ts ks rest h.1

-- ---- fields

pub record FieldAs (t : CType) (n : List ℕ) (got : Result Field Refusal) : Type 0 where
  pub place : Place
  pub is : got ≡ Ok (field t n place)

named-at : (first : Place) (t : CType) (n : List ℕ) (ts : List Token) → keyword_in n ≡ None → kinds_of ts ≡ Word n ∷ [] → FieldAs t n (declared_as first t ts)
named-at first t n ts h e =
    let x = head-of (Word n) [] ts e in
    record { place = x.first.place; is = ap (declared_as first t) (one-of (Word n) ts x) ∙ ap (λ o. named_by first t o x.first.place) (name-is n x.first.kind x.first_kind h) }

integer-at : (first : Place) (s : Spelled) (n : List ℕ) (ts : List Token) → keyword_in n ≡ None → kinds_of ts ≡ left_type s ++ Word n ∷ [] → FieldAs (Integer s) n (integer first ts)
integer-at first s n ts h e =
    let t = typed-of s (Word n) [] ts e h in
    let r = named-at first (Integer s) n t.rest h t.rest_kinds in
    record { place = r.place; is = ap (λ f. integer_by first f ts) t.front ∙ ap (declared_as first (Integer s)) t.behind ∙ r.is }

pub record FieldsAs (ts : List Token) (fs : List BareField) : Type 0 where
  pub list : List Field
  pub is : map bare_field list ≡ fs
  pub given : all_read each_field 0 ts ≡ Ok list
  pub closed : IsClosed ts

struct-field : (s : Spelled) (n : List ℕ) (ts : List Token) (after : Place) → keyword_in n ≡ None → kinds_of ts ≡ left_type s ++ Word n ∷ [] → FieldAs (Integer s) n (struct_field (ts, after))
struct-field s n [] after h e = empty (left_type s) e
  where
    empty : (ks : List TokenKind) → [] ≡ ks ++ Word n ∷ [] → FieldAs (Integer s) n (struct_field ([], after))
    empty [] e = cc
    empty (k ∷ ks) e = cc
struct-field s n (x ∷ xs) after h e = integer-at x.place s n (x ∷ xs) h e

-- a field and its semicolon in front
field-one : (s : Spelled) (n : List ℕ) (ps : List Token) (c : Token) (q : List Token) (fs : List BareField) → keyword_in n ≡ None → kinds_of ps ≡ left_type s ++ Word n ∷ [] → mark_of c.kind ≡ Some mark.Semicolon → FieldsAs q fs
    → FieldsAs (ps ++ c ∷ q) (record { kind = Integer s; name = n } ∷ fs)
field-one s n [] c q fs h e is more = absurd (empty (left_type s) e)
  where
    empty : (ks : List TokenKind) → [] ≡ ks ++ Word n ∷ [] → ⊥
    empty [] e = cc
    empty (k ∷ ks) e = cc
field-one s n (x ∷ xs) c q fs h e is more =
    let f = struct-field s n (x ∷ xs) c.place h e in
    let calm = named-calm (Integer s) n in
    let closed = calm-closed (x ∷ xs) _ e calm in
    let at : first_outside is_semicolon 0 0 ((x ∷ xs) ++ c ∷ q) ≡ Some (length (x ∷ xs)) = first_outside-at is_semicolon (x ∷ xs) c q closed (none-outside is_semicolon 0 0 (x ∷ xs) _ e (every-is Calm NoSemicolon (λ k c. c.no_semicolon) _ calm)) (ap is_semicolon_mark is) in
    let made = field (Integer s) n f.place in
    let count : length (x ∷ xs) ≡ length (xs ++ c ∷ []) = omega (arith, length-append xs (c ∷ [])) in
    let one : each_field x (xs ++ c ∷ q) ≡ Ok (made, length (xs ++ c ∷ [])) =
    ap (λ i. field_at i x (xs ++ c ∷ q)) at
    ∙ ap (λ us. counted (length (x ∷ xs)) (struct_field (take (length (x ∷ xs)) ((x ∷ xs) ++ c ∷ q), place_at us x.place))) (drop-append_seam (x ∷ xs) (c ∷ q))
    ∙ ap (λ us. counted (length (x ∷ xs)) (struct_field (us, c.place))) (take-append_seam (x ∷ xs) (c ∷ q))
    ∙ ap (λ r. counted (length (x ∷ xs)) r) f.is ∙ ap (λ i. Ok (made, i)) count in
    let whole : (xs ++ c ∷ []) ++ q ≡ xs ++ c ∷ q = append_assoc xs (c ∷ []) q in
    record {
      list = made ∷ more.list;
      is = ap (λ gs. record { kind = Integer s; name = n } ∷ gs) more.is;
      given = ap (λ us. all_read each_field 0 (x ∷ us)) (sym whole) ∙ all-one each_field x (xs ++ c ∷ []) q made more.list (ap (each_field x) whole ∙ one) more.given;
      closed = closed-append (x ∷ xs) (c ∷ q) closed (closed-flat c q (λ d. rw is refl) more.closed);
    }

fields-more : (t : CType) (n : List ℕ) (fs : List BareField) (ps : List Token) (c : Token) (q : List Token) → IsIntegerType t → keyword_in n ≡ None → kinds_of ps ≡ named_tokens left t n → mark_of c.kind ≡ Some mark.Semicolon → FieldsAs q fs
    → FieldsAs (ps ++ c ∷ q) (record { kind = t; name = n } ∷ fs)
fields-more (Integer s) n fs ps c q i h e is more = field-one s n ps c q fs h e is more
fields-more Void n fs ps c q i h e is more = absurd i
fields-more (Pointer to b) n fs ps c q i h e is more = absurd i

cut-fields : (fs : List BareField) (ts : List Token) → AllByRecursion IsMember fs → kinds_of ts ≡ fields_tokens left fs → FieldsAs ts fs
cut-fields [] ts h e = record { list = []; is = refl; given = ap (all_read each_field 0) (nil-of ts e); closed = subst IsClosed (sym (nil-of ts e)) closed-none }
cut-fields (f ∷ fs) ts h e =
    let p = split-of (named_tokens left f.kind f.name) (Mark (codes ";") ∷ fields_tokens left fs) ts e in
    let c = head-of (Mark (codes ";")) (fields_tokens left fs) p.right p.right_kinds in
    let more = cut-fields fs c.rest h.1 c.rest_kinds in
    subst (λ us. FieldsAs us (f ∷ fs)) (sym (p.is ∙ ap (λ us. p.left ++ us) c.is))
    (fields-more f.kind f.name fs p.left c.first c.rest h.0.0 h.0.1.1 p.left_kinds (mark-is c.first.kind _ mark.Semicolon c.first_kind marks.semicolon_is) more)

-- ---- items

pub record ItemAs (ts : List Token) (x : BareItem) : Type 0 where
  pub item : Item
  pub is : bare_item item ≡ x
  pub first : Token
  pub others : List Token
  pub whole : ts ≡ first ∷ others
  pub reads : (rest : List Token) → each_item first (others ++ rest) ≡ Ok (item, length others)

-- in brackets nothing is outside
inside-none : (p : TokenKind → Bool) (at d : ℕ) (xs : List Token) → d == 0 ≡ false → closing_from at d xs ≡ None → first_outside p at d xs ≡ None
inside-none p at d [] z e = refl
inside-none p at d (x ∷ xs) z e =
    let c = closing-rest at d x xs e in
    ap (λ b. cond (b && p x.kind) (Some at) (first_outside p (at + 1) (depth_after x.kind d) xs)) z ∙ inside-none p (at + 1) (depth_after x.kind d) xs c.0 c.1

fields-in : (ts : List Token) (after : Place) (k : TokenKind) (ks : List TokenKind) → kinds_of ts ≡ k ∷ ks → fields_in ts after ≡ all_read each_field 0 ts
fields-in [] after k ks e = cc
fields-in (t ∷ ts) after k ks e = refl

fields-first : (fs : List BareField) → IsSomeMember fs → AllByRecursion IsMember fs → (k : TokenKind) × (ks : List TokenKind) × (fields_tokens left fs ≡ k ∷ ks)
fields-first [] h i = absurd h
fields-first (f ∷ fs) h i = any (named_tokens left f.kind f.name) (Mark (codes ";") ∷ fields_tokens left fs)
  where
    any : (ks ls : List TokenKind) → (k : TokenKind) × (ms : List TokenKind) × (ks ++ Mark (codes ";") ∷ fields_tokens left fs ≡ k ∷ ms)
    any [] ls = (Mark (codes ";"), fields_tokens left fs, refl)
    any (k ∷ ks) ls = (k, ks ++ Mark (codes ";") ∷ fields_tokens left fs, refl)

pub cut-struct : (tag : List ℕ) (fs : List BareField) (ts : List Token) → IsFree tag → IsSomeMember fs → AllByRecursion IsMember fs → kinds_of ts ≡ struct_tokens left tag fs → ItemAs ts (u.struct tag fs)
cut-struct tag fs ts h some all e =
    let w = head-of (Word (codes "struct")) (Word tag ∷ Mark (codes "{") ∷ (fields_tokens left fs ++ Mark (codes "}") ∷ Mark (codes ";") ∷ [])) ts e in
    let n = head-of (Word tag) (Mark (codes "{") ∷ (fields_tokens left fs ++ Mark (codes "}") ∷ Mark (codes ";") ∷ [])) w.rest w.rest_kinds in
    let b = between-of (Mark (codes "{")) (fields_tokens left fs) (Mark (codes "}")) (Mark (codes ";") ∷ []) n.rest n.rest_kinds in
    let z = head-of (Mark (codes ";")) [] b.rest b.rest_kinds in
    let fields_are = cut-fields fs b.inner all b.inner_kinds in
    let open_is = mark-is b.first.kind _ mark.OpenBrace b.first_kind marks.open_brace in
    let close_is = mark-is b.last.kind _ mark.CloseBrace b.last_kind marks.close_brace in
    let end_is = mark-is z.first.kind _ mark.Semicolon z.first_kind marks.semicolon_is in
    let inner = b.inner ++ b.last ∷ [] in
    let front = n.first ∷ b.first ∷ inner in
    let one = one-of (Mark (codes ";")) b.rest z in
    let rest_is : w.rest ≡ front ++ z.first ∷ [] =
    n.is ∙ ap (λ us. n.first ∷ us) (b.is ∙ ap (λ us. b.first ∷ us) (ap (λ us. b.inner ++ b.last ∷ us) one ∙ sym (append_assoc b.inner (b.last ∷ []) (z.first ∷ [])))) in
    let made = item.Struct (record { tag = tag; fields = fields_are.list; place = n.first.place }) in
    let tag_flat : (d : ℕ) → depth_after n.first.kind d ≡ d = keyword-flat n.first.kind tag n.first_kind in
    let front_closed : IsClosed front =
    closed-flat n.first (b.first ∷ inner) tag_flat (around-closed b.first b.last b.inner [] (brace-opens b.first.kind open_is) (brace-closes b.last.kind close_is) (unlevelled-mark b.last.kind mark.CloseBrace close_is refl) fields_are.closed closed-none) in
    let quiet : first_outside is_semicolon 0 0 front ≡ None =
    ap (λ k. cond (is_semicolon k) (Some 0) (first_outside is_semicolon 1 (depth_after k 0) (b.first ∷ inner))) n.first_kind
    ∙ ap (λ m. cond (is_semicolon_mark m) (Some 1) (first_outside is_semicolon 2 (depth_by (mark_opens m) (mark_closes m) 0) inner)) open_is
    ∙ first_outside-append is_semicolon 2 1 b.inner (b.last ∷ []) (inside-none is_semicolon 2 1 b.inner refl (fields_are.closed.inside 2))
    ∙ ap (λ d. first_outside is_semicolon (2 + length b.inner) d (b.last ∷ [])) (over-one b.inner fields_are.closed) in
    let first = fields-first fs some all in
    let item_is : struct_of w.first.place front ≡ Ok made =
    ap (λ o. struct_item w.first.place o n.first.place (opens b.first.kind) (closed inner)) (name-is tag n.first.kind n.first_kind h.1)
    ∙ ap (λ m. struct_item w.first.place (Some tag) n.first.place (mark_opens m) (closed inner)) open_is
    ∙ ap (λ c. struct_item w.first.place (Some tag) n.first.place (Some Brace) c) (closed-is b.last b.inner (brace-closes b.last.kind close_is) (unlevelled-mark b.last.kind mark.CloseBrace close_is refl) fields_are.closed)
    ∙ ap (λ r. r >>= (λ gs. Ok (item.Struct (record { tag = tag; fields = gs; place = n.first.place })))) (fields-in b.inner b.last.place first.0 first.1 (b.inner_kinds ∙ first.2) ∙ fields_are.given) in
    record {
      item = made;
      is = ap (u.struct tag) fields_are.is;
      first = w.first;
      others = front ++ z.first ∷ [];
      whole = w.is ∙ ap (λ us. w.first ∷ us) rest_is;
      reads = λ rest.
          let count : length front + 1 ≡ length (front ++ z.first ∷ []) = sym (length-append front (z.first ∷ [])) in
          ap (λ k. item_by k w.first ((front ++ z.first ∷ []) ++ rest)) (ap keyword_of w.first_kind ∙ keys.struct_is)
          ∙ ap (λ us. struct_at (first_outside is_semicolon 0 0 us) w.first us) (append_assoc front (z.first ∷ []) rest)
          ∙ ap (λ i. struct_at i w.first (front ++ z.first ∷ rest)) (first_outside-at is_semicolon front z.first rest front_closed quiet (ap is_semicolon_mark end_is))
          ∙ ap (λ us. counted (length front + 1) (struct_of w.first.place us)) (take-append_seam front (z.first ∷ rest))
          ∙ ap (λ r. counted (length front + 1) r) item_is
          ∙ ap (λ i. Ok (made, i)) count;
    }

-- ---- parameters

not-const : (w : Option Keyword) (x : Token) (xs : List Token) → free_key w ≡ true → maybe_const w x xs ≡ parameter_of x.place false (x ∷ xs)
not-const None x xs h = refl
not-const (Some key.Bool) x xs h = refl
not-const (Some key.Break) x xs h = cc
not-const (Some key.Case) x xs h = refl
not-const (Some key.Char) x xs h = refl
not-const (Some key.Const) x xs h = cc
not-const (Some key.Default) x xs h = refl
not-const (Some key.Else) x xs h = refl
not-const (Some key.If) x xs h = refl
not-const (Some key.Int) x xs h = refl
not-const (Some key.Long) x xs h = refl
not-const (Some key.Return) x xs h = cc
not-const (Some key.Short) x xs h = refl
not-const (Some key.Signed) x xs h = refl
not-const (Some key.Static) x xs h = cc
not-const (Some key.Struct) x xs h = cc
not-const (Some key.Switch) x xs h = refl
not-const (Some key.Unsigned) x xs h = refl
not-const (Some key.Void) x xs h = refl
not-const (Some key.Other) x xs h = refl

not-struct : (w : Option Keyword) (first : Place) (c : Bool) (x : Token) (xs : List Token) → free_key w ≡ true → parameter_by w first c x xs ≡ byte_pointer (is_byte_pointer x xs) first c x xs
not-struct None first c x xs h = refl
not-struct (Some key.Bool) first c x xs h = refl
not-struct (Some key.Break) first c x xs h = cc
not-struct (Some key.Case) first c x xs h = refl
not-struct (Some key.Char) first c x xs h = refl
not-struct (Some key.Const) first c x xs h = cc
not-struct (Some key.Default) first c x xs h = refl
not-struct (Some key.Else) first c x xs h = refl
not-struct (Some key.If) first c x xs h = refl
not-struct (Some key.Int) first c x xs h = refl
not-struct (Some key.Long) first c x xs h = refl
not-struct (Some key.Return) first c x xs h = cc
not-struct (Some key.Short) first c x xs h = refl
not-struct (Some key.Signed) first c x xs h = refl
not-struct (Some key.Static) first c x xs h = cc
not-struct (Some key.Struct) first c x xs h = cc
not-struct (Some key.Switch) first c x xs h = refl
not-struct (Some key.Unsigned) first c x xs h = refl
not-struct (Some key.Void) first c x xs h = refl
not-struct (Some key.Other) first c x xs h = refl

pub not-static : (w : Option Keyword) (x : Token) (xs : List Token) → free_key w ≡ true → maybe_static w x xs ≡ function_of x.place false (x ∷ xs)
not-static None x xs h = refl
not-static (Some key.Bool) x xs h = refl
not-static (Some key.Break) x xs h = cc
not-static (Some key.Case) x xs h = refl
not-static (Some key.Char) x xs h = refl
not-static (Some key.Const) x xs h = cc
not-static (Some key.Default) x xs h = refl
not-static (Some key.Else) x xs h = refl
not-static (Some key.If) x xs h = refl
not-static (Some key.Int) x xs h = refl
not-static (Some key.Long) x xs h = refl
not-static (Some key.Return) x xs h = cc
not-static (Some key.Short) x xs h = refl
not-static (Some key.Signed) x xs h = refl
not-static (Some key.Static) x xs h = cc
not-static (Some key.Struct) x xs h = cc
not-static (Some key.Switch) x xs h = refl
not-static (Some key.Unsigned) x xs h = refl
not-static (Some key.Void) x xs h = refl
not-static (Some key.Other) x xs h = refl

pub not-struct-item : (w : Option Keyword) (x : Token) (xs : List Token) → free_key w ≡ true → item_by w x xs ≡ function_at (item_end 0 0 (x ∷ xs)) x xs
not-struct-item None x xs h = refl
not-struct-item (Some key.Bool) x xs h = refl
not-struct-item (Some key.Break) x xs h = cc
not-struct-item (Some key.Case) x xs h = refl
not-struct-item (Some key.Char) x xs h = refl
not-struct-item (Some key.Const) x xs h = cc
not-struct-item (Some key.Default) x xs h = refl
not-struct-item (Some key.Else) x xs h = refl
not-struct-item (Some key.If) x xs h = refl
not-struct-item (Some key.Int) x xs h = refl
not-struct-item (Some key.Long) x xs h = refl
not-struct-item (Some key.Return) x xs h = cc
not-struct-item (Some key.Short) x xs h = refl
not-struct-item (Some key.Signed) x xs h = refl
not-struct-item (Some key.Static) x xs h = cc
not-struct-item (Some key.Struct) x xs h = cc
not-struct-item (Some key.Switch) x xs h = refl
not-struct-item (Some key.Unsigned) x xs h = refl
not-struct-item (Some key.Void) x xs h = refl
not-struct-item (Some key.Other) x xs h = refl

abbrev NoStar : TokenKind → Type 0
NoStar k = is_star k ≡ false

no-byte-pointer : (x : Token) (xs : List Token) (ks : List TokenKind) → kinds_of (x ∷ xs) ≡ ks → AllByRecursion NoStar ks → is_byte_pointer x xs ≡ false
no-byte-pointer x [] ks e h = refl
no-byte-pointer x (y ∷ ys) [] e h = cc
no-byte-pointer x (y ∷ ys) (k ∷ []) e h = cc
no-byte-pointer x (y ∷ ys) (k ∷ l ∷ ks) e h = let same : y.kind ≡ l = cc in ap (λ b. is_byte x.kind && b) (ap is_star same ∙ h.1.0) ∙ and-false (is_byte x.kind)

pub record ParameterAs (p : BareField) (ts : List Token) : Type 0 where
  pub place : Place
  pub is : (after : Place) → parameter (ts, after) ≡ Ok (field p.kind p.name place)
  pub closed : IsClosed ts
  pub plain : has_comma 0 ts ≡ false

parameter-integer : (s : Spelled) (n : List ℕ) (ts : List Token) → keyword_in n ≡ None → kinds_of ts ≡ left_type s ++ Word n ∷ [] → ParameterAs (record { kind = Integer s; name = n }) ts
parameter-integer s n ts h e =
    let t = type-first s in
    let f = head-of t.kind (t.rest ++ Word n ∷ []) ts (e ∙ ap (λ ks. ks ++ Word n ∷ []) t.is) in
    let r = integer-at f.first.place s n ts h e in
    let key_is : free_key (keyword_of f.first.kind) ≡ true = ap (λ k. free_key (keyword_of k)) f.first_kind ∙ t.free in
    let pointer_is : is_byte_pointer f.first f.rest ≡ false = no-byte-pointer f.first f.rest (left_type s ++ Word n ∷ []) (ap kinds_of (sym f.is) ∙ e) (every-append NoStar (left_type s) (Word n ∷ []) (type-all NoStar (λ w. refl) (λ u. refl) s) (refl, tt)) in
    record {
      place = r.place;
      is = λ after.
          ap (λ us. parameter (us, after)) f.is ∙ not-const (keyword_of f.first.kind) f.first f.rest key_is ∙ not-struct (keyword_of f.first.kind) f.first.place false f.first f.rest key_is
          ∙ ap (λ b. byte_pointer b f.first.place false f.first f.rest) pointer_is ∙ ap (integer f.first.place) (sym f.is) ∙ r.is;
      closed = calm-closed ts _ e (named-calm (Integer s) n);
      plain = calm-comma 0 ts _ e (named-calm (Integer s) n);
    }

-- behind the words of the target
pointer-at : (first : Place) (c : Bool) (to : Target) (n : List ℕ) (ts : List Token) → keyword_in n ≡ None → kinds_of ts ≡ Mark (codes "*") ∷ Word n ∷ [] → FieldAs (Pointer to c) n (pointer first c to ts)
pointer-at first c to n ts h e =
    let s = head-of (Mark (codes "*")) (Word n ∷ []) ts e in
    let r = named-at first (Pointer to c) n s.rest h s.rest_kinds in
    record { place = r.place; is = ap (pointer first c to) s.is ∙ ap (λ m. pointer_by (is_star_mark m) first c to s.rest) (mark-is s.first.kind _ mark.Star s.first_kind marks.star_is) ∙ r.is }

target-at : (first : Place) (c : Bool) (to : Target) (n : List ℕ) (ts : List Token) → IsTarget to → keyword_in n ≡ None → kinds_of ts ≡ target_tokens left to ++ Mark (codes "*") ∷ Word n ∷ [] → FieldAs (Pointer to c) n (parameter_of first c ts)
target-at first c Byte n ts i h e =
    let x = head-of (TypeName (Exact 8 false)) (Mark (codes "*") ∷ Word n ∷ []) ts e in
    let s = head-of (Mark (codes "*")) (Word n ∷ []) x.rest x.rest_kinds in
    let r = pointer-at first c Byte n x.rest h x.rest_kinds in
    record {
      place = r.place;
      is =
          ap (parameter_of first c) x.is ∙ ap (λ k. parameter_by (keyword_of k) first c x.first x.rest) x.first_kind
          ∙ ap (λ us. byte_pointer (is_byte_pointer x.first us) first c x.first x.rest) s.is
          ∙ ap (λ k. byte_pointer (is_byte k && is_star s.first.kind) first c x.first x.rest) x.first_kind
          ∙ ap (λ m. byte_pointer (is_star_mark m) first c x.first x.rest) (mark-is s.first.kind _ mark.Star s.first_kind marks.star_is) ∙ r.is;
    }
target-at first c (Struct tag) n ts i h e =
    let x = head-of (Word (codes "struct")) (Word tag ∷ Mark (codes "*") ∷ Word n ∷ []) ts e in
    let y = head-of (Word tag) (Mark (codes "*") ∷ Word n ∷ []) x.rest x.rest_kinds in
    let r = pointer-at first c (Struct tag) n y.rest h y.rest_kinds in
    record {
      place = r.place;
      is =
          ap (parameter_of first c) x.is ∙ ap (λ w. parameter_by w first c x.first x.rest) (ap keyword_of x.first_kind ∙ keys.struct_is)
          ∙ ap (struct_pointer first c) y.is ∙ ap (λ o. struct_pointer_by o first c y.rest) (name-is tag y.first.kind y.first_kind i.1) ∙ r.is;
    }

parameter-pointer : (c : Bool) (to : Target) (n : List ℕ) (ts : List Token) → IsTarget to → keyword_in n ≡ None → kinds_of ts ≡ named_tokens left (Pointer to c) n → ParameterAs (record { kind = Pointer to c; name = n }) ts
parameter-pointer true to n ts i h e =
    let x = head-of (Word (codes "const")) (target_tokens left to ++ Mark (codes "*") ∷ Word n ∷ []) ts e in
    let r = target-at x.first.place true to n x.rest i h x.rest_kinds in
    record {
      place = r.place;
      is = λ after. ap (λ us. parameter (us, after)) x.is ∙ ap (λ w. maybe_const w x.first x.rest) (ap keyword_of x.first_kind ∙ keys.const_is) ∙ r.is;
      closed = calm-closed ts (named_tokens left (Pointer to true) n) e (named-calm (Pointer to true) n);
      plain = calm-comma 0 ts (named_tokens left (Pointer to true) n) e (named-calm (Pointer to true) n);
    }
parameter-pointer false Byte n ts i h e =
    let x = head-of (TypeName (Exact 8 false)) (Mark (codes "*") ∷ Word n ∷ []) ts e in
    let r = target-at x.first.place false Byte n ts i h e in
    record {
      place = r.place;
      is = λ after. ap (λ us. parameter (us, after)) x.is ∙ ap (λ k. maybe_const (keyword_of k) x.first x.rest) x.first_kind ∙ ap (parameter_of x.first.place false) (sym x.is) ∙ r.is;
      closed = calm-closed ts (named_tokens left (Pointer Byte false) n) e (named-calm (Pointer Byte false) n);
      plain = calm-comma 0 ts (named_tokens left (Pointer Byte false) n) e (named-calm (Pointer Byte false) n);
    }
parameter-pointer false (Struct tag) n ts i h e =
    let x = head-of (Word (codes "struct")) (Word tag ∷ Mark (codes "*") ∷ Word n ∷ []) ts e in
    let r = target-at x.first.place false (Struct tag) n ts i h e in
    record {
      place = r.place;
      is = λ after. ap (λ us. parameter (us, after)) x.is ∙ ap (λ w. maybe_const w x.first x.rest) (ap keyword_of x.first_kind ∙ keys.struct_is) ∙ ap (parameter_of x.first.place false) (sym x.is) ∙ r.is;
      closed = calm-closed ts (named_tokens left (Pointer (Struct tag) false) n) e (named-calm (Pointer (Struct tag) false) n);
      plain = calm-comma 0 ts (named_tokens left (Pointer (Struct tag) false) n) e (named-calm (Pointer (Struct tag) false) n);
    }

cut-parameter : (t : CType) (n : List ℕ) (ts : List Token) → IsParameterType t → keyword_in n ≡ None → kinds_of ts ≡ named_tokens left t n → ParameterAs (record { kind = t; name = n }) ts
cut-parameter Void n ts i h e = absurd i
cut-parameter (Integer s) n ts i h e = parameter-integer s n ts h e
cut-parameter (Pointer to c) n ts i h e = parameter-pointer c to n ts i h e

pub record ParametersAs (ps : List BareField) (ts : List Token) : Type 0 where
  pub list : List Field
  pub is : map bare_field list ≡ ps
  pub given : (after : Place) → each_parameter (parts after 0 ts) ≡ Ok list
  pub closed : IsClosed ts

-- one or more
cut-more : (p : BareField) (ps : List BareField) (ts : List Token) → IsParameter p → AllByRecursion IsParameter ps → kinds_of ts ≡ named_tokens left p.kind p.name ++ params_tokens left false ps → ParametersAs (p ∷ ps) ts
cut-more p [] ts h g e =
    let x = cut-parameter p.kind p.name ts h.0 h.1.1 (e ∙ append-nil (named_tokens left p.kind p.name)) in
    record {
      list = field p.kind p.name x.place ∷ [];
      is = refl;
      given = λ after. ap each_parameter (parts-one after 0 ts x.plain) ∙ ap (λ r. r >>= (λ f. Ok (f ∷ []))) (x.is after);
      closed = x.closed;
    }
cut-more p (q ∷ ps) ts h g e =
    let s = split-of (named_tokens left p.kind p.name) (Mark (codes ",") ∷ (named_tokens left q.kind q.name ++ params_tokens left false ps)) ts e in
    let c = head-of (Mark (codes ",")) (named_tokens left q.kind q.name ++ params_tokens left false ps) s.right s.right_kinds in
    let comma_is = mark-is c.first.kind _ mark.Comma c.first_kind marks.comma_is in
    let x = cut-parameter p.kind p.name s.left h.0 h.1.1 s.left_kinds in
    let more = cut-more q ps c.rest g.0 g.1 c.rest_kinds in
    let whole : ts ≡ s.left ++ c.first ∷ c.rest = s.is ∙ ap (λ us. s.left ++ us) c.is in
    let f = field p.kind p.name x.place in
    record {
      list = f ∷ more.list;
      is = ap (λ gs. p ∷ gs) more.is;
      given = λ after.
          ap (λ us. each_parameter (parts after 0 us)) whole ∙ ap each_parameter (parts-seam after 0 s.left c.first c.rest comma_is x.closed.flat)
          ∙ ap (λ us. each_parameter (us ++ parts after 0 c.rest)) (parts-one c.first.place 0 s.left x.plain)
          ∙ ap (λ r. r >>= (λ g. each_parameter (parts after 0 c.rest) >>= λ gs. Ok (g ∷ gs))) (x.is c.first.place)
          ∙ ap (λ r. r >>= (λ gs. Ok (f ∷ gs))) (more.given after);
      closed = subst IsClosed (sym whole) (closed-append s.left (c.first ∷ c.rest) x.closed (closed-flat c.first c.rest (λ d. rw comma_is refl) more.closed));
    }

pub record AllParametersAs (ps : List BareField) (ts : List Token) : Type 0 where
  pub list : List Field
  pub is : map bare_field list ≡ ps
  pub given : (after : Place) → parameters (closed_in ts after) ≡ Ok list
  pub closed : IsClosed ts

-- the first word of a parameter is not `void`
alone-none : (x : Token) (xs : List Token) → is_void x.kind ≡ false → is_void_alone (x ∷ xs) ≡ false
alone-none x [] e = e
alone-none x (y ∷ ys) e = refl

param-first : (t : CType) (n : List ℕ) (rest : List TokenKind) → IsParameterType t → (k : TokenKind) × (ks : List TokenKind) × (named_tokens left t n ++ rest ≡ k ∷ ks) × (is_void k ≡ false)
unfolding keyword_in
param-first Void n rest i = absurd i
param-first (Integer s) n rest i = let t = type-first s in (t.kind, (t.rest ++ Word n ∷ []) ++ rest, ap (λ ks. (ks ++ Word n ∷ []) ++ rest) t.is, t.no_void)
param-first (Pointer to true) n rest i = (Word (codes "const"), _, refl, refl)
param-first (Pointer Byte false) n rest i = (TypeName (Exact 8 false), _, refl, refl)
param-first (Pointer (Struct tag) false) n rest i = (Word (codes "struct"), _, refl, refl)

pub cut-params : (ps : List BareField) (ts : List Token) → AllByRecursion IsParameter ps → kinds_of ts ≡ all_params_tokens left ps → AllParametersAs ps ts
cut-params [] ts h e =
    let v = head-of (Word (codes "void")) [] ts e in
    let one = one-of (Word (codes "void")) ts v in
    record {
      list = [];
      is = refl;
      given = λ after. ap (λ us. parameters (closed_in us after)) one ∙ ap (λ w. unless_void (is_void_key w) (closed_in (v.first ∷ []) after)) (ap keyword_of v.first_kind ∙ keys.void_is);
      closed = subst IsClosed (sym one) (closed-flat v.first [] (keyword-flat v.first.kind _ v.first_kind) closed-none);
    }
cut-params (p ∷ ps) ts h e =
    let x = cut-more p ps ts h.0 h.1 e in
    let k = param-first p.kind p.name (params_tokens left false ps) h.0.0 in
    let f = head-of k.0 k.1 ts (e ∙ k.2) in
    record {
      list = x.list;
      is = x.is;
      given = λ after. ap (λ b. unless_void b (closed_in ts after)) (ap is_void_alone f.is ∙ alone-none f.first f.rest (ap is_void f.first_kind ∙ k.3)) ∙ x.given after;
      closed = x.closed;
    }
