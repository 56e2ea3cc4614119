-- A cut of an item tells how deep its tokens are.
use Rattle.std.proofs.Common.{◌≡◌, ℕ, ◌+◌, List, [], ◌∷◌, take, drop, Option, Some, None, refl, sym, ap, ◌∙◌, Bool, true, false, add-one}
use Rattle.std.specs.Prelude.{◌&&◌, is_some, Result, Ok}
use Rattle.c_text.specs.declared.place.Place.{Place}
use Rattle.c_text.specs.declared.token.Token.{Token}
use Rattle.c_tree.specs.declared.symbol.Bracket.{Bracket}
use Rattle.c_tree.specs.declared.symbol.Bracket.TheVariants.{Round, Brace}
use Rattle.c_tree.specs.declared.symbol.Keyword.{Keyword}
use Rattle.c_tree.specs.declared.symbol.Keyword.TheVariants as key
use Rattle.c_tree.specs.declared.statement.Stmt.{Stmt}
use Rattle.c_tree.specs.declared.item.CType.{CType}
use Rattle.c_tree.specs.declared.item.CType.TheVariants as t
use Rattle.c_tree.specs.Symbol.{keyword_of, name_of, is_semicolon}
use Rattle.c_tree.specs.Brackets.{opens, closing_from, first_outside}
use Rattle.c_tree.specs.declared.symbol.TheConstants.{MOST_OPEN}
use Rattle.c_tree.specs.TypeName.{CountedType, front_type}
use Rattle.c_tree.specs.ExpressionCut.{Closed, closed, inside}
use Rattle.c_tree.specs.StatementCut.{is_void, statements}
use Rattle.c_tree.specs.Sequence.{place_at}
use Rattle.c_tree.specs.StructCut.{fields, struct_item, struct_of, struct_at}
use Rattle.c_tree.specs.ParameterCut.{parameters}
use Rattle.c_tree.specs.FunctionCut.{Tail, prototype, definition, unfinished, body_tail, semicolon_tail, tail_of, FunctionHead, function, with_tail, with_parameters, with_name, with_returns, returns_integer, returns_by, function_of, maybe_static, function_item, function_at}
use Rattle.c_tree.specs.UnitCut.{item_end, item_by, each_item}
use Rattle.c_depth.specs.Shallow.{is_shallow}
use Rattle.c_depth.proofs.Tests.{void-key}
use Rattle.c_depth.proofs.Keeps.{Keeps, all, keeps-bind, keeps-is, keeps-part}
use Rattle.c_depth.proofs.Depth.{shallow-split, shallow-outside, shallow-open}
use Rattle.c_depth.proofs.Split.{outside-first, outside-shallow, closes-at}
use Rattle.c_depth.proofs.Flat.{IsFlat, name-flat, keyword-flat, semicolon-flat, IsBehind, type-behind}
use Rattle.c_depth.proofs.Inside.{IsInner, closed-inner}
use Rattle.c_depth.proofs.Sequences.{behind, ObeysReading}
use Rattle.c_depth.proofs.Statements.{statements-keep}
use Rattle.c_depth.proofs.Ends.{item-end}
use Rattle.c_depth.proofs.Declarations.{keeps-flat, fields-keep, parameters-keep}

-- where as many brackets may be open as there may be
abbrev shallow : List Token → Bool
shallow ts = is_shallow MOST_OPEN 0 ts

-- ---- structs (6.7.2.1)

struct-item : (first : Place) (tag : Option (List ℕ)) (x o : Token) (b : Option Bracket) (xs : List Token) (c : Option Closed) → name_of x.kind ≡ tag → opens o.kind ≡ b → IsInner xs c
    → Keeps (shallow (x ∷ o ∷ xs)) all (struct_item first tag x.place b c)
struct-item first (Some tag) x o (Some Brace) xs (Some c) is_x is_o inner =
    keeps-bind (shallow (x ∷ o ∷ xs)) all all (fields c) _
    (keeps-is (shallow (x ∷ o ∷ xs)) (is_shallow 63 0 c.inner && true) all (fields c)
    (shallow-outside MOST_OPEN 0 x (o ∷ xs) (name-flat x.kind (ap (λ n. is_some n) is_x)) ∙ shallow-open 63 o Brace xs is_o ∙ inner 63)
    (keeps-part (is_shallow 63 0 c.inner) true (fields c) (fields-keep 63 c))) (λ fs. refl)
struct-item first _ x o _ xs _ is_x is_o inner = refl

struct-keeps : (first : Place) (ts : List Token) → Keeps (shallow ts) all (struct_of first ts)
struct-keeps first (x ∷ o ∷ xs) = struct-item first (name_of x.kind) x o (opens o.kind) xs (closed xs) refl refl (closed-inner xs)
struct-keeps first [] = refl
struct-keeps first (_ ∷ []) = refl

struct-at : (i : Option ℕ) (x : Token) (xs : List Token) → IsFlat x.kind → first_outside is_semicolon 0 0 xs ≡ i → Keeps (shallow (x ∷ xs)) (behind MOST_OPEN xs) (struct_at i x xs)
struct-at None x xs flat e = refl
struct-at (Some i) x xs flat e =
    let o = outside-first is_semicolon i xs e in
    let rest = shallow o.rest in
    let made = struct_of x.place (take i xs) in
    keeps-bind (shallow (x ∷ xs)) (λ s. rest) (behind MOST_OPEN xs) made (λ s. Ok (s, i + 1))
    (keeps-is (shallow (x ∷ xs)) (shallow (take i xs) && rest) (λ s. rest) made
    (shallow-outside MOST_OPEN 0 x xs flat ∙ outside-shallow is_semicolon MOST_OPEN i xs o (semicolon-flat o.token.kind o.passed))
    (keeps-part (shallow (take i xs)) rest made (struct-keeps x.place (take i xs))))
    (λ s. ap shallow (sym o.behind ∙ ap (λ n. drop n xs) (sym (add-one i))))

-- ---- functions (6.7.5.3 and 6.9.1)

-- what stands behind the parameters
abbrev IsTail : List Token → Tail → Type 0
IsTail ts unfinished = Unit {0}
IsTail ts (prototype place) = shallow ts ≡ true
IsTail ts (definition brace c) = shallow ts ≡ (is_shallow 63 0 c.inner && true)

semicolon-is : (b : Bool) (x : Token) → is_semicolon x.kind ≡ b → IsTail (x ∷ []) (semicolon_tail b x.place)
semicolon-is true x e = shallow-outside MOST_OPEN 0 x [] (semicolon-flat x.kind e)
semicolon-is false x e = tt

body-is : (b : Option Bracket) (x : Token) (ts : List Token) (c : Option Closed) → opens x.kind ≡ b → IsInner ts c → IsTail (x ∷ ts) (body_tail b x.place c)
body-is (Some Brace) x ts (Some c) e inner = shallow-open 63 x Brace ts e ∙ inner 63
body-is _ x ts _ e inner = tt

tail-is : (ts : List Token) → IsTail ts (tail_of ts)
tail-is [] = tt
tail-is (x ∷ []) = semicolon-is (is_semicolon x.kind) x refl
tail-is (x ∷ y ∷ ys) = body-is (opens x.kind) x (y ∷ ys) (closed (y ∷ ys)) refl (closed-inner (y ∷ ys))

with-tail : (first : Place) (h : FunctionHead) (c : Closed) (tail : Tail) (ts : List Token) → IsTail ts tail → Keeps (is_shallow 63 0 c.inner && shallow ts) all (with_tail first h c tail)
with-tail first h c unfinished ts e = refl
with-tail first h c (prototype place) ts e =
    keeps-bind (is_shallow 63 0 c.inner && shallow ts) (λ ps. shallow ts) all (parameters c) _
    (keeps-part (is_shallow 63 0 c.inner) (shallow ts) (parameters c) (parameters-keep 63 c)) (λ ps. e)
with-tail first h c (definition brace b) ts e =
    let body : (r : ℕ) → Result (List Stmt) _ = λ r. statements r b.inner b.close in
    keeps-bind (is_shallow 63 0 c.inner && shallow ts) (λ ps. shallow ts) all (parameters c) _
    (keeps-part (is_shallow 63 0 c.inner) (shallow ts) (parameters c) (parameters-keep 63 c))
    (λ ps. keeps-bind (shallow ts) all all (inside MOST_OPEN brace body) (λ ss. Ok (function h ps (Some ss) b.close))
    (keeps-is (shallow ts) (is_shallow 63 0 b.inner && true) all (body 63) e (keeps-part (is_shallow 63 0 b.inner) true (body 63) (statements-keep 63 b.inner b.close))) (λ ss. refl))

with-parameters : (first : Place) (h : FunctionHead) (o : Token) (i : Option ℕ) (xs : List Token) → opens o.kind ≡ Some Round → closing_from 0 1 xs ≡ i
    → Keeps (shallow (o ∷ xs)) all (with_parameters first h i xs)
with-parameters first h o None xs is_o e = refl
with-parameters first h o (Some i) xs is_o e =
    let c = closes-at i xs e in
    let inner : Closed = record { inner = take i xs; close = place_at (drop i xs) first } in
    let rest = drop (i + 1) xs in
    let tokens : c.rest ≡ rest = sym c.behind ∙ ap (λ n. drop n xs) (sym (add-one i)) in
    keeps-is (shallow (o ∷ xs)) (is_shallow 63 0 (take i xs) && shallow rest) all (with_tail first h inner (tail_of rest))
    (shallow-open 63 o Round xs is_o ∙ c.shallow 63 ∙ ap (λ us. is_shallow 63 0 (take i xs) && shallow us) tokens)
    (with-tail first h inner (tail_of rest) rest (tail-is rest))

with-name : (first : Place) (fixed : Bool) (returns : CType) (name : Option (List ℕ)) (x o : Token) (b : Option Bracket) (xs : List Token) → name_of x.kind ≡ name → opens o.kind ≡ b
    → Keeps (shallow (x ∷ o ∷ xs)) all (with_name first fixed returns name x.place b xs)
with-name first fixed returns (Some name) x o (Some Round) xs is_x is_o =
    let h : FunctionHead = record { fixed = fixed; returns = returns; name = name; place = x.place } in
    keeps-flat MOST_OPEN x (o ∷ xs) (with_parameters first h (closing_from 0 1 xs) xs) (name-flat x.kind (ap (λ n. is_some n) is_x)) (with-parameters first h o (closing_from 0 1 xs) xs is_o refl)
with-name first fixed returns _ x o _ xs is_x is_o = refl

with-returns : (first : Place) (fixed : Bool) (returns : CType) (ts : List Token) → Keeps (shallow ts) all (with_returns first fixed returns ts)
with-returns first fixed returns (x ∷ o ∷ xs) = with-name first fixed returns (name_of x.kind) x o (opens o.kind) xs refl refl
with-returns first fixed returns [] = refl
with-returns first fixed returns (_ ∷ []) = refl

returns-integer : (first : Place) (fixed : Bool) (o : Option CountedType) (ts : List Token) → IsBehind ts o → Keeps (shallow ts) all (returns_integer first fixed o ts)
returns-integer first fixed None ts h = refl
returns-integer first fixed (Some s) ts h =
    keeps-is (shallow ts) (shallow (drop s.1 ts)) all (with_returns first fixed (t.Integer s.0) (drop s.1 ts)) (h MOST_OPEN) (with-returns first fixed (t.Integer s.0) (drop s.1 ts))

returns-by : (b : Bool) (first : Place) (fixed : Bool) (x : Token) (xs : List Token) → is_void x.kind ≡ b → Keeps (shallow (x ∷ xs)) all (returns_by b first fixed x xs)
returns-by true first fixed x xs e = keeps-flat MOST_OPEN x xs (with_returns first fixed t.Void xs) (keyword-flat x.kind (void-key (keyword_of x.kind) e)) (with-returns first fixed t.Void xs)
returns-by false first fixed x xs e = returns-integer first fixed (front_type (x ∷ xs)) (x ∷ xs) (type-behind (x ∷ xs))

function-of : (first : Place) (fixed : Bool) (ts : List Token) → Keeps (shallow ts) all (function_of first fixed ts)
function-of first fixed [] = refl
function-of first fixed (x ∷ xs) = returns-by (is_void x.kind) first fixed x xs refl

static-or : (o : Option Keyword) (x : Token) (xs : List Token) → keyword_of x.kind ≡ o → Keeps (shallow (x ∷ xs)) all (maybe_static o x xs)
static-or (Some key.Static) x xs e = keeps-flat MOST_OPEN x xs (function_of x.place true xs) (keyword-flat x.kind (ap (λ w. is_some w) e)) (function-of x.place true xs)
static-or _ x xs e = function-of x.place false (x ∷ xs)

function-keeps : (first : Place) (ts : List Token) → Keeps (shallow ts) all (function_item first ts)
function-keeps first [] = refl
function-keeps first (x ∷ xs) = static-or (keyword_of x.kind) x xs refl

-- ---- the whole

function-at : (i : Option ℕ) (x : Token) (xs : List Token) → item_end 0 0 (x ∷ xs) ≡ i → Keeps (shallow (x ∷ xs)) (behind MOST_OPEN xs) (function_at i x xs)
function-at None x xs e = refl
function-at (Some i) x xs e =
    let front = take (i + 1) (x ∷ xs) in
    let rest = shallow (drop (i + 1) (x ∷ xs)) in
    let made = function_item x.place front in
    keeps-bind (shallow (x ∷ xs)) (λ f. rest) (behind MOST_OPEN xs) made (λ f. Ok (f, i))
    (keeps-is (shallow (x ∷ xs)) (shallow front && rest) (λ f. rest) made
    (shallow-split MOST_OPEN 0 (i + 1) (x ∷ xs) ∙ ap (λ d. shallow front && is_shallow MOST_OPEN d (drop (i + 1) (x ∷ xs))) (item-end i (x ∷ xs) e))
    (keeps-part (shallow front) rest made (function-keeps x.place front)))
    (λ f. ap (λ n. shallow (drop n (x ∷ xs))) (add-one i))

item-by : (o : Option Keyword) (x : Token) (xs : List Token) → keyword_of x.kind ≡ o → Keeps (shallow (x ∷ xs)) (behind MOST_OPEN xs) (item_by o x xs)
item-by (Some key.Struct) x xs e = struct-at (first_outside is_semicolon 0 0 xs) x xs (keyword-flat x.kind (ap (λ w. is_some w) e)) refl
item-by _ x xs e = function-at (item_end 0 0 (x ∷ xs)) x xs refl

pub items-keep : ObeysReading MOST_OPEN each_item
items-keep = record { at = λ x xs. item-by (keyword_of x.kind) x xs refl }
