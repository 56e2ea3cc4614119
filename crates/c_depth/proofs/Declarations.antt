-- Fields and parameters have no brackets in them.
use Rattle.std.proofs.Common.{◌≡◌, ℕ, List, [], ◌∷◌, take, drop, Option, Some, None, refl, sym, ap, Bool, true, false}
use Rattle.std.specs.Prelude.{◌&&◌, is_some, Result, Ok}
use Rattle.std.proofs.lemmas.Bool.{and_parts, false≢true}
use Rattle.c_text.specs.declared.place.Place.{Place}
use Rattle.c_text.specs.declared.token.Token.{Token}
use Rattle.c_text.specs.declared.token.TokenKind.{TokenKind}
use Rattle.c_text.specs.declared.token.TokenKind.TheVariants.{Word, Constant as Number, Quoted, Mark, TypeName, Null, Memset}
use Rattle.c_tree.specs.declared.symbol.Keyword.{Keyword}
use Rattle.c_tree.specs.declared.symbol.Keyword.TheVariants as key
use Rattle.c_tree.specs.declared.item.CType.{CType}
use Rattle.c_tree.specs.declared.item.CType.TheVariants as t
use Rattle.c_tree.specs.declared.item.Target.{Target}
use Rattle.c_tree.specs.declared.item.Target.TheVariants as to
use Rattle.c_text.specs.Refusal.{Refusal}
use Rattle.c_tree.specs.Symbol.{keyword_of, name_of, is_semicolon, is_star}
use Rattle.c_tree.specs.Brackets.{first_outside}
use Rattle.c_tree.specs.TypeName.{CountedType, front_type}
use Rattle.c_tree.specs.ExpressionCut.{Delimited, Closed, parts}
use Rattle.c_tree.specs.Sequence.{place_at}
use Rattle.c_tree.specs.DeclarationCut.{named_by, declared_as, integer_by, integer}
use Rattle.c_tree.specs.StructCut.{struct_field, field_at, each_field, fields_in, fields}
use Rattle.c_tree.specs.ParameterCut.{is_byte, pointer_by, pointer, struct_pointer_by, struct_pointer, integer_parameter, byte_pointer, is_byte_pointer, parameter_by, parameter_of, maybe_const, parameter, each_parameter, unless_void, is_void_alone, parameters}
use Rattle.c_depth.specs.Shallow.{is_shallow}
use Rattle.c_depth.proofs.Tests.{void-key}
use Rattle.c_depth.proofs.Keeps.{Keeps, all, keeps-bind, keeps-is, keeps-part}
use Rattle.c_depth.proofs.Depth.{shallow-outside}
use Rattle.c_depth.proofs.Split.{outside-first, outside-shallow}
use Rattle.c_depth.proofs.Flat.{IsFlat, name-flat, keyword-flat, star-flat, semicolon-flat, IsBehind, type-behind}
use Rattle.c_depth.proofs.Sequences.{behind, ObeysReading, all-read}
use Rattle.c_depth.proofs.Commas.{parts_shallow, parts-shallow}

-- behind a token that is no bracket
pub keeps-flat : {A : Type 0} (room : ℕ) (t : Token) (ts : List Token) (got : Result A Refusal) → IsFlat t.kind → Keeps (is_shallow room 0 ts) all got → Keeps (is_shallow room 0 (t ∷ ts)) all got
keeps-flat room t ts got flat h = keeps-is (is_shallow room 0 (t ∷ ts)) (is_shallow room 0 ts) all got (shallow-outside room 0 t ts flat) h

-- ---- a name at the end

named-by : (room : ℕ) (first : Place) (type : CType) (name : Option (List ℕ)) (x : Token) → name_of x.kind ≡ name → Keeps (is_shallow room 0 (x ∷ [])) all (named_by first type name x.place)
named-by room first type (Some name) x e = shallow-outside room 0 x [] (name-flat x.kind (ap (λ n. is_some n) e))
named-by room first type None x e = refl

named-keeps : (room : ℕ) (first : Place) (type : CType) (ts : List Token) → Keeps (is_shallow room 0 ts) all (declared_as first type ts)
named-keeps room first type (x ∷ []) = named-by room first type (name_of x.kind) x refl
named-keeps room first type [] = refl
named-keeps room first type (_ ∷ _ ∷ _) = refl

integer-by : (room : ℕ) (first : Place) (o : Option CountedType) (ts : List Token) → IsBehind ts o → Keeps (is_shallow room 0 ts) all (integer_by first o ts)
integer-by room first None ts h = refl
integer-by room first (Some s) ts h =
    keeps-is (is_shallow room 0 ts) (is_shallow room 0 (drop s.1 ts)) all (declared_as first (t.Integer s.0) (drop s.1 ts)) (h room) (named-keeps room first (t.Integer s.0) (drop s.1 ts))

integer-keeps : (room : ℕ) (first : Place) (ts : List Token) → Keeps (is_shallow room 0 ts) all (integer first ts)
integer-keeps room first ts = integer-by room first (front_type ts) ts (type-behind ts)

-- ---- structs (6.7.2.1)

field-keeps : (room : ℕ) (ts : List Token) (after : Place) → Keeps (is_shallow room 0 ts) all (struct_field (ts, after))
field-keeps room [] after = refl
field-keeps room (x ∷ xs) after = integer-keeps room x.place (x ∷ xs)

field-at : (room : ℕ) (i : Option ℕ) (x : Token) (xs : List Token) → first_outside is_semicolon 0 0 (x ∷ xs) ≡ i → Keeps (is_shallow room 0 (x ∷ xs)) (behind room xs) (field_at i x xs)
field-at room None x xs e = refl
field-at room (Some i) x xs e =
    let o = outside-first is_semicolon i (x ∷ xs) e in
    let rest = is_shallow room 0 o.rest in
    let close = place_at (drop i (x ∷ xs)) x.place in
    let made = struct_field (take i (x ∷ xs), close) in
    keeps-bind (is_shallow room 0 (x ∷ xs)) (λ f. rest) (behind room xs) made (λ f. Ok (f, i))
    (keeps-is (is_shallow room 0 (x ∷ xs)) (is_shallow room 0 (take i (x ∷ xs)) && rest) (λ f. rest) made (outside-shallow is_semicolon room i (x ∷ xs) o (semicolon-flat o.token.kind o.passed))
    (keeps-part (is_shallow room 0 (take i (x ∷ xs))) rest made (field-keeps room (take i (x ∷ xs)) close)))
    (λ f. ap (λ us. is_shallow room 0 us) (sym o.behind))

each-keeps : (room : ℕ) → ObeysReading room each_field
each-keeps room = record { at = λ x xs. field-at room (first_outside is_semicolon 0 0 (x ∷ xs)) x xs refl }

fields-in : (room : ℕ) (ts : List Token) (after : Place) → Keeps (is_shallow room 0 ts) all (fields_in ts after)
fields-in room [] after = refl
fields-in room (x ∷ xs) after = all-read room each_field (each-keeps room) 0 (x ∷ xs)

pub fields-keep : (room : ℕ) (c : Closed) → Keeps (is_shallow room 0 c.inner) all (fields c)
fields-keep room c = fields-in room c.inner c.close

-- ---- parameters (6.7.5.3)

byte-flat : (kind : TokenKind) → is_byte kind ≡ true → IsFlat kind
byte-flat (TypeName s) h = refl
byte-flat (Mark m) h = absurd (false≢true h)
byte-flat (Word w) h = refl
byte-flat (Number c) h = refl
byte-flat (Quoted q) h = refl
byte-flat Null h = refl
byte-flat Memset h = refl

pointer-by : (room : ℕ) (b : Bool) (first : Place) (constant : Bool) (target : Target) (s : Token) (xs : List Token) → is_star s.kind ≡ b
    → Keeps (is_shallow room 0 (s ∷ xs)) all (pointer_by b first constant target xs)
pointer-by room true first constant target s xs e =
    keeps-flat room s xs (declared_as first (t.Pointer target constant) xs) (star-flat s.kind e) (named-keeps room first (t.Pointer target constant) xs)
pointer-by room false first constant target s xs e = refl

pointer-keeps : (room : ℕ) (first : Place) (constant : Bool) (target : Target) (ts : List Token) → Keeps (is_shallow room 0 ts) all (pointer first constant target ts)
pointer-keeps room first constant target [] = refl
pointer-keeps room first constant target (s ∷ xs) = pointer-by room (is_star s.kind) first constant target s xs refl

struct-by : (room : ℕ) (tag : Option (List ℕ)) (first : Place) (constant : Bool) (x : Token) (xs : List Token) → name_of x.kind ≡ tag
    → Keeps (is_shallow room 0 (x ∷ xs)) all (struct_pointer_by tag first constant xs)
struct-by room (Some tag) first constant x xs e =
    keeps-flat room x xs (pointer first constant (to.Struct tag) xs) (name-flat x.kind (ap (λ n. is_some n) e)) (pointer-keeps room first constant (to.Struct tag) xs)
struct-by room None first constant x xs e = refl

struct-keeps : (room : ℕ) (first : Place) (constant : Bool) (ts : List Token) → Keeps (is_shallow room 0 ts) all (struct_pointer first constant ts)
struct-keeps room first constant [] = refl
struct-keeps room first constant (x ∷ xs) = struct-by room (name_of x.kind) first constant x xs refl

integer-parameter : (room : ℕ) (constant : Bool) (first : Place) (ts : List Token) → Keeps (is_shallow room 0 ts) all (integer_parameter constant first ts)
integer-parameter room true first ts = refl
integer-parameter room false first ts = integer-keeps room first ts

byte-first : (x : Token) (xs : List Token) → is_byte_pointer x xs ≡ true → is_byte x.kind ≡ true
byte-first x [] h = absurd (false≢true h)
byte-first x (s ∷ xs) h = (and_parts (is_byte x.kind) (is_star s.kind) h).0

byte-keeps : (room : ℕ) (b : Bool) (first : Place) (constant : Bool) (x : Token) (xs : List Token) → is_byte_pointer x xs ≡ b → Keeps (is_shallow room 0 (x ∷ xs)) all (byte_pointer b first constant x xs)
byte-keeps room true first constant x xs e = keeps-flat room x xs (pointer first constant to.Byte xs) (byte-flat x.kind (byte-first x xs e)) (pointer-keeps room first constant to.Byte xs)
byte-keeps room false first constant x xs e = integer-parameter room constant first (x ∷ xs)

parameter-by : (room : ℕ) (o : Option Keyword) (first : Place) (constant : Bool) (x : Token) (xs : List Token) → keyword_of x.kind ≡ o → Keeps (is_shallow room 0 (x ∷ xs)) all (parameter_by o first constant x xs)
parameter-by room (Some key.Struct) first constant x xs e =
    keeps-flat room x xs (struct_pointer first constant xs) (keyword-flat x.kind (ap (λ w. is_some w) e)) (struct-keeps room first constant xs)
parameter-by room _ first constant x xs e = byte-keeps room (is_byte_pointer x xs) first constant x xs refl

parameter-of : (room : ℕ) (first : Place) (constant : Bool) (ts : List Token) → Keeps (is_shallow room 0 ts) all (parameter_of first constant ts)
parameter-of room first constant [] = refl
parameter-of room first constant (x ∷ xs) = parameter-by room (keyword_of x.kind) first constant x xs refl

const-or : (room : ℕ) (o : Option Keyword) (x : Token) (xs : List Token) → keyword_of x.kind ≡ o → Keeps (is_shallow room 0 (x ∷ xs)) all (maybe_const o x xs)
const-or room (Some key.Const) x xs e = keeps-flat room x xs (parameter_of x.place true xs) (keyword-flat x.kind (ap (λ w. is_some w) e)) (parameter-of room x.place true xs)
const-or room _ x xs e = parameter-of room x.place false (x ∷ xs)

parameter-keeps : (room : ℕ) (ts : List Token) (after : Place) → Keeps (is_shallow room 0 ts) all (parameter (ts, after))
parameter-keeps room [] after = refl
parameter-keeps room (x ∷ xs) after = const-or room (keyword_of x.kind) x xs refl

list-keeps : (room : ℕ) (ps : List Delimited) → Keeps (parts_shallow room 0 ps) all (each_parameter ps)
list-keeps room [] = refl
list-keeps room (p ∷ ps) =
    keeps-bind (parts_shallow room 0 (p ∷ ps)) (λ x. parts_shallow room 0 ps) all (parameter p) _
    (keeps-part (is_shallow room 0 p.0) (parts_shallow room 0 ps) (parameter p) (parameter-keeps room p.0 p.1))
    (λ x. keeps-bind (parts_shallow room 0 ps) all all (each_parameter ps) (λ xs. Ok (x ∷ xs)) (list-keeps room ps) (λ xs. refl))

void-alone : (room : ℕ) (ts : List Token) → is_void_alone ts ≡ true → is_shallow room 0 ts ≡ true
void-alone room (x ∷ []) h = shallow-outside room 0 x [] (keyword-flat x.kind (void-key (keyword_of x.kind) h))
void-alone room [] h = absurd (false≢true h)
void-alone room (_ ∷ _ ∷ _) h = absurd (false≢true h)

void-or : (room : ℕ) (b : Bool) (c : Closed) → is_void_alone c.inner ≡ b → Keeps (is_shallow room 0 c.inner) all (unless_void b c)
void-or room true c e = void-alone room c.inner e
void-or room false c e =
    keeps-is (is_shallow room 0 c.inner) (parts_shallow room 0 (parts c.close 0 c.inner)) all (each_parameter (parts c.close 0 c.inner)) (parts-shallow room c.close 0 c.inner)
    (list-keeps room (parts c.close 0 c.inner))

pub parameters-keep : (room : ℕ) (c : Closed) → Keeps (is_shallow room 0 c.inner) all (parameters c)
parameters-keep room c = void-or room (is_void_alone c.inner) c refl
