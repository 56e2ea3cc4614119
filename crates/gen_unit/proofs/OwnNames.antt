-- A name that is no macro and that no header gives stands for itself wherever it stands, and types stand behind their headers.
use Rattle.std.proofs.Common.{◌≡◌, ℕ, Bool, true, false, cond, List, [], ◌∷◌, ◌++◌, Option, Some, None, refl, sym, ap, ◌∙◌}
use Rattle.std.specs.Prelude.{codes}
use Rattle.std.specs.List.{AllByRecursion}
use Rattle.std.specs.Str.{bytes_eq}
use Rattle.std.proofs.lemmas.Bool.{false_from_ne_true, both_ways}
use Rattle.std.proofs.lemmas.Slice.Eq.{bytes_eq-Decides}
use Rattle.cg_out.specs.Words.{look_up, or_else}
use Rattle.name_rules.specs.Reserved.{keywords, given_names, sized_types, is_reserved}
use Rattle.name_rules.specs.Names.{is_c_name}
use Rattle.c_text.specs.declared.token.IntType.TheVariants.{Int}
use Rattle.c_text.specs.declared.token.Spelled.TheVariants.{Exact, Size, Plain}
use Rattle.c_text.specs.declared.token.TokenKind.TheVariants.{TypeName}
use Rattle.c_text.specs.StandardHeader.{Header, stdbool_h, stddef_h, stdint_h, string_h, names_of, kind_in}
use Rattle.c_tree.specs.BareExpression.{Tree}
use Rattle.c_printed.specs.Spelling.{sign_letter, width_text}
use Rattle.c_printed.specs.Printable.{IsFree, IsWidth, w8, w16, w32, w64}
use Rattle.c_printed.specs.Settled.{Stands, TypeStands}
use Rattle.c_printed.specs.State.{Macro, State, becomes, kind_by_headers, word_by, with_macros}
use Rattle.gen_unit.proofs.Letters.{begins_large}
use Rattle.gen_unit.proofs.Names.{AreReserved, all-reserved, not-listed, is-free}

-- ---- no header gives a name that is not reserved

names-reserved : (h : Header) → AreReserved (names_of h)
unfolding keywords given_names sized_types
names-reserved stdbool_h = all-reserved (names_of stdbool_h) refl
names-reserved stddef_h = all-reserved (names_of stddef_h) refl
names-reserved stdint_h = all-reserved (names_of stdint_h) refl
names-reserved string_h = all-reserved (names_of string_h) refl

not-given : (x : List ℕ) (h : Header) → is_reserved x ≡ false → kind_in h x ≡ None
unfolding kind_in
not-given x h f = not-listed x (names_of h) (names-reserved h) f

none-given : (x : List ℕ) (hs : List Header) → is_reserved x ≡ false → kind_by_headers x hs ≡ None
none-given x [] f = refl
none-given x (h ∷ hs) f = λ i. or_else (not-given x h f i) (none-given x hs f i)

-- ---- names of the pair's own

pub record IsOwn (x : List ℕ) : Type 0 where
  pub free : IsFree x
  pub kindless : (hs : List Header) → kind_by_headers x hs ≡ None
  pub small : begins_large x ≡ false

pub is-own : (x : List ℕ) → is_c_name x ≡ true → is_reserved x ≡ false → begins_large x ≡ false → IsOwn x
is-own x h f e = record { free = is-free x h f; kindless = λ hs. none-given x hs f; small = e }

-- ---- what is known where they stand

abbrev pub exact_name : ℕ → Bool → List ℕ
exact_name w signed = sign_letter signed ++ (codes "int" ++ (width_text w ++ codes "_t"))

-- these headers give the names of types
pub record GiveTypes (hs : List Header) : Type 0 where
  pub exact : (w : ℕ) (signed : Bool) → IsWidth w → kind_by_headers (exact_name w signed) hs ≡ Some (TypeName (Exact w signed))
  pub size : kind_by_headers (codes "size_t") hs ≡ Some (TypeName Size)
  pub int : kind_by_headers (codes "int") hs ≡ None

abbrev three : List Header
three = stdbool_h ∷ stddef_h ∷ stdint_h ∷ []

exact-of-three : (w : ℕ) (signed : Bool) → IsWidth w → kind_by_headers (exact_name w signed) three ≡ Some (TypeName (Exact w signed))
unfolding kind_in
exact-of-three _ true w8 = refl
exact-of-three _ true w16 = refl
exact-of-three _ true w32 = refl
exact-of-three _ true w64 = refl
exact-of-three _ false w8 = refl
exact-of-three _ false w16 = refl
exact-of-three _ false w32 = refl
exact-of-three _ false w64 = refl

no-string : (w : ℕ) (signed : Bool) → IsWidth w → kind_in string_h (exact_name w signed) ≡ None
unfolding kind_in
no-string _ true w8 = refl
no-string _ true w16 = refl
no-string _ true w32 = refl
no-string _ true w64 = refl
no-string _ false w8 = refl
no-string _ false w16 = refl
no-string _ false w32 = refl
no-string _ false w64 = refl

pub three-give : GiveTypes three
unfolding kind_in
three-give = record { exact = exact-of-three; size = refl; int = refl }

-- also behind `string.h`
pub four-give : GiveTypes (string_h ∷ three)
unfolding kind_in
four-give = record { exact = λ w signed iw. (λ i. or_else (no-string w signed iw i) (exact-of-three w signed iw i)); size = refl; int = refl }

abbrev pub AreLarge : List Macro → Type 0
AreLarge ms = AllByRecursion (λ (d : Macro). begins_large d.0 ≡ true) ms

pub record Knows (s : State) : Type 0 where
  pub large : AreLarge s.macros
  pub types : GiveTypes s.headers

large-append : (ms ns : List Macro) → AreLarge ms → AreLarge ns → AreLarge (ms ++ ns)
large-append [] ns h k = k
large-append (m ∷ ms) ns h k = (h.0, large-append ms ns h.1 k)

pub knows-more : (s : State) (n : List ℕ) (body : Option Tree) → Knows s → begins_large n ≡ true → Knows (with_macros s ((n, body) ∷ []))
knows-more s n body k h = record { large = large-append s.macros ((n, body) ∷ []) k.large (h, tt); types = k.types }

-- ---- names and types there

pub no-macro : (x : List ℕ) (ms : List Macro) → begins_large x ≡ false → AreLarge ms → look_up x ms ≡ None
no-macro x [] e h = refl
no-macro x (m ∷ ms) e h =
    let apart : bytes_eq m.0 x ≡ false = false_from_ne_true (bytes_eq m.0 x) (λ g. both_ways (begins_large x) e (ap begins_large (sym ((bytes_eq-Decides m.0 x).0 g)) ∙ h.0)) in
    λ i. cond (apart i) (Some m.1) (no-macro x ms e h.1 i)

pub name-stands : (s : State) → Knows s → (x : List ℕ) → IsOwn x → Stands (becomes s) x
name-stands s k x o = λ i. word_by x (no-macro x s.macros o.small k.large i) (o.kindless s.headers i)

exact-small : (w : ℕ) (signed : Bool) → begins_large (exact_name w signed) ≡ false
exact-small w true = refl
exact-small w false = refl

pub exact-stands : (s : State) → Knows s → (w : ℕ) (signed : Bool) → IsWidth w → TypeStands (becomes s) (Exact w signed)
exact-stands s k w signed iw = λ i. word_by (exact_name w signed) (no-macro (exact_name w signed) s.macros (exact-small w signed) k.large i) (k.types.exact w signed iw i) ++ []

pub size-stands : (s : State) → Knows s → TypeStands (becomes s) Size
size-stands s k = λ i. word_by (codes "size_t") (no-macro (codes "size_t") s.macros refl k.large i) (k.types.size i) ++ []

pub int-stands : (s : State) → Knows s → TypeStands (becomes s) (Plain Int)
int-stands s k = λ i. word_by (codes "int") (no-macro (codes "int") s.macros refl k.large i) (k.types.int i) ++ []
