-- The items that a printable unit leaves are printable.
use Rattle.std.proofs.Common.{◌≡◌, ℕ, ◌^◌, ◌<◌, Bool, true, false, cond, List, [], ◌∷◌, map, bytes_eq, Option, Some, None, subst, arith}
use Rattle.std.specs.List.{AllByRecursion}
use Rattle.cg_out.specs.Words.{look_up, or_else}
use Rattle.c_text.specs.declared.token.TokenKind.{TokenKind}
use Rattle.c_text.specs.declared.token.TokenKind.TheVariants.{Constant as Number}
use Rattle.c_text.specs.StandardHeader.{Header, stdbool_h, stddef_h, stdint_h, string_h, names_of, kind_in}
use Rattle.c_tree.specs.BareExpression.{Tree}
use Rattle.c_tree.specs.BareUnit.{BareField, BareItem, struct, function}
use Rattle.c_printed.specs.PrintedItem.{Field, field_of}
use Rattle.c_printed.specs.PrintedUnit.{Part, comment, blank, include, include_beside, define, if_not_defined, end_if, structure, routine}
use Rattle.c_printed.specs.Printable.{IsFree, IsConstant, ten, Fits}
use Rattle.c_printed.specs.PrintableItem.{IsIntegerType, IsField, IsSome, IsHead, FitsBody}
use Rattle.c_printed.specs.State.{Macro, State, nothing_known, kind_by_headers, tree_by, meaning, unless_known, new_macros, behind_part, behind_all, header_state}
use Rattle.c_printed.specs.PrintableUnit.{IsBody, Right, AllRight, no_header, IsHeaderAt, IsSource}
use Rattle.c_printed.specs.Reread.{items_at, items_of, header_items, source_items}
use Rattle.c_printed.proofs.SmallLaws.{some-of, every-append}
use Rattle.c_printed.proofs.ExpandedFits.{AreFitting, body-fits}

-- ---- items without comments

abbrev pub IsMember : BareField → Type 0
IsMember f = IsIntegerType f.kind × IsFree f.name

abbrev pub IsSomeMember : List BareField → Type 0
IsSomeMember [] = ⊥
IsSomeMember (f ∷ fs) = Unit {0}

-- an item of the subset, in which all names are free
abbrev pub FitsItem : BareItem → Type 0
FitsItem (struct tag fs) = IsFree tag × IsSomeMember fs × AllByRecursion IsMember fs
FitsItem (function h body) = IsHead h × FitsBody body

-- ---- what names stand for is printable

abbrev FitsKind : TokenKind → Type 0
FitsKind (Number c) = IsConstant c
FitsKind k = Unit {0}

abbrev FitsFound : Option TokenKind → Type 0
FitsFound None = Unit {0}
FitsFound (Some k) = FitsKind k

entry-fits : (w : List ℕ) (es : List (List ℕ × TokenKind)) → AllByRecursion (λ (e : List ℕ × TokenKind). FitsKind e.1) es → FitsFound (look_up w es)
entry-fits w [] h = tt
entry-fits w (e ∷ es) h = by (bytes_eq e.0 w) (entry-fits w es h.1)
  where
    by : (b : Bool) → FitsFound (look_up w es) → FitsFound (cond b (Some e.1) (look_up w es))
    by true k = h.0
    by false k = k

pub decimal-fits : (v : ℕ) (u : Bool) → v < 2 ^ 64 → IsConstant (record { value = v; base = 10; unsigned = u; longs = 0 })
decimal-fits v u h = record { small = h; base = ten; longs = omega arith }

names-fit : (h : Header) → AllByRecursion (λ (e : List ℕ × TokenKind). FitsKind e.1) (names_of h)
names-fit stdbool_h = (tt, (decimal-fits 1 false (omega arith), (decimal-fits 0 false (omega arith), tt)))
names-fit stddef_h = (tt, (tt, tt))
names-fit stdint_h = (tt, (tt, (tt, (tt, (tt, (tt, (tt, (tt, tt))))))))
names-fit string_h = (tt, (tt, (tt, tt)))

kind-fits : (h : Header) (w : List ℕ) → FitsFound (kind_in h w)
unfolding kind_in
kind-fits h w = entry-fits w (names_of h) (names-fit h)

or-fits : (x y : Option TokenKind) → FitsFound x → FitsFound y → FitsFound (or_else x y)
or-fits (Some x) y h k = h
or-fits None y h k = k

kinds-fit : (w : List ℕ) (hs : List Header) → FitsFound (kind_by_headers w hs)
kinds-fit w [] = tt
kinds-fit w (h ∷ hs) = or-fits (kind_in h w) (kind_by_headers w hs) (kind-fits h w) (kinds-fit w hs)

-- each macro has a printable body
abbrev AreBodies : State → Type 0
AreBodies s = AllByRecursion (λ (m : Macro). IsBody m.1) s.macros

abbrev IsEntry : Option (Option Tree) → Type 0
IsEntry None = Unit {0}
IsEntry (Some body) = IsBody body

macro-fits : (w : List ℕ) (ms : List Macro) → AllByRecursion (λ (m : Macro). IsBody m.1) ms → IsEntry (look_up w ms)
macro-fits w [] h = tt
macro-fits w (m ∷ ms) h = by (bytes_eq m.0 w) (macro-fits w ms h.1)
  where
    by : (b : Bool) → IsEntry (look_up w ms) → IsEntry (cond b (Some m.1) (look_up w ms))
    by true k = h.0
    by false k = k

means-fits : (o : Option (Option Tree)) (k : Option TokenKind) (t : Tree) → IsEntry o → FitsFound k → tree_by o k ≡ Some t → Fits 0 t
means-fits (Some (Some b)) k t h f e = subst (λ u. Fits 0 u) (some-of e) h.0
means-fits (Some None) k t h f e = cc
means-fits None (Some (Number c)) t h f e = subst (λ u. Fits 0 u) (some-of e) f
means-fits None (Some _) t h f e = cc
means-fits None None t h f e = cc

meaning-fits : (s : State) → AreBodies s → AreFitting (meaning s)
meaning-fits s h n t e = means-fits (look_up n s.macros) (kind_by_headers n s.headers) t (macro-fits n s.macros h) (kinds-fit n s.headers) e

-- ---- parts

known-bodies : (o : Option (Option Tree)) (m : Macro) → IsBody m.1 → AllByRecursion (λ (n : Macro). IsBody n.1) (unless_known o m)
known-bodies None m h = (h, tt)
known-bodies (Some b) m h = tt

members : (fs : List Field) → AllByRecursion IsField fs → AllByRecursion IsMember (map field_of fs)
members [] h = tt
members (f ∷ fs) h = ((h.0.kind, h.0.name), members fs h.1)

some-members : (fs : List Field) → IsSome fs → IsSomeMember (map field_of fs)
some-members [] h = absurd h
some-members (f ∷ fs) h = tt

-- what a quoted include leaves, where it may be read
record BesideFits (given : State → Type 0) (behind : State → State) (items : State → List BareItem) : Type 0 where
  bodies : (s : State) → AreBodies s → given s → AreBodies (behind s)
  fit : (s : State) → AreBodies s → given s → AllByRecursion FitsItem (items s)

module _ (beside : Option (List ℕ)) (given : State → Type 0) (behind : State → State) (items : State → List BareItem) (x : BesideFits given behind items) where
  part-bodies : (s : State) (p : Part) → AreBodies s → Right beside given s p → AreBodies (behind_part behind s p)
  part-bodies s (comment t) b h = b
  part-bodies s blank b h = b
  part-bodies s (include n) b h = b
  part-bodies s (include_beside n) b h = x.bodies s b h.1
  part-bodies s (define n body) b h = every-append (λ (m : Macro). IsBody m.1) s.macros (new_macros s (n, body)) b (known-bodies (look_up n s.macros) (n, body) h.1)
  part-bodies s (if_not_defined n) b h = b
  part-bodies s end_if b h = b
  part-bodies s (structure tag fs) b h = b
  part-bodies s (routine f body) b h = b

  part-fits : (s : State) (p : Part) → AreBodies s → Right beside given s p → AllByRecursion FitsItem (items_at items s p)
  part-fits s (comment t) b h = tt
  part-fits s blank b h = tt
  part-fits s (include n) b h = tt
  part-fits s (include_beside n) b h = x.fit s b h.1
  part-fits s (define n body) b h = tt
  part-fits s (if_not_defined n) b h = tt
  part-fits s end_if b h = tt
  part-fits s (structure tag fs) b h = ((h.0, some-members fs h.1, members fs h.2), tt)
  part-fits s (routine f body) b h = ((h.0, body-fits _ (meaning s) (meaning-fits s b) body h.2.1 h.1), tt)

  parts-bodies : (s : State) (ps : List Part) → AreBodies s → AllRight beside given behind s ps → AreBodies (behind_all behind s ps)
  parts-bodies s [] b h = b
  parts-bodies s (p ∷ ps) b h = parts-bodies (behind_part behind s p) ps (part-bodies s p b h.0) h.1

  parts-fit : (s : State) (ps : List Part) → AreBodies s → AllRight beside given behind s ps → AllByRecursion FitsItem (items_of behind items s ps)
  parts-fit s [] b h = tt
  parts-fit s (p ∷ ps) b h = every-append FitsItem (items_at items s p) (items_of behind items (behind_part behind s p) ps) (part-fits s p b h.0) (parts-fit (behind_part behind s p) ps (part-bodies s p b h.0) h.1)

-- ---- units

no-beside : BesideFits no_header (λ s. s) (λ s. [])
no-beside = record { bodies = λ s b h. absurd h; fit = λ s b h. absurd h }

header-beside : (header : List Part) → BesideFits (λ s. IsHeaderAt s header) (header_state header) (header_items header)
header-beside header = record {
  bodies = λ s b h. parts-bodies None no_header (λ t. t) (λ t. []) no-beside s header b h.right;
  fit = λ s b h. parts-fit None no_header (λ t. t) (λ t. []) no-beside s header b h.right;
}

pub source-fits : (name : List ℕ) (header source : List Part) → IsSource name header source → AllByRecursion FitsItem (source_items header source)
source-fits name header source h = parts-fit (Some name) (λ s. IsHeaderAt s header) (header_state header) (header_items header) (header-beside header) nothing_known source tt h.right
