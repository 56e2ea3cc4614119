-- Which units are printed so that they read back: as a header, and as a source beside a header.
use Rattle.std.specs.Prelude.{◌≡◌, ℕ, zero, suc, List, [], ◌∷◌, map, length, ◌<◌, Option, Some, None}
use Rattle.std.specs.List.{AllByRecursion}
use Rattle.cg_out.specs.Words.{look_up}
use Rattle.c_text.specs.Characters.{Pass}
use Rattle.c_text.specs.Splice.{is_plain}
use Rattle.c_text.specs.Piece.{in_string}
use Rattle.c_text.specs.StandardHeader.{Header}
use Rattle.c_tree.specs.BareExpression.{Tree, constant, unary, binary, bracket}
use Rattle.c_tree.specs.BareUnit.{struct, function}
use Rattle.c_printed.specs.PrintedItem.{field_of}
use Rattle.c_printed.specs.PrintedUnit.{Part, comment, blank, include, include_beside, define, if_not_defined, end_if, structure, routine}
use Rattle.c_printed.specs.Printable.{IsFree, Fits}
use Rattle.c_printed.specs.PrintableItem.{IsShown, IsField, IsSome, IsHead, FitsBody}
use Rattle.c_printed.specs.Settled.{SettlesItem}
use Rattle.c_printed.specs.State.{State, nothing_known, becomes, meaning, header_named, behind_part, header_state}

-- ---- macros

-- a body with no name in it
abbrev pub NoWords : Tree → Type 0
NoWords (constant c) = Unit {0}
NoWords (unary u x) = NoWords x
NoWords (binary o l r) = NoWords l × NoWords r
NoWords (bracket x) = NoWords x
NoWords t = ⊥

abbrev pub IsBody : Option Tree → Type 0
IsBody None = Unit {0}
IsBody (Some t) = Fits 0 t × NoWords t

-- no macro has two bodies
abbrev pub IsSame : Option (Option Tree) → Option Tree → Type 0
IsSame None body = Unit {0}
IsSame (Some first) body = first ≡ body

-- ---- includes

abbrev pub IsKnown : Option Header → Type 0
IsKnown None = ⊥
IsKnown (Some h) = Unit {0}

-- a quoted include has the name of the header that stands beside the source
pub record IsBeside (beside : Option (List ℕ)) (n : List ℕ) : Type 0 where
  pub is : beside ≡ Some n
  pub not_empty : 0 < length n
  pub shown : Pass in_string n
  pub plain : Pass is_plain n

-- ---- parts

-- a part that may stand where this is known; `beside` names the header that may be included where `given` holds
abbrev pub Right : (beside : Option (List ℕ)) → (given : State → Type 0) → State → Part → Type 0
Right beside given s (comment t) = IsShown t
Right beside given s blank = Unit {0}
Right beside given s (include n) = IsKnown (header_named n)
Right beside given s (include_beside n) = IsBeside beside n × given s
Right beside given s (define n body) = IsFree n × IsBody body × IsSame (look_up n s.macros) body
Right beside given s (if_not_defined n) = IsFree n × (look_up n s.macros ≡ None)
Right beside given s end_if = Unit {0}
Right beside given s (structure tag fs) = IsFree tag × IsSome fs × AllByRecursion IsField fs × SettlesItem (becomes s) (meaning s) (struct tag (map field_of fs))
Right beside given s (routine h body) = IsHead h × FitsBody body × SettlesItem (becomes s) (meaning s) (function h body)

abbrev pub AllRight : Option (List ℕ) → (State → Type 0) → (behind : State → State) → State → List Part → Type 0
AllRight beside given behind s [] = Unit {0}
AllRight beside given behind s (p ∷ ps) = Right beside given s p × AllRight beside given behind (behind_part behind s p) ps

-- each conditional is closed, and so many are open at the beginning
abbrev pub Balanced : ℕ → List Part → Type 0
Balanced depth [] = depth ≡ 0
Balanced depth (if_not_defined n ∷ ps) = Balanced (suc depth) ps
Balanced zero (end_if ∷ ps) = ⊥
Balanced (suc depth) (end_if ∷ ps) = Balanced depth ps
Balanced depth (p ∷ ps) = Balanced depth ps

-- ---- units

abbrev pub no_header : State → Type 0
no_header s = ⊥

-- taken as a header, where this is known
pub record IsHeaderAt (s : State) (parts : List Part) : Type 0 where
  pub right : AllRight None no_header (λ t. t) s parts
  pub balanced : Balanced 0 parts

-- taken as a source beside a header of this name
pub record IsSource (name : List ℕ) (header parts : List Part) : Type 0 where
  pub right : AllRight (Some name) (λ s. IsHeaderAt s header) (header_state header) nothing_known parts
  pub balanced : Balanced 0 parts
