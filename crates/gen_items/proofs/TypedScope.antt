-- What a function's scope knows behind the declarations of a message's locals (ISO/IEC 9899:1999, 6.2.1).
use Rattle.std.proofs.Common.{◌≡◌, ℕ, false, List, [], ◌∷◌, ◌++◌, Option, Some, None, refl, ◌∙◌}
use Rattle.std.specs.List.{AllByRecursion}
use Rattle.c_text.specs.declared.token.Spelled.TheVariants.{Exact}
use Rattle.c_tree.specs.declared.item.CType.{CType}
use Rattle.c_tree.specs.declared.item.CType.TheVariants.{Integer}
use Rattle.cg_out.specs.Words.{look_up}
use Rattle.name_table.proofs.Adding.{look_up-append}
use Rattle.c_types.specs.Scope.{Declared, Scope, type_named}
use Rattle.c_effect.proofs.Locals.{same-name}
use Rattle.gen_pack.specs.SegmentMove.{width_of}
use Rattle.gen_pack.specs.Parts.{Part}
use Rattle.gen_pack.proofs.OwnLocals.{IsOther, AreOther, ApartFrom, HaveOwn, flipped-names}

-- ---- tables that grow behind

module _ {A : Type 0} where
  pub some-kept : (name : List ℕ) (v : A) (xs ys : List (List ℕ × A)) → look_up name xs ≡ Some v → look_up name (xs ++ ys) ≡ Some v
  some-kept name v xs ys is = look_up-append name xs ys ∙ rw is refl

  pub none-kept : (name : List ℕ) (xs ys : List (List ℕ × A)) → look_up name xs ≡ None → look_up name ys ≡ None → look_up name (xs ++ ys) ≡ None
  none-kept name xs ys is also = look_up-append name xs ys ∙ rw is also

  pub some-behind : (name : List ℕ) (v : A) (xs ys : List (List ℕ × A)) → look_up name xs ≡ None → look_up name ys ≡ Some v → look_up name (xs ++ ys) ≡ Some v
  some-behind name v xs ys is then_ = look_up-append name xs ys ∙ rw is then_

-- ---- locals

-- behind the declaration of a local that there may be
abbrev pub with_local : Option (List ℕ) → ℕ → Declared → Declared
with_local None w inner = inner
with_local (Some n) w inner = inner ++ (n, Integer (Exact w false)) ∷ []

-- and of those of all signals
abbrev pub with_locals : List Part → Declared → Declared
with_locals [] inner = inner
with_locals (x ∷ xs) inner = with_locals xs (with_local x.names.local (width_of x.signal) inner)

-- in the outermost block of a function
abbrev pub at_top : Declared → Scope
at_top inner = record { outer = []; inner = inner }

pub type-shown : (name : List ℕ) (t : CType) (inner : Declared) → look_up name inner ≡ Some t → type_named name (at_top inner) ≡ Some t
type-shown name t inner is = rw is refl

pub none-shown : (name : List ℕ) (inner : Declared) → look_up name inner ≡ None → type_named name (at_top inner) ≡ None
none-shown name inner is = rw is refl

-- ---- what stays

kept-one : (name : List ℕ) (t : CType) (o : Option (List ℕ)) (w : ℕ) (inner : Declared) → look_up name inner ≡ Some t → look_up name (with_local o w inner) ≡ Some t
kept-one name t None w inner is = is
kept-one name t (Some n) w inner is = some-kept name t inner ((n, Integer (Exact w false)) ∷ []) is

pub kept-all : (name : List ℕ) (t : CType) (xs : List Part) (inner : Declared) → look_up name inner ≡ Some t → look_up name (with_locals xs inner) ≡ Some t
kept-all name t [] inner is = is
kept-all name t (x ∷ xs) inner is =
    let w : ℕ = width_of x.signal in
    kept-all name t xs (with_local x.names.local w inner) (kept-one name t x.names.local w inner is)

none-one : (name : List ℕ) (o : Option (List ℕ)) (w : ℕ) (inner : Declared) → look_up name inner ≡ None → IsOther name o → look_up name (with_local o w inner) ≡ None
none-one name None w inner is other = is
none-one name (Some n) w inner is other = none-kept name inner ((n, Integer (Exact w false)) ∷ []) is (rw other refl)

pub none-all : (name : List ℕ) (xs : List Part) (inner : Declared) → look_up name inner ≡ None → AllByRecursion (λ x. IsOther name (Part.names x).local) xs → look_up name (with_locals xs inner) ≡ None
none-all name [] inner is others = is
none-all name (x ∷ xs) inner is others =
    let w : ℕ = width_of x.signal in
    none-all name xs (with_local x.names.local w inner) (none-one name x.names.local w inner is others.0) others.1

-- ---- locals are new, and behind their declarations they have their types

abbrev pub IsNewIn : Declared → Option (List ℕ) → Type 0
IsNewIn inner None = Unit {0}
IsNewIn inner (Some n) = look_up n inner ≡ None

abbrev pub AreNewIn : Declared → List Part → Type 0
AreNewIn inner xs = AllByRecursion (λ x. IsNewIn inner (Part.names x).local) xs

new-one : (o b : Option (List ℕ)) (w : ℕ) (inner : Declared) → IsNewIn inner b → AreOther o b → IsNewIn (with_local o w inner) b
new-one o None w inner new other = tt
new-one None (Some b) w inner new other = new
new-one (Some n) (Some b) w inner new other = none-kept b inner ((n, Integer (Exact w false)) ∷ []) new (rw (flipped-names b n other) refl)

pub new-behind : (o : Option (List ℕ)) (w : ℕ) (inner : Declared) (xs : List Part) → AreNewIn inner xs → ApartFrom o xs → AreNewIn (with_local o w inner) xs
new-behind o w inner [] new apart = tt
new-behind o w inner (x ∷ xs) new apart = (new-one o x.names.local w inner new.0 apart.0, new-behind o w inner xs new.1 apart.1)

-- an unsigned integer of a width
abbrev pub HasType : Declared → Option (List ℕ) → ℕ → Type 0
HasType inner None w = Unit {0}
HasType inner (Some n) w = look_up n inner ≡ Some (Integer (Exact w false))

has-first : (o : Option (List ℕ)) (w : ℕ) (inner : Declared) → IsNewIn inner o → HasType (with_local o w inner) o w
has-first None w inner new = tt
has-first (Some n) w inner new = some-behind n (Integer (Exact w false)) inner ((n, Integer (Exact w false)) ∷ []) new (rw (same-name n) refl)

has-kept : (o : Option (List ℕ)) (w : ℕ) (xs : List Part) (inner : Declared) → HasType inner o w → HasType (with_locals xs inner) o w
has-kept None w xs inner has = tt
has-kept (Some n) w xs inner has = kept-all n (Integer (Exact w false)) xs inner has

pub all-have : (xs : List Part) (inner : Declared) → AreNewIn inner xs → HaveOwn xs → AllByRecursion (λ x. HasType (with_locals xs inner) (Part.names x).local (width_of (Part.signal x))) xs
all-have [] inner new own = tt
all-have (x ∷ xs) inner new own =
    let o : Option (List ℕ) = x.names.local in
    let w : ℕ = width_of x.signal in
    let next : Declared = with_local o w inner in
    (has-kept o w xs next (has-first o w inner new.0), all-have xs next (new-behind o w inner xs new.1 own.0) own.1)
