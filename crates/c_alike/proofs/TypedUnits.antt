-- Fields, items and units without a fault (ISO/IEC 9899:1999, the constraints of 6.7.2.1, 6.7.5.3 and 6.9), from what stands before them: one step each.
use Rattle.std.proofs.Common.{◌≡◌, ℕ, Bool, true, false, ◌==◌, List, [], ◌∷◌, ◌++◌, map, Some, None, is_some, bytes_eq, refl, sym, ap, ◌∙◌, append_assoc, append-nil, arith, inl, inr}
use Rattle.std.specs.Prelude.{⊤}
use Rattle.std.specs.List.{AllByRecursion}
use Rattle.std.proofs.lemmas.Bool.Decides.{nat_tests}
use Rattle.c_text.specs.declared.token.Spelled.{Spelled}
use Rattle.c_text.specs.declared.token.Spelled.TheVariants.{Exact, Size, Plain}
use Rattle.c_text.specs.MacroDefinition.{same_spelled}
use Rattle.c_text.specs.Refusal.{Refusal}
use Rattle.c_tree.specs.declared.item.CType.{CType}
use Rattle.c_tree.specs.declared.item.CType.TheVariants.{Void, Integer, Pointer}
use Rattle.c_tree.specs.declared.item.Target.TheVariants.{Byte, Struct}
use Rattle.c_tree.specs.declared.item.Field.{Field}
use Rattle.c_tree.specs.declared.item.Function.{Function}
use Rattle.c_tree.specs.declared.item.Item.{Item}
use Rattle.c_tree.specs.declared.item.Item.TheVariants as item
use Rattle.c_tree.specs.declared.item.Struct.{Struct as Structure}
use Rattle.c_tree.specs.declared.item.Unit.{Unit as Whole}
use Rattle.c_tree.specs.declared.statement.Stmt.{Stmt}
use Rattle.c_tree.specs.BareUnit.{BareItem, bare_field, bare_head, bare_unit}
use Rattle.cg_out.specs.Words.{look_up, same_bool}
use Rattle.c_widths.specs.DataModel.{DataModel, models, ilp32, lp64}
use Rattle.c_operators.proofs.Models.{IsOneOf}
use Rattle.name_table.proofs.Adding.{look_up-append}
use Rattle.c_types.specs.Scope.{Declared, is_reserved}
use Rattle.c_types.specs.Setting.{Setting, setting, declared_by, structs, functions, definition, definitions, calling, callings}
use Rattle.c_types.specs.ExpressionTypes.{tag_of}
use Rattle.c_types.specs.UnitTypes.{lacks_tag, fields_in_order, same_type, same_fields, same_head, head_faults, struct_faults, item_faults, items_in_order, unit_faults, faults_under}
use Rattle.c_effect.proofs.Placeless.{grown_item}
use Rattle.c_effect.proofs.BareGrown.{bare-grown_items}
use Rattle.c_effect.proofs.Locals.{same-name}
use Rattle.c_alike.proofs.UnplacedUnits.{types-alike}
use Rattle.c_alike.proofs.TypedExpressions.{and-false}
use Rattle.c_alike.proofs.TypedStatements.{none-both, AreTyped}

none-first : (a b : List Refusal) → a ++ b ≡ [] → a ≡ []
none-first [] b h = refl
none-first (x ∷ a) b h = absurd (cc)

none-second : (a b : List Refusal) → a ++ b ≡ [] → b ≡ []
none-second [] b h = h
none-second (x ∷ a) b h = absurd (cc)

-- ---- what items one behind another declare

pub structs-both : (xs ys : List Item) → structs (xs ++ ys) ≡ structs xs ++ structs ys
structs-both [] ys = refl
structs-both (item.Struct s ∷ xs) ys = ap (λ r. (s.tag, s.fields) ∷ r) (structs-both xs ys)
structs-both (item.Function f ∷ xs) ys = structs-both xs ys

pub functions-both : (xs ys : List Item) → functions (xs ++ ys) ≡ functions xs ++ functions ys
functions-both [] ys = refl
functions-both (item.Struct s ∷ xs) ys = functions-both xs ys
functions-both (item.Function f ∷ xs) ys = ap (λ r. (f.name, f) ∷ r) (functions-both xs ys)

pub definitions-both : (xs ys : List Item) → definitions (xs ++ ys) ≡ definitions xs ++ definitions ys
definitions-both [] ys = refl
definitions-both (item.Struct s ∷ xs) ys = definitions-both xs ys
definitions-both (item.Function f ∷ xs) ys = ap (λ r. definition f.body f ++ r) (definitions-both xs ys) ∙ sym (append_assoc (definition f.body f) (definitions xs) (definitions ys))

pub callings-both : (xs ys : List Item) → callings (xs ++ ys) ≡ callings xs ++ callings ys
callings-both [] ys = refl
callings-both (item.Struct s ∷ xs) ys = callings-both xs ys
callings-both (item.Function f ∷ xs) ys = ap (λ r. calling f.body f.name ++ r) (callings-both xs ys) ∙ sym (append_assoc (calling f.body f.name) (callings xs) (callings ys))

-- ---- declarations that are equal but for places agree

self-bool : (b : Bool) → same_bool b b ≡ true
self-bool true = refl
self-bool false = refl

self-number : (n : ℕ) → (n == n) ≡ true
self-number n = grind (arith, nat_tests)

self-spelled : (x : Spelled) → same_spelled x x ≡ true
self-spelled (Exact width signed) = rw (self-number width) (self-bool signed)
self-spelled Size = refl
self-spelled (Plain type) = self-number _

self-type : (type : CType) → same_type type type ≡ true
self-type Void = refl
self-type (Integer x) = self-spelled x
self-type (Pointer Byte constant) = self-bool constant
self-type (Pointer (Struct tag) constant) = rw (same-name tag) (self-bool constant)

fields-agree : (fs gs : List Field) → map bare_field fs ≡ map bare_field gs → same_fields fs gs ≡ true
fields-agree [] [] h = refl
fields-agree [] (g ∷ gs) h = absurd (cc)
fields-agree (f ∷ fs) [] h = absurd (cc)
fields-agree (f ∷ fs) (g ∷ gs) h =
    let first : bare_field f ≡ bare_field g = cc in
    let kinds : f.kind ≡ g.kind = ap (λ b. b.kind) first in
    let names : f.name ≡ g.name = ap (λ b. b.name) first in
    let rest : map bare_field fs ≡ map bare_field gs = cc in
    rw (kinds, names, self-type g.kind, same-name g.name) (fields-agree fs gs rest)

pub heads-alike : (f g : Function) → bare_head f ≡ bare_head g → same_head f g ≡ true
heads-alike f g h = rw (ap (λ b. b.fixed) h, ap (λ b. b.returns) h, self-bool g.fixed, self-type g.returns) (fields-agree f.params g.params (ap (λ b. b.params) h))

-- ---- names of fields

-- no field of these has the name
abbrev pub LackField : List Field → List ℕ → Type 0
LackField [] name = ⊤
LackField (f ∷ fs) name = (bytes_eq name f.name ≡ false) × LackField fs name

-- no two of them have one name
abbrev pub AreApart : List Field → Type 0
AreApart [] = ⊤
AreApart (f ∷ fs) = LackField fs f.name × AreApart fs

-- none of them has a name of these
abbrev AreUndeclared : Declared → List Field → Type 0
AreUndeclared earlier [] = ⊤
AreUndeclared earlier (f ∷ fs) = (look_up f.name earlier ≡ None) × AreUndeclared earlier fs

none-declared : (fs : List Field) → AreUndeclared [] fs
none-declared [] = tt
none-declared (f ∷ fs) = (refl, none-declared fs)

undeclared-behind : (earlier : Declared) (g : Field) (fs : List Field) → LackField fs g.name → AreUndeclared earlier fs → AreUndeclared (earlier ++ (g.name, g.kind) ∷ []) fs
undeclared-behind earlier g [] lack new = tt
undeclared-behind earlier g (f ∷ fs) lack new =
    (look_up-append f.name earlier ((g.name, g.kind) ∷ []) ∙ rw (new.0, lack.0) refl, undeclared-behind earlier g fs lack.1 new.1)

-- ---- fields and parameters

module _ (s : Setting) where
  -- fields behind others of the same list have no fault
  pub record AreFieldsTyped (earlier : Declared) (fs : List Field) : Type 0 where
    pub no_faults : fields_in_order s earlier fs ≡ []

  pub typed-no_fields : (earlier : Declared) → AreFieldsTyped earlier []
  typed-no_fields earlier = record { no_faults = refl }

  pub typed-field : (earlier : Declared) (f : Field) (rest : List Field) → lacks_tag s (tag_of f.kind) ≡ false → look_up f.name earlier ≡ None → is_reserved f.name ≡ false
      → AreFieldsTyped (earlier ++ (f.name, f.kind) ∷ []) rest → AreFieldsTyped earlier (f ∷ rest)
  typed-field earlier f rest known new plain r = record { no_faults = none-both _ _ (rw (known, new, plain) refl) (r.no_faults) }

  -- ---- fields of different names

  -- tags that are declared, and names that are not reserved
  abbrev pub AreKnown : List Field → Type 0
  AreKnown [] = ⊤
  AreKnown (f ∷ fs) = (lacks_tag s (tag_of f.kind) ≡ false) × (is_reserved f.name ≡ false) × AreKnown fs

  fields-apart : (earlier : Declared) (fs : List Field) → AreKnown fs → AreApart fs → AreUndeclared earlier fs → AreFieldsTyped earlier fs
  fields-apart earlier [] known apart new = typed-no_fields earlier
  fields-apart earlier (f ∷ fs) known apart new =
      typed-field earlier f fs known.0 new.0 known.1 (fields-apart (earlier ++ (f.name, f.kind) ∷ []) fs known.2 apart.1 (undeclared-behind earlier f fs apart.0 new.1))

  pub typed-fields : (fs : List Field) → AreKnown fs → AreApart fs → AreFieldsTyped [] fs
  typed-fields fs known apart = fields-apart [] fs known apart (none-declared fs)

  -- ---- structs, whose tags are new

  pub typed-struct : (x : Structure) → s.fields x.tag ≡ None → is_reserved x.tag ≡ false → AreFieldsTyped [] x.fields → struct_faults s x ≡ []
  typed-struct x new plain h = rw (new, plain) (h.no_faults)

  -- ---- heads of functions

  -- the first declaration of a name
  pub typed-first_head : (f : Function) → s.function f.name ≡ None → is_reserved f.name ≡ false → AreFieldsTyped [] f.params → head_faults s f ≡ []
  typed-first_head f new plain h = rw (new, plain) (h.no_faults)

  -- one behind a declaration that it agrees with, where no definition stands before
  pub typed-later_head : (f g : Function) → s.function f.name ≡ Some g → bare_head f ≡ bare_head g → s.defined f.name ≡ None → is_reserved f.name ≡ false → AreFieldsTyped [] f.params → head_faults s f ≡ []
  typed-later_head f g first alike new plain h = rw (first, heads-alike f g alike, new, and-false (is_some f.body), plain) (h.no_faults)

-- ---- items, before and behind

pub typed-prototype : (s after : Setting) (f : Function) → f.body ≡ None → head_faults s f ≡ [] → item_faults s after (item.Function f) ≡ []
typed-prototype s after f none h = none-both _ _ h (rw none refl)

pub typed-definition : (s after : Setting) (f : Function) (list : List Stmt) → f.body ≡ Some list → head_faults s f ≡ []
    → AreTyped after f.returns (record { outer = []; inner = declared_by f.params }) list → item_faults s after (item.Function f) ≡ []
typed-definition s after f list is h body = none-both _ _ h (rw is (body.no_faults))

-- ---- units

-- items of a unit of these, behind some of them, have no fault
pub record AreItemsTyped (m : DataModel) (items before rest : List Item) : Type 0 where
  pub no_faults : items_in_order m items before rest ≡ []

pub typed-no_items : (m : DataModel) (items before : List Item) → AreItemsTyped m items before []
typed-no_items m items before = record { no_faults = refl }

pub typed-item : (m : DataModel) (items before : List Item) (i : Item) (rest : List Item) → item_faults (setting m items before) (setting m items (before ++ i ∷ [])) i ≡ []
    → AreItemsTyped m items (before ++ i ∷ []) rest → AreItemsTyped m items before (i ∷ rest)
typed-item m items before i rest h r = record { no_faults = none-both _ _ h (r.no_faults) }

in-order-both : (m : DataModel) (items before xs ys : List Item) → items_in_order m items before xs ≡ [] → items_in_order m items (before ++ xs) ys ≡ [] → items_in_order m items before (xs ++ ys) ≡ []
in-order-both m items before [] ys h g = rw (append-nil before) at g
in-order-both m items before (x ∷ xs) ys h g =
    let behind = before ++ x ∷ [] in
    none-both _ _ (none-first _ _ h)
    (in-order-both m items behind xs ys (none-second (item_faults (setting m items before) (setting m items behind) x) _ h) (ap (λ b. items_in_order m items b ys) (append_assoc before (x ∷ []) xs) ∙ g))

pub typed-items_both : (m : DataModel) (items before xs ys : List Item) → AreItemsTyped m items before xs → AreItemsTyped m items (before ++ xs) ys → AreItemsTyped m items before (xs ++ ys)
typed-items_both m items before xs ys h g = record { no_faults = in-order-both m items before xs ys (h.no_faults) (g.no_faults) }

pub typed-unit : (m : DataModel) (items : List Item) → AreItemsTyped m items [] items → unit_faults m (record { items = items }) ≡ []
unfolding unit_faults
typed-unit m items h = h.no_faults

pub typed-under_all : (models : List DataModel) (u : Whole) → AllByRecursion (λ m. unit_faults m u ≡ []) models → faults_under models u ≡ []
typed-under_all [] u h = refl
typed-under_all (m ∷ models) u h = none-both _ _ h.0 (typed-under_all models u h.1)

-- under every model of the list
pub typed-under_models : (u : Whole) → ((m : DataModel) → IsOneOf m → unit_faults m u ≡ []) → faults_under models u ≡ []
typed-under_models u each = typed-under_all models u (each ilp32 (inl refl), (each lp64 (inr refl), tt))

-- a unit that is these items but for places, where they have no fault at one fixed place
pub types-of_bare : (m : DataModel) (u : Whole) (items : List BareItem) → bare_unit u ≡ items → unit_faults m (record { items = map grown_item items }) ≡ [] → unit_faults m u ≡ []
types-of_bare m u items e h = types-alike m (record { items = map grown_item items }) u (bare-grown_items items ∙ sym e) h
