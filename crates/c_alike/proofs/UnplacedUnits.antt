-- Whether a unit has a fault of types, and of which kinds, does not hang on its places.
use Rattle.std.proofs.Common.{◌≡◌, ℕ, not, List, [], ◌∷◌, ◌++◌, map, Option, Some, None, option_map, is_some, refl, sym, ap, ◌∙◌}
use Rattle.std.proofs.lemmas.List.{map-append}
use Rattle.c_text.specs.declared.refusal.CKind.TheVariants.{UnknownName, Redeclared, ReservedName}
use Rattle.c_text.specs.Refusal.{Refusal}
use Rattle.c_tree.specs.declared.item.CType.{CType}
use Rattle.c_tree.specs.declared.item.Field.{Field}
use Rattle.c_tree.specs.declared.item.Function.{Function}
use Rattle.c_tree.specs.declared.item.Item.{Item}
use Rattle.c_tree.specs.declared.item.Item.TheVariants as item
use Rattle.c_tree.specs.declared.item.Struct.{Struct as Structure}
use Rattle.c_tree.specs.declared.item.Unit.{Unit as Whole}
use Rattle.c_tree.specs.declared.statement.Stmt.{Stmt}
use Rattle.c_tree.specs.BareUnit.{bare_body, bare_item, bare_unit}
use Rattle.cg_out.specs.Words.{look_up}
use Rattle.c_widths.specs.DataModel.{DataModel}
use Rattle.c_types.specs.TypeFault.{when}
use Rattle.c_types.specs.Scope.{Declared, is_reserved, name_faults}
use Rattle.c_types.specs.Setting.{Setting, setting, declared_by, functions, calling, callings}
use Rattle.c_types.specs.ExpressionTypes.{tag_of}
use Rattle.c_types.specs.UnitTypes.{lacks_tag, field_faults, fields_in_order, same_fields, same_head, disagrees, body_faults, head_faults, struct_faults, item_faults, items_in_order, unit_faults, faults_under}
use Rattle.c_types.proofs.Behind.{same_setting}
use Rattle.c_effect.proofs.Placeless.{no_place, grown_body, grown_item, placeless_field, placeless_function, placeless_items}
use Rattle.c_effect.proofs.AnywhereCalls.{regrown, structs-placeless, either-function, definitions-placeless}
use Rattle.c_alike.proofs.Unplaced.{unplaced, all_unplaced, setting_unplaced, both, when-unplaced}
use Rattle.c_alike.proofs.UnplacedExpressions.{declared-same}
use Rattle.c_alike.proofs.UnplacedFolds.{statements_call-same}
use Rattle.c_alike.proofs.UnplacedStatements.{name-faults, statements-anywhere}

-- ---- what a place knows

functions-placeless : (name : List ℕ) (items : List Item) → look_up name (functions (placeless_items items)) ≡ option_map placeless_function (look_up name (functions items))
functions-placeless name [] = refl
functions-placeless name (item.Struct s ∷ rest) = functions-placeless name rest
functions-placeless name (item.Function f ∷ rest) = either-function _ f _ _ (functions-placeless name rest)

calling-placeless : (body : Option (List Stmt)) (name : List ℕ) → calling (grown_body (bare_body body)) name ≡ calling body name
calling-placeless None name = refl
calling-placeless (Some list) name = rw (statements_call-same list) refl

callings-placeless : (items : List Item) → callings (placeless_items items) ≡ callings items
callings-placeless [] = refl
callings-placeless (item.Struct s ∷ rest) = callings-placeless rest
callings-placeless (item.Function f ∷ rest) = rw (calling-placeless f.body f.name, callings-placeless rest) refl

setting-placeless : (m : DataModel) (items before : List Item) → setting m (placeless_items items) (placeless_items before) ≡ setting_unplaced (setting m items before)
setting-placeless m items before = same_setting (setting m (placeless_items items) (placeless_items before)) (setting_unplaced (setting m items before)) refl
    (λ tag. structs-placeless tag before) (λ name. functions-placeless name before) (λ name. definitions-placeless name before) (λ name. ap (look_up name) (callings-placeless items))

-- ---- declarations that agree

there-same : {A B : Type 0} (f : A → B) (found : Option A) → is_some (option_map f found) ≡ is_some found
there-same f None = refl
there-same f (Some x) = refl

body-there : (body : Option (List Stmt)) → is_some (grown_body (bare_body body)) ≡ is_some body
body-there None = refl
body-there (Some list) = refl

fields-agree : (fs gs : List Field) → same_fields (map placeless_field fs) (map placeless_field gs) ≡ same_fields fs gs
fields-agree [] [] = refl
fields-agree [] (g ∷ gs) = refl
fields-agree (f ∷ fs) [] = refl
fields-agree (f ∷ fs) (g ∷ gs) = rw (fields-agree fs gs) refl

heads-agree : (f g : Function) → same_head (placeless_function f) (placeless_function g) ≡ same_head f g
heads-agree f g = rw (regrown f.params, regrown g.params, fields-agree f.params g.params) refl

disagrees-same : (f : Function) (first defined : Option Function) → disagrees (placeless_function f) (option_map placeless_function first) (option_map placeless_function defined) ≡ disagrees f first defined
disagrees-same f None defined = refl
disagrees-same f (Some first) defined = rw (heads-agree f first, body-there f.body, there-same placeless_function defined) refl

module _ (s : Setting) where
  tag-lacks : (tag : Option (List ℕ)) → lacks_tag (setting_unplaced s) tag ≡ lacks_tag s tag
  tag-lacks None = refl
  tag-lacks (Some tag) = ap not (there-same (map placeless_field) (s.fields tag))

  field-faults : (earlier : Declared) (f : Field) → field_faults (setting_unplaced s) earlier (placeless_field f) ≡ all_unplaced (field_faults s earlier f)
  field-faults earlier f =
      let lacks = lacks_tag s (tag_of f.kind) in
      rw (tag-lacks (tag_of f.kind)) (both _ _ (when lacks UnknownName f.place) (name_faults f.name f.place earlier) (when-unplaced lacks UnknownName f.place) (name-faults f.name f.place earlier))

  fields-faults : (earlier : Declared) (fs : List Field) → fields_in_order (setting_unplaced s) earlier (map placeless_field fs) ≡ all_unplaced (fields_in_order s earlier fs)
  fields-faults earlier [] = refl
  fields-faults earlier (f ∷ fs) = both _ _ (field_faults s earlier f) (fields_in_order s (earlier ++ declared_by (f ∷ [])) fs) (field-faults earlier f) (fields-faults (earlier ++ declared_by (f ∷ [])) fs)

  -- ---- items

  body-faults : (body : Option (List Stmt)) (returns : CType) (params : Declared) → body_faults (setting_unplaced s) (grown_body (bare_body body)) returns params ≡ all_unplaced (body_faults s body returns params)
  body-faults None returns params = refl
  body-faults (Some list) returns params = statements-anywhere s list returns (record { outer = []; inner = params })

  head-faults : (f : Function) → head_faults (setting_unplaced s) (placeless_function f) ≡ all_unplaced (head_faults s f)
  head-faults f =
      let differs = disagrees f (s.function f.name) (s.defined f.name) in
      rw (disagrees-same f (s.function f.name) (s.defined f.name), regrown f.params)
      (both _ _ (when differs Redeclared f.place) (when (is_reserved f.name) ReservedName f.place ++ fields_in_order s [] f.params) (when-unplaced differs Redeclared f.place)
      (both _ _ (when (is_reserved f.name) ReservedName f.place) (fields_in_order s [] f.params) (when-unplaced (is_reserved f.name) ReservedName f.place) (fields-faults [] f.params)))

  struct-faults : (x : Structure) → struct_faults (setting_unplaced s) (record { tag = x.tag; fields = map placeless_field x.fields; place = no_place }) ≡ all_unplaced (struct_faults s x)
  struct-faults x =
      let again = is_some (s.fields x.tag) in
      rw (there-same (map placeless_field) (s.fields x.tag))
      (both _ _ (when again Redeclared x.place) (when (is_reserved x.tag) ReservedName x.place ++ fields_in_order s [] x.fields) (when-unplaced again Redeclared x.place)
      (both _ _ (when (is_reserved x.tag) ReservedName x.place) (fields_in_order s [] x.fields) (when-unplaced (is_reserved x.tag) ReservedName x.place) (fields-faults [] x.fields)))

item-faults : (s after : Setting) (i : Item) → item_faults (setting_unplaced s) (setting_unplaced after) (grown_item (bare_item i)) ≡ all_unplaced (item_faults s after i)
item-faults s after (item.Struct x) = rw (regrown x.fields) (struct-faults s x)
item-faults s after (item.Function f) =
    both _ _ (head_faults s f) (body_faults after f.body f.returns (declared_by f.params)) (head-faults s f)
    (rw (regrown f.params, declared-same f.params) (body-faults after f.body f.returns (declared_by f.params)))

more-placeless : (before : List Item) (i : Item) → placeless_items (before ++ i ∷ []) ≡ placeless_items before ++ grown_item (bare_item i) ∷ []
more-placeless before i = ap (map grown_item) (map-append bare_item before (i ∷ [])) ∙ map-append grown_item (map bare_item before) (bare_item i ∷ [])

items-faults : (m : DataModel) (items before rest : List Item) → items_in_order m (placeless_items items) (placeless_items before) (placeless_items rest) ≡ all_unplaced (items_in_order m items before rest)
items-faults m items before [] = refl
items-faults m items before (i ∷ rest) =
    let behind = before ++ i ∷ [] in
    rw (← more-placeless before i, setting-placeless m items before, setting-placeless m items behind)
    (both _ _ (item_faults (setting m items before) (setting m items behind) i) (items_in_order m items behind rest) (item-faults (setting m items before) (setting m items behind) i) (items-faults m items behind rest))

-- ---- units

-- the faults of a unit, but for their places
pub faults-placeless : (m : DataModel) (unit : Whole) → unit_faults m (record { items = placeless_items unit.items }) ≡ all_unplaced (unit_faults m unit)
unfolding unit_faults
faults-placeless m unit = items-faults m unit.items [] unit.items

-- units that are equal but for places have the same faults but for places
pub faults-alike : (m : DataModel) (u v : Whole) → bare_unit u ≡ bare_unit v → all_unplaced (unit_faults m u) ≡ all_unplaced (unit_faults m v)
faults-alike m u v e =
    sym (faults-placeless m u) ∙ ap (λ items. unit_faults m (record { items = map grown_item items })) e ∙ faults-placeless m v

none-left : (faults : List Refusal) → all_unplaced faults ≡ [] → faults ≡ []
none-left [] h = refl
none-left (r ∷ faults) h = absurd (cc)

kinds-of : (faults : List Refusal) → map (λ (r : Refusal). r.kind) (all_unplaced faults) ≡ map (λ (r : Refusal). r.kind) faults
kinds-of [] = refl
kinds-of (r ∷ faults) = ap (λ rest. r.kind ∷ rest) (kinds-of faults)

-- of the same kinds, in order
pub kinds-alike : (m : DataModel) (u v : Whole) → bare_unit u ≡ bare_unit v → map (λ (r : Refusal). r.kind) (unit_faults m u) ≡ map (λ (r : Refusal). r.kind) (unit_faults m v)
kinds-alike m u v e = sym (kinds-of (unit_faults m u)) ∙ ap (map (λ (r : Refusal). r.kind)) (faults-alike m u v e) ∙ kinds-of (unit_faults m v)

-- whether a unit has no fault does not hang on places
pub types-alike : (m : DataModel) (u v : Whole) → bare_unit u ≡ bare_unit v → unit_faults m u ≡ [] → unit_faults m v ≡ []
types-alike m u v e h = none-left (unit_faults m v) (sym (faults-alike m u v e) ∙ ap all_unplaced h)

under-all : (models : List DataModel) (u v : Whole) → bare_unit u ≡ bare_unit v → all_unplaced (faults_under models u) ≡ all_unplaced (faults_under models v)
under-all [] u v e = refl
under-all (m ∷ models) u v e =
    map-append unplaced (unit_faults m u) (faults_under models u) ∙ ap (λ xs. xs ++ all_unplaced (faults_under models u)) (faults-alike m u v e)
    ∙ ap (λ ys. all_unplaced (unit_faults m v) ++ ys) (under-all models u v e) ∙ sym (map-append unplaced (unit_faults m v) (faults_under models v))

-- under models in turn
pub types-alike-under : (models : List DataModel) (u v : Whole) → bare_unit u ≡ bare_unit v → faults_under models u ≡ [] → faults_under models v ≡ []
types-alike-under models u v e h = none-left (faults_under models v) (sym (under-all models u v e) ∙ ap all_unplaced h)
