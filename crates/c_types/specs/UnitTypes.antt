-- The faults of a unit (ISO/IEC 9899:1999, the constraints of 6.7.2.1, 6.7.5.3 and 6.9), all of them, item by item.
use Rattle.std.specs.Prelude.{ℕ, Bool, true, false, not, ◌&&◌, ◌||◌, List, [], ◌∷◌, ◌++◌, Option, Some, None, is_some, bytes_eq}
use Rattle.c_text.specs.declared.refusal.CKind.TheVariants.{UnknownName, Redeclared, ReservedName}
use Rattle.c_text.specs.Refusal.{Refusal}
use Rattle.c_text.specs.MacroDefinition.{same_spelled}
use Rattle.c_tree.specs.declared.item.CType.{CType}
use Rattle.c_tree.specs.declared.item.CType.TheVariants.{Void, Integer, Pointer}
use Rattle.c_tree.specs.declared.item.Field.{Field}
use Rattle.c_tree.specs.declared.item.Function.{Function}
use Rattle.c_tree.specs.declared.item.Item.{Item}
use Rattle.c_tree.specs.declared.item.Item.TheVariants as item
use Rattle.c_tree.specs.declared.item.Struct.{Struct as Structure}
use Rattle.c_tree.specs.declared.item.Target.{Target}
use Rattle.c_tree.specs.declared.item.Target.TheVariants.{Byte, Struct}
use Rattle.c_tree.specs.declared.item.Unit.{Unit as Whole}
use Rattle.c_tree.specs.declared.statement.Stmt.{Stmt}
use Rattle.cg_out.specs.Words.{same_bool}
use Rattle.c_widths.specs.DataModel.{DataModel}
use Rattle.c_types.specs.TypeFault.{when}
use Rattle.c_types.specs.Scope.{Declared, is_reserved, name_faults}
use Rattle.c_types.specs.Setting.{Setting, setting, declared_by}
use Rattle.c_types.specs.ExpressionTypes.{tag_of}
use Rattle.c_types.specs.StatementTypes.{statements}

-- ---- fields and parameters

-- a tag that is not declared before
abbrev pub lacks_tag : Setting → Option (List ℕ) → Bool
lacks_tag s None = false
lacks_tag s (Some tag) = not (is_some (s.fields tag))

-- behind others of the same list
abbrev pub field_faults : Setting → Declared → Field → List Refusal
field_faults s earlier f = when (lacks_tag s (tag_of f.kind)) UnknownName f.place ++ name_faults f.name f.place earlier

-- a list of them behind others
abbrev pub fields_in_order : Setting → Declared → List Field → List Refusal
fields_in_order s earlier [] = []
fields_in_order s earlier (f ∷ rest) = field_faults s earlier f ++ fields_in_order s (earlier ++ declared_by (f ∷ [])) rest

-- ---- declarations that agree: equal but for their places

abbrev pub same_target : Target → Target → Bool
same_target Byte Byte = true
same_target (Struct a) (Struct b) = bytes_eq a b
same_target a b = false

abbrev pub same_type : CType → CType → Bool
same_type Void Void = true
same_type (Integer a) (Integer b) = same_spelled a b
same_type (Pointer a first) (Pointer b second) = same_target a b && same_bool first second
same_type a b = false

abbrev pub same_field : Field → Field → Bool
same_field f g = same_type f.kind g.kind && bytes_eq f.name g.name

abbrev pub same_fields : List Field → List Field → Bool
same_fields [] [] = true
same_fields (f ∷ fs) (g ∷ gs) = same_field f g && same_fields fs gs
same_fields fs gs = false

-- of two functions of one name
abbrev pub same_head : Function → Function → Bool
same_head f g = same_bool f.fixed g.fixed && (same_type f.returns g.returns && same_fields f.params g.params)

-- a declaration against the first of its name and a definition before
abbrev pub disagrees : Function → Option Function → Option Function → Bool
disagrees f None defined = false
disagrees f (Some first) defined = not (same_head f first) || (is_some f.body && is_some defined)

-- ---- items

abbrev pub body_faults : Setting → Option (List Stmt) → CType → Declared → List Refusal
body_faults s None returns params = []
body_faults s (Some list) returns params = statements s list returns (record { outer = []; inner = params })

-- the head of a function
abbrev pub head_faults : Setting → Function → List Refusal
head_faults s f =
    when (disagrees f (s.function f.name) (s.defined f.name)) Redeclared f.place
    ++ (when (is_reserved f.name) ReservedName f.place ++ fields_in_order s [] f.params)

-- a struct
abbrev pub struct_faults : Setting → Structure → List Refusal
struct_faults s x =
    when (is_some (s.fields x.tag)) Redeclared x.place
    ++ (when (is_reserved x.tag) ReservedName x.place ++ fields_in_order s [] x.fields)

-- before an item and behind it; a function is declared in its own body
abbrev pub item_faults : Setting → Setting → Item → List Refusal
item_faults s after (item.Struct x) = struct_faults s x
item_faults s after (item.Function f) = head_faults s f ++ body_faults after f.body f.returns (declared_by f.params)

-- items behind others of a unit
abbrev pub items_in_order : DataModel → List Item → List Item → List Item → List Refusal
items_in_order m items before [] = []
items_in_order m items before (i ∷ rest) =
    item_faults (setting m items before) (setting m items (before ++ i ∷ [])) i ++ items_in_order m items (before ++ i ∷ []) rest

-- all faults of a unit under a model
unfoldable pub unit_faults : DataModel → Whole → List Refusal
unit_faults m unit = items_in_order m unit.items [] unit.items

-- under models in turn
abbrev pub faults_under : List DataModel → Whole → List Refusal
faults_under [] unit = []
faults_under (m ∷ rest) unit = unit_faults m unit ++ faults_under rest unit
