-- What an unpack function does when it is called (ISO/IEC 9899:1999, 6.5.2.2), under each data model and in any unit that has what it calls.
use Rattle.std.specs.Prelude.{◌≡◌, ℕ, ◌<◌, ◌≤◌, List, ◌∷◌, ◌++◌, map, length, slice_get, slice_set, Option, Some, None, ℤ, pos, negsuc}
use Rattle.std.specs.List.{AllByRecursion}
use Rattle.can_model.specs.declared.database.Message.{Message}
use Rattle.can_model.specs.declared.database.Signal.{Signal}
use Rattle.can_model.specs.Frame.{AreRawValues}
use Rattle.name_rules.specs.declared.table.MessageNames.{MessageNames}
use Rattle.c_tree.specs.declared.item.Function.{Function}
use Rattle.c_tree.specs.declared.item.Item.{Item}
use Rattle.c_tree.specs.declared.item.Item.TheVariants as item
use Rattle.c_tree.specs.declared.item.Unit.{Unit as Whole}
use Rattle.c_tree.specs.BareUnit.{bare_item}
use Rattle.c_printed.specs.Expanded.{Meaning, expanded_item}
use Rattle.c_widths.specs.DataModel.{DataModel, IsModel, model_of}
use Rattle.c_mem.specs.declared.objects.Object.{Object}
use Rattle.c_mem.specs.declared.objects.Object.TheVariants.{Bytes, Fields}
use Rattle.c_mem.specs.declared.objects.Pointer.{Pointer}
use Rattle.c_mem.specs.declared.objects.Pointer.TheVariants.{At}
use Rattle.c_mem.specs.Cells.{CellsOf}
use Rattle.c_effect.specs.FunctionCall.{call}
use Rattle.bit_layout.specs.Segments.{segments_of}
use Rattle.gen_pack.specs.SegmentMove.{width_of}
use Rattle.gen_pack.specs.Packs.{IsSize, arguments, returning, HasStruct, HasHelper, HasError}
use Rattle.gen_unpack.specs.SegmentRead.{unpack_kind}

-- ---- how it ends

-- each field whose signal has a raw value holds it, and the others are as before
abbrev pub with_raw : List (Option ℤ) → CellsOf ℤ → CellsOf ℤ
with_raw (Some v ∷ raw) (c ∷ fields) = Some v ∷ with_raw raw fields
with_raw (None ∷ raw) (c ∷ fields) = c ∷ with_raw raw fields
with_raw raw fields = fields

-- the struct holds these raw values
abbrev pub with_values : List Object → ℕ → List ℕ → List (Option ℤ) → CellsOf ℤ → List Object
with_values objects n tag raw fields = slice_set objects n (Fields tag (with_raw raw fields))

-- the bytes of a frame of so many
pub record AreBytesOf (length_is : ℕ) (bytes : List ℕ) : Type 0 where
  pub size : length bytes ≡ length_is
  pub are_bytes : AllByRecursion (λ b. b < 256) bytes

module _ (model : DataModel) (unit : Whole) (m : Message) (tag : List ℕ) (f : Function) where
  pub record Unpacks : Type 0 where
    -- a size below the length: -22, and nothing is touched
    pub short : (objects : List Object) (to from : Pointer) (size : ℕ) → IsSize model size → size < m.length
        → call model unit f (arguments to from size) objects ≡ returning (negsuc 21) objects
    -- a message of no bytes: 0, and nothing is touched
    pub nothing : (objects : List Object) (to from : Pointer) (size : ℕ) → IsSize model size → m.length ≡ 0
        → call model unit f (arguments to from size) objects ≡ returning (pos 0) objects
    -- else 0, and each field whose signal is active holds its raw value of the first bytes of the buffer, which has as many as the message or more
    pub whole : (objects : List Object) (to from size : ℕ) (fields : CellsOf ℤ) (bytes : List ℕ) (rest : CellsOf ℕ) → IsSize model size → 0 < m.length → m.length ≤ size
        → slice_get objects to ≡ Some (Fields tag fields) → length m.signals ≤ length fields → slice_get objects from ≡ Some (Bytes (map Some bytes ++ rest)) → AreBytesOf m.length bytes
        → (raw : List (Option ℤ)) × AreRawValues m bytes raw × (call model unit f (arguments (At to) (At from) size) objects ≡ returning (pos 0) (with_values objects to tag raw fields))

-- ---- what its unit has

abbrev pub HasHelpersOf : List Item → Signal → Type 0
HasHelpersOf items s = AllByRecursion (λ g. HasHelper items (unpack_kind g) (width_of s)) (segments_of s)

-- ---- in any unit

-- a function unpacks the message, under each model, in each unit that has what it calls
abbrev pub UnpacksIn : Whole → Message → MessageNames → Function → Type 0
UnpacksIn unit m names f = (int long pointer : ℕ) → IsModel int long pointer → HasStruct unit.items m names → AllByRecursion (HasHelpersOf unit.items) m.signals
    → Unpacks (model_of int long pointer) unit m names.tag f

-- in a text a function is read with its macros replaced: each one that it is then unpacks the message
abbrev pub UnpacksAs : Message → MessageNames → Function → Type 0
UnpacksAs m names f = (meaning : Meaning) → HasError meaning names → (unit : Whole) (g : Function)
    → bare_item (item.Function g) ≡ expanded_item meaning (bare_item (item.Function f)) → UnpacksIn unit m names g
