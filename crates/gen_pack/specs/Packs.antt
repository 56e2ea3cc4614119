-- What a pack function does when it is called (ISO/IEC 9899:1999, 6.5.2.2), under each data model and in any unit that has what it calls.
use Rattle.std.specs.Prelude.{◌≡◌, ℕ, ◌^◌, ◌<◌, ◌≤◌, true, List, [], ◌∷◌, ◌++◌, map, length, drop, slice_get, slice_set, IfSome, IsSomeAnd, Some, None, Ok, ℤ, pos, negsuc}
use Rattle.std.specs.List.{AllByRecursion}
use Rattle.can_model.specs.declared.database.Message.{Message}
use Rattle.can_model.specs.declared.database.Signal.{Signal}
use Rattle.can_model.specs.RawValue.{is_field_value}
use Rattle.can_model.specs.Active.{value_at, IsActive}
use Rattle.can_model.specs.Frame.{IsFrame}
use Rattle.name_rules.specs.declared.table.MessageNames.{MessageNames}
use Rattle.name_rules.specs.Symbols.{local_names}
use Rattle.c_text.specs.declared.token.IntType.TheVariants.{Int}
use Rattle.c_tree.specs.declared.item.Field.{Field}
use Rattle.c_tree.specs.declared.item.Function.{Function}
use Rattle.c_tree.specs.declared.item.Item.{Item}
use Rattle.c_tree.specs.declared.item.Item.TheVariants as item
use Rattle.c_tree.specs.declared.item.Unit.{Unit as Whole}
use Rattle.c_tree.specs.BareUnit.{bare_field, bare_item}
use Rattle.c_printed.specs.Expanded.{Meaning, expanded_item}
use Rattle.c_widths.specs.DataModel.{DataModel, IsModel, model_of}
use Rattle.c_widths.specs.IntegerType.{value_bits, size_type}
use Rattle.c_mem.specs.declared.objects.Object.{Object}
use Rattle.c_mem.specs.declared.objects.Object.TheVariants.{Bytes, Fields}
use Rattle.c_mem.specs.declared.objects.Pointer.{Pointer}
use Rattle.c_mem.specs.declared.objects.Pointer.TheVariants.{At}
use Rattle.c_mem.specs.Cells.{CellsOf}
use Rattle.c_operators.specs.Value.{typed}
use Rattle.cg_out.specs.Words.{look_up}
use Rattle.c_types.specs.Setting.{structs, definitions}
use Rattle.c_effect.specs.declared.state.Arg.{Arg}
use Rattle.c_effect.specs.declared.state.Arg.TheVariants as arg
use Rattle.c_effect.specs.FunctionCall.{Ended, ended, call}
use Rattle.bit_layout.specs.Segments.{segments_of}
use Rattle.shift_helpers.specs.declared.helper.HelperKind.{HelperKind}
use Rattle.shift_helpers.specs.HelperTree.{helper_name, helper}
use Rattle.gen_pack.specs.SegmentMove.{width_of, pack_kind}
use Rattle.gen_pack.specs.StructFields.{struct_fields}
use Rattle.gen_pack.specs.PackTree.{buffer, size, error_name, number}

-- ---- a call

-- a number of size_t
abbrev pub IsSize : DataModel → ℕ → Type 0
IsSize model size = size < 2 ^ value_bits model (size_type model)

-- a buffer, a struct and the buffer's size
abbrev pub arguments : Pointer → Pointer → ℕ → List Arg
arguments to from size = arg.Pointer to ∷ arg.Pointer from ∷ arg.Integer (pos size) ∷ []

-- a field that has a value has one of its type
abbrev pub AreOfFields : Message → CellsOf ℤ → Type 0
AreOfFields m values = (i : ℕ) → IfSome (slice_get m.signals i) (λ s. IfSome (value_at values i) (λ v. is_field_value s.length s.signed v ≡ true))

-- the fields of active signals have values
abbrev pub HaveActive : Message → CellsOf ℤ → Type 0
HaveActive m values = (i : ℕ) → IsActive m values i → IsSomeAnd (value_at values i) (λ v. Unit {0})

-- ---- how it ends

abbrev pub returning : ℤ → List Object → Ended
returning z objects = ended (Ok (Some (typed Int z))) objects

-- the buffer begins with the frame, and the rest of it is as before
abbrev pub with_frame : List Object → ℕ → List ℕ → CellsOf ℕ → List Object
with_frame objects n frame cells = slice_set objects n (Bytes (map Some frame ++ drop (length frame) cells))

module _ (model : DataModel) (unit : Whole) (m : Message) (tag : List ℕ) (f : Function) where
  pub record Packs : Type 0 where
    -- a size below the length: -22, and nothing is touched
    pub short : (objects : List Object) (to from : Pointer) (size : ℕ) → IsSize model size → size < m.length
        → call model unit f (arguments to from size) objects ≡ returning (negsuc 21) objects
    -- a message of no bytes: 0, and nothing is touched
    pub nothing : (objects : List Object) (to from : Pointer) (size : ℕ) → IsSize model size → m.length ≡ 0
        → call model unit f (arguments to from size) objects ≡ returning (pos 0) objects
    -- else the length, and the buffer begins with the frame of the fields' values
    pub frame : (objects : List Object) (to from size : ℕ) (cells : CellsOf ℕ) (values : CellsOf ℤ) → IsSize model size → 0 < m.length → m.length ≤ size → size ≤ length cells
        → slice_get objects to ≡ Some (Bytes cells) → slice_get objects from ≡ Some (Fields tag values) → AreOfFields m values → HaveActive m values
        → (bytes : List ℕ) × IsFrame m values bytes × (call model unit f (arguments (At to) (At from) size) objects ≡ returning (pos m.length) (with_frame objects to bytes cells))

-- ---- what its unit has

-- the message's struct
pub record HasStruct (items : List Item) (m : Message) (names : MessageNames) : Type 0 where
  pub fields : List Field
  pub found : look_up names.tag (structs items) ≡ Some fields
  pub are : map bare_field fields ≡ struct_fields m names

-- a helper, but for places
pub record HasHelper (items : List Item) (kind : HelperKind) (w : ℕ) : Type 0 where
  pub given : Function
  pub found : look_up (helper_name kind w) (definitions items) ≡ Some given
  pub same : bare_item (item.Function (helper kind w)) ≡ bare_item (item.Function given)

abbrev pub HasHelpersOf : List Item → Signal → Type 0
HasHelpersOf items s = AllByRecursion (λ g. HasHelper items (pack_kind g) (width_of s)) (segments_of s)

-- ---- in any unit

-- a function packs the message, under each model, in each unit that has what it calls
abbrev pub PacksIn : Whole → Message → MessageNames → Function → Type 0
PacksIn unit m names f = (int long pointer : ℕ) → IsModel int long pointer → HasStruct unit.items m names → AllByRecursion (HasHelpersOf unit.items) m.signals
    → Packs (model_of int long pointer) unit m names.tag f

-- EINVAL stands for 22, and no parameter and no local for anything
pub record HasError (meaning : Meaning) (names : MessageNames) : Type 0 where
  pub error : meaning error_name ≡ Some (number 22)
  pub of_buffer : meaning buffer ≡ None
  pub of_size : meaning size ≡ None
  pub of_locals : AllByRecursion (λ n. meaning n ≡ None) (local_names names)

-- in a text a function is read with its macros replaced: each one that it is then packs the message
abbrev pub PacksAs : Message → MessageNames → Function → Type 0
PacksAs m names f = (meaning : Meaning) → HasError meaning names → (unit : Whole) (g : Function)
    → bare_item (item.Function g) ≡ expanded_item meaning (bare_item (item.Function f)) → PacksIn unit m names g
