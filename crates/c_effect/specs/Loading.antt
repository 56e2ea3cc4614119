-- Values that are read through a pointer that a local holds (ISO/IEC 9899:1999, 6.5.2.1 and 6.5.2.3).
use Rattle.std.specs.Prelude.{ℕ, List, Option, Some, None, Result, Ok, Err, ℤ, pos}
use Rattle.c_text.specs.declared.token.IntType.{IntType}
use Rattle.c_text.specs.declared.token.IntType.TheVariants.{UnsignedChar}
use Rattle.c_tree.specs.declared.item.Field.{Field}
use Rattle.c_mem.specs.declared.undefined.Undefined.{Undefined}
use Rattle.c_mem.specs.declared.undefined.Undefined.TheVariants.{Indeterminate}
use Rattle.c_mem.specs.declared.objects.Pointer.{Pointer}
use Rattle.c_mem.specs.declared.objects.Object.{Object}
use Rattle.c_mem.specs.declared.objects.Object.TheVariants.{Bytes, Fields}
use Rattle.c_mem.specs.Objects.{target, load}
use Rattle.c_operators.specs.Value.{Computed, typed}
use Rattle.c_widths.specs.DataModel.{DataModel}
use Rattle.c_types.specs.ExpressionTypes.{integer_type}
use Rattle.c_types.specs.FieldNamed.{field_in}
use Rattle.cg_out.specs.Words.{◌>>=◌}
use Rattle.c_effect.specs.declared.state.Slot.{Slot}
use Rattle.c_effect.specs.Locals.{Block, read_pointer}
use Rattle.c_effect.specs.World.{World}

-- `base[index]`, an unsigned char
abbrev pub element : List ℕ → ℤ → List Block → List Object → Computed
element base index locals objects = do
  p ← read_pointer base locals
  number ← load objects p index
  Ok (typed UnsignedChar number)

-- ---- the cell of a field

abbrev pub slot : ℕ → IntType → Slot
slot number kind = record { number = number; kind = kind }

-- a field that is no integer is not read, nor is one that the struct lacks; no unit without a fault has either
abbrev pub integer_slot : ℕ → Option IntType → Result Slot Undefined
integer_slot number (Some kind) = Ok (slot number kind)
integer_slot number None = Err Indeterminate

abbrev pub slot_of : DataModel → Option (ℕ × Field) → Result Slot Undefined
slot_of m (Some (number, f)) = integer_slot number (integer_type m f.kind)
slot_of m None = Err Indeterminate

-- of the struct with a tag
unfoldable pub slot_named : World → List ℕ → List ℕ → Result Slot Undefined
slot_named w tag name = slot_of w.model (field_in tag name w.structs)

abbrev pub slot_in : World → List ℕ → Object → Result Slot Undefined
slot_in w name (Fields tag cells) = slot_named w tag name
slot_in w name (Bytes cells) = Err Indeterminate

-- of the object at a pointer
abbrev pub slot_at : World → Pointer → List ℕ → List Object → Result Slot Undefined
slot_at w p name objects = target objects p >>= slot_in w name

-- `base->name`
abbrev pub member : World → List ℕ → List ℕ → List Block → List Object → Computed
member w base name locals objects = do
  p ← read_pointer base locals
  s ← slot_at w p name objects
  number ← load objects p (pos s.number)
  Ok (typed s.kind number)
