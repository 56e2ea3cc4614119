-- Objects of bytes and of fields, and what a load, a store and `memset` through a pointer do (ISO/IEC 9899:1999, 6.2.4, 6.3.2.3 and 7.21.6.1).
use Rattle.std.specs.Prelude.{◌≡◌, ℕ, Bool, false, nat_le, if◌then◌else◌, List, length, slice_get, slice_set, Option, Some, None, Result, Ok, Err, ℤ, pos, unsigned_abs}
use Rattle.std.specs.Int.{int_rem_euclid}
use Rattle.std.specs.Borrow.{Bor}
use Rattle.c_mem.specs.declared.undefined.Undefined.{Undefined}
use Rattle.c_mem.specs.declared.undefined.Undefined.TheVariants.{NullUse, OutOfBounds}
use Rattle.c_mem.specs.declared.objects.Pointer.{Pointer}
use Rattle.c_mem.specs.declared.objects.Pointer.TheVariants.{Null, Stray, At}
use Rattle.c_mem.specs.declared.objects.Object.{Object}
use Rattle.c_mem.specs.declared.objects.Object.TheVariants.{Bytes, Fields}
use Rattle.c_mem.specs.Cells as cells

-- ---- one object

-- the byte that stands for a number: the number modulo 256
abbrev pub byte_of : ℤ → ℕ
byte_of number = unsigned_abs (int_rem_euclid number (pos 256))

abbrev pub byte_loaded : Result ℕ Undefined → Result ℤ Undefined
byte_loaded (Ok byte) = Ok (pos byte)
byte_loaded (Err kind) = Err kind

abbrev pub load_in : Object → ℤ → Result ℤ Undefined
load_in (Bytes content) number = byte_loaded (cells.load content number)
load_in (Fields tag content) number = cells.load content number

abbrev pub has_cell : Object → ℤ → Bool
has_cell (Bytes content) number = cells.has content number
has_cell (Fields tag content) number = cells.has content number

abbrev pub with_cell : Object → ℤ → ℤ → Object
with_cell (Bytes content) number value = Bytes (cells.with_value content number (byte_of value))
with_cell (Fields tag content) number value = Fields tag (cells.with_value content number value)

abbrev pub store_in : Object → ℤ → ℤ → Result Object Undefined
store_in object number value = if has_cell object number then Ok (with_cell object number value) else Err OutOfBounds

-- whether it is of bytes, and of as many or more
abbrev pub has_bytes : Object → ℕ → Bool
has_bytes (Bytes content) count = nat_le count (length content)
has_bytes (Fields tag content) count = false

abbrev pub with_bytes : Object → ℕ → ℕ → Object
with_bytes (Bytes content) byte count = Bytes (cells.filled content byte count)
with_bytes (Fields tag content) byte count = Fields tag content

abbrev pub fill_in : Object → ℕ → ℕ → Result Object Undefined
fill_in object byte count = if has_bytes object count then Ok (with_bytes object byte count) else Err OutOfBounds

-- ---- the object that a pointer is at

abbrev pub there : Option Object → Result Object Undefined
there None = Err OutOfBounds
there (Some object) = Ok object

abbrev pub target : List Object → Pointer → Result Object Undefined
target objects Null = Err NullUse
target objects Stray = Err OutOfBounds
target objects (At n) = there (slice_get objects n)

abbrev pub load_from : Result Object Undefined → ℤ → Result ℤ Undefined
load_from (Err kind) number = Err kind
load_from (Ok object) number = load_in object number

abbrev pub load : List Object → Pointer → ℤ → Result ℤ Undefined
load objects pointer number = load_from (target objects pointer) number

-- ---- the objects after a change

abbrev pub with_object : List Object → ℕ → Result Object Undefined → Result (List Object) Undefined
with_object objects n (Ok object) = Ok (slice_set objects n object)
with_object objects n (Err kind) = Err kind

abbrev pub stored : List Object → ℕ → ℤ → ℤ → Option Object → Result (List Object) Undefined
stored objects n number value None = Err OutOfBounds
stored objects n number value (Some object) = with_object objects n (store_in object number value)

abbrev pub store_at : List Object → ℕ → ℤ → ℤ → Result (List Object) Undefined
store_at objects n number value = stored objects n number value (slice_get objects n)

abbrev pub store : List Object → Pointer → ℤ → ℤ → Result (List Object) Undefined
store objects Null number value = Err NullUse
store objects Stray number value = Err OutOfBounds
store objects (At n) number value = store_at objects n number value

abbrev pub filled : List Object → ℕ → ℕ → ℕ → Option Object → Result (List Object) Undefined
filled objects n byte count None = Err OutOfBounds
filled objects n byte count (Some object) = with_object objects n (fill_in object byte count)

abbrev pub fill_at : List Object → ℕ → ℕ → ℕ → Result (List Object) Undefined
fill_at objects n byte count = filled objects n byte count (slice_get objects n)

-- also of length 0 the pointer must be at an object (7.1.4, 7.21.1p2)
abbrev pub fill : List Object → Pointer → ℕ → ℕ → Result (List Object) Undefined
fill objects Null byte count = Err NullUse
fill objects Stray byte count = Err OutOfBounds
fill objects (At n) byte count = fill_at objects n byte count

-- ---- what calls promise

-- the object is lent, or there is none
abbrev pub Lends : Result (Bor Object) Undefined → Result Object Undefined → Type 0
Lends (Ok object) found = found ≡ Ok object.now
Lends (Err kind) found = found ≡ Err kind

-- the objects are changed, or as they were
abbrev pub Changes : List Object → List Object → Result (Unit {0}) Undefined → Result (List Object) Undefined → Type 0
Changes old new (Ok _) change = change ≡ Ok new
Changes old new (Err kind) change = (change ≡ Err kind) × (new ≡ old)
