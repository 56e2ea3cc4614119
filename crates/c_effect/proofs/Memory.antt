-- Memory: cells of objects that are loaded after one is stored or the first ones are filled (ISO/IEC 9899:1999, 6.5.16.1 and 7.21.6.1).
use Rattle.std.proofs.Common.{◌≡◌, ◌≢◌, ℕ, zero, suc, ◌<◌, ◌≤◌, Bool, true, false, List, [], ◌∷◌, ◌++◌, length, drop, replicate, Option, Some, None, refl, ap, arith, Ok, Err, pos, negsuc, ℤ}
use Rattle.std.specs.Prelude.{slice_get, slice_set, nat_lt, nat_le, if◌then◌else◌}
use Rattle.std.proofs.lemmas.Bool.Decides.{nat_tests}
use Rattle.std.proofs.lemmas.Option.{slice_get_within}
use Rattle.c_mem.specs.declared.undefined.Undefined.TheVariants.{OutOfBounds}
use Rattle.c_mem.specs.declared.objects.Pointer.TheVariants.{At}
use Rattle.c_mem.specs.declared.objects.Object.{Object}
use Rattle.c_mem.specs.declared.objects.Object.TheVariants.{Bytes, Fields}
use Rattle.c_mem.specs.Cells.{CellsOf}
use Rattle.c_mem.specs.Cells as cells
use Rattle.c_mem.specs.Objects.{byte_of, byte_loaded, load_in, load_from, has_cell, with_cell, with_object, there, load, stored, store, fill}

-- ---- one element of a list

pub slice_get-set : {A : Type 0} (xs : List A) (i : ℕ) (a : A) → i < length xs → slice_get (slice_set xs i a) i ≡ Some a
slice_get-set [] i a h = absurd (omega (arith, h))
slice_get-set (x ∷ xs) zero a h = refl
slice_get-set (x ∷ xs) (suc i) a h = slice_get-set xs i a (omega (arith, h))

pub slice_get-set_other : {A : Type 0} (xs : List A) (i j : ℕ) (a : A) → j ≢ i → slice_get (slice_set xs i a) j ≡ slice_get xs j
slice_get-set_other [] i j a ne = refl
slice_get-set_other (x ∷ xs) zero zero a ne = absurd (ne refl)
slice_get-set_other (x ∷ xs) zero (suc j) a ne = refl
slice_get-set_other (x ∷ xs) (suc i) zero a ne = refl
slice_get-set_other (x ∷ xs) (suc i) (suc j) a ne = slice_get-set_other xs i j a (λ e. ne (ap suc e))

-- ---- the first cells with one value

replicate-first : {A : Type 0} (a : A) (ys : List A) (count i : ℕ) → i < count → slice_get (replicate count a ++ ys) i ≡ Some a
replicate-first a ys zero i h = absurd (omega (arith, h))
replicate-first a ys (suc count) zero h = refl
replicate-first a ys (suc count) (suc i) h = replicate-first a ys count i (omega (arith, h))

pub filled-first : {A : Type 0} (content : CellsOf A) (value : A) (count i : ℕ) → i < count → slice_get (cells.filled content value count) i ≡ Some (Some value)
filled-first content value count i h = replicate-first (Some value) (drop count content) count i h

replicate-past : {A : Type 0} (a : A) (count i : ℕ) → count ≤ i → slice_get (replicate count a ++ []) i ≡ None
replicate-past a zero i h = refl
replicate-past a (suc count) zero h = absurd (omega (arith, h))
replicate-past a (suc count) (suc i) h = replicate-past a count i (omega (arith, h))

-- the others are as they were
pub filled-rest : {A : Type 0} (content : CellsOf A) (value : A) (count i : ℕ) → count ≤ i → slice_get (cells.filled content value count) i ≡ slice_get content i
filled-rest content value zero i h = refl
filled-rest content value (suc count) zero h = absurd (omega (arith, h))
filled-rest [] value (suc count) (suc i) h = replicate-past (Some value) count i (omega (arith, h))
filled-rest (x ∷ xs) value (suc count) (suc i) h = filled-rest xs value count i (omega (arith, h))

pub filled-length : {A : Type 0} (content : CellsOf A) (value : A) (count : ℕ) → count ≤ length content → length (cells.filled content value count) ≡ length content
filled-length content value zero h = refl
filled-length [] value (suc count) h = absurd (omega (arith, h))
filled-length (x ∷ xs) value (suc count) h = ap suc (filled-length xs value count (omega (arith, h)))

-- ---- through a pointer at an object

pub loads-byte : (objects : List Object) (n i byte : ℕ) (content : CellsOf ℕ) → slice_get objects n ≡ Some (Bytes content) → slice_get content i ≡ Some (Some byte)
    → load objects (At n) (pos i) ≡ Ok (pos byte)
loads-byte objects n i byte content there has = rw (there, has) refl

pub loads-field : (objects : List Object) (n i : ℕ) (z : ℤ) (tag : List ℕ) (content : CellsOf ℤ) → slice_get objects n ≡ Some (Fields tag content) → slice_get content i ≡ Some (Some z)
    → load objects (At n) (pos i) ≡ Ok z
loads-field objects n i z tag content there has = rw (there, has) refl

pub stores-byte : (objects : List Object) (n i : ℕ) (z : ℤ) (content : CellsOf ℕ) → slice_get objects n ≡ Some (Bytes content) → i < length content
    → store objects (At n) (pos i) z ≡ Ok (slice_set objects n (Bytes (slice_set content i (Some (byte_of z)))))
stores-byte objects n i z content there within =
    let lt : nat_lt i (length content) ≡ true = grind (arith, nat_tests) in
    rw (there, lt) refl

pub stores-field : (objects : List Object) (n i : ℕ) (z : ℤ) (tag : List ℕ) (content : CellsOf ℤ) → slice_get objects n ≡ Some (Fields tag content) → i < length content
    → store objects (At n) (pos i) z ≡ Ok (slice_set objects n (Fields tag (slice_set content i (Some z))))
stores-field objects n i z tag content there within =
    let lt : nat_lt i (length content) ≡ true = grind (arith, nat_tests) in
    rw (there, lt) refl

pub fills-bytes : (objects : List Object) (n byte count : ℕ) (content : CellsOf ℕ) → slice_get objects n ≡ Some (Bytes content) → count ≤ length content
    → fill objects (At n) byte count ≡ Ok (slice_set objects n (Bytes (cells.filled content byte count)))
fills-bytes objects n byte count content there le =
    let enough : nat_le count (length content) ≡ true = grind (arith, nat_tests) in
    rw (there, enough) refl

-- ---- one object with one cell stored

-- the number that a cell holds when one is stored into it
abbrev pub kept : Object → ℤ → ℤ
kept (Bytes content) z = pos (byte_of z)
kept (Fields tag content) z = z

pub load_in-stored : (object : Object) (i z : ℤ) → has_cell object i ≡ true → load_in (with_cell object i z) i ≡ Ok (kept object z)
load_in-stored (Bytes content) (pos i) z has = rw (slice_get-set content i (Some (byte_of z)) (grind (arith, nat_tests))) refl
load_in-stored (Bytes content) (negsuc i) z has = absurd (cc)
load_in-stored (Fields tag content) (pos i) z has = rw (slice_get-set content i (Some z) (grind (arith, nat_tests))) refl
load_in-stored (Fields tag content) (negsuc i) z has = absurd (cc)

beside : {A : Type 0} (content : CellsOf A) (i j : ℤ) (value : A) → j ≢ i → cells.load (cells.with_value content i value) j ≡ cells.load content j
beside content (negsuc i) j value ne = refl
beside content (pos i) (negsuc j) value ne = refl
beside content (pos i) (pos j) value ne = ap cells.held (slice_get-set_other content i j (Some value) (λ e. ne (ap pos e)))

pub load_in-other : (object : Object) (i j z : ℤ) → j ≢ i → load_in (with_cell object i z) j ≡ load_in object j
load_in-other (Bytes content) i j z ne = ap byte_loaded (beside content i j (byte_of z) ne)
load_in-other (Fields tag content) i j z ne = beside content i j z ne

-- ---- the objects behind a store

-- a store that is not undefined found an object with the cell
pub record Stored (objects new : List Object) (n : ℕ) (i z : ℤ) : Type 0 where
  pub object : Object
  pub there : slice_get objects n ≡ Some object
  pub has : has_cell object i ≡ true
  pub left : new ≡ slice_set objects n (with_cell object i z)

by-cell : (objects new : List Object) (n : ℕ) (i z : ℤ) (object : Object) (has : Bool) → has_cell object i ≡ has → slice_get objects n ≡ Some object
    → with_object objects n (if has then Ok (with_cell object i z) else Err OutOfBounds) ≡ Ok new → Stored objects new n i z
by-cell objects new n i z object true is there e = record { object = object; there = there; has = is; left = cc }
by-cell objects new n i z object false is there e = absurd (cc)

by-object : (objects new : List Object) (n : ℕ) (i z : ℤ) (found : Option Object) → slice_get objects n ≡ found → stored objects n i z found ≡ Ok new → Stored objects new n i z
by-object objects new n i z None is e = absurd (cc)
by-object objects new n i z (Some object) is e = by-cell objects new n i z object (has_cell object i) refl is e

pub found-stored : (objects new : List Object) (n : ℕ) (i z : ℤ) → store objects (At n) i z ≡ Ok new → Stored objects new n i z
found-stored objects new n i z e = by-object objects new n i z (slice_get objects n) refl e

-- an object that is changed leaves the others
pub load-apart : (objects : List Object) (n k : ℕ) (object : Object) (j : ℤ) → k ≢ n → load (slice_set objects n object) (At k) j ≡ load objects (At k) j
load-apart objects n k object j ne = ap (λ found. load_from (there found) j) (slice_get-set_other objects n k object ne)

pub load-stored : (objects new : List Object) (n : ℕ) (i z : ℤ) (object : Object) → slice_get objects n ≡ Some object → store objects (At n) i z ≡ Ok new
    → load new (At n) i ≡ Ok (kept object z)
load-stored objects new n i z object there e =
    let s : Stored objects new n i z = found-stored objects new n i z e in
    let same : s.object ≡ object = cc in
    let within : n < length objects = slice_get_within objects n object there in
    rw (s.left, slice_get-set objects n (with_cell s.object i z) within, load_in-stored s.object i z s.has, same) refl

pub load-other_cell : (objects new : List Object) (n : ℕ) (i j z : ℤ) → j ≢ i → store objects (At n) i z ≡ Ok new → load new (At n) j ≡ load objects (At n) j
load-other_cell objects new n i j z ne e =
    let s : Stored objects new n i z = found-stored objects new n i z e in
    let within : n < length objects = slice_get_within objects n s.object s.there in
    rw (s.left, slice_get-set objects n (with_cell s.object i z) within, s.there) (load_in-other s.object i j z ne)

pub load-other_object : (objects new : List Object) (n k : ℕ) (i j z : ℤ) → k ≢ n → store objects (At n) i z ≡ Ok new → load new (At k) j ≡ load objects (At k) j
load-other_object objects new n k i j z ne e =
    let s : Stored objects new n i z = found-stored objects new n i z e in
    rw s.left (load-apart objects n k (with_cell s.object i z) j ne)
