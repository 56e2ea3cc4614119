-- The statements that join the parts of a signal's segments, in its field or in its local.
use Rattle.std.proofs.Common.{◌≡◌, ℕ, zero, suc, ◌+◌, ◌^◌, ◌<◌, ◌≤◌, false, List, [], ◌∷◌, ◌++◌, length, map, get_or, Option, Some, inl, inr, refl, sym, ap, subst, ◌∙◌, arith, Ok, pos, ℤ}
use Rattle.std.specs.Prelude.{◌≢◌, bit_or, slice_get, slice_set}
use Rattle.std.specs.Int.Bits.{or_zero_l}
use Rattle.std.specs.List.{AllByRecursion}
use Rattle.std.specs.Str.{bytes_eq}
use Rattle.std.proofs.lemmas.Nat.{or_lt}
use Rattle.std.proofs.Math.Pow.{pow_mono, pow_pos}
use Rattle.std.proofs.lemmas.Bool.Decides.{leb_tells}
use Rattle.std.proofs.lemmas.List.{length-map}
use Rattle.std.proofs.lemmas.Option.{slice_get-get_or, slice_get-map}
use Rattle.c_text.specs.declared.token.IntType.{IntType}
use Rattle.c_text.specs.declared.token.IntType.TheVariants as t
use Rattle.c_tree.specs.declared.expression.BinaryOp.TheVariants as o
use Rattle.c_tree.specs.declared.statement.AssignOp.TheVariants as a
use Rattle.c_tree.specs.declared.item.Item.{Item}
use Rattle.c_tree.specs.BareExpression.{name, member, element}
use Rattle.c_tree.specs.BareStatement.{assign}
use Rattle.c_mem.specs.declared.objects.Object.{Object}
use Rattle.c_mem.specs.declared.objects.Object.TheVariants.{Bytes, Fields}
use Rattle.c_mem.specs.declared.objects.Pointer.TheVariants.{At}
use Rattle.c_mem.specs.Cells.{CellsOf}
use Rattle.c_widths.specs.DataModel.{DataModel}
use Rattle.c_widths.specs.IntegerType.{exact_type}
use Rattle.c_operators.specs.Value.{typed}
use Rattle.c_operators.specs.Operator.{operate}
use Rattle.c_operators.proofs.Models.{IsOneOf}
use Rattle.c_operators.proofs.Exact.{unsigned-at, exact-fits, width-high}
use Rattle.c_operators.proofs.Numbers.{unsigned-fits, fits-at, operate-BitOr}
use Rattle.c_effect.specs.declared.state.Flow.TheVariants.{Next}
use Rattle.c_effect.specs.declared.state.Held.{Held as Holding}
use Rattle.c_effect.specs.declared.state.Held.TheVariants.{Integer as Number, Pointer as Address}
use Rattle.c_effect.specs.Locals.{Block, held_by, set_local}
use Rattle.c_effect.specs.World.{World}
use Rattle.c_effect.specs.Loading.{slot, slot_named}
use Rattle.c_effect.specs.Ending.{after, sequence}
use Rattle.c_effect.specs.StatementEffect.{effects_of}
use Rattle.c_effect.specs.FunctionCall.{unit_world}
use Rattle.c_effect.proofs.Expressions.{Gives, AtField, gives-int, gives-unsigned, gives-Element}
use Rattle.c_effect.proofs.Locals.{points-at, held-set, held-other}
use Rattle.c_effect.proofs.Memory.{slice_get-set, slice_get-set_other}
use Rattle.c_effect.proofs.Placeless.{no_place, grown, grown_stmt}
use Rattle.c_effect.proofs.Sequences.{sequence-first}
use Rattle.c_effect.proofs.Statements.{Ends, sets-local, changes-local, sets-member}
use Rattle.bit_layout.specs.declared.walk.Segment.{Segment}
use Rattle.bit_layout.specs.Covers.{IsWithin}
use Rattle.shift_helpers.specs.HelperResult.{IsWidth, taken_width, given_width, shift_limit}
use Rattle.shift_helpers.proofs.Helping.{calls-helper}
use Rattle.can_model.proofs.Elements.{all_at}
use Rattle.gen_pack.specs.SegmentMove.{mask_of}
use Rattle.gen_pack.specs.PackTree.{buffer, source, unsigned, number}
use Rattle.gen_pack.specs.Packs.{HasHelper}
use Rattle.gen_unpack.specs.SegmentRead.{unpack_kind, unpack_shift}
use Rattle.gen_unpack.specs.UnpackTree.{segment_of_byte, joined}
use Rattle.gen_unpack.specs.Unpacks.{AreBytesOf}
use Rattle.gen_unpack.proofs.SegmentParts.{part-small, helper-gives}
use Rattle.gen_unpack.proofs.Sums.{part_of, with_parts}
use Rattle.gen_unpack.proofs.FieldChanges.{changes-member}

-- ---- the call for a segment

pub record IsUnpackCall (w : ℕ) (g : Segment) : Type 0 where
  pub takes : taken_width (unpack_kind g) w ≡ 8
  pub returns : given_width (unpack_kind g) w ≡ w
  pub shift : unpack_shift g < shift_limit (unpack_kind g) w
  pub small : unpack_shift g < 2 ^ 8
  pub mask : mask_of g < 2 ^ 8

pub unpack-call : (w length : ℕ) (g : Segment) → IsWidth w → length ≤ w → IsWithin length g → IsUnpackCall w g
unpack-call w length g iw le l =
    let top : 2 ^ (g.byte_low + g.count) ≤ 2 ^ 8 = pow_mono {i = g.byte_low + g.count} {j = 8} (omega (arith, l.in_byte)) in
    let low : 0 < 2 ^ g.byte_low = pow_pos g.byte_low in
    let high = width-high w iw in
    let mask : mask_of g < 2 ^ 8 = omega arith in
    elim (leb_tells g.byte_low g.signal_low) [
      | inl a ↦ record { takes = rw a.0 refl; returns = rw a.0 refl; shift = rw a.0 (omega (arith, l.some, l.in_signal)); small = rw a.0 (omega (arith, l.some, l.in_signal)); mask = mask }
      | inr a ↦ record { takes = rw a.0 refl; returns = rw a.0 refl; shift = rw a.0 (omega (arith, l.some, l.in_byte)); small = rw a.0 (omega (arith, l.some, l.in_byte)); mask = mask }
    ]

-- ---- lists

get-front : {A : Type 0} (xs ys : List A) (i : ℕ) → i < length xs → slice_get (xs ++ ys) i ≡ slice_get xs i
get-front [] ys i h = absurd (omega arith)
get-front (x ∷ xs) ys zero h = refl
get-front (x ∷ xs) ys (suc i) h = get-front xs ys i (omega (arith, h))

pub set-set : {A : Type 0} (xs : List A) (i : ℕ) (a b : A) → slice_set (slice_set xs i a) i b ≡ slice_set xs i b
set-set [] i a b = refl
set-set (x ∷ xs) zero a b = refl
set-set (x ∷ xs) (suc i) a b = ap (λ r. x ∷ r) (set-set xs i a b)

byte-at : (bytes : List ℕ) (i : ℕ) → AllByRecursion (λ b. b < 256) bytes → i < length bytes → get_or bytes i 0 < 2 ^ 8
byte-at bytes i all lt = all_at (λ b. b < 256) bytes i (get_or bytes i 0) all (slice_get-get_or bytes i 0 lt)

-- ---- where the statements of a message's signals run

-- an object of fields that is written, and one that begins with a frame of so many bytes
pub record Scene (objects : List Object) (to from size : ℕ) (bytes : List ℕ) (rest : CellsOf ℕ) : Type 0 where
  pub within : to < length objects
  pub buffer_is : slice_get objects from ≡ Some (Bytes (map Some bytes ++ rest))
  pub apart : from ≢ to
  pub few : size ≤ 2048
  pub frame : AreBytesOf size bytes

module _ (m : DataModel) (one : IsOneOf m) (items : List Item) (objects : List Object) (to from size : ℕ) (tag : List ℕ) (bytes : List ℕ) (rest : CellsOf ℕ) (scene : Scene objects to from size bytes rest) where
  abbrev pub world : World
  world = unit_world m items

  -- the objects where the struct has these fields
  abbrev pub shown : CellsOf ℤ → List Object
  shown fields = slice_set objects to (Fields tag fields)

  pub struct-there : (fields : CellsOf ℤ) → slice_get (shown fields) to ≡ Some (Fields tag fields)
  struct-there fields = slice_get-set objects to (Fields tag fields) scene.within

  bytes-there : (fields : CellsOf ℤ) → slice_get (shown fields) from ≡ Some (Bytes (map Some bytes ++ rest))
  bytes-there fields = slice_get-set_other objects to from (Fields tag fields) scene.apart ∙ scene.buffer_is

  -- the two pointers are held
  pub record HasPointers (locals : List Block) : Type 0 where
    pub struct_is : held_by buffer locals ≡ Some (Address (At to))
    pub bytes_is : held_by source locals ≡ Some (Address (At from))

  pub at-field : (locals : List Block) (fields : CellsOf ℤ) (field : List ℕ) (i : ℕ) (kind : IntType) → HasPointers locals → slot_named world tag field ≡ Ok (slot i kind)
      → AtField world locals (shown fields) buffer field to tag fields i kind
  at-field locals fields field i kind held is = record { points = points-at buffer (At to) locals held.struct_is; there = struct-there fields; is = is }

  module _ (w n : ℕ) (iw : IsWidth w) (le : n ≤ w) where
    abbrev kind : IntType
    kind = exact_type m w false

    -- one segment's part
    gives-part : (locals : List Block) (fields : CellsOf ℤ) (g : Segment) → HasPointers locals → IsWithin n g → HasHelper items (unpack_kind g) w → g.byte < size
        → Gives world locals (shown fields) (grown (segment_of_byte w g)) kind (pos (part_of bytes g))
    gives-part locals fields g held within helper lt =
        let c : IsUnpackCall w g = unpack-call w n g iw le within in
        let b : ℕ = get_or bytes g.byte 0 in
        let inside : g.byte < length bytes = omega (arith, scene.frame.size) in
        let inside_cells : g.byte < length (map {B = Option ℕ} Some bytes) = simp length-map inside in
        let small : b < 2 ^ 8 = byte-at bytes g.byte scene.frame.are_bytes inside in
        let cell : slice_get (map Some bytes ++ rest) g.byte ≡ Some (Some b) =
        get-front (map Some bytes) rest g.byte inside_cells ∙ slice_get-map Some bytes g.byte ∙ rw (slice_get-get_or bytes g.byte 0 inside) refl in
        let byte : Gives world locals (shown fields) (grown (element source (number g.byte))) t.UnsignedChar (pos b) =
        gives-Element world locals (shown fields) no_place source (grown (number g.byte)) t.Int from g.byte b (map Some bytes ++ rest)
        (record { points = points-at source (At from) locals held.bytes_is; there = bytes-there fields })
        (gives-int world locals (shown fields) one no_place g.byte (omega (arith, scene.few))) cell in
        let called : Gives world locals (shown fields) _ _ _ =
        calls-helper m one items locals (shown fields) no_place (unpack_kind g) w iw helper.given (grown (element source (number g.byte))) (grown (unsigned (unpack_shift g) 10)) (grown (unsigned (mask_of g) 16))
        t.UnsignedChar t.UnsignedInt t.UnsignedInt (pos b) b (unpack_shift g) (mask_of g) helper.found helper.same
        byte (rw c.takes (unsigned-fits 8 b small)) (rw c.takes small)
        (gives-unsigned world locals (shown fields) one no_place (unpack_shift g) 10 (omega (arith, c.small))) c.shift
        (gives-unsigned world locals (shown fields) one no_place (mask_of g) 16 (omega (arith, c.mask))) c.mask in
        rw (c.returns, helper-gives w b g (omega (arith, within.in_signal))) at called

    below : (x : ℕ) → x < 2 ^ n → x < 2 ^ w
    below x h = let p : 2 ^ n ≤ 2 ^ w = pow_mono {i = n} {j = w} le in omega arith

    part-below : (g : Segment) → IsWithin n g → part_of bytes g < 2 ^ n
    part-below g within = part-small g (get_or bytes g.byte 0) n within.in_signal

    or-below : (x : ℕ) (g : Segment) → IsWithin n g → x < 2 ^ n → bit_or x (part_of bytes g) < 2 ^ n
    or-below x g within h = or_lt n x (part_of bytes g) h (part-below g within)

    or-kind : (x y : ℕ) → x < 2 ^ w → y < 2 ^ w → operate m o.BitOr (typed kind (pos x)) (typed kind (pos y)) ≡ Ok (typed ((unsigned-at m one w iw).promoted) (pos (bit_or x y)))
    or-kind x y hx hy =
        let f = unsigned-at m one w iw in
        operate-BitOr m kind kind f.promoted x y f.both (fits-at m f.promoted x w hx f.wide) (fits-at m f.promoted y w hy f.wide)

    -- ---- in a field

    module _ (field : List ℕ) (i : ℕ) (is : slot_named world tag field ≡ Ok (slot i kind)) (locals : List Block) (held : HasPointers locals) (fields : CellsOf ℤ) (inside : i < length fields) where
      -- the fields where this one holds a number
      abbrev holding : ℕ → CellsOf ℤ
      holding x = slice_set fields i (Some (pos x))

      field-first : (g : Segment) → IsWithin n g → HasHelper items (unpack_kind g) w → g.byte < size
          → Ends world locals (shown fields) (grown_stmt (assign (member buffer field) a.Set (segment_of_byte w g))) (Ok Next) locals (shown (holding (part_of bytes g)))
      field-first g within helper lt =
          let p : ℕ = part_of bytes g in
          let ends = sets-member world locals (shown fields) no_place no_place buffer field to tag fields i kind (grown (segment_of_byte w g)) kind (pos p) (pos p)
          (at-field locals fields field i kind held is) (gives-part locals fields g held within helper lt) (exact-fits m one w p iw (below p (part-below g within))) inside in
          subst (λ new. Ends world locals (shown fields) (grown_stmt (assign (member buffer field) a.Set (segment_of_byte w g))) (Ok Next) locals new) (set-set objects to _ _) ends

      field-next : (x : ℕ) (g : Segment) → x < 2 ^ n → IsWithin n g → HasHelper items (unpack_kind g) w → g.byte < size
          → Ends world locals (shown (holding x)) (grown_stmt (assign (member buffer field) a.BitOr (segment_of_byte w g))) (Ok Next) locals (shown (holding (bit_or x (part_of bytes g))))
      field-next x g small within helper lt =
          let p : ℕ = part_of bytes g in
          let y : ℕ = bit_or x p in
          let ends = changes-member world locals (shown (holding x)) no_place no_place buffer field to tag (holding x) i kind a.BitOr o.BitOr (grown (segment_of_byte w g)) kind ((unsigned-at m one w iw).promoted) (pos x) (pos p) (pos y) (pos y)
          refl (at-field locals (holding x) field i kind held is) (slice_get-set fields i (Some (pos x)) inside) (gives-part locals (holding x) g held within helper lt)
          (or-kind x p (below x small) (below p (part-below g within))) (exact-fits m one w y iw (below y (or-below x g within small))) in
          subst (λ new. Ends world locals (shown (holding x)) (grown_stmt (assign (member buffer field) a.BitOr (segment_of_byte w g))) (Ok Next) locals new)
          (set-set objects to _ _ ∙ ap (λ r. slice_set objects to (Fields tag r)) (set-set fields i (Some (pos x)) (Some (pos y)))) ends

      field-others : (gs : List Segment) (x : ℕ) → x < 2 ^ n → AllByRecursion (IsWithin n) gs → AllByRecursion (λ g. HasHelper items (unpack_kind g) w) gs → AllByRecursion (λ g. g.byte < size) gs
          → sequence (effects_of world (map grown_stmt (joined a.BitOr (member buffer field) w gs))) locals (shown (holding x)) ≡ after (Ok Next) locals (shown (holding (with_parts bytes x gs)))
      field-others [] x small within helpers lt = refl
      field-others (g ∷ gs) x small within helpers lt =
          sequence-first world locals (shown (holding x)) (grown_stmt (assign (member buffer field) a.BitOr (segment_of_byte w g))) (map grown_stmt (joined a.BitOr (member buffer field) w gs)) locals (shown (holding (bit_or x (part_of bytes g))))
          (field-next x g small within.0 helpers.0 lt.0)
          ∙ field-others gs (bit_or x (part_of bytes g)) (or-below x g within.0 small) within.1 helpers.1 lt.1

      -- all segments of a signal that has one
      pub joins-field : (gs : List Segment) → 0 < length gs → AllByRecursion (IsWithin n) gs → AllByRecursion (λ g. HasHelper items (unpack_kind g) w) gs → AllByRecursion (λ g. g.byte < size) gs
          → sequence (effects_of world (map grown_stmt (joined a.Set (member buffer field) w gs))) locals (shown fields) ≡ after (Ok Next) locals (shown (holding (with_parts bytes 0 gs)))
      joins-field [] some within helpers lt = absurd (omega arith)
      joins-field (g ∷ gs) some within helpers lt =
          let p : ℕ = part_of bytes g in
          sequence-first world locals (shown fields) (grown_stmt (assign (member buffer field) a.Set (segment_of_byte w g))) (map grown_stmt (joined a.BitOr (member buffer field) w gs)) locals (shown (holding p))
          (field-first g within.0 helpers.0 lt.0)
          ∙ field-others gs p (part-below g within.0) within.1 helpers.1 lt.1
          ∙ ap (λ x. after (Ok Next) locals (shown (holding (with_parts bytes x gs)))) (sym (or_zero_l p))

    -- ---- in a local

    module _ (local : List ℕ) (base : List Block) (held : HasPointers base) (of_buffer : bytes_eq local buffer ≡ false) (of_source : bytes_eq local source ≡ false) (fields : CellsOf ℤ) where
      abbrev holds : ℕ → Holding
      holds x = Number kind (Some (pos x))

      -- the local holds a number, and all others what they held
      pub record LocalIs (x : ℕ) (locals : List Block) : Type 0 where
        pub has : held_by local locals ≡ Some (holds x)
        pub keeps : (other : List ℕ) → bytes_eq local other ≡ false → held_by other locals ≡ held_by other base

      pub pointers-in : (x : ℕ) (locals : List Block) → LocalIs x locals → HasPointers locals
      pointers-in x locals h = record { struct_is = h.keeps buffer of_buffer ∙ held.struct_is; bytes_is = h.keeps source of_source ∙ held.bytes_is }

      pub set-again : (x y : ℕ) (locals : List Block) → LocalIs x locals → LocalIs y (set_local local (holds y) locals)
      set-again x y locals h = record {
        has = held-set local (holds y) (holds x) locals h.has;
        keeps = λ other ne. held-other local other (holds y) locals ne ∙ h.keeps other ne;
      }

      pub record Joined (x : ℕ) (now : List Block) (gs : List Segment) : Type 0 where
        pub left : List Block
        pub is : sequence (effects_of world (map grown_stmt (joined a.BitOr (name local) w gs))) now (shown fields) ≡ after (Ok Next) left (shown fields)
        pub reached : LocalIs (with_parts bytes x gs) left

      local-others : (gs : List Segment) (x : ℕ) (locals : List Block) → LocalIs x locals → x < 2 ^ n → AllByRecursion (IsWithin n) gs → AllByRecursion (λ g. HasHelper items (unpack_kind g) w) gs
          → AllByRecursion (λ g. g.byte < size) gs → Joined x locals gs
      local-others [] x locals h small within helpers lt = record { left = locals; is = refl; reached = h }
      local-others (g ∷ gs) x locals h small within helpers lt =
          let p : ℕ = part_of bytes g in
          let y : ℕ = bit_or x p in
          let next : List Block = set_local local (holds y) locals in
          let ends = changes-local world locals (shown fields) no_place no_place local a.BitOr o.BitOr (grown (segment_of_byte w g)) kind kind ((unsigned-at m one w iw).promoted) (pos x) (pos p) (pos y) (pos y)
          refl h.has (gives-part locals fields g (pointers-in x locals h) within.0 helpers.0 lt.0)
          (or-kind x p (below x small) (below p (part-below g within.0))) (exact-fits m one w y iw (below y (or-below x g within.0 small))) in
          let rest = local-others gs y next (set-again x y locals h) (or-below x g within.0 small) within.1 helpers.1 lt.1 in
          record {
            left = rest.left;
            is = sequence-first world locals (shown fields) (grown_stmt (assign (name local) a.BitOr (segment_of_byte w g))) (map grown_stmt (joined a.BitOr (name local) w gs)) next (shown fields) ends ∙ rest.is;
            reached = rest.reached;
          }

      pub record AllJoined (gs : List Segment) : Type 0 where
        pub left : List Block
        pub is : sequence (effects_of world (map grown_stmt (joined a.Set (name local) w gs))) base (shown fields) ≡ after (Ok Next) left (shown fields)
        pub reached : LocalIs (with_parts bytes 0 gs) left

      pub joins-local : (gs : List Segment) (old : Option ℤ) → 0 < length gs → held_by local base ≡ Some (Number kind old) → AllByRecursion (IsWithin n) gs → AllByRecursion (λ g. HasHelper items (unpack_kind g) w) gs
          → AllByRecursion (λ g. g.byte < size) gs → AllJoined gs
      joins-local [] old some has within helpers lt = absurd (omega arith)
      joins-local (g ∷ gs) old some has within helpers lt =
          let p : ℕ = part_of bytes g in
          let next : List Block = set_local local (holds p) base in
          let ends = sets-local world base (shown fields) no_place no_place local (grown (segment_of_byte w g)) kind kind old (pos p) (pos p)
          has (gives-part base fields g held within.0 helpers.0 lt.0) (exact-fits m one w p iw (below p (part-below g within.0))) in
          let first : LocalIs p next = record { has = held-set local (holds p) (Number kind old) base has; keeps = λ other ne. held-other local other (holds p) base ne } in
          let rest = local-others gs p next first (part-below g within.0) within.1 helpers.1 lt.1 in
          record {
            left = rest.left;
            is = sequence-first world base (shown fields) (grown_stmt (assign (name local) a.Set (segment_of_byte w g))) (map grown_stmt (joined a.BitOr (name local) w gs)) next (shown fields) ends ∙ rest.is;
            reached = subst (λ x. LocalIs (with_parts bytes x gs) rest.left) (sym (or_zero_l p)) rest.reached;
          }
