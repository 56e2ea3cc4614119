-- The statements of a signal's segments: each joins its bits to its byte of the buffer, and together they put the bits of the value.
use Rattle.std.proofs.Common.{◌≡◌, ℕ, zero, suc, ◌+◌, ◌*◌, ◌^◌, ◌<◌, ◌≤◌, true, false, List, [], ◌∷◌, ◌++◌, length, map, set, get_or, Option, Some, inl, inr, refl, ap, subst, ◌∙◌, arith, Ok, pos, ℤ}
use Rattle.std.specs.Prelude.{◌⊎◌, ◌≢◌, ◌↔◌, bit_or, slice_get, slice_set, IsSomeAnd}
use Rattle.std.specs.List.{AllByRecursion}
use Rattle.std.proofs.Math.Pow.{pow_mono, pow_pos}
use Rattle.std.proofs.lemmas.Bool.Decides.{leb_tells}
use Rattle.std.proofs.lemmas.List.{length-map}
use Rattle.std.proofs.lemmas.Option.{slice_get-get_or, slice_get-map}
use Rattle.can_model.specs.declared.database.Signal.{Signal}
use Rattle.can_model.specs.Place.{place_of, IsAt}
use Rattle.can_model.specs.Frame.{has_bit_in}
use Rattle.frame_codec.specs.Ones.{AreBytes, AddsOnes, IsBitBelow}
use Rattle.c_text.specs.declared.token.IntType.{IntType}
use Rattle.c_text.specs.declared.token.IntType.TheVariants as t
use Rattle.c_tree.specs.declared.item.Item.{Item}
use Rattle.c_widths.specs.DataModel.{DataModel}
use Rattle.c_widths.specs.Conversion.{wrap}
use Rattle.c_mem.specs.declared.objects.Object.{Object}
use Rattle.c_mem.specs.declared.objects.Object.TheVariants.{Bytes, Fields}
use Rattle.c_mem.specs.declared.objects.Pointer.TheVariants.{At}
use Rattle.c_mem.specs.Cells.{CellsOf}
use Rattle.c_operators.proofs.Models.{IsOneOf}
use Rattle.c_operators.proofs.Exact.{exact-byte, width-high}
use Rattle.c_effect.specs.declared.state.Flow.TheVariants.{Next}
use Rattle.c_effect.specs.declared.state.Held.TheVariants.{Pointer as Address}
use Rattle.c_effect.specs.Locals.{Block, held_by}
use Rattle.c_effect.specs.World.{World}
use Rattle.c_effect.specs.Ending.{after, sequence}
use Rattle.c_effect.specs.StatementEffect.{effects_of}
use Rattle.c_effect.specs.FunctionCall.{unit_world}
use Rattle.c_effect.proofs.Expressions.{Gives, gives-int, gives-unsigned}
use Rattle.c_effect.proofs.Locals.{points-at}
use Rattle.c_effect.proofs.Memory.{slice_get-set, slice_get-set_other}
use Rattle.c_effect.proofs.Placeless.{no_place, grown, grown_stmt}
use Rattle.c_effect.proofs.Sequences.{sequence-first}
use Rattle.c_effect.proofs.Statements.{Ends, ors-element}
use Rattle.bit_layout.specs.declared.walk.Segment.{Segment}
use Rattle.bit_layout.specs.Covers.{IsWithin, HasBit, TellsPlaces, Covers}
use Rattle.bit_layout.specs.Segments.{segments_of}
use Rattle.bit_layout.proofs.Covering.{segments-cover}
use Rattle.shift_helpers.specs.HelperResult.{IsWidth, taken_width, given_width, shift_limit}
use Rattle.shift_helpers.proofs.Helping.{calls-helper}
use Rattle.gen_pack.specs.SegmentMove.{width_of, pack_kind, pack_shift, mask_of}
use Rattle.gen_pack.specs.Parts.{Part}
use Rattle.gen_pack.specs.PackTree.{buffer, source, taken, unsigned, number, segment_put}
use Rattle.gen_pack.specs.Packs.{HasHelper, HasHelpersOf}
use Rattle.gen_pack.proofs.SegmentBits.{byte_given, byte-small, low_of, Pattern, pattern, with_byte, adds-none, adds-both, adds-same, IsOfSegment, adds-segment}

-- ---- the call for a segment

pub record IsPackCall (w : ℕ) (g : Segment) : Type 0 where
  pub takes : taken_width (pack_kind g) w ≡ w
  pub returns : given_width (pack_kind g) w ≡ 8
  pub shift : pack_shift g < shift_limit (pack_kind g) w
  pub small : pack_shift g < 2 ^ 8
  pub mask : mask_of g < 2 ^ 8

pub pack-call : (w length : ℕ) (g : Segment) → IsWidth w → length ≤ w → IsWithin length g → IsPackCall w g
pack-call w length g iw le l =
    let top : 2 ^ (g.byte_low + g.count) ≤ 2 ^ 8 = pow_mono {i = g.byte_low + g.count} {j = 8} (omega (arith, l.in_byte)) in
    let low : 0 < 2 ^ g.byte_low = pow_pos g.byte_low in
    let high = width-high w iw in
    let mask : mask_of g < 2 ^ 8 = omega arith in
    elim (leb_tells g.signal_low g.byte_low) [
      | inl a ↦ record { takes = rw a.0 refl; returns = rw a.0 refl; shift = rw a.0 (omega (arith, l.some, l.in_byte)); small = rw a.0 (omega (arith, l.some, l.in_byte)); mask = mask }
      | inr a ↦ record { takes = rw a.0 refl; returns = rw a.0 refl; shift = rw a.0 (omega (arith, l.some, l.in_signal)); small = rw a.0 (omega (arith, l.some, l.in_signal)); mask = mask }
    ]

-- ---- the first bytes of a buffer

set-front : {A : Type 0} (xs ys : List A) (i : ℕ) (a : A) → i < length xs → slice_set (xs ++ ys) i a ≡ slice_set xs i a ++ ys
set-front [] ys i a h = absurd (omega arith)
set-front (x ∷ xs) ys zero a h = refl
set-front (x ∷ xs) ys (suc i) a h = ap (λ r. x ∷ r) (set-front xs ys i a (omega (arith, h)))

get-front : {A : Type 0} (xs ys : List A) (i : ℕ) → i < length xs → slice_get (xs ++ ys) i ≡ slice_get xs i
get-front [] ys i h = absurd (omega arith)
get-front (x ∷ xs) ys zero h = refl
get-front (x ∷ xs) ys (suc i) h = get-front xs ys i (omega (arith, h))

set-set : {A : Type 0} (xs : List A) (i : ℕ) (a b : A) → slice_set (slice_set xs i a) i b ≡ slice_set xs i b
set-set [] i a b = refl
set-set (x ∷ xs) zero a b = refl
set-set (x ∷ xs) (suc i) a b = ap (λ r. x ∷ r) (set-set xs i a b)

set-map : {A B : Type 0} (f : A → B) (xs : List A) (i : ℕ) (a : A) → slice_set (map f xs) i (f a) ≡ map f (set xs i a)
set-map f [] i a = refl
set-map f (x ∷ xs) zero a = refl
set-map f (x ∷ xs) (suc i) a = ap (λ r. f x ∷ r) (set-map f xs i a)

-- bytes of a message
pub record IsBuffer (size : ℕ) (bytes : List ℕ) : Type 0 where
  pub length_is : length bytes ≡ size
  pub are : AreBytes bytes

pub still-buffer : (size : ℕ) (old new : List ℕ) (Ones : ℕ → Type 0) → IsBuffer size old → AddsOnes old new Ones → IsBuffer size new
still-buffer size old new Ones b a = record { length_is = a.size ∙ b.length_is; are = a.bytes b.are }

-- one of the bits of one of the segments is 1, and the signal has it at this place
abbrev pub IsOfAny : Signal → ℤ → List Segment → ℕ → Type 0
IsOfAny s v [] p = ⊥
IsOfAny s v (g ∷ gs) p = IsOfSegment s v g p ⊎ IsOfAny s v gs p

any-below : (s : Signal) (v : ℤ) (gs : List Segment) (p : ℕ) → AllByRecursion (IsWithin s.length) gs → IsOfAny s v gs p → IsBitBelow s v s.length p
any-below s v [] p w h = absurd h
any-below s v (g ∷ gs) p w (inl h) = let has : HasBit h.0 g = h.1 in (h.0, omega (arith, has.high, w.0.in_signal), h.2, h.3)
any-below s v (g ∷ gs) p w (inr h) = any-below s v gs p w.1 h

any-at : (s : Signal) (v : ℤ) (gs : List Segment) (p k i : ℕ) → IsSomeAnd (slice_get gs i) (HasBit k) → IsAt s k p → has_bit_in v k ≡ true → IsOfAny s v gs p
any-at s v [] p k i h at bit = absurd h
any-at s v (g ∷ gs) p k zero h at bit = inl (k, h, at, bit)
any-at s v (g ∷ gs) p k (suc i) h at bit = inr (any-at s v gs p k i h at bit)

-- the segments of a signal have all of its bits
any-is_below : (s : Signal) (v : ℤ) (p : ℕ) → IsOfAny s v (segments_of s) p ↔ IsBitBelow s v s.length p
any-is_below s v p =
    let c : Covers s (segments_of s) = segments-cover s in (
      λ h. any-below s v (segments_of s) p c.within h,
      λ h. (let one = c.once h.0 h.1 in any-at s v (segments_of s) p h.0 one.0 one.1 h.2 h.3),
    )

-- each segment of a signal that stands in the message is in a byte of it
pub segments-inside : (s : Signal) (size : ℕ) (gs : List Segment) → ((k : ℕ) → k < s.length → place_of s k < 8 * size) → AllByRecursion (IsWithin s.length) gs → AllByRecursion (TellsPlaces s) gs → AllByRecursion (λ g. g.byte < size) gs
segments-inside s size [] inside within told = tt
segments-inside s size (g ∷ gs) inside within told =
    let has : HasBit g.signal_low g = record { low = omega arith; high = omega (arith, within.0.some) } in
    let place = inside g.signal_low (omega (arith, within.0.some, within.0.in_signal)) in
    (omega (arith, place, told.0 g.signal_low has), segments-inside s size gs inside within.1 told.1)

-- ---- where the statements of a message's signals run

-- an object of bytes that the frame is put into, and one of fields
pub record Scene (objects : List Object) (to from size : ℕ) (tag : List ℕ) (values : CellsOf ℤ) : Type 0 where
  pub within : to < length objects
  pub struct : slice_get objects from ≡ Some (Fields tag values)
  pub apart : from ≢ to
  pub few : size ≤ 2048

module _ (m : DataModel) (one : IsOneOf m) (items : List Item) (objects : List Object) (to from size : ℕ) (tag : List ℕ) (values : CellsOf ℤ) (scene : Scene objects to from size tag values) (rest : CellsOf ℕ) where
  abbrev pub world : World
  world = unit_world m items

  -- the objects where the buffer begins with these bytes
  abbrev pub shown : List ℕ → List Object
  shown bytes = slice_set objects to (Bytes (map Some bytes ++ rest))

  bytes-there : (bytes : List ℕ) → slice_get (shown bytes) to ≡ Some (Bytes (map Some bytes ++ rest))
  bytes-there bytes = slice_get-set objects to (Bytes (map Some bytes ++ rest)) scene.within

  pub struct-there : (bytes : List ℕ) → slice_get (shown bytes) from ≡ Some (Fields tag values)
  struct-there bytes = slice_get-set_other objects to from (Bytes (map Some bytes ++ rest)) scene.apart ∙ scene.struct

  -- the two pointers are held
  pub record HasPointers (locals : List Block) : Type 0 where
    pub buffer_is : held_by buffer locals ≡ Some (Address (At to))
    pub source_is : held_by source locals ≡ Some (Address (At from))

  -- what the helpers take has the bits of the value
  pub record Takes (locals : List Block) (x : Part) (v : ℤ) : Type 0 where
    pub kind : IntType
    pub taken_number : ℤ
    pub gives : (bytes : List ℕ) → Gives world locals (shown bytes) (grown (taken x)) kind taken_number
    pub is : wrap false (width_of x.signal) taken_number ≡ pos (low_of (width_of x.signal) v)

  module _ (locals : List Block) (x : Part) (v : ℤ) (iw : IsWidth (width_of x.signal)) (enough : x.signal.length ≤ width_of x.signal) (held : HasPointers locals) (takes : Takes locals x v) where
    w : ℕ
    w = width_of x.signal

    low : ℕ
    low = low_of w v

    -- one statement
    segment-ends : (g : Segment) (bytes : List ℕ) → IsWithin x.signal.length g → HasHelper items (pack_kind g) w → IsBuffer size bytes → g.byte < size
        → Ends world locals (shown bytes) (grown_stmt (segment_put x g)) (Ok Next) locals (shown (with_byte bytes g.byte (byte_given w low g)))
    unfolding w low byte_given with_byte
    segment-ends g bytes within helper b lt =
        let c : IsPackCall w g = pack-call w x.signal.length g iw enough within in
        let p : Pattern w v = pattern w iw v in
        let old : ℕ = get_or bytes g.byte 0 in
        let given : ℕ = byte_given w low g in
        let called : Gives world locals (shown bytes) _ _ _ =
        calls-helper m one items locals (shown bytes) no_place (pack_kind g) w iw helper.given (grown (taken x)) (grown (unsigned (pack_shift g) 10)) (grown (unsigned (mask_of g) 16))
        takes.kind t.UnsignedInt t.UnsignedInt takes.taken_number low (pack_shift g) (mask_of g) helper.found helper.same
        (takes.gives bytes) (rw c.takes takes.is) (rw c.takes p.below)
        (gives-unsigned world locals (shown bytes) one no_place (pack_shift g) 10 (omega (arith, c.small))) c.shift
        (gives-unsigned world locals (shown bytes) one no_place (mask_of g) 16 (omega (arith, c.mask))) c.mask in
        let byte = rw (c.returns, exact-byte m one) at called in
        let inside : g.byte < length bytes = omega (arith, b.length_is) in
        let inside_cells : g.byte < length (map {B = Option ℕ} Some bytes) = simp length-map inside in
        let cell : slice_get (map Some bytes ++ rest) g.byte ≡ Some (Some old) =
        get-front (map Some bytes) rest g.byte inside_cells ∙ slice_get-map Some bytes g.byte ∙ rw (slice_get-get_or bytes g.byte 0 inside) refl in
        let ends = ors-element world locals (shown bytes) one no_place no_place buffer (grown (number g.byte)) _ t.Int to g.byte old given (map Some bytes ++ rest)
        (record { points = points-at buffer (At to) locals held.buffer_is; there = bytes-there bytes })
        (gives-int world locals (shown bytes) one no_place g.byte (omega (arith, scene.few))) byte cell (b.are g.byte) (byte-small w low g) in
        let same : slice_set (shown bytes) to (Bytes (slice_set (map Some bytes ++ rest) g.byte (Some (bit_or old given)))) ≡ shown (with_byte bytes g.byte given) =
        set-set objects to _ _
        ∙ ap (λ r. slice_set objects to (Bytes r)) (set-front (map Some bytes) rest g.byte (Some (bit_or old given)) inside_cells ∙ ap (λ r. r ++ rest) (set-map Some bytes g.byte (bit_or old given))) in
        subst (λ new. Ends world locals (shown bytes) (grown_stmt (segment_put x g)) (Ok Next) locals new) same ends

    -- the statements of segments
    record Joined (gs : List Segment) (bytes : List ℕ) : Type 0 where
      left : List ℕ
      is : sequence (effects_of world (map grown_stmt (map (segment_put x) gs))) locals (shown bytes) ≡ after (Ok Next) locals (shown left)
      adds : AddsOnes bytes left (IsOfAny x.signal v gs)

    join : (gs : List Segment) (bytes : List ℕ) → AllByRecursion (IsWithin x.signal.length) gs → AllByRecursion (TellsPlaces x.signal) gs → AllByRecursion (λ g. HasHelper items (pack_kind g) w) gs
        → AllByRecursion (λ g. g.byte < size) gs → IsBuffer size bytes → Joined gs bytes
    unfolding w low
    join [] bytes within told helpers inside b = record { left = bytes; is = refl; adds = adds-none bytes }
    join (g ∷ gs) bytes within told helpers inside b =
        let next : List ℕ = with_byte bytes g.byte (byte_given w low g) in
        let first : AddsOnes bytes next (IsOfSegment x.signal v g) = adds-segment x.signal v w g enough (pattern w iw v) within.0 told.0 bytes (omega (arith, b.length_is, inside.0)) in
        let then_ = join gs next within.1 told.1 helpers.1 inside.1 (still-buffer size bytes next (IsOfSegment x.signal v g) b first) in
        record {
          left = then_.left;
          is = sequence-first world locals (shown bytes) (grown_stmt (segment_put x g)) (map grown_stmt (map (segment_put x) gs)) locals (shown next) (segment-ends g bytes within.0 helpers.0 b inside.0) ∙ then_.is;
          adds = adds-both bytes next then_.left (IsOfSegment x.signal v g) (IsOfAny x.signal v gs) first then_.adds;
        }

    pub record Put (bytes : List ℕ) : Type 0 where
      pub left : List ℕ
      pub is : sequence (effects_of world (map grown_stmt (map (segment_put x) (segments_of x.signal)))) locals (shown bytes) ≡ after (Ok Next) locals (shown left)
      pub adds : AddsOnes bytes left (IsBitBelow x.signal v x.signal.length)

    pub segments-put : (bytes : List ℕ) → ((k : ℕ) → k < x.signal.length → place_of x.signal k < 8 * size) → HasHelpersOf items x.signal → IsBuffer size bytes → Put bytes
    unfolding w
    segments-put bytes inside helpers b =
        let c : Covers x.signal (segments_of x.signal) = segments-cover x.signal in
        let all = join (segments_of x.signal) bytes c.within c.places helpers (segments-inside x.signal size (segments_of x.signal) inside c.within c.places) b in
        record { left = all.left; is = all.is; adds = adds-same bytes all.left (IsOfAny x.signal v (segments_of x.signal)) (IsBitBelow x.signal v x.signal.length) all.adds (any-is_below x.signal v) }
