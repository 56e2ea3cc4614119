-- The statements of signals: those of each leave its value of the bytes in its field, and keep the two pointers and the locals of signals.
use Rattle.std.proofs.Common.{◌≡◌, ℕ, ◌-◌, ◌^◌, ◌<◌, ◌≤◌, Bool, true, false, ◌&&◌, List, [], ◌∷◌, ◌++◌, length, map, Option, Some, None, inl, inr, refl, sym, ap, subst, ◌∙◌, arith, Ok, pos, ℤ}
use Rattle.std.specs.Prelude.{nat_le, nat_lt, is_some, if◌then◌else◌, ◌-ℤ◌, slice_get, slice_set, IsSomeAnd}
use Rattle.std.specs.Int.{bit_at}
use Rattle.std.specs.List.{AllByRecursion, flat_map}
use Rattle.std.specs.Str.{bytes_eq}
use Rattle.std.proofs.lemmas.List.{length-set}
use Rattle.std.proofs.lemmas.Bool.Decides.{nat_tests}
use Rattle.can_model.specs.declared.database.Signal.{Signal}
use Rattle.can_model.specs.Frame.{signal_bit, value_in}
use Rattle.can_model.specs.Place.{IsPlaced}
use Rattle.can_model.specs.RawValue.{has_bits}
use Rattle.frame_codec.proofs.Getting.{sum-lt}
use Rattle.c_text.specs.declared.token.Spelled.TheVariants.{Exact}
use Rattle.c_tree.specs.declared.item.Item.{Item}
use Rattle.c_tree.specs.declared.statement.AssignOp.TheVariants as a
use Rattle.c_tree.specs.BareExpression.{name, cast}
use Rattle.c_tree.specs.BareStatement.{Action}
use Rattle.c_widths.specs.DataModel.{DataModel}
use Rattle.c_widths.specs.IntegerType.{exact_type}
use Rattle.c_widths.specs.Conversion.{wrap}
use Rattle.c_mem.specs.declared.objects.Object.{Object}
use Rattle.c_mem.specs.Cells.{CellsOf}
use Rattle.c_operators.proofs.Models.{IsOneOf}
use Rattle.c_operators.proofs.Exact.{signed-at}
use Rattle.c_effect.specs.declared.state.Flow.TheVariants.{Next}
use Rattle.c_effect.specs.declared.state.Held.TheVariants.{Integer as Number}
use Rattle.c_effect.specs.Locals.{Block, held_by}
use Rattle.c_effect.specs.World.{World}
use Rattle.c_effect.specs.Loading.{slot, slot_named}
use Rattle.c_effect.specs.Ending.{after, sequence}
use Rattle.c_effect.specs.StatementEffect.{effects_of}
use Rattle.c_effect.proofs.Expressions.{gives-Cast, gives-Name}
use Rattle.c_effect.proofs.Locals.{reads-number}
use Rattle.c_effect.proofs.Placeless.{no_place, grown, grown_stmt}
use Rattle.c_effect.proofs.Sequences.{sequence-first}
use Rattle.c_effect.proofs.Statements.{Ends, sets-member}
use Rattle.bit_layout.specs.declared.walk.Segment.{Segment}
use Rattle.bit_layout.specs.Covers.{Covers}
use Rattle.bit_layout.specs.Segments.{segments_of}
use Rattle.bit_layout.proofs.Covering.{segments-cover}
use Rattle.shift_helpers.specs.HelperResult.{IsWidth}
use Rattle.gen_pack.specs.SegmentMove.{width_of}
use Rattle.gen_pack.specs.Parts.{Part}
use Rattle.gen_pack.specs.PackTree.{buffer, source, name_or}
use Rattle.gen_pack.proofs.Members.{Among}
use Rattle.gen_pack.proofs.OwnLocals.{IsOther, AreOther, HaveOwn, own-or_same, IsFree, and-left, flipped-names}
use Rattle.gen_pack.proofs.Putting.{HasLocal, HasLocalOf, width-is, through-both}
use Rattle.gen_pack.proofs.Segments.{segments-inside}
use Rattle.gen_unpack.specs.UnpackTree.{field, joined, sign_extended, field_set, settled, part_got}
use Rattle.gen_unpack.specs.Unpacks.{HasHelpersOf}
use Rattle.gen_unpack.proofs.Sums.{number_of, with_parts, bit_sum, parts-sum, sum-bit}
use Rattle.gen_unpack.proofs.Signs.{carried, sign_of, IsSigned, is-signed, nothing-off}
use Rattle.gen_unpack.proofs.Joining.{set-set, Scene, shown, world, HasPointers, at-field, joins-field, joins-local, LocalIs, pointers-in}
use Rattle.gen_unpack.proofs.Extending.{extends}

-- ---- a signal

some-there : {A : Type 0} (P : A → Type 0) (xs : List A) (i : ℕ) → IsSomeAnd (slice_get xs i) P → 0 < length xs
some-there P [] i h = absurd h
some-there P (x ∷ xs) i h = omega arith

has-some : (n : ℕ) → has_bits n ≡ true → 0 < n
has-some n h = let t = and-left (nat_le 1 n) (nat_le n 64) h in grind (arith, nat_tests)

some-segment : (s : Signal) → 0 < s.length → 0 < length (segments_of s)
some-segment s some = let one = (segments-cover s).once 0 some in some-there _ (segments_of s) one.0 one.1

value-unsigned : (bytes : List ℕ) (s : Signal) → s.signed ≡ false → value_in bytes s ≡ pos (bit_sum bytes s)
value-unsigned bytes s e = ap (λ b. pos (bit_sum bytes s) -ℤ pos (if b && signal_bit bytes s (s.length - 1) then 2 ^ s.length else 0)) e ∙ nothing-off (bit_sum bytes s)

value-signed : (bytes : List ℕ) (s : Signal) → s.signed ≡ true → value_in bytes s ≡ pos (bit_sum bytes s) -ℤ pos (sign_of s.length (signal_bit bytes s (s.length - 1)))
value-signed bytes s e = ap (λ b. pos (bit_sum bytes s) -ℤ pos (if b && signal_bit bytes s (s.length - 1) then 2 ^ s.length else 0)) e

-- another name than that of the local
other-name : (o : Option (List ℕ)) (n k : List ℕ) → o ≡ Some n → IsOther k o → bytes_eq n k ≡ false
other-name o n k e h = subst (IsOther k) e h

-- the fields where each signal's holds its value
abbrev pub all_set : List ℕ → List Part → CellsOf ℤ → CellsOf ℤ
all_set bytes [] fields = fields
all_set bytes (x ∷ xs) fields = all_set bytes xs (slice_set fields x.index (Some (value_in bytes x.signal)))

module _ (m : DataModel) (one : IsOneOf m) (items : List Item) (objects : List Object) (to from size : ℕ) (tag : List ℕ) (bytes : List ℕ) (rest : CellsOf ℕ) (scene : Scene objects to from size bytes rest) where
  abbrev here : World
  here = world m one items objects to from size tag bytes rest scene

  abbrev at : CellsOf ℤ → List Object
  at = shown m one items objects to from size tag bytes rest scene

  abbrev pub Pointers : List Block → Type 0
  Pointers = HasPointers m one items objects to from size tag bytes rest scene

  -- the locals of the message's signals, and the two pointers
  pub record Held (parts : List Part) (locals : List Block) : Type 0 where
    pub pointers : Pointers locals
    pub local : (x : Part) → Among x parts → HasLocalOf m locals x

  -- a signal of the message that stands within it, with its field, its helpers and a local where it is signed
  pub record IsReady (x : Part) : Type 0 where
    pub placed : IsPlaced x.signal size
    pub slot_is : slot_named here tag x.names.field ≡ Ok (slot x.index (exact_type m (width_of x.signal) x.signal.signed))
    pub helpers : HasHelpersOf items x.signal
    pub free : IsFree x
    pub named : is_some x.names.local ≡ x.signal.signed

  -- statements that leave these fields
  pub record Got (parts : List Part) (xs : List Action) (locals : List Block) (fields new : CellsOf ℤ) : Type 0 where
    pub left : List Block
    pub is : sequence (effects_of here (map grown_stmt xs)) locals (at fields) ≡ after (Ok Next) left (at new)
    pub held : Held parts left

  -- the fields where that of a signal has its value
  abbrev pub with_field : Part → CellsOf ℤ → CellsOf ℤ
  with_field x fields = slice_set fields x.index (Some (value_in bytes x.signal))

  still-local : (parts : List Part) → HaveOwn parts → (x y : Part) (n : List ℕ) (z : ℤ) (locals left : List Block) → Among x parts → Among y parts → x.names.local ≡ Some n
      → held_by n left ≡ Some (Number (exact_type m (width_of x.signal) false) (Some z)) → ((other : List ℕ) → bytes_eq n other ≡ false → held_by other left ≡ held_by other locals)
      → HasLocalOf m locals y → HasLocalOf m left y
  still-local parts own x y n z locals left ax ay e holds keeps has = elim (own-or_same parts own x y ax ay) [
    | inl same ↦ subst (λ v. HasLocalOf m left v) same (subst (λ l. HasLocal m left l (width_of x.signal)) (sym e) (Some z, holds))
    | inr other ↦ by y.names.local has (subst (λ l. AreOther l y.names.local) e other)
  ] where
    by : (l : Option (List ℕ)) → HasLocal m locals l (width_of y.signal) → IsOther n l → HasLocal m left l (width_of y.signal)
    by None h ne = tt
    by (Some k) h ne = (h.0, keeps k (flipped-names k n ne) ∙ h.1)

  module _ (x : Part) (ready : IsReady x) where
    w : ℕ
    w = width_of x.signal

    wide : IsWidth w × (x.signal.length ≤ w)
    unfolding w
    wide = width-is x.signal.length ready.placed.bits

    some : 0 < x.signal.length
    some = has-some x.signal.length ready.placed.bits

    abbrev gs : List Segment
    gs = segments_of x.signal

    covers : Covers x.signal gs
    covers = segments-cover x.signal

    inside : AllByRecursion (λ g. g.byte < size) gs
    inside = segments-inside x.signal size gs ready.placed.inside covers.within covers.places

    abbrev sum : ℕ
    sum = bit_sum bytes x.signal

    -- the statements by the local that there may be
    abbrev statements : Option (List ℕ) → List Action
    statements o = joined a.Set (name_or o (field x)) (width_of x.signal) gs ++ settled o (width_of x.signal) x.signal.length (field x)

    slot-for : (b : Bool) → x.signal.signed ≡ b → slot_named here tag x.names.field ≡ Ok (slot x.index (exact_type m (width_of x.signal) b))
    slot-for b e = ready.slot_is ∙ ap (λ b. Ok (slot x.index (exact_type m (width_of x.signal) b))) e

    -- without a sign
    gets-unsigned : (parts : List Part) (locals : List Block) → Held parts locals → (fields : CellsOf ℤ) → x.index < length fields → x.signal.signed ≡ false
        → Got parts (statements None) locals fields (with_field x fields)
    unfolding w
    gets-unsigned parts locals held fields within unsigned =
        let joins = joins-field m one items objects to from size tag bytes rest scene w x.signal.length wide.0 wide.1 x.names.field x.index (slot-for false unsigned) locals held.pointers fields within
        gs (some-segment x.signal some) covers.within ready.helpers inside in
        let value : pos (with_parts bytes 0 gs) ≡ value_in bytes x.signal = ap pos (parts-sum bytes x.signal gs covers) ∙ sym (value-unsigned bytes x.signal unsigned) in
        record {
          left = locals;
          is = through-both here (joined a.Set (field x) w gs) [] locals locals (at fields) _ joins ∙ ap (λ z. after (Ok Next) locals (at (slice_set fields x.index (Some z)))) value;
          held = held;
        }

    -- with one
    module _ (parts : List Part) (own : HaveOwn parts) (among : Among x parts) (n : List ℕ) (local_is : x.names.local ≡ Some n) (signed : x.signal.signed ≡ true)
        (locals : List Block) (held : Held parts locals) (fields : CellsOf ℤ) (within : x.index < length fields) where
      top : Bool
      top = signal_bit bytes x.signal (x.signal.length - 1)

      shorter : Bool
      shorter = nat_lt x.signal.length (width_of x.signal)

      top-is : bit_at sum (x.signal.length - 1) ≡ number_of top
      unfolding top
      top-is = sum-bit (signal_bit bytes x.signal) x.signal.length (x.signal.length - 1) (omega (arith, some))

      small : sum < 2 ^ x.signal.length
      small = sum-lt (signal_bit bytes x.signal) x.signal.length

      signs : IsSigned (width_of x.signal) x.signal.length shorter top sum
      unfolding shorter w
      signs = is-signed (width_of x.signal) x.signal.length shorter top sum refl some wide.1 small top-is

      of_buffer : bytes_eq n buffer ≡ false
      of_buffer = other-name x.names.local n buffer local_is ready.free.of_buffer

      of_source : bytes_eq n source ≡ false
      of_source = other-name x.names.local n source local_is ready.free.of_source

      declared : (old : Option ℤ) × (held_by n locals ≡ Some (Number (exact_type m (width_of x.signal) false) old))
      declared = subst (λ l. HasLocal m locals l (width_of x.signal)) local_is (held.local x among)

      abbrev last : ℕ
      last = carried (width_of x.signal) x.signal.length shorter top sum

      -- the local holds a number, and all others what they held
      abbrev Is : ℕ → List Block → Type 0
      Is = LocalIs m one items objects to from size tag bytes rest scene (width_of x.signal) x.signal.length (width-is x.signal.length ready.placed.bits).0 (width-is x.signal.length ready.placed.bits).1 n locals held.pointers of_buffer of_source fields

      record Run (xs : List Action) (before : List Block) (y : ℕ) : Type 0 where
        left : List Block
        is : sequence (effects_of here (map grown_stmt xs)) before (at fields) ≡ after (Ok Next) left (at fields)
        reached : Is y left

      joins : Run (joined a.Set (name n) (width_of x.signal) gs) locals sum
      unfolding w
      joins =
          let all = joins-local m one items objects to from size tag bytes rest scene (width_of x.signal) x.signal.length (width-is x.signal.length ready.placed.bits).0 (width-is x.signal.length ready.placed.bits).1 n locals held.pointers of_buffer of_source fields
          gs declared.0 (some-segment x.signal some) declared.1 covers.within ready.helpers inside in
          record { left = all.left; is = all.is; reached = subst (λ y. Is y all.left) (parts-sum bytes x.signal gs covers) all.reached }

      carries : (before : List Block) → Is sum before → Run (sign_extended (width_of x.signal) x.signal.length n) before last
      unfolding shorter w
      carries before h =
          let e = extends here one (at fields) (width_of x.signal) x.signal.length wide.0 some wide.1 n shorter top before sum h.has small top-is in
          record { left = e.left; is = e.is; reached = record { has = e.has; keeps = λ other ne. e.keeps other ne ∙ h.keeps other ne } }

      sets : (before : List Block) → Is last before → Ends here before (at fields) (grown_stmt (field_set (width_of x.signal) (field x) n)) (Ok Next) before (at (with_field x fields))
      unfolding w top wide
      sets before h =
          let v : ℤ = value_in bytes x.signal in
          let value : v ≡ pos sum -ℤ pos (sign_of x.signal.length top) = value-signed bytes x.signal signed in
          let f = signed-at m one (width_of x.signal) wide.0 in
          let kind = exact_type m (width_of x.signal) true in
          let ends = sets-member here before (at fields) no_place no_place buffer x.names.field to tag fields x.index kind (grown (cast (Exact (width_of x.signal) true) (name n))) kind v v
          (at-field m one items objects to from size tag bytes rest scene before fields x.names.field x.index kind (pointers-in m one items objects to from size tag bytes rest scene (width_of x.signal) x.signal.length wide.0 wide.1 n locals held.pointers of_buffer of_source fields last before h) (slot-for true signed))
          (gives-Cast here before (at fields) no_place (Exact (width_of x.signal) true) (grown (name n)) (exact_type m (width_of x.signal) false) (pos last) v
          (gives-Name here before (at fields) no_place n (exact_type m (width_of x.signal) false) (pos last) (reads-number n (exact_type m (width_of x.signal) false) (pos last) before h.has))
          (f.converts (pos last) ∙ signs.wraps ∙ sym value))
          (f.converts v ∙ ap (wrap true (width_of x.signal)) value ∙ signs.stays ∙ sym value) within in
          subst (λ new. Ends here before (at fields) (grown_stmt (field_set (width_of x.signal) (field x) n)) (Ok Next) before new) (set-set objects to _ _) ends

      gets-signed : Got parts (statements (Some n)) locals fields (with_field x fields)
      gets-signed =
          let first = joins in
          let second = carries first.left first.reached in
          let third = sets second.left second.reached in
          record {
            left = second.left;
            is = through-both here (joined a.Set (name n) (width_of x.signal) gs) (settled (Some n) (width_of x.signal) x.signal.length (field x)) locals first.left (at fields) (at fields) first.is
                ∙ through-both here (sign_extended (width_of x.signal) x.signal.length n) (field_set (width_of x.signal) (field x) n ∷ []) first.left second.left (at fields) (at fields) second.is
                ∙ sequence-first here second.left (at fields) (grown_stmt (field_set (width_of x.signal) (field x) n)) [] second.left (at (with_field x fields)) third;
            held = record {
              pointers = record { struct_is = second.reached.keeps buffer of_buffer ∙ held.pointers.struct_is; bytes_is = second.reached.keeps source of_source ∙ held.pointers.bytes_is };
              local = λ y ay. still-local parts own x y n (pos last) locals second.left among ay local_is second.reached.has second.reached.keeps (held.local y ay);
            };
          }

    -- both
    pub gets-part : (parts : List Part) → HaveOwn parts → Among x parts → (locals : List Block) → Held parts locals → (fields : CellsOf ℤ) → x.index < length fields
        → Got parts (part_got x) locals fields (with_field x fields)
    gets-part parts own among locals held fields within = by x.names.local refl where
      by : (o : Option (List ℕ)) → x.names.local ≡ o → Got parts (statements o) locals fields (with_field x fields)
      by None e = gets-unsigned parts locals held fields within (sym ready.named ∙ ap is_some e)
      by (Some n) e = gets-signed parts own among n e (sym ready.named ∙ ap is_some e) locals held fields within

  -- ---- all signals

  pub gets-all : (parts : List Part) → HaveOwn parts → (count : ℕ) (xs : List Part) → ((x : Part) → Among x xs → Among x parts × (IsReady x × (x.index < count))) → (locals : List Block) → Held parts locals → (fields : CellsOf ℤ)
      → count ≤ length fields → Got parts (flat_map part_got xs) locals fields (all_set bytes xs fields)
  gets-all parts own count [] each locals held fields le = record { left = locals; is = refl; held = held }
  gets-all parts own count (x ∷ xs) each locals held fields le =
      let h = each x (inl refl) in
      let first = gets-part x h.1.0 parts own h.0 locals held fields (omega (arith, h.1.1)) in
      let new : CellsOf ℤ = with_field x fields in
      let others = gets-all parts own count xs (λ y a. each y (inr a)) first.left first.held new (omega (arith, length-set fields x.index (Some (value_in bytes x.signal)))) in
      record {
        left = others.left;
        is = through-both here (part_got x) (flat_map part_got xs) locals first.left (at fields) (at new) first.is ∙ others.is;
        held = others.held;
      }
