-- Statements that put signals: each leaves the two pointers and the locals of signals, and adds ones to the buffer.
use Rattle.std.proofs.Common.{◌≡◌, ℕ, ◌≤◌, true, false, List, [], ◌∷◌, ◌++◌, map, Option, Some, None, inl, inr, refl, sym, ap, subst, ◌∙◌, arith, Ok, pos, ℤ}
use Rattle.std.specs.Prelude.{◌⊎◌, ◌↔◌, nat_le, slice_get, option_and_then}
use Rattle.std.specs.List.{flat_map}
use Rattle.std.specs.Str.{bytes_eq}
use Rattle.std.proofs.lemmas.List.{map-append}
use Rattle.std.proofs.lemmas.Bool.Decides.{nat_tests, leb_tells}
use Rattle.can_model.specs.Place.{IsPlaced}
use Rattle.can_model.specs.Active.{value_at}
use Rattle.can_model.specs.RawValue.{has_bits, field_bits}
use Rattle.frame_codec.specs.Ones.{AddsOnes, IsBitBelow}
use Rattle.c_text.specs.declared.token.IntType.{IntType}
use Rattle.c_text.specs.declared.token.Spelled.TheVariants.{Exact}
use Rattle.c_tree.specs.declared.item.Item.{Item}
use Rattle.c_tree.specs.BareStatement.{Action}
use Rattle.c_widths.specs.DataModel.{DataModel}
use Rattle.c_widths.specs.IntegerType.{exact_type}
use Rattle.c_widths.specs.Conversion.{wrap}
use Rattle.c_mem.specs.declared.objects.Object.{Object}
use Rattle.c_mem.specs.declared.objects.Pointer.TheVariants.{At}
use Rattle.c_mem.specs.Cells.{CellsOf}
use Rattle.c_operators.proofs.Models.{IsOneOf}
use Rattle.c_operators.proofs.Exact.{unsigned-at, exact-fits}
use Rattle.c_operators.proofs.Numbers.{unsigned-fits}
use Rattle.c_effect.specs.declared.state.Flow.TheVariants.{Next}
use Rattle.c_effect.specs.declared.state.Held.{Held as Holding}
use Rattle.c_effect.specs.declared.state.Held.TheVariants.{Integer as Number}
use Rattle.c_effect.specs.Locals.{Block, held_by, set_local}
use Rattle.c_effect.specs.World.{World}
use Rattle.c_effect.specs.Loading.{slot, slot_named}
use Rattle.c_effect.specs.Ending.{after, sequence}
use Rattle.c_effect.specs.StatementEffect.{effects_of}
use Rattle.c_effect.proofs.Expressions.{Gives, gives-Cast, gives-Member, gives-Name}
use Rattle.c_effect.proofs.Locals.{held-set, held-other, reads-number, points-at}
use Rattle.c_effect.proofs.Placeless.{no_place, grown, grown_stmt}
use Rattle.c_effect.proofs.Sequences.{sequence-first, sequence-through}
use Rattle.c_effect.proofs.Statements.{sets-local}
use Rattle.bit_layout.specs.Segments.{segments_of}
use Rattle.shift_helpers.specs.HelperResult.{IsWidth}
use Rattle.gen_pack.specs.SegmentMove.{width_of}
use Rattle.gen_pack.specs.Parts.{Part}
use Rattle.gen_pack.specs.PackTree.{buffer, source, name_or, field, local_set, part_put, segment_put}
use Rattle.gen_pack.specs.Packs.{HasHelpersOf}
use Rattle.gen_pack.proofs.Members.{Among}
use Rattle.gen_pack.proofs.SegmentBits.{low_of, Pattern, pattern, adds-none, adds-both, adds-same}
use Rattle.gen_pack.proofs.Segments.{Scene, IsBuffer, still-buffer, shown, world, HasPointers, struct-there, segments-put}
use Rattle.gen_pack.proofs.OwnLocals.{IsOther, AreOther, HaveOwn, own-or_same, IsFree, and-right, flipped-names}

-- ---- the width of a field

pub width-is : (n : ℕ) → has_bits n ≡ true → IsWidth (field_bits n) × (n ≤ field_bits n)
width-is n h = elim (leb_tells n 8) [
  | inl a ↦ (rw a.0 (inl refl), rw a.0 a.1)
  | inr a ↦ elim (leb_tells n 16) [
    | inl b ↦ (rw (a.0, b.0) (inr (inl refl)), rw (a.0, b.0) b.1)
    | inr b ↦ elim (leb_tells n 32) [
      | inl c ↦ (rw (a.0, b.0, c.0) (inr (inr (inl refl))), rw (a.0, b.0, c.0) c.1)
      | inr c ↦ (rw (a.0, b.0, c.0) (inr (inr (inr refl))), rw (a.0, b.0, c.0) (let t = and-right (nat_le 1 n) (nat_le n 64) h in grind (arith, nat_tests)))
    ]
  ]
]

-- a local of the width, with a value or none yet
abbrev pub HasLocal : DataModel → List Block → Option (List ℕ) → ℕ → Type 0
HasLocal m locals None w = Unit {0}
HasLocal m locals (Some n) w = (o : Option ℤ) × (held_by n locals ≡ Some (Number (exact_type m w false) o))

abbrev pub HasLocalOf : DataModel → List Block → Part → Type 0
HasLocalOf m locals x = HasLocal m locals x.names.local (width_of x.signal)

-- a cell with a value
cell-of : (values : CellsOf ℤ) (i : ℕ) (v : ℤ) → value_at values i ≡ Some v → slice_get values i ≡ Some (Some v)
cell-of values i v h = by (slice_get values i) refl h where
  by : (o : Option (Option ℤ)) → slice_get values i ≡ o → option_and_then (λ x. x) o ≡ Some v → slice_get values i ≡ Some (Some v)
  by None e h = absurd (cc)
  by (Some None) e h = absurd (cc)
  by (Some (Some z)) e h = e ∙ ap Some h

-- one of the elements has it
abbrev pub SomeHas : {A : Type 0} → List A → (A → ℕ → Type 0) → ℕ → Type 0
SomeHas [] Ones p = ⊥
SomeHas (x ∷ xs) Ones p = Ones x p ⊎ SomeHas xs Ones p

-- statements that go on, and others behind them
pub through-both : (w : World) (xs ys : List Action) (locals left : List Block) (old new : List Object) → sequence (effects_of w (map grown_stmt xs)) locals old ≡ after (Ok Next) left new
    → sequence (effects_of w (map grown_stmt (xs ++ ys))) locals old ≡ sequence (effects_of w (map grown_stmt ys)) left new
through-both w xs ys locals left old new h =
    ap (λ l. sequence (effects_of w l) locals old) (map-append grown_stmt xs ys)
    ∙ sequence-through w (map grown_stmt xs) (map grown_stmt ys) locals left old new h

module _ (m : DataModel) (one : IsOneOf m) (items : List Item) (objects : List Object) (to from size : ℕ) (tag : List ℕ) (values : CellsOf ℤ) (scene : Scene objects to from size tag values) (rest : CellsOf ℕ) where
  abbrev at : List ℕ → List Object
  at = shown m one items objects to from size tag values scene rest

  abbrev here : World
  here = world m one items objects to from size tag values scene rest

  abbrev pub Pointers : List Block → Type 0
  Pointers = HasPointers m one items objects to from size tag values scene rest

  -- the locals of the message's signals, and the two pointers
  pub record Held (parts : List Part) (locals : List Block) : Type 0 where
    pub pointers : Pointers locals
    pub local : (x : Part) → Among x parts → HasLocalOf m locals x

  -- a signal of the message that stands within it, with its field, its helpers and its value
  pub record IsReady (x : Part) : Type 0 where
    pub placed : IsPlaced x.signal size
    pub slot_is : slot_named here tag x.names.field ≡ Ok (slot x.index (exact_type m (width_of x.signal) x.signal.signed))
    pub helpers : HasHelpersOf items x.signal
    pub free : IsFree x

  -- ---- statements of which one after another puts ones

  pub record Ran (parts : List Part) (xs : List Action) (Ones : ℕ → Type 0) (locals : List Block) (bytes : List ℕ) : Type 0 where
    pub left : List Block
    pub new : List ℕ
    pub is : sequence (effects_of here (map grown_stmt xs)) locals (at bytes) ≡ after (Ok Next) left (at new)
    pub held : Held parts left
    pub adds : AddsOnes bytes new Ones

  abbrev pub Puts : List Part → List Action → (ℕ → Type 0) → Type 0
  Puts parts xs Ones = (locals : List Block) → Held parts locals → (bytes : List ℕ) → IsBuffer size bytes → Ran parts xs Ones locals bytes

  pub puts-none : (parts : List Part) → Puts parts [] (λ p. ⊥)
  puts-none parts locals held bytes b = record { left = locals; new = bytes; is = refl; held = held; adds = adds-none bytes }

  pub puts-both : (parts : List Part) (xs ys : List Action) (Ones More : ℕ → Type 0) → Puts parts xs Ones → Puts parts ys More → Puts parts (xs ++ ys) (λ p. Ones p ⊎ More p)
  puts-both parts xs ys Ones More f g locals held bytes b =
      let a = f locals held bytes b in
      let c = g a.left a.held a.new (still-buffer size bytes a.new Ones b a.adds) in
      record {
        left = c.left;
        new = c.new;
        is = through-both here xs ys locals a.left (at bytes) (at a.new) a.is ∙ c.is;
        held = c.held;
        adds = adds-both bytes a.new c.new Ones More a.adds c.adds;
      }

  pub puts-same : (parts : List Part) (xs : List Action) (Ones More : ℕ → Type 0) → Puts parts xs Ones → ((p : ℕ) → Ones p ↔ More p) → Puts parts xs More
  puts-same parts xs Ones More f same locals held bytes b =
      let a = f locals held bytes b in
      record { left = a.left; new = a.new; is = a.is; held = a.held; adds = adds-same bytes a.new Ones More a.adds same }

  pub puts-each : {A : Type 0} (parts : List Part) (f : A → List Action) (Ones : A → ℕ → Type 0) (xs : List A) → ((x : A) → Among x xs → Puts parts (f x) (Ones x)) → Puts parts (flat_map f xs) (SomeHas xs Ones)
  puts-each parts f Ones [] h = puts-none parts
  puts-each parts f Ones (x ∷ xs) h = puts-both parts (f x) (flat_map f xs) (Ones x) (SomeHas xs Ones) (h x (inl refl)) (puts-each parts f Ones xs (λ y a. h y (inr a)))

  -- ---- one signal

  gives-field : (x : Part) (v : ℤ) (locals : List Block) (bytes : List ℕ) → IsReady x → Pointers locals → value_at values x.index ≡ Some v
      → Gives here locals (at bytes) (grown (field x)) (exact_type m (width_of x.signal) x.signal.signed) v
  gives-field x v locals bytes r held has =
      gives-Member here locals (at bytes) no_place source x.names.field from tag values x.index (exact_type m (width_of x.signal) x.signal.signed) v
      (record { points = points-at source (At from) locals held.source_is; there = struct-there m one items objects to from size tag values scene rest bytes; is = r.slot_is })
      (cell-of values x.index v has)

  -- a signal without a local is taken from its field, and one with a local by that
  record Prepared (parts : List Part) (x : Part) (v : ℤ) (o : Option (List ℕ)) (locals : List Block) (bytes : List ℕ) : Type 0 where
    left : List Block
    is : sequence (effects_of here (map grown_stmt (local_set o (width_of x.signal) (field x)))) locals (at bytes) ≡ after (Ok Next) left (at bytes)
    held : Held parts left
    kind : IntType
    number : ℤ
    gives : (b : List ℕ) → Gives here left (at b) (grown (name_or o (field x))) kind number
    taken_is : wrap false (width_of x.signal) number ≡ pos (low_of (width_of x.signal) v)

  -- a pointer stays where a signal's local is set
  keeps : (o : Option (List ℕ)) (n name : List ℕ) → o ≡ Some n → IsOther name o → bytes_eq n name ≡ false
  keeps o n name e h = subst (IsOther name) e h

  still-local : (parts : List Part) → HaveOwn parts → (x y : Part) (n : List ℕ) (o z : Option ℤ) (locals : List Block) → Among x parts → Among y parts → x.names.local ≡ Some n
      → held_by n locals ≡ Some (Number (exact_type m (width_of x.signal) false) o) → HasLocalOf m locals y
      → HasLocalOf m (set_local n (Number (exact_type m (width_of x.signal) false) z) locals) y
  still-local parts own x y n o z locals ax ay e at_n has = elim (own-or_same parts own x y ax ay) [
    | inl same ↦ subst (λ v. HasLocalOf m new v) same (subst (λ l. HasLocal m new l (width_of x.signal)) (sym e) (z, held-set n value (Number (exact_type m (width_of x.signal) false) o) locals at_n))
    | inr other ↦ by y.names.local refl has (subst (λ l. AreOther l y.names.local) e other)
  ] where
    value : Holding
    value = Number (exact_type m (width_of x.signal) false) z

    new : List Block
    new = set_local n value locals

    by : (l : Option (List ℕ)) → y.names.local ≡ l → HasLocal m locals l (width_of y.signal) → IsOther n l → HasLocal m new l (width_of y.signal)
    by None e h ne = tt
    by (Some k) e h ne = (h.0, held-other n k value locals (flipped-names k n ne) ∙ h.1)

  prepared : (parts : List Part) → HaveOwn parts → (x : Part) → Among x parts → IsReady x → (v : ℤ) → value_at values x.index ≡ Some v
      → (locals : List Block) → Held parts locals → (bytes : List ℕ) (o : Option (List ℕ)) → x.names.local ≡ o → Prepared parts x v o locals bytes
  prepared parts own x among r v has locals held bytes None e =
      let iw = (width-is x.signal.length r.placed.bits).0 in
      record {
        left = locals;
        is = refl;
        held = held;
        kind = exact_type m (width_of x.signal) x.signal.signed;
        number = v;
        gives = λ b. gives-field x v locals b r held.pointers has;
        taken_is = (pattern (width_of x.signal) iw v).is;
      }
  prepared parts own x among r v has locals held bytes (Some n) e =
      let w : ℕ = width_of x.signal in
      let iw : IsWidth w = (width-is x.signal.length r.placed.bits).0 in
      let p : Pattern w v = pattern w iw v in
      let low : ℕ = low_of w v in
      let kind = exact_type m w false in
      let d : (old : Option ℤ) × (held_by n locals ≡ Some (Number kind old)) = subst (λ l. HasLocal m locals l w) e (held.local x among) in
      let left : List Block = set_local n (Number kind (Some (pos low))) locals in
      let ends = sets-local here locals (at bytes) no_place no_place n _ kind kind d.0 (pos low) (pos low) d.1
      (gives-Cast here locals (at bytes) no_place (Exact w false) (grown (field x)) (exact_type m w x.signal.signed) v (pos low) (gives-field x v locals bytes r held.pointers has) ((unsigned-at m one w iw).converts v ∙ p.is))
      (exact-fits m one w low iw p.below) in
      let there : held_by n left ≡ Some (Number kind (Some (pos low))) = held-set n (Number kind (Some (pos low))) (Number kind d.0) locals d.1 in
      record {
        left = left;
        is = sequence-first here locals (at bytes) _ [] left (at bytes) ends;
        held = record {
          pointers = record {
            buffer_is = held-other n buffer (Number kind (Some (pos low))) locals (keeps x.names.local n buffer e r.free.of_buffer) ∙ held.pointers.buffer_is;
            source_is = held-other n source (Number kind (Some (pos low))) locals (keeps x.names.local n source e r.free.of_source) ∙ held.pointers.source_is;
          };
          local = λ y ay. still-local parts own x y n d.0 (Some (pos low)) locals among ay e d.1 (held.local y ay);
        };
        kind = kind;
        number = pos low;
        gives = λ b. gives-Name here left (at b) no_place n kind (pos low) (reads-number n kind (pos low) left there);
        taken_is = unsigned-fits w low p.below;
      }

  pub puts-part : (parts : List Part) → HaveOwn parts → (x : Part) → Among x parts → IsReady x → (v : ℤ) → value_at values x.index ≡ Some v → Puts parts (part_put x) (IsBitBelow x.signal v x.signal.length)
  puts-part parts own x among r v has locals held bytes b =
      let iw = width-is x.signal.length r.placed.bits in
      let p = prepared parts own x among r v has locals held bytes x.names.local refl in
      let put = segments-put m one items objects to from size tag values scene rest p.left x v iw.0 iw.1 p.held.pointers
      (record { kind = p.kind; taken_number = p.number; gives = p.gives; is = p.taken_is }) bytes r.placed.inside r.helpers b in
      record {
        left = p.left;
        new = put.left;
        is = through-both here (local_set x.names.local (width_of x.signal) (field x)) (map (segment_put x) (segments_of x.signal)) locals p.left (at bytes) (at bytes) p.is ∙ put.is;
        held = p.held;
        adds = put.adds;
      }
