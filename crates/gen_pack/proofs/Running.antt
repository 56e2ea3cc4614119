-- The body of a pack function, run from its parameters: it refuses a short buffer, and else writes the frame.
use Rattle.std.proofs.Common.{◌≡◌, ◌≢◌, ℕ, zero, suc, ◌^◌, ◌<◌, ◌≤◌, List, [], ◌∷◌, ◌++◌, length, map, drop, replicate, Option, Some, inl, inr, refl, sym, ap, subst, ◌∙◌, arith, Ok, pos, negsuc, ℤ}
use Rattle.std.specs.Prelude.{◌↔◌, slice_get, slice_set, IsSomeAnd}
use Rattle.std.specs.List.{AllByRecursion, flat_map}
use Rattle.std.proofs.lemmas.Bool.Decides.{eqb_tells}
use Rattle.std.proofs.lemmas.List.{length-replicate}
use Rattle.std.proofs.lemmas.Option.{slice_get_within, same_Some}
use Rattle.can_model.specs.declared.database.Message.{Message}
use Rattle.can_model.specs.Active.{value_at}
use Rattle.can_model.specs.Frame.{IsFrame}
use Rattle.can_model.specs.Validity.{IsOfValidDatabase}
use Rattle.can_model.proofs.Elements.{some_and, all_at}
use Rattle.can_model.proofs.Placed.{placed, not_long}
use Rattle.name_rules.specs.declared.table.MessageNames.{MessageNames}
use Rattle.frame_codec.specs.Ones.{AddsOnes, IsBitBelow, IsSetBelow}
use Rattle.frame_codec.proofs.Putting.{framed, zero_at}
use Rattle.c_text.specs.declared.token.IntType.TheVariants as t
use Rattle.c_text.specs.declared.token.Spelled.TheVariants.{Plain}
use Rattle.c_tree.specs.declared.item.Function.{Function}
use Rattle.c_tree.specs.declared.item.Item.{Item}
use Rattle.c_tree.specs.BareStatement.{Action, actions_of, discard}
use Rattle.c_widths.specs.DataModel.{DataModel}
use Rattle.c_widths.specs.IntegerType.{size_type}
use Rattle.c_widths.specs.Conversion.{convert}
use Rattle.c_mem.specs.declared.objects.Object.{Object}
use Rattle.c_mem.specs.declared.objects.Object.TheVariants.{Bytes, Fields}
use Rattle.c_mem.specs.declared.objects.Pointer.{Pointer}
use Rattle.c_mem.specs.declared.objects.Pointer.TheVariants.{At}
use Rattle.c_mem.specs.Cells.{CellsOf, filled}
use Rattle.c_operators.specs.Value.{typed}
use Rattle.c_operators.specs.declared.value.Value.TheVariants.{Pointer as pointer}
use Rattle.c_operators.proofs.Models.{IsOneOf}
use Rattle.c_operators.proofs.Numbers.{convert-fits, fits-Int}
use Rattle.c_effect.specs.declared.state.Flow.TheVariants.{Returned}
use Rattle.c_effect.specs.declared.state.Held.TheVariants.{Integer as Number, Pointer as Address}
use Rattle.c_effect.specs.Locals.{Block, held_by, opened, closed}
use Rattle.c_effect.specs.World.{World}
use Rattle.c_effect.specs.Ending.{after, sequence}
use Rattle.c_effect.specs.StatementEffect.{effects_of}
use Rattle.c_effect.specs.FunctionCall.{run_in, unit_world}
use Rattle.c_effect.proofs.Calls.{parameters, runs-returned}
use Rattle.c_effect.proofs.Locals.{reads-number, reads-pointer}
use Rattle.c_effect.proofs.Placeless.{no_place, grown_stmt, grown_list, grown_function}
use Rattle.c_effect.proofs.Sequences.{sequence-first, sequence-last}
use Rattle.c_effect.proofs.Statements.{discards}
use Rattle.gen_pack.specs.Parts.{Part, parts_of}
use Rattle.gen_pack.specs.PackTree.{buffer, source, size, number, declared, part_put, all_put, size_asked, cleared, unread, returned, long_body, empty_body, message_body, pack_head}
use Rattle.gen_pack.specs.Named.{IsNamed}
use Rattle.gen_pack.specs.Packs.{IsSize, arguments, HaveActive, returning, with_frame, HasStruct, HasHelpersOf}
use Rattle.gen_pack.specs.Switches.{HasNoParent}
use Rattle.gen_pack.proofs.Members.{Among, all-among, all-if}
use Rattle.gen_pack.proofs.OwnLocals.{IsFree, HaveOwn, have-own, all-free}
use Rattle.gen_pack.proofs.Segments.{Scene, IsBuffer, shown}
use Rattle.gen_pack.proofs.Putting.{Held, IsReady, Puts, SomeHas, puts-each, puts-part, puts-same, through-both, HasLocalOf}
use Rattle.gen_pack.proofs.Fields.{slot-of-part}
use Rattle.gen_pack.proofs.Declarations.{AllDeclared, all-declared}
use Rattle.gen_pack.proofs.Flat.{all-put-flat, all-active, signal-at}
use Rattle.gen_pack.proofs.Frames.{IsPutBy, puts-frame}
use Rattle.gen_pack.proofs.Steps.{returns-number, refuses, lets, clears, discards-source, negative-int}

pub grown-list : (xs : List Action) → grown_list (actions_of xs) ≡ map grown_stmt xs
grown-list [] = refl
grown-list (x ∷ xs) = ap (λ l. grown_stmt x ∷ l) (grown-list xs)

map-replicate : {A B : Type 0} (f : A → B) (n : ℕ) (a : A) → map f (replicate n a) ≡ replicate n (f a)
map-replicate f zero a = refl
map-replicate f (suc n) a = ap (λ l. f a ∷ l) (map-replicate f n a)

-- a buffer is no struct
abbrev IsBytes : Object → Type 0
IsBytes (Bytes cells) = Unit {0}
IsBytes (Fields tag cells) = ⊥

other-object : (objects : List Object) (n j : ℕ) (cells : CellsOf ℕ) (tag : List ℕ) (fields : CellsOf ℤ) → slice_get objects n ≡ Some (Bytes cells) → slice_get objects j ≡ Some (Fields tag fields) → j ≢ n
other-object objects n j cells tag fields a b e =
    let c : slice_get objects n ≡ Some (Fields tag fields) = ap (slice_get objects) (sym e) ∙ b in
    subst IsBytes (same_Some (Bytes cells) (Fields tag fields) (sym a ∙ c)) tt

module _ (m : DataModel) (one : IsOneOf m) (items : List Item) (message : Message) (names : MessageNames) where
  here : World
  here = unit_world m items

  abbrev body : List Action
  body = message_body (number 22) message names

  -- the function with one place everywhere
  abbrev pub placed_function : Function
  placed_function = grown_function (pack_head names) (Some (actions_of body))

  -- ---- the parameters

  unfoldable start : Pointer → Pointer → ℕ → List Block
  start to from given = parameters m placed_function (arguments to from given)

  buffer-held : (to from : Pointer) (given : ℕ) → held_by buffer (start to from given) ≡ Some (Address to)
  unfolding start buffer source size
  buffer-held to from given = refl

  source-held : (to from : Pointer) (given : ℕ) → held_by source (start to from given) ≡ Some (Address from)
  unfolding start buffer source size
  source-held to from given = refl

  fits : (given : ℕ) → IsSize m given → convert m (size_type m) (pos given) ≡ pos given
  fits given small = convert-fits m (size_type m) given (record { below = small })

  size-held : (to from : Pointer) (given : ℕ) → IsSize m given → held_by size (start to from given) ≡ Some (Number (size_type m) (Some (pos given)))
  unfolding start buffer source size
  size-held to from given small = ap (λ z. Some (Number (size_type m) (Some z))) (fits given small)

  -- what the statements return, the function returns
  ends-with : (objects new : List Object) (to from : Pointer) (given : ℕ) (z : ℤ) (left : List Block)
      → sequence (effects_of here (map grown_stmt body)) (start to from given) objects ≡ after (Ok (Returned (Some (typed t.Int z)))) left new
      → convert m t.Int z ≡ z
      → run_in here placed_function (arguments to from given) objects ≡ returning z new
  unfolding here start
  ends-with objects new to from given z left h c =
      runs-returned (unit_world m items) placed_function (grown_list (actions_of body)) (arguments to from given) objects new refl (Plain t.Int) (typed t.Int z) left refl
      (ap (λ l. sequence (effects_of (unit_world m items) l) (parameters m placed_function (arguments to from given)) objects) (grown-list body) ∙ h)
      ∙ rw c refl

  int-fits : (n : ℕ) → n < 2 ^ 31 → convert m t.Int (pos n) ≡ pos n
  int-fits n small = convert-fits m t.Int n (fits-Int m one n 31 small (omega arith))

  long-is : 0 < message.length → body ≡ long_body (number 22) message.length (parts_of message names)
  long-is some = elim (eqb_tells message.length 0) [ inl a ↦ absurd (omega (arith, a.1)) | inr a ↦ rw a.0 refl ]

  empty-is : message.length ≡ 0 → body ≡ empty_body
  empty-is none = rw none refl

  -- ---- a message of no bytes

  pub packs-nothing : (objects : List Object) (to from : Pointer) (given : ℕ) → IsSize m given → message.length ≡ 0
      → run_in (unit_world m items) placed_function (arguments to from given) objects ≡ returning (pos 0) objects
  unfolding here empty_body
  packs-nothing objects to from given small none =
      let w : World = unit_world m items in
      let first : List Block = start to from given in
      ends-with objects objects to from given (pos 0) first
      (ap (λ b. sequence (effects_of w (map grown_stmt b)) first objects) (empty-is none)
      ∙ sequence-first w first objects (grown_stmt (discard buffer)) (map grown_stmt (discard source ∷ discard size ∷ returned (number 0) ∷ [])) first objects
      (discards w first objects no_place buffer (pointer to) (reads-pointer buffer to first (buffer-held to from given)))
      ∙ sequence-first w first objects (grown_stmt (discard source)) (map grown_stmt (discard size ∷ returned (number 0) ∷ [])) first objects
      (discards w first objects no_place source (pointer from) (reads-pointer source from first (source-held to from given)))
      ∙ sequence-first w first objects (grown_stmt (discard size)) (map grown_stmt (returned (number 0) ∷ [])) first objects
      (discards w first objects no_place size _ (reads-number size (size_type m) (pos given) first (size-held to from given small)))
      ∙ returns-number w one first objects 0 (omega arith))
      (int-fits 0 (omega arith))

  module _ (named : IsNamed message names) (valid : IsOfValidDatabase message) where
    own : HaveOwn (parts_of message names)
    own = have-own message names named.locals

    free : AllByRecursion IsFree (parts_of message names)
    free = all-free message names named.locals

    each-free : {P : Part → Type 0} → ((x : Part) → IsFree x → P x) → AllByRecursion P (parts_of message names)
    each-free {P} h = all-if P (parts_of message names) (λ x a. h x (all-among IsFree x (parts_of message names) free a))

    few : message.length ≤ 2048
    few = not_long message valid

    -- ---- to the size test

    declared-from : (objects : List Object) (to from : Pointer) (given : ℕ) → AllDeclared (unit_world m items) objects (parts_of message names) (start to from given)
    declared-from objects to from given = all-declared (unit_world m items) objects (parts_of message names) own (start to from given)

    rest_of : List Action
    rest_of = size_asked (number 22) message.length ∷ cleared message.length ∷ (all_put (parts_of message names) ++ returned (number message.length) ∷ [])

    to-test : (objects : List Object) (to from : Pointer) (given : ℕ) → 0 < message.length
        → sequence (effects_of (unit_world m items) (map grown_stmt body)) (start to from given) objects ≡ sequence (effects_of (unit_world m items) (map grown_stmt rest_of)) (declared-from objects to from given).left objects
    unfolding long_body rest_of
    to-test objects to from given some =
        let w : World = unit_world m items in
        let first : List Block = start to from given in
        let d = declared-from objects to from given in
        ap (λ b. sequence (effects_of w (map grown_stmt b)) first objects) (long-is some)
        ∙ through-both w (unread (parts_of message names)) (flat_map declared (parts_of message names) ++ rest_of) first first objects objects (discards-source w (parts_of message names) first objects from (source-held to from given))
        ∙ through-both w (flat_map declared (parts_of message names)) rest_of first d.left objects objects d.is

    size-still : (objects : List Object) (to from : Pointer) (given : ℕ) → IsSize m given → held_by size (declared-from objects to from given).left ≡ Some (Number (size_type m) (Some (pos given)))
    size-still objects to from given small =
        (declared-from objects to from given).keeps size (each-free (λ x f. IsFree.of_size f)) ∙ size-held to from given small

    pub packs-short : (objects : List Object) (to from : Pointer) (given : ℕ) → IsSize m given → given < message.length
        → run_in (unit_world m items) placed_function (arguments to from given) objects ≡ returning (negsuc 21) objects
    unfolding here rest_of
    packs-short objects to from given small lt =
        let w : World = unit_world m items in
        let d = declared-from objects to from given in
        ends-with objects objects to from given (negsuc 21) (closed (opened d.left))
        (to-test objects to from given (omega arith)
        ∙ sequence-last w d.left objects (grown_stmt (size_asked (number 22) message.length)) (map grown_stmt (cleared message.length ∷ (all_put (parts_of message names) ++ returned (number message.length) ∷ []))) (Some (typed t.Int (negsuc 21))) (closed (opened d.left)) objects
        (refuses w one d.left objects given message.length (size-still objects to from given small) (fits given small) (omega (arith, few)) lt))
        (negative-int w one)

    -- ---- the frame

    module _ (flat : AllByRecursion HasNoParent message.signals) (struct : HasStruct items message names) (helpers : AllByRecursion (HasHelpersOf items) message.signals)
        (objects : List Object) (to from given : ℕ) (cells : CellsOf ℕ) (values : CellsOf ℤ) (some : 0 < message.length) (small : IsSize m given) (le : message.length ≤ given) (room : given ≤ length cells)
        (there : slice_get objects to ≡ Some (Bytes cells)) (source_there : slice_get objects from ≡ Some (Fields names.tag values)) (active : HaveActive message values) where
      rest : CellsOf ℕ
      rest = drop message.length cells

      zero_bytes : List ℕ
      zero_bytes = replicate message.length 0

      scene : Scene objects to from message.length names.tag values
      scene = record { within = slice_get_within objects to (Bytes cells) there; struct = source_there; apart = other-object objects to from cells names.tag values there source_there; few = few }

      shows : List ℕ → List Object
      shows = shown m one items objects to from message.length names.tag values scene rest

      after_declared : List Block
      after_declared = (declared-from objects (At to) (At from) given).left

      IsReadyHere : Part → Type 0
      IsReadyHere = IsReady m one items objects to from message.length names.tag values scene rest

      ready : (x : Part) → Among x (parts_of message names) → IsReadyHere x
      unfolding IsReadyHere
      ready x a =
          let at : slice_get message.signals x.index ≡ Some x.signal = signal-at message names x a in
          record {
            placed = placed message x.index x.signal valid at;
            slot_is = slot-of-part m items message names struct named.fields.distinct x a;
            helpers = all_at (HasHelpersOf items) message.signals x.index x.signal helpers at;
            free = all-among IsFree x (parts_of message names) free a;
          }

      PutsHere : List Action → (ℕ → Type 0) → Type 0
      PutsHere = Puts m one items objects to from message.length names.tag values scene rest (parts_of message names)

      held : Held m one items objects to from message.length names.tag values scene rest (parts_of message names) after_declared
      unfolding after_declared
      held =
          let d = declared-from objects (At to) (At from) given in
          record {
            pointers = record {
              buffer_is = d.keeps buffer (each-free (λ x f. IsFree.of_buffer f)) ∙ buffer-held (At to) (At from) given;
              source_is = d.keeps source (each-free (λ x f. IsFree.of_source f)) ∙ source-held (At to) (At from) given;
            };
            local = λ x a. all-among (HasLocalOf m d.left) x (parts_of message names) d.has a;
          }

      by-value : (x : Part) (v : ℤ) (o : Option ℤ) (p : ℕ) → o ≡ Some v → IsBitBelow x.signal v x.signal.length p ↔ IsSomeAnd o (λ w. IsBitBelow x.signal w x.signal.length p)
      by-value x v o p e = subst (λ o. IsBitBelow x.signal v x.signal.length p ↔ IsSomeAnd o (λ w. IsBitBelow x.signal w x.signal.length p)) (sym e) (λ h. h, λ h. h)

      puts-one : (x : Part) → Among x (parts_of message names) → PutsHere (part_put x) (IsPutBy values x)
      unfolding PutsHere IsReadyHere
      puts-one x a =
          let at : slice_get message.signals x.index ≡ Some x.signal = signal-at message names x a in
          let has : (v : ℤ) × (value_at values x.index ≡ Some v) × Unit {0} = some_and (λ v. Unit {0}) (value_at values x.index) (active x.index (all-active message values x.index x.signal flat at)) in
          puts-same m one items objects to from message.length names.tag values scene rest (parts_of message names) (part_put x) (IsBitBelow x.signal has.0 x.signal.length) (IsPutBy values x)
          (puts-part m one items objects to from message.length names.tag values scene rest (parts_of message names) own x a (ready x a) has.0 has.1)
          (λ p. by-value x has.0 (value_at values x.index) p has.1)

      puts-all : PutsHere (all_put (parts_of message names)) (IsSetBelow message values (length message.signals))
      unfolding PutsHere
      puts-all =
          subst (λ xs. PutsHere xs (IsSetBelow message values (length message.signals))) (sym (all-put-flat message.signals names.signals flat))
          (puts-same m one items objects to from message.length names.tag values scene rest (parts_of message names) (flat_map part_put (parts_of message names)) (SomeHas (parts_of message names) (IsPutBy values)) (IsSetBelow message values (length message.signals))
          (puts-each m one items objects to from message.length names.tag values scene rest (parts_of message names) part_put (IsPutBy values) (parts_of message names) puts-one)
          (puts-frame message names values flat named.signals))

      zeros : IsBuffer message.length zero_bytes
      unfolding zero_bytes
      zeros = record { length_is = length-replicate message.length 0; are = λ i. subst (λ b. b < 256) (sym (zero_at message.length i)) (omega arith) }

      cleared-shows : slice_set objects to (Bytes (filled cells 0 message.length)) ≡ shows zero_bytes
      unfolding shows zero_bytes rest
      cleared-shows = ap (λ r. slice_set objects to (Bytes (r ++ drop message.length cells))) (sym (map-replicate Some message.length 0))

      shows-frame : (bytes : List ℕ) → length bytes ≡ message.length → shows bytes ≡ with_frame objects to bytes cells
      unfolding shows rest
      shows-frame bytes e = ap (λ n. slice_set objects to (Bytes (map Some bytes ++ drop n cells))) (sym e)

      last : List Action
      last = returned (number message.length) ∷ []

      putting : List Action
      putting = all_put (parts_of message names) ++ last

      test-here : sequence (effects_of (unit_world m items) (map grown_stmt body)) (start (At to) (At from) given) objects
          ≡ sequence (effects_of (unit_world m items) (map grown_stmt (size_asked (number 22) message.length ∷ cleared message.length ∷ putting))) after_declared objects
      unfolding rest_of after_declared putting last
      test-here = to-test objects (At to) (At from) given some

      size-here : held_by size after_declared ≡ Some (Number (size_type m) (Some (pos given)))
      unfolding after_declared
      size-here = size-still objects (At to) (At from) given small

      framed-here : (bytes : List ℕ) → AddsOnes zero_bytes bytes (IsSetBelow message values (length message.signals)) → IsFrame message values bytes
      unfolding zero_bytes
      framed-here bytes adds = framed message values message.length bytes refl adds

      cleared-here : sequence (effects_of (unit_world m items) (map grown_stmt (size_asked (number 22) message.length ∷ cleared message.length ∷ putting))) after_declared objects
          ≡ sequence (effects_of (unit_world m items) (map grown_stmt putting)) after_declared (shows zero_bytes)
      cleared-here =
          let w : World = unit_world m items in
          let n : ℕ = message.length in
          sequence-first w after_declared objects (grown_stmt (size_asked (number 22) n)) (map grown_stmt (cleared n ∷ putting)) after_declared objects
          (lets w one after_declared objects given n size-here (fits given small) (omega (arith, few)) le)
          ∙ sequence-first w after_declared objects (grown_stmt (cleared n)) (map grown_stmt putting) after_declared (slice_set objects to (Bytes (filled cells 0 n)))
          (clears w one after_declared objects to n cells (omega (arith, few)) held.pointers.buffer_is there (omega (arith, le, room)))
          ∙ ap (λ o. sequence (effects_of w (map grown_stmt putting)) after_declared o) cleared-shows

      pub packs-frame : (bytes : List ℕ) × IsFrame message values bytes
          × (run_in (unit_world m items) placed_function (arguments (At to) (At from) given) objects ≡ returning (pos message.length) (with_frame objects to bytes cells))
      unfolding here PutsHere putting last shows
      packs-frame =
          let w : World = unit_world m items in
          let n : ℕ = message.length in
          let all = puts-all after_declared held zero_bytes zeros in
          let is_long : length all.new ≡ n = all.adds.size ∙ zeros.length_is in (
            all.new,
            framed-here all.new all.adds,
            ends-with objects (with_frame objects to all.new cells) (At to) (At from) given (pos n) all.left
                (test-here
                ∙ cleared-here
                ∙ through-both w (all_put (parts_of message names)) (returned (number n) ∷ []) after_declared all.left (shows zero_bytes) (shows all.new) all.is
                ∙ ap (λ o. sequence (effects_of w (map grown_stmt (returned (number n) ∷ []))) all.left o) (shows-frame all.new is_long)
                ∙ returns-number w one all.left (with_frame objects to all.new cells) n (omega (arith, few)))
                (int-fits n (omega (arith, few))),
          )
