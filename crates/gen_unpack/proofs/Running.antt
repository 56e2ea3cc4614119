-- The body of an unpack function, run from its parameters: it refuses a short buffer, and else leaves the raw values in the struct.
use Rattle.std.proofs.Common.{◌≡◌, ◌≢◌, ℕ, zero, suc, ◌<◌, ◌≤◌, List, [], ◌∷◌, ◌++◌, length, map, Option, Some, inl, inr, refl, sym, ap, subst, ◌∙◌, arith, Ok, pos, negsuc, ℤ}
use Rattle.std.specs.Prelude.{slice_get, slice_set}
use Rattle.std.specs.List.{AllByRecursion, flat_map}
use Rattle.std.proofs.lemmas.Bool.Decides.{eqb_tells}
use Rattle.std.proofs.lemmas.Option.{slice_get_within, same_Some}
use Rattle.can_model.specs.declared.database.Message.{Message}
use Rattle.can_model.specs.Frame.{AreRawValues}
use Rattle.can_model.specs.Validity.{IsOfValidDatabase}
use Rattle.can_model.proofs.Elements.{all_at}
use Rattle.can_model.proofs.Placed.{placed, not_long}
use Rattle.name_rules.specs.declared.table.MessageNames.{MessageNames}
use Rattle.name_rules.specs.Symbols.{HasNamesOfSignal}
use Rattle.c_text.specs.declared.token.IntType.TheVariants as t
use Rattle.c_text.specs.declared.token.Spelled.TheVariants.{Plain}
use Rattle.c_tree.specs.declared.item.Function.{Function}
use Rattle.c_tree.specs.declared.item.Item.{Item}
use Rattle.c_tree.specs.BareStatement.{Action, actions_of, discard}
use Rattle.c_widths.specs.DataModel.{DataModel}
use Rattle.c_widths.specs.IntegerType.{size_type}
use Rattle.c_widths.specs.Conversion.{convert}
use Rattle.c_mem.specs.declared.objects.Object.{Object}
use Rattle.c_mem.specs.declared.objects.Object.TheVariants.{Bytes, Fields}
use Rattle.c_mem.specs.declared.objects.Pointer.{Pointer}
use Rattle.c_mem.specs.declared.objects.Pointer.TheVariants.{At}
use Rattle.c_mem.specs.Cells.{CellsOf}
use Rattle.c_operators.specs.Value.{typed}
use Rattle.c_operators.specs.declared.value.Value.TheVariants.{Pointer as pointer}
use Rattle.c_operators.proofs.Models.{IsOneOf}
use Rattle.c_operators.proofs.Numbers.{convert-fits, fits-Int}
use Rattle.c_effect.specs.declared.state.Flow.TheVariants.{Returned}
use Rattle.c_effect.specs.declared.state.Held.TheVariants.{Integer as Number, Pointer as Address}
use Rattle.c_effect.specs.Locals.{Block, held_by, opened, closed}
use Rattle.c_effect.specs.World.{World}
use Rattle.c_effect.specs.Ending.{after, sequence}
use Rattle.c_effect.specs.StatementEffect.{effects_of}
use Rattle.c_effect.specs.FunctionCall.{run_in, unit_world}
use Rattle.c_effect.proofs.Calls.{parameters, runs-returned}
use Rattle.c_effect.proofs.Locals.{reads-number, reads-pointer}
use Rattle.c_effect.proofs.Placeless.{no_place, grown_stmt, grown_list, grown_function}
use Rattle.c_effect.proofs.Sequences.{sequence-first, sequence-last}
use Rattle.c_effect.proofs.Statements.{discards}
use Rattle.gen_pack.specs.Parts.{Part, parts_of}
use Rattle.gen_pack.specs.PackTree.{buffer, source, size, number, declared, size_asked, returned, empty_body}
use Rattle.gen_pack.specs.Named.{IsNamed}
use Rattle.gen_pack.specs.Packs.{IsSize, arguments, returning, HasStruct}
use Rattle.gen_pack.specs.Switches.{HasNoParent}
use Rattle.gen_pack.proofs.Members.{Among, all-among, all-if}
use Rattle.gen_pack.proofs.OwnLocals.{IsFree, HaveOwn, have-own, all-free}
use Rattle.gen_pack.proofs.Putting.{through-both, HasLocalOf}
use Rattle.gen_pack.proofs.Fields.{slot-of-part}
use Rattle.gen_pack.proofs.Flat.{signal-at}
use Rattle.gen_pack.proofs.Running.{grown-list}
use Rattle.gen_unpack.specs.UnpackTree.{part_got, all_got, unused, long_body, message_body, unpack_head}
use Rattle.gen_unpack.specs.Unpacks.{AreBytesOf, HasHelpersOf, with_values}
use Rattle.gen_unpack.proofs.OneLevel.{all-got-flat}
use Rattle.gen_unpack.proofs.Declarations.{AllDeclared, all-declared}
use Rattle.gen_unpack.proofs.Joining.{Scene}
use Rattle.gen_unpack.proofs.Reading.{Held, IsReady, Got, gets-all, all_set}
use Rattle.gen_unpack.proofs.RawFields.{raw_of, all-raw, all-set-raw, named-part}
use Rattle.gen_unpack.proofs.Steps.{returns-number, refuses, lets, discards-both, negative-int}

-- a struct is no buffer
abbrev IsStruct : Object → Type 0
IsStruct (Bytes cells) = ⊥
IsStruct (Fields tag cells) = Unit {0}

other-object : (objects : List Object) (n j : ℕ) (cells : CellsOf ℕ) (tag : List ℕ) (fields : CellsOf ℤ) → slice_get objects n ≡ Some (Fields tag fields) → slice_get objects j ≡ Some (Bytes cells) → j ≢ n
other-object objects n j cells tag fields a b e =
    let c : slice_get objects n ≡ Some (Bytes cells) = ap (slice_get objects) (sym e) ∙ b in
    subst IsStruct (same_Some (Fields tag fields) (Bytes cells) (sym a ∙ c)) tt

-- what is put where it is already changes nothing
set-same : {A : Type 0} (xs : List A) (i : ℕ) (x : A) → slice_get xs i ≡ Some x → slice_set xs i x ≡ xs
set-same [] i x h = absurd (cc)
set-same (y ∷ ys) zero x h = let e : x ≡ y = cc in ap (λ z. z ∷ ys) e
set-same (y ∷ ys) (suc i) x h = ap (λ r. y ∷ r) (set-same ys i x h)

module _ (m : DataModel) (one : IsOneOf m) (items : List Item) (message : Message) (names : MessageNames) where
  here : World
  here = unit_world m items

  abbrev body : List Action
  body = message_body (number 22) message names

  -- the function with one place everywhere
  abbrev pub placed_function : Function
  placed_function = grown_function (unpack_head names) (Some (actions_of body))

  -- ---- the parameters

  unfoldable start : Pointer → Pointer → ℕ → List Block
  start to from given = parameters m placed_function (arguments to from given)

  buffer-held : (to from : Pointer) (given : ℕ) → held_by buffer (start to from given) ≡ Some (Address to)
  unfolding start buffer source size
  buffer-held to from given = refl

  source-held : (to from : Pointer) (given : ℕ) → held_by source (start to from given) ≡ Some (Address from)
  unfolding start buffer source size
  source-held to from given = refl

  fits : (given : ℕ) → IsSize m given → convert m (size_type m) (pos given) ≡ pos given
  fits given small = convert-fits m (size_type m) given (record { below = small })

  size-held : (to from : Pointer) (given : ℕ) → IsSize m given → held_by size (start to from given) ≡ Some (Number (size_type m) (Some (pos given)))
  unfolding start buffer source size
  size-held to from given small = ap (λ z. Some (Number (size_type m) (Some z))) (fits given small)

  -- what the statements return, the function returns
  ends-with : (objects new : List Object) (to from : Pointer) (given : ℕ) (z : ℤ) (left : List Block)
      → sequence (effects_of here (map grown_stmt body)) (start to from given) objects ≡ after (Ok (Returned (Some (typed t.Int z)))) left new
      → convert m t.Int z ≡ z
      → run_in here placed_function (arguments to from given) objects ≡ returning z new
  unfolding here start
  ends-with objects new to from given z left h c =
      runs-returned (unit_world m items) placed_function (grown_list (actions_of body)) (arguments to from given) objects new refl (Plain t.Int) (typed t.Int z) left refl
      (ap (λ l. sequence (effects_of (unit_world m items) l) (parameters m placed_function (arguments to from given)) objects) (grown-list body) ∙ h)
      ∙ rw c refl

  zero-int : convert m t.Int (pos 0) ≡ pos 0
  zero-int = convert-fits m t.Int 0 (fits-Int m one 0 31 (omega arith) (omega arith))

  long-is : 0 < message.length → body ≡ long_body (number 22) message.length (parts_of message names)
  long-is some = elim (eqb_tells message.length 0) [ inl a ↦ absurd (omega (arith, a.1)) | inr a ↦ rw a.0 refl ]

  empty-is : message.length ≡ 0 → body ≡ empty_body
  empty-is none = rw none refl

  -- ---- a message of no bytes

  pub unpacks-nothing : (objects : List Object) (to from : Pointer) (given : ℕ) → IsSize m given → message.length ≡ 0
      → run_in (unit_world m items) placed_function (arguments to from given) objects ≡ returning (pos 0) objects
  unfolding here empty_body
  unpacks-nothing objects to from given small none =
      let w : World = unit_world m items in
      let first : List Block = start to from given in
      ends-with objects objects to from given (pos 0) first
      (ap (λ b. sequence (effects_of w (map grown_stmt b)) first objects) (empty-is none)
      ∙ sequence-first w first objects (grown_stmt (discard buffer)) (map grown_stmt (discard source ∷ discard size ∷ returned (number 0) ∷ [])) first objects
      (discards w first objects no_place buffer (pointer to) (reads-pointer buffer to first (buffer-held to from given)))
      ∙ sequence-first w first objects (grown_stmt (discard source)) (map grown_stmt (discard size ∷ returned (number 0) ∷ [])) first objects
      (discards w first objects no_place source (pointer from) (reads-pointer source from first (source-held to from given)))
      ∙ sequence-first w first objects (grown_stmt (discard size)) (map grown_stmt (returned (number 0) ∷ [])) first objects
      (discards w first objects no_place size _ (reads-number size (size_type m) (pos given) first (size-held to from given small)))
      ∙ returns-number w one first objects 0 (omega arith))
      zero-int

  module _ (named : IsNamed message names) (valid : IsOfValidDatabase message) where
    own : HaveOwn (parts_of message names)
    own = have-own message names named.locals

    free : AllByRecursion IsFree (parts_of message names)
    free = all-free message names named.locals

    each-free : {P : Part → Type 0} → ((x : Part) → IsFree x → P x) → AllByRecursion P (parts_of message names)
    each-free {P} h = all-if P (parts_of message names) (λ x a. h x (all-among IsFree x (parts_of message names) free a))

    few : message.length ≤ 2048
    few = not_long message valid

    -- ---- to the size test

    declared-from : (objects : List Object) (to from : Pointer) (given : ℕ) → AllDeclared (unit_world m items) objects (parts_of message names) (start to from given)
    declared-from objects to from given = all-declared (unit_world m items) objects (parts_of message names) own (start to from given)

    rest_of : List Action
    rest_of = size_asked (number 22) message.length ∷ (all_got (parts_of message names) ++ returned (number 0) ∷ [])

    to-test : (objects : List Object) (to from : Pointer) (given : ℕ) → 0 < message.length
        → sequence (effects_of (unit_world m items) (map grown_stmt body)) (start to from given) objects ≡ sequence (effects_of (unit_world m items) (map grown_stmt rest_of)) (declared-from objects to from given).left objects
    unfolding long_body rest_of
    to-test objects to from given some =
        let w : World = unit_world m items in
        let first : List Block = start to from given in
        let d = declared-from objects to from given in
        ap (λ b. sequence (effects_of w (map grown_stmt b)) first objects) (long-is some)
        ∙ through-both w (unused (parts_of message names)) (flat_map declared (parts_of message names) ++ rest_of) first first objects objects
        (discards-both w (parts_of message names) first objects to from (buffer-held to from given) (source-held to from given))
        ∙ through-both w (flat_map declared (parts_of message names)) rest_of first d.left objects objects d.is

    size-still : (objects : List Object) (to from : Pointer) (given : ℕ) → IsSize m given → held_by size (declared-from objects to from given).left ≡ Some (Number (size_type m) (Some (pos given)))
    size-still objects to from given small =
        (declared-from objects to from given).keeps size (each-free (λ x f. IsFree.of_size f)) ∙ size-held to from given small

    pub unpacks-short : (objects : List Object) (to from : Pointer) (given : ℕ) → IsSize m given → given < message.length
        → run_in (unit_world m items) placed_function (arguments to from given) objects ≡ returning (negsuc 21) objects
    unfolding here rest_of
    unpacks-short objects to from given small lt =
        let w : World = unit_world m items in
        let d = declared-from objects to from given in
        ends-with objects objects to from given (negsuc 21) (closed (opened d.left))
        (to-test objects to from given (omega arith)
        ∙ sequence-last w d.left objects (grown_stmt (size_asked (number 22) message.length)) (map grown_stmt (all_got (parts_of message names) ++ returned (number 0) ∷ [])) (Some (typed t.Int (negsuc 21))) (closed (opened d.left)) objects
        (refuses w one d.left objects given message.length (size-still objects to from given small) (fits given small) (omega (arith, few)) lt))
        (negative-int w one)

    -- ---- the raw values

    module _ (flat : AllByRecursion HasNoParent message.signals) (struct : HasStruct items message names) (helpers : AllByRecursion (HasHelpersOf items) message.signals)
        (objects : List Object) (to from given : ℕ) (fields : CellsOf ℤ) (bytes : List ℕ) (rest : CellsOf ℕ) (some : 0 < message.length) (small : IsSize m given) (le : message.length ≤ given)
        (there : slice_get objects to ≡ Some (Fields names.tag fields)) (room : length message.signals ≤ length fields) (source_there : slice_get objects from ≡ Some (Bytes (map Some bytes ++ rest))) (frame : AreBytesOf message.length bytes) where
      scene : Scene objects to from message.length bytes rest
      scene = record {
        within = slice_get_within objects to (Fields names.tag fields) there;
        buffer_is = source_there;
        apart = other-object objects to from (map Some bytes ++ rest) names.tag fields there source_there;
        few = few;
        frame = frame;
      }

      after_declared : List Block
      after_declared = (declared-from objects (At to) (At from) given).left

      ready : (x : Part) → Among x (parts_of message names) → IsReady m one items objects to from message.length names.tag bytes rest scene x
      ready x a =
          let at : slice_get message.signals x.index ≡ Some x.signal = signal-at message names x a in
          record {
            placed = placed message x.index x.signal valid at;
            slot_is = slot-of-part m items message names struct named.fields.distinct x a;
            helpers = all_at (HasHelpersOf items) message.signals x.index x.signal helpers at;
            free = all-among IsFree x (parts_of message names) free a;
            named = HasNamesOfSignal.local (named-part 0 message.signals names.signals x named.signals a);
          }

      held : Held m one items objects to from message.length names.tag bytes rest scene (parts_of message names) after_declared
      unfolding after_declared
      held =
          let d = declared-from objects (At to) (At from) given in
          record {
            pointers = record {
              struct_is = d.keeps buffer (each-free (λ x f. IsFree.of_buffer f)) ∙ buffer-held (At to) (At from) given;
              bytes_is = d.keeps source (each-free (λ x f. IsFree.of_source f)) ∙ source-held (At to) (At from) given;
            };
            local = λ x a. all-among (HasLocalOf m d.left) x (parts_of message names) d.has a;
          }

      all-got : Got m one items objects to from message.length names.tag bytes rest scene (parts_of message names) (flat_map part_got (parts_of message names)) after_declared fields (all_set bytes (parts_of message names) fields)
      all-got = gets-all m one items objects to from message.length names.tag bytes rest scene (parts_of message names) own (length message.signals) (parts_of message names)
          (λ x a. (a, (ready x a, slice_get_within message.signals x.index x.signal (signal-at message names x a)))) after_declared held fields room

      last : List Action
      last = returned (number 0) ∷ []

      getting : List Action
      getting = all_got (parts_of message names) ++ last

      -- the struct is there as it was
      unchanged : slice_set objects to (Fields names.tag fields) ≡ objects
      unchanged = set-same objects to (Fields names.tag fields) there

      test-here : sequence (effects_of (unit_world m items) (map grown_stmt body)) (start (At to) (At from) given) objects
          ≡ sequence (effects_of (unit_world m items) (map grown_stmt (size_asked (number 22) message.length ∷ getting))) after_declared objects
      unfolding rest_of after_declared getting last
      test-here = to-test objects (At to) (At from) given some

      size-here : held_by size after_declared ≡ Some (Number (size_type m) (Some (pos given)))
      unfolding after_declared
      size-here = size-still objects (At to) (At from) given small

      passed-here : sequence (effects_of (unit_world m items) (map grown_stmt (size_asked (number 22) message.length ∷ getting))) after_declared objects
          ≡ sequence (effects_of (unit_world m items) (map grown_stmt getting)) after_declared objects
      passed-here =
          let w : World = unit_world m items in
          sequence-first w after_declared objects (grown_stmt (size_asked (number 22) message.length)) (map grown_stmt getting) after_declared objects
          (lets w one after_declared objects given message.length size-here (fits given small) (omega (arith, few)) le)

      got-here : sequence (effects_of (unit_world m items) (map grown_stmt getting)) after_declared objects
          ≡ sequence (effects_of (unit_world m items) (map grown_stmt last)) all-got.left (with_values objects to names.tag (raw_of bytes message.signals) fields)
      unfolding getting
      got-here =
          let w : World = unit_world m items in
          ap (λ xs. sequence (effects_of w (map grown_stmt (xs ++ last))) after_declared objects) (all-got-flat message.signals names.signals flat)
          ∙ ap (λ o. sequence (effects_of w (map grown_stmt (flat_map part_got (parts_of message names) ++ last))) after_declared o) (sym unchanged)
          ∙ through-both w (flat_map part_got (parts_of message names)) last after_declared all-got.left (slice_set objects to (Fields names.tag fields)) (slice_set objects to (Fields names.tag (all_set bytes (parts_of message names) fields))) all-got.is
          ∙ ap (λ r. sequence (effects_of w (map grown_stmt last)) all-got.left (slice_set objects to (Fields names.tag r))) (all-set-raw bytes message.signals names.signals fields named.signals room)

      pub unpacks-whole : (raw : List (Option ℤ)) × AreRawValues message bytes raw
          × (run_in (unit_world m items) placed_function (arguments (At to) (At from) given) objects ≡ returning (pos 0) (with_values objects to names.tag raw fields))
      unfolding here last
      unpacks-whole =
          let w : World = unit_world m items in
          let raw : List (Option ℤ) = raw_of bytes message.signals in
          let new : List Object = with_values objects to names.tag raw fields in (
            raw,
            all-raw bytes message flat,
            ends-with objects new (At to) (At from) given (pos 0) all-got.left
                (test-here ∙ passed-here ∙ got-here ∙ returns-number w one all-got.left new 0 (omega arith))
                zero-int,
          )
