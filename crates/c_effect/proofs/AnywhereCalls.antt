-- What a call gives does not hang on places, but for the place of a stop: functions and units that are equal but for places do the same.
use Rattle.std.proofs.Common.{◌≡◌, ℕ, Bool, true, false, List, [], ◌∷◌, ◌++◌, map, Option, Some, None, refl, sym, ap, subst, ◌∙◌, Result, Ok, Err}
use Rattle.std.specs.Prelude.{if◌then◌else◌, bytes_eq, slice_get}
use Rattle.std.specs.List.{position, position_or_len}
use Rattle.std.specs.Option.{option_map, option_and_then}
use Rattle.std.proofs.lemmas.List.{length-map}
use Rattle.std.proofs.lemmas.Option.{slice_get-map}
use Rattle.c_text.specs.declared.place.Place.{Place}
use Rattle.c_text.specs.declared.token.IntType.{IntType}
use Rattle.c_tree.specs.declared.item.Field.{Field}
use Rattle.c_tree.specs.declared.item.Function.{Function}
use Rattle.c_tree.specs.declared.item.Item.{Item}
use Rattle.c_tree.specs.declared.item.Item.TheVariants as item
use Rattle.c_tree.specs.declared.item.Unit.{Unit as Whole}
use Rattle.c_tree.specs.declared.statement.Stmt.{Stmt}
use Rattle.c_tree.specs.BareUnit as u
use Rattle.c_tree.specs.BareUnit.{BareItem, bare_item, bare_unit}
use Rattle.c_mem.specs.declared.objects.Object.{Object}
use Rattle.c_widths.specs.DataModel.{DataModel}
use Rattle.c_operators.specs.declared.value.TypedValue.{TypedValue}
use Rattle.cg_out.specs.Words.{look_up}
use Rattle.c_types.specs.ExpressionTypes.{integer_type}
use Rattle.c_types.specs.Setting.{structs, definition, definitions}
use Rattle.c_types.specs.FieldNamed.{numbered, field_named}
use Rattle.c_effect.specs.declared.state.Arg.{Arg}
use Rattle.c_effect.specs.declared.state.Flow.{Flow}
use Rattle.c_effect.specs.declared.state.Stop.{Stop}
use Rattle.c_effect.specs.Locals.{Block}
use Rattle.c_effect.specs.World.{World, Calls, world, no_calls}
use Rattle.c_effect.specs.Loading.{slot_of, slot_named}
use Rattle.c_effect.specs.Ending.{sequence}
use Rattle.c_effect.specs.StatementEffect.{effects_of}
use Rattle.c_effect.specs.FunctionCall.{with_params, value_in, given_in, given, Ended, ended, body_of, run_in, number_arg, called_in, unit_calls, unit_world, call}
use Rattle.c_effect.proofs.Placeless.{no_place, grown_body, grown_field, grown_item, placeless_field, placeless_function, placeless_items}
use Rattle.c_effect.proofs.Anywhere.{Agree, agree-back, agree-through, SameWorld}
use Rattle.c_effect.proofs.AnywhereStatements.{SameEffect, sequence-agree, sequence-anywhere}

-- ---- fields of structs

pub regrown : (fs : List Field) → map grown_field (map u.bare_field fs) ≡ map placeless_field fs
regrown [] = refl
regrown (f ∷ fs) = ap (λ rest. placeless_field f ∷ rest) (regrown fs)

place-of : (name : List ℕ) (fs : List Field) → position_or_len (λ (f : Field). bytes_eq name f.name) (map placeless_field fs) ≡ position_or_len (λ (f : Field). bytes_eq name f.name) fs
place-of name [] = refl
place-of name (f ∷ fs) = rw (place-of name fs) refl

position-of : (name : List ℕ) (fs : List Field) → position (λ (f : Field). bytes_eq name f.name) (map placeless_field fs) ≡ position (λ (f : Field). bytes_eq name f.name) fs
position-of name fs = rw (place-of name fs, length-map fs placeless_field) refl

slot-found : (m : DataModel) (n : ℕ) (found : Option Field) → slot_of m (option_map (λ f. (n, f)) (option_map placeless_field found)) ≡ slot_of m (option_map (λ f. (n, f)) found)
slot-found m n None = refl
slot-found m n (Some f) = refl

slot-numbered : (m : DataModel) (fs : List Field) (n : Option ℕ) → slot_of m (option_and_then (numbered (map placeless_field fs)) n) ≡ slot_of m (option_and_then (numbered fs) n)
slot-numbered m fs None = refl
slot-numbered m fs (Some n) = rw (slice_get-map placeless_field fs n) (slot-found m n (slice_get fs n))

slot-of-fields : (m : DataModel) (name : List ℕ) (fs : List Field) → slot_of m (field_named name (map placeless_field fs)) ≡ slot_of m (field_named name fs)
slot-of-fields m name fs = rw (position-of name fs) (slot-numbered m fs (position (λ (f : Field). bytes_eq name f.name) fs))

either-fields : (b : Bool) (fs : List Field) (found rest : Option (List Field)) → found ≡ option_map (map placeless_field) rest
    → (if b then Some (map placeless_field fs) else found) ≡ option_map (map placeless_field) (if b then Some fs else rest)
either-fields true fs found rest h = refl
either-fields false fs found rest h = h

pub structs-placeless : (tag : List ℕ) (items : List Item) → look_up tag (structs (placeless_items items)) ≡ option_map (map placeless_field) (look_up tag (structs items))
structs-placeless tag [] = refl
structs-placeless tag (item.Struct s ∷ rest) = rw (regrown s.fields) (either-fields (bytes_eq s.tag tag) s.fields _ _ (structs-placeless tag rest))
structs-placeless tag (item.Function f ∷ rest) = structs-placeless tag rest

slot-of-struct : (m : DataModel) (name : List ℕ) (found : Option (List Field)) → slot_of m (option_and_then (field_named name) (option_map (map placeless_field) found)) ≡ slot_of m (option_and_then (field_named name) found)
slot-of-struct m name None = refl
slot-of-struct m name (Some fs) = slot-of-fields m name fs

slots-placeless : (m : DataModel) (items : List Item) (calls others : Calls) (tag name : List ℕ) → slot_named (world m (structs (placeless_items items)) others) tag name ≡ slot_named (world m (structs items) calls) tag name
unfolding slot_named
slots-placeless m items calls others tag name = rw (structs-placeless tag items) (slot-of-struct m name (look_up tag (structs items)))

-- ---- functions by name

pub either-function : (b : Bool) (f : Function) (found rest : Option Function) → found ≡ option_map placeless_function rest
    → (if b then Some (placeless_function f) else found) ≡ option_map placeless_function (if b then Some f else rest)
either-function true f found rest h = refl
either-function false f found rest h = h

by-body : (name : List ℕ) (body : Option (List Stmt)) (f : Function) (found rest : List (List ℕ × Function)) → look_up name found ≡ option_map placeless_function (look_up name rest)
    → look_up name (definition (grown_body (u.bare_body body)) (placeless_function f) ++ found) ≡ option_map placeless_function (look_up name (definition body f ++ rest))
by-body name None f found rest h = h
by-body name (Some body) f found rest h = either-function (bytes_eq f.name name) f (look_up name found) (look_up name rest) h

pub definitions-placeless : (name : List ℕ) (items : List Item) → look_up name (definitions (placeless_items items)) ≡ option_map placeless_function (look_up name (definitions items))
definitions-placeless name [] = refl
definitions-placeless name (item.Struct s ∷ rest) = definitions-placeless name rest
definitions-placeless name (item.Function f ∷ rest) = by-body name f.body f (definitions (placeless_items rest)) (definitions rest) (definitions-placeless name rest)

params-placeless : (m : DataModel) (fs : List Field) (args : List Arg) (block : Block) → with_params m (map placeless_field fs) args block ≡ with_params m fs args block
params-placeless m [] args block = refl
params-placeless m (f ∷ fs) [] block = refl
params-placeless m (f ∷ fs) (x ∷ args) block = params-placeless m fs args _

-- ---- runs

pub record AgreeEnded (a b : Ended) : Type 0 where
  pub gives_agree : Agree a.gives b.gives
  pub objects_same : b.objects ≡ a.objects

ended-back : (a b : Ended) → AgreeEnded a b → AgreeEnded b a
ended-back a b h = record { gives_agree = agree-back a.gives b.gives h.gives_agree; objects_same = sym h.objects_same }

ended-through : (a b c : Ended) → AgreeEnded a b → AgreeEnded b c → AgreeEnded a c
ended-through a b c h g = record { gives_agree = agree-through a.gives b.gives c.gives h.gives_agree g.gives_agree; objects_same = g.objects_same ∙ h.objects_same }

close-agree : (m : DataModel) (kind : Option IntType) (p q : Place) (value : Option TypedValue) → Agree (given_in m kind p value) (given_in m kind q value)
close-agree m None p q value = refl
close-agree m (Some kind) p q (Some value) = refl
close-agree m (Some kind) p q None = refl

given-agree : (m : DataModel) (f : Function) (r s : Result Flow Stop) → Agree r s → Agree (given m f r) (given m (placeless_function f) s)
given-agree m f (Ok flow) (Ok other) h = subst (λ z. Agree (given m f (Ok flow)) (given m (placeless_function f) (Ok z))) h (close-agree m (integer_type m f.returns) f.close no_place (value_in flow))
given-agree m f (Ok flow) (Err t) h = absurd h
given-agree m f (Err t) (Ok flow) h = absurd h
given-agree m f (Err t) (Err v) h = h

body-anywhere : (w x : World) → SameWorld w x → (body : Option (List Stmt)) → SameEffect (sequence (effects_of w (body_of body))) (sequence (effects_of x (body_of (grown_body (u.bare_body body)))))
body-anywhere w x h None = sequence-agree [] [] tt
body-anywhere w x h (Some xs) = sequence-anywhere w x h xs

module _ (m : DataModel) (table others : List (List ℕ × List Field)) (calls other_calls : Calls) (h : SameWorld (world m table calls) (world m others other_calls)) where
  run-placeless : (f : Function) (args : List Arg) (objects : List Object)
      → AgreeEnded (run_in (world m table calls) f args objects) (run_in (world m others other_calls) (placeless_function f) args objects)
  unfolding run_in
  run-placeless f args objects =
      let same = SameEffect.same (body-anywhere (world m table calls) (world m others other_calls) h f.body) (with_params m f.params args [] ∷ []) objects in
      rw (regrown f.params, params-placeless m f.params args []) (record { gives_agree = given-agree m f _ _ same.flow_agree; objects_same = same.objects_same })

-- ---- worlds that are the same

-- a world, with itself
self : (w x : World) → SameWorld w x → SameWorld x x
self w x h = record {
  model_is = refl;
  slots = λ tag name. refl;
  calls_agree = λ p q name args. agree-through (x.calls p name args) (w.calls p name args) (x.calls q name args) (agree-back (w.calls p name args) (x.calls p name args) (h.calls_agree p p name args)) (h.calls_agree p q name args);
}

meeting : (w x y : World) → SameWorld w y → SameWorld x y → SameWorld w x
meeting w x y h g = record {
  model_is = sym g.model_is ∙ h.model_is;
  slots = λ tag name. sym (g.slots tag name) ∙ h.slots tag name;
  calls_agree = λ p q name args. agree-through (w.calls p name args) (y.calls p name args) (x.calls q name args) (h.calls_agree p p name args) (agree-back (x.calls q name args) (y.calls p name args) (g.calls_agree q p name args));
}

alone-placeless : (m : DataModel) (items : List Item) → SameWorld (world m (structs items) no_calls) (world m (structs (placeless_items items)) no_calls)
alone-placeless m items = record { model_is = refl; slots = slots-placeless m items no_calls no_calls; calls_agree = λ p q name args. refl }

called-placeless : (m : DataModel) (items : List Item) (found : Option Function) (p q : Place) (args : List TypedValue)
    → Agree (called_in (world m (structs items) no_calls) found p args) (called_in (world m (structs (placeless_items items)) no_calls) (option_map placeless_function found) q args)
called-placeless m items None p q args = refl
called-placeless m items (Some f) p q args = AgreeEnded.gives_agree (run-placeless m (structs items) (structs (placeless_items items)) no_calls no_calls (alone-placeless m items) f (map number_arg args) [])

calls-placeless : (m : DataModel) (items : List Item) (p q : Place) (name : List ℕ) (args : List TypedValue) → Agree (unit_calls m items p name args) (unit_calls m (placeless_items items) q name args)
unfolding unit_calls
calls-placeless m items p q name args = rw (definitions-placeless name items) (called-placeless m items (look_up name (definitions items)) p q args)

unit-placeless : (m : DataModel) (items : List Item) → SameWorld (unit_world m items) (unit_world m (placeless_items items))
unit-placeless m items = record { model_is = refl; slots = slots-placeless m items (unit_calls m items) (unit_calls m (placeless_items items)); calls_agree = calls-placeless m items }

-- ---- equal but for places

function_of : Function → Item → Function
function_of other (item.Struct s) = other
function_of other (item.Function f) = f

placeless-equal : (f g : Function) → bare_item (item.Function f) ≡ bare_item (item.Function g) → placeless_function f ≡ placeless_function g
unfolding function_of
placeless-equal f g e = ap (λ b. function_of f (grown_item b)) e

-- two functions that are equal but for places end alike in worlds that are the same
pub run-alike : (m : DataModel) (table others : List (List ℕ × List Field)) (calls other_calls : Calls) → SameWorld (world m table calls) (world m others other_calls)
    → (f g : Function) → bare_item (item.Function f) ≡ bare_item (item.Function g) → (args : List Arg) (objects : List Object)
    → AgreeEnded (run_in (world m table calls) f args objects) (run_in (world m others other_calls) g args objects)
run-alike m table others calls other_calls h f g e args objects =
    let x = world m others other_calls in
    let to : AgreeEnded (run_in (world m table calls) f args objects) (run_in x (placeless_function f) args objects) = run-placeless m table others calls other_calls h f args objects in
    let back : AgreeEnded (run_in x g args objects) (run_in x (placeless_function g) args objects) = run-placeless m others others other_calls other_calls (self (world m table calls) x h) g args objects in
    ended-through (run_in (world m table calls) f args objects) (run_in x (placeless_function g) args objects) (run_in x g args objects)
    (rw (placeless-equal f g e) at to) (ended-back (run_in x g args objects) (run_in x (placeless_function g) args objects) back)

-- two units that are equal but for places are the same world
pub units-alike : (m : DataModel) (u v : Whole) → bare_unit u ≡ bare_unit v → SameWorld (unit_world m u.items) (unit_world m v.items)
units-alike m u v e =
    let same : placeless_items v.items ≡ placeless_items u.items = ap (map grown_item) (sym e) in
    meeting (unit_world m u.items) (unit_world m v.items) (unit_world m (placeless_items u.items)) (unit-placeless m u.items)
    (subst (λ items. SameWorld (unit_world m v.items) (unit_world m items)) same (unit-placeless m v.items))

pub call-alike : (m : DataModel) (u v : Whole) (f g : Function) → bare_unit u ≡ bare_unit v → bare_item (item.Function f) ≡ bare_item (item.Function g) → (args : List Arg) (objects : List Object)
    → AgreeEnded (call m u f args objects) (call m v g args objects)
call-alike m u v f g units e args objects =
    run-alike m (structs u.items) (structs v.items) (unit_calls m u.items) (unit_calls m v.items) (units-alike m u v units) f g e args objects

-- ---- calls that are not undefined

agree-ok : (r s : Result (Option TypedValue) Stop) (value : Option TypedValue) → Agree r s → r ≡ Ok value → s ≡ Ok value
agree-ok (Ok x) (Ok y) value h e = ap Ok (sym h) ∙ e
agree-ok (Ok x) (Err t) value h e = absurd h
agree-ok (Err t) (Ok y) value h e = absurd h
agree-ok (Err t) (Err s) value h e = absurd (cc)

same-ended : (a : Ended) (gives : Result (Option TypedValue) Stop) (objects : List Object) → a.gives ≡ gives → a.objects ≡ objects → a ≡ ended gives objects
same-ended a gives objects h g i = record { gives = h i; objects = g i }

-- what one gives, the other gives
pub ended-alike : (a b : Ended) (value : Option TypedValue) (left : List Object) → AgreeEnded a b → a ≡ ended (Ok value) left → b ≡ ended (Ok value) left
ended-alike a b value left h e = same-ended b (Ok value) left (agree-ok a.gives b.gives value h.gives_agree (ap Ended.gives e)) (h.objects_same ∙ ap Ended.objects e)

pub call-anywhere : (m : DataModel) (u v : Whole) (f g : Function) (args : List Arg) (objects left : List Object) (value : Option TypedValue) → bare_unit u ≡ bare_unit v → bare_item (item.Function f) ≡ bare_item (item.Function g)
    → call m u f args objects ≡ ended (Ok value) left → call m v g args objects ≡ ended (Ok value) left
call-anywhere m u v f g args objects left value units e h = ended-alike (call m u f args objects) (call m v g args objects) value left (call-alike m u v f g units e args objects) h

-- ---- the function of a name, in two units that are equal but for places

bare_definitions : List BareItem → List (List ℕ × BareItem)
bare_definitions [] = []
bare_definitions (u.struct tag fields ∷ rest) = bare_definitions rest
bare_definitions (u.function head None ∷ rest) = bare_definitions rest
bare_definitions (u.function head (Some body) ∷ rest) = (head.name, u.function head (Some body)) ∷ bare_definitions rest

either-bare : (b : Bool) (f : Function) (found : Option Function) (rest : Option BareItem) → option_map (λ f. bare_item (item.Function f)) found ≡ rest
    → option_map (λ f. bare_item (item.Function f)) (if b then Some f else found) ≡ (if b then Some (bare_item (item.Function f)) else rest)
either-bare true f found rest h = refl
either-bare false f found rest h = h

bare-by-body : (name : List ℕ) (body : Option (List Stmt)) (f : Function) (items : List Item) → f.body ≡ body
    → option_map (λ f. bare_item (item.Function f)) (look_up name (definitions items)) ≡ look_up name (bare_definitions (map bare_item items))
    → option_map (λ f. bare_item (item.Function f)) (look_up name (definition body f ++ definitions items)) ≡ look_up name (bare_definitions (u.function (u.bare_head f) (u.bare_body body) ∷ map bare_item items))
unfolding bare_definitions
bare-by-body name None f items e h = h
bare-by-body name (Some body) f items e h = rw (sym (ap u.bare_body e)) (either-bare (bytes_eq f.name name) f (look_up name (definitions items)) (look_up name (bare_definitions (map bare_item items))) h)

bare-found : (name : List ℕ) (items : List Item) → option_map (λ f. bare_item (item.Function f)) (look_up name (definitions items)) ≡ look_up name (bare_definitions (map bare_item items))
unfolding bare_definitions
bare-found name [] = refl
bare-found name (item.Struct s ∷ rest) = bare-found name rest
bare-found name (item.Function f ∷ rest) = bare-by-body name f.body f rest refl (bare-found name rest)

pub record Twin (found : Option Function) (f : Function) : Type 0 where
  pub twin : Function
  pub there : found ≡ Some twin
  pub alike : bare_item (item.Function f) ≡ bare_item (item.Function twin)

twin-in : (found : Option Function) (f : Function) → Some (bare_item (item.Function f)) ≡ option_map (λ f. bare_item (item.Function f)) found → Twin found f
twin-in None f e = absurd (cc)
twin-in (Some g) f e = record { twin = g; there = refl; alike = cc }

pub found-alike : (name : List ℕ) (u v : Whole) (f : Function) → bare_unit u ≡ bare_unit v → look_up name (definitions u.items) ≡ Some f → Twin (look_up name (definitions v.items)) f
found-alike name u v f e h = twin-in (look_up name (definitions v.items)) f
    (sym (ap (option_map (λ f. bare_item (item.Function f))) h) ∙ bare-found name u.items ∙ ap (λ items. look_up name (bare_definitions items)) e ∙ sym (bare-found name v.items))
