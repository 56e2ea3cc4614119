-- The statements of a message's signals have no fault of types where the struct, the locals and the helpers are declared.
use Rattle.std.proofs.Common.{◌≡◌, ℕ, ◌^◌, ◌<◌, true, false, List, [], ◌∷◌, ◌++◌, map, Option, Some, None, refl, sym, subst, append_assoc}
use Rattle.std.specs.List.{AllByRecursion, flat_map}
use Rattle.c_text.specs.declared.token.IntType.{IntType}
use Rattle.c_text.specs.declared.token.IntType.TheVariants as t
use Rattle.c_text.specs.declared.token.Spelled.TheVariants.{Exact, Size}
use Rattle.c_tree.specs.declared.expression.Callee.TheVariants.{Name}
use Rattle.c_tree.specs.declared.expression.Expr.{Expr}
use Rattle.c_tree.specs.declared.expression.ExprKind.TheVariants as k
use Rattle.c_tree.specs.declared.item.CType.{CType}
use Rattle.c_tree.specs.declared.item.CType.TheVariants.{Integer, Pointer}
use Rattle.c_tree.specs.declared.item.Field.{Field}
use Rattle.c_tree.specs.declared.item.Target.TheVariants.{Byte, Struct}
use Rattle.c_tree.specs.declared.statement.AssignOp.TheVariants.{Set, BitOr}
use Rattle.c_tree.specs.BareExpression.{cast}
use Rattle.c_tree.specs.BareStatement.{Action}
use Rattle.cg_out.specs.Words.{look_up}
use Rattle.c_widths.specs.IntegerType.{type_of, exact_type}
use Rattle.c_operators.proofs.Models.{IsOneOf}
use Rattle.c_types.specs.Scope.{Declared, Scope}
use Rattle.c_types.specs.Setting.{Setting, declared_by}
use Rattle.c_effect.proofs.Equations.{node}
use Rattle.c_effect.proofs.Placeless.{no_place, grown, grown_stmt}
use Rattle.c_alike.proofs.TypedExpressions.{MayCall, IsNumber, typed-int, typed-unsigned, typed-name, typed-member, typed-cast, typed-call}
use Rattle.c_alike.proofs.TypedStatements.{IsTyped, AreTyped, typed-cons, typed-declare, typed-assign_name, typed-assign_element}
use Rattle.bit_layout.specs.declared.walk.Segment.{Segment}
use Rattle.bit_layout.specs.Segments.{segments_of}
use Rattle.shift_helpers.specs.declared.helper.HelperKind.{HelperKind}
use Rattle.shift_helpers.specs.HelperResult.{IsWidth, given_width}
use Rattle.shift_helpers.specs.HelperTree.{helper_name, helper}
use Rattle.shift_helpers.specs.HelperTree as helpers
use Rattle.gen_pack.specs.SegmentMove.{width_of, pack_kind, pack_shift, mask_of}
use Rattle.gen_pack.specs.StructFields.{field_type}
use Rattle.gen_pack.specs.Parts.{Part}
use Rattle.gen_pack.specs.PackTree.{buffer, source, size, number, unsigned, field, name_or, taken, segment_put, local_declared, local_set, declared, part_put}
use Rattle.gen_pack.proofs.OwnLocals.{HaveOwn}
use Rattle.gen_items.proofs.TypedWords.{IsPlain, ArePlain}
use Rattle.gen_items.proofs.TypedScope.{with_local, with_locals, at_top, type-shown, none-shown, IsNewIn, AreNewIn, new-behind, HasType}

-- ---- statements that declare nothing

module _ (s : Setting) (returns : CType) (scope : Scope) where
  abbrev pub AreQuiet : List Action → Type 0
  AreQuiet xs = AllByRecursion (λ x. IsTyped s returns scope (grown_stmt x) []) xs

  pub quiet-both : (xs ys : List Action) → AreQuiet xs → AreQuiet ys → AreQuiet (xs ++ ys)
  quiet-both [] ys first second = second
  quiet-both (x ∷ xs) ys first second = (first.0, quiet-both xs ys first.1 second)

  pub quiet-then : (xs ys : List Action) → AreQuiet xs → AreTyped s returns scope (map grown_stmt ys) → AreTyped s returns scope (map grown_stmt (xs ++ ys))
  quiet-then [] ys first rest = rest
  quiet-then (x ∷ xs) ys first rest = typed-cons s returns scope (grown_stmt x) [] (map grown_stmt (xs ++ ys)) first.0 (quiet-then xs ys first.1 rest)

-- ---- declarations of locals

module _ (s : Setting) (returns : CType) where
  one-declared : (o : Option (List ℕ)) (w : ℕ) (inner : Declared) (rest : List Action) → IsNewIn inner o → IsPlain o
      → AreTyped s returns (at_top (with_local o w inner)) (map grown_stmt rest) → AreTyped s returns (at_top inner) (map grown_stmt (local_declared o w ++ rest))
  one-declared None w inner rest new plain then_ = then_
  one-declared (Some n) w inner rest new plain then_ =
      typed-cons s returns (at_top inner) _ ((n, Integer (Exact w false)) ∷ []) (map grown_stmt rest) (typed-declare s returns (at_top inner) no_place (Exact w false) n new plain.0) then_

  pub declarations-typed : (xs : List Part) (inner : Declared) (rest : List Action) → AreNewIn inner xs → HaveOwn xs → ArePlain xs
      → AreTyped s returns (at_top (with_locals xs inner)) (map grown_stmt rest) → AreTyped s returns (at_top inner) (map grown_stmt (flat_map declared xs ++ rest))
  declarations-typed [] inner rest new own plain then_ = then_
  declarations-typed (x ∷ xs) inner rest new own plain then_ =
      let o : Option (List ℕ) = x.names.local in
      let w : ℕ = width_of x.signal in
      let next : Declared = with_local o w inner in
      let behind : AreTyped s returns (at_top next) (map grown_stmt (flat_map declared xs ++ rest)) =
      declarations-typed xs next rest (new-behind o w inner xs new.1 own.0) own.1 plain.1 then_ in
      subst (λ list. AreTyped s returns (at_top inner) (map grown_stmt list)) (sym (append_assoc (declared x) (flat_map declared xs) rest))
      (one-declared o w inner (flat_map declared xs ++ rest) new.0 plain.0 behind)

-- ---- what the statements of signals need

-- the three parameters
pub record HasParameters (tag : List ℕ) (inner : Declared) : Type 0 where
  pub buffer_is : look_up buffer inner ≡ Some (Pointer Byte false)
  pub source_is : look_up source inner ≡ Some (Pointer (Struct tag) true)
  pub size_is : look_up size inner ≡ Some (Integer Size)

-- no local hides a helper
abbrev pub ShowsHelpers : Declared → Type 0
ShowsHelpers inner = (kind : HelperKind) (w : ℕ) → IsWidth w → look_up (helper_name kind w) inner ≡ None

-- a helper is declared before, and the unit has its definition
pub record IsCallable (s : Setting) (kind : HelperKind) (w : ℕ) : Type 0 where
  pub before : s.function (helper_name kind w) ≡ Some (helper kind w)
  pub defined : s.calls (helper_name kind w) ≡ Some false

-- the numbers of a segment are small
pub record IsSmall (g : Segment) : Type 0 where
  pub byte : g.byte < 2 ^ 31
  pub shift : pack_shift g < 2 ^ 32
  pub mask : mask_of g < 2 ^ 32

-- a signal whose field stands among these, and whose helpers may be called
pub record IsReady (s : Setting) (fields : List Field) (x : Part) : Type 0 where
  pub field_is : look_up x.names.field (declared_by fields) ≡ Some (Integer (field_type x.signal))
  pub width : IsWidth (width_of x.signal)
  pub callable : AllByRecursion (λ g. IsCallable s (pack_kind g) (width_of x.signal)) (segments_of x.signal)
  pub small : AllByRecursion IsSmall (segments_of x.signal)

module _ (s : Setting) (one : IsOneOf s.model) (returns : CType) (tag : List ℕ) (fields : List Field) (found : s.fields tag ≡ Some fields) (inner : Declared) (has : HasParameters tag inner) (shows : ShowsHelpers inner) where
  abbrev scope : Scope
  scope = at_top inner

  field-typed : (x : Part) → IsReady s fields x → IsNumber s scope (grown (field x)) (type_of s.model (field_type x.signal))
  field-typed x ready = typed-member s scope no_place source x.names.field tag true fields (field_type x.signal) (type-shown source _ inner has.source_is) found ready.field_is

  -- what the helpers take
  taken-typed : (x : Part) (o : Option (List ℕ)) → IsReady s fields x → HasType inner o (width_of x.signal) → (type : IntType) × IsNumber s scope (grown (name_or o (field x))) type
  taken-typed x None ready local = (type_of s.model (field_type x.signal), field-typed x ready)
  taken-typed x (Some n) ready local = (exact_type s.model (width_of x.signal) false, typed-name s scope no_place n (Exact (width_of x.signal) false) (type-shown n _ inner local))

  -- local = (uintW_t)src_p->field;
  set-typed : (x : Part) (o : Option (List ℕ)) → IsReady s fields x → HasType inner o (width_of x.signal) → AreQuiet s returns scope (local_set o (width_of x.signal) (field x))
  set-typed x None ready local = tt
  set-typed x (Some n) ready local =
      let w : ℕ = width_of x.signal in (
        typed-assign_name s returns scope no_place no_place n (Exact w false) Set (grown (cast (Exact w false) (field x))) (exact_type s.model w false) (type-shown n _ inner local)
            (typed-cast s scope no_place (Exact w false) (grown (field x)) (type_of s.model (field_type x.signal)) (field-typed x ready)),
        tt,
      )

  may-call : (kind : HelperKind) (w : ℕ) → IsWidth w → IsCallable s kind w → MayCall s scope (helper_name kind w) 3 (helpers.unsigned (given_width kind w))
  may-call kind w iw callable = record {
    function = helper kind w;
    shows = none-shown (helper_name kind w) inner (shows kind w iw);
    declared = callable.before;
    defined = callable.defined;
    gives = refl;
    takes = refl;
    numbers = refl;
  }

  -- dst_p[byte] |= helper(value, shift, mask);
  segment-typed : (x : Part) (g : Segment) → IsReady s fields x → HasType inner x.names.local (width_of x.signal) → IsCallable s (pack_kind g) (width_of x.signal) → IsSmall g
      → IsTyped s returns scope (grown_stmt (segment_put x g)) []
  segment-typed x g ready local callable small =
      let w : ℕ = width_of x.signal in
      let value = taken-typed x x.names.local ready local in
      let shift : IsNumber s scope (grown (unsigned (pack_shift g) 10)) t.UnsignedInt = typed-unsigned s scope one no_place (pack_shift g) 10 small.shift in
      let mask : IsNumber s scope (grown (unsigned (mask_of g) 16)) t.UnsignedInt = typed-unsigned s scope one no_place (mask_of g) 16 small.mask in
      let args : List Expr = grown (taken x) ∷ grown (unsigned (pack_shift g) 10) ∷ grown (unsigned (mask_of g) 16) ∷ [] in
      let given : IsNumber s scope (node no_place (k.Call (Name (helper_name (pack_kind g) w)) args)) (exact_type s.model (given_width (pack_kind g) w) false) =
      typed-call s scope no_place (helper_name (pack_kind g) w) args (Exact (given_width (pack_kind g) w) false) (may-call (pack_kind g) w ready.width callable) (value, ((t.UnsignedInt, shift), ((t.UnsignedInt, mask), tt))) in
      typed-assign_element s returns scope no_place no_place buffer (grown (number g.byte)) t.Int BitOr _ _ (type-shown buffer _ inner has.buffer_is) (typed-int s scope one no_place g.byte small.byte) given

  segments-typed : (x : Part) (gs : List Segment) → IsReady s fields x → HasType inner x.names.local (width_of x.signal) → AllByRecursion (λ g. IsCallable s (pack_kind g) (width_of x.signal)) gs → AllByRecursion IsSmall gs
      → AreQuiet s returns scope (map (segment_put x) gs)
  segments-typed x [] ready local callable small = tt
  segments-typed x (g ∷ gs) ready local callable small = (segment-typed x g ready local callable.0 small.0, segments-typed x gs ready local callable.1 small.1)

  -- one signal's statements
  pub part-typed : (x : Part) → IsReady s fields x → HasType inner x.names.local (width_of x.signal) → AreQuiet s returns scope (part_put x)
  part-typed x ready local =
      quiet-both s returns scope (local_set x.names.local (width_of x.signal) (field x)) (map (segment_put x) (segments_of x.signal)) (set-typed x x.names.local ready local)
      (segments-typed x (segments_of x.signal) ready local ready.callable ready.small)

  pub parts-typed : (xs : List Part) → AllByRecursion (IsReady s fields) xs → AllByRecursion (λ x. HasType inner (Part.names x).local (width_of (Part.signal x))) xs → AreQuiet s returns scope (flat_map part_put xs)
  parts-typed [] ready local = tt
  parts-typed (x ∷ xs) ready local = quiet-both s returns scope (part_put x) (flat_map part_put xs) (part-typed x ready.0 local.0) (parts-typed xs ready.1 local.1)
