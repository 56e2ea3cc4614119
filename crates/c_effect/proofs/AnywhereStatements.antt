-- The effect of a statement does not hang on its places, but for the place of a stop.
use Rattle.std.proofs.Common.{◌≡◌, ℕ, Bool, true, false, List, [], ◌∷◌, map, Option, Some, None, refl, sym, ap, subst, ◌∙◌, Result, Ok, Err, ℤ, pos}
use Rattle.std.specs.Prelude.{⊤, if◌then◌else◌}
use Rattle.c_text.specs.declared.place.Place.{Place}
use Rattle.c_text.specs.declared.token.IntType.{IntType}
use Rattle.c_text.specs.declared.token.IntType.TheVariants as t
use Rattle.c_tree.specs.declared.expression.BinaryOp.{BinaryOp}
use Rattle.c_tree.specs.declared.expression.Callee.{Callee}
use Rattle.c_tree.specs.declared.expression.Callee.TheVariants.{Name, Memset}
use Rattle.c_tree.specs.declared.expression.Expr.{Expr, fold_out-Expr}
use Rattle.c_tree.specs.declared.expression.ExprKind.{ExprKind, out-ExprKind, map-ExprKind, fold_out-ExprKind}
use Rattle.c_tree.specs.declared.expression.ExprKind.TheOpen.{ExprKind-F}
use Rattle.c_tree.specs.declared.expression.ExprKind.TheVariants as k
use Rattle.c_tree.specs.declared.statement.AssignOp.{AssignOp}
use Rattle.c_tree.specs.declared.statement.Stmt.{Stmt, Stmt-F, fold-roll-Stmt, roll-Stmt, map-Stmt, ind-Stmt}
use Rattle.c_tree.specs.declared.statement.StmtKind.{StmtKind, fold-roll-StmtKind, roll-StmtKind, map-StmtKind}
use Rattle.c_tree.specs.declared.statement.StmtKind.TheOpen.{StmtKind-F}
use Rattle.c_tree.specs.declared.statement.SwitchPart.{SwitchPart, SwitchPart-F, fold-roll-SwitchPart, roll-SwitchPart, map-SwitchPart}
use Rattle.c_tree.specs.BareExpression as tree
use Rattle.c_tree.specs.BareExpression.{Tree, trees_of, bare_expression}
use Rattle.c_tree.specs.BareStatement as a
use Rattle.c_tree.specs.BareStatement.{Action, Parts, BarePart, bare_statement}
use Rattle.c_mem.specs.declared.undefined.Undefined.{Undefined}
use Rattle.c_mem.specs.declared.objects.Object.{Object}
use Rattle.c_mem.specs.declared.objects.Pointer.{Pointer}
use Rattle.c_mem.specs.Objects.{load, store}
use Rattle.c_widths.specs.IntegerType.{type_of}
use Rattle.c_operators.specs.declared.value.TypedValue.{TypedValue}
use Rattle.c_operators.specs.declared.value.Value.{Value}
use Rattle.c_operators.specs.Value.{typed, number_of, is_true}
use Rattle.c_operators.specs.Sign.{in_promoted}
use Rattle.c_operators.specs.Operator.{operate}
use Rattle.cg_out.specs.Words.{or_else}
use Rattle.c_effect.specs.declared.state.Flow.{Flow}
use Rattle.c_effect.specs.declared.state.Flow.TheVariants.{Next, Broken, Returned}
use Rattle.c_effect.specs.declared.state.Stop.{Stop}
use Rattle.c_effect.specs.Locals.{Block, held_by, read_local, read_pointer, number_kind, opened, closed}
use Rattle.c_effect.specs.World.{World, shown_at}
use Rattle.c_effect.specs.declared.state.Slot.{Slot}
use Rattle.c_effect.specs.Loading.{slot_at}
use Rattle.c_effect.specs.ExpressionValue as v
use Rattle.c_effect.specs.Ending.{After, Effect, after, followed, sequence, in_block, with_value, with_objects}
use Rattle.c_effect.specs.Ending as ending
use Rattle.c_effect.specs.Storing as st
use Rattle.c_effect.specs.Choosing as c
use Rattle.c_effect.specs.Choosing.{Part, effects}
use Rattle.c_effect.specs.StatementEffect as e
use Rattle.c_effect.proofs.Equations.{does-Declare, does-Assign, does-Call, does-Discard, does-Empty, does-Block, does-If, does-IfElse, does-Return, does-Break, does-Switch, part-Label, part-Statement}
use Rattle.c_effect.proofs.Placeless.{no_place, grown, all_grown, grown_stmt, grown_list, grown_parts, grown_part, bare_kind, bare_stmt_kind, bare_part, placeless, placeless_option, placeless_stmt}
use Rattle.c_effect.proofs.Anywhere.{Agree, agree-shown, agree-bind, SameMeaning, SameWorld, slot_at-same, value-anywhere, number-anywhere, values-anywhere}

-- ---- agreement of effects

pub record AgreeAfter (a b : After) : Type 0 where
  pub flow_agree : Agree a.flow b.flow
  pub locals_same : b.locals ≡ a.locals
  pub objects_same : b.objects ≡ a.objects

pub record SameEffect (f g : Effect) : Type 0 where
  pub same : (locals : List Block) (objects : List Object) → AgreeAfter (f locals objects) (g locals objects)

agree-after : (r s : Result Flow Stop) (locals : List Block) (objects : List Object) → Agree r s → AgreeAfter (after r locals objects) (after s locals objects)
agree-after r s locals objects h = record { flow_agree = h; locals_same = refl; objects_same = refl }

agree-with : {A : Type 0} (r s : Result A Stop) (locals : List Block) (objects : List Object) (f g : A → After) → Agree r s → ((y : A) → AgreeAfter (f y) (g y)) → AgreeAfter (with_value r locals objects f) (with_value s locals objects g)
agree-with (Ok x) (Ok y) locals objects f g h each = subst (λ z. AgreeAfter (f x) (g z)) h (each x)
agree-with (Ok x) (Err t) locals objects f g h each = absurd h
agree-with (Err t) (Ok y) locals objects f g h each = absurd h
agree-with (Err t) (Err u) locals objects f g h each = agree-after (Err t) (Err u) locals objects h

agree-objects : (p q : Place) (r : Result (List Object) Undefined) (locals : List Block) (objects : List Object) → AgreeAfter (with_objects p r locals objects) (with_objects q r locals objects)
agree-objects p q (Ok new) locals objects = agree-after (Ok Next) (Ok Next) locals new refl
agree-objects p q (Err kind) locals objects = agree-after _ _ locals objects refl

followed-at : (x : Flow) (f g : Effect) (locals : List Block) (objects : List Object) → SameEffect f g → AgreeAfter (followed (Ok x) f locals objects) (followed (Ok x) g locals objects)
followed-at Next f g locals objects same = same.same locals objects
followed-at Broken f g locals objects same = agree-after (Ok Broken) (Ok Broken) locals objects refl
followed-at (Returned v) f g locals objects same = agree-after (Ok (Returned v)) (Ok (Returned v)) locals objects refl

followed-agree : (r s : Result Flow Stop) (f g : Effect) (locals : List Block) (objects : List Object) → Agree r s → SameEffect f g → AgreeAfter (followed r f locals objects) (followed s g locals objects)
followed-agree (Ok x) (Ok y) f g locals objects h same = subst (λ z. AgreeAfter (followed (Ok x) f locals objects) (followed (Ok z) g locals objects)) h (followed-at x f g locals objects same)
followed-agree (Ok x) (Err t) f g locals objects h same = absurd h
followed-agree (Err t) (Ok y) f g locals objects h same = absurd h
followed-agree (Err t) (Err u) f g locals objects h same = agree-after (Err t) (Err u) locals objects h

then-agree : (a b : After) (f g : Effect) → AgreeAfter a b → SameEffect f g → AgreeAfter (ending.then a f) (ending.then b g)
then-agree a b f g h same = rw (h.locals_same, h.objects_same) (followed-agree a.flow b.flow f g a.locals a.objects h.flow_agree same)

-- two lists of effects, one by one
abbrev pub AllSame : List Effect → List Effect → Type 0
AllSame [] [] = ⊤
AllSame [] (g ∷ gs) = ⊥
AllSame (f ∷ fs) [] = ⊥
AllSame (f ∷ fs) (g ∷ gs) = SameEffect f g × AllSame fs gs

pub sequence-agree : (fs gs : List Effect) → AllSame fs gs → SameEffect (sequence fs) (sequence gs)
sequence-agree [] [] h = record { same = λ locals objects. agree-after (Ok Next) (Ok Next) locals objects refl }
sequence-agree [] (g ∷ gs) h = absurd h
sequence-agree (f ∷ fs) [] h = absurd h
sequence-agree (f ∷ fs) (g ∷ gs) h = record { same = λ locals objects. then-agree (f locals objects) (g locals objects) (sequence fs) (sequence gs) (h.0.same locals objects) (sequence-agree fs gs h.1) }

block-agree : (f g : Effect) → SameEffect f g → SameEffect (in_block f) (in_block g)
block-agree f g h = record {
  same = λ locals objects. (let inner = h.same (opened locals) objects in
      record { flow_agree = inner.flow_agree; locals_same = ap closed inner.locals_same; objects_same = inner.objects_same });
}

either-agree : (b : Bool) (r s t u : After) → AgreeAfter r t → AgreeAfter s u → AgreeAfter (if b then r else s) (if b then t else u)
either-agree true r s t u h g = h
either-agree false r s t u h g = g

-- ---- parts of switches

abbrev pub placeless_label : Option (Option Expr) → Option (Option Expr)
placeless_label None = None
placeless_label (Some value) = Some (placeless_option value)

pub record SamePart (p q : Part) : Type 0 where
  pub label_is : q.label ≡ placeless_label p.label
  pub effect_same : SameEffect p.effect q.effect

abbrev pub AllParts : List Part → List Part → Type 0
AllParts [] [] = ⊤
AllParts [] (q ∷ qs) = ⊥
AllParts (p ∷ ps) [] = ⊥
AllParts (p ∷ ps) (q ∷ qs) = SamePart p q × AllParts ps qs

abbrev SomeParts : Option (List Part) → Option (List Part) → Type 0
SomeParts None None = ⊤
SomeParts None (Some qs) = ⊥
SomeParts (Some ps) None = ⊥
SomeParts (Some ps) (Some qs) = AllParts ps qs

some-if : (b : Bool) (x y z u : Option (List Part)) → SomeParts x z → SomeParts y u → SomeParts (if b then x else y) (if b then z else u)
some-if true x y z u h g = h
some-if false x y z u h g = g

label-agree : (t u : Option (Option Expr) → Bool) → ((l : Option (Option Expr)) → u (placeless_label l) ≡ t l) → (ps qs : List Part) → AllParts ps qs → SomeParts (c.from_label t ps) (c.from_label u qs)
label-agree t u each [] [] h = tt
label-agree t u each [] (q ∷ qs) h = absurd h
label-agree t u each (p ∷ ps) [] h = absurd h
label-agree t u each (p ∷ ps) (q ∷ qs) h =
    let same : u q.label ≡ t p.label = ap u (SamePart.label_is h.0) ∙ each p.label in
    rw same (some-if (t p.label) (Some (p ∷ ps)) (c.from_label t ps) (Some (q ∷ qs)) (c.from_label u qs) h (label-agree t u each ps qs h.1))

first-agree : (r s t u : Option (List Part)) → SomeParts r t → SomeParts s u → SomeParts (or_else r s) (or_else t u)
first-agree (Some x) s (Some y) u h g = h
first-agree (Some x) s None u h g = absurd h
first-agree None s (Some y) u h g = absurd h
first-agree None s None u h g = g

default-same : (l : Option (Option Expr)) → c.is_default (placeless_label l) ≡ c.is_default l
default-same None = refl
default-same (Some None) = refl
default-same (Some (Some x)) = refl

effects-same : (ps qs : List Part) → AllParts ps qs → AllSame (effects ps) (effects qs)
effects-same [] [] h = tt
effects-same [] (q ∷ qs) h = absurd h
effects-same (p ∷ ps) [] h = absurd h
effects-same (p ∷ ps) (q ∷ qs) h = (SamePart.effect_same h.0, effects-same ps qs h.1)

past-at : (x : Flow) → Agree (c.past_break (Ok x)) (c.past_break (Ok x))
past-at Next = refl
past-at Broken = refl
past-at (Returned v) = refl

past-agree : (r s : Result Flow Stop) → Agree r s → Agree (c.past_break r) (c.past_break s)
past-agree (Ok x) (Ok y) h = subst (λ z. Agree (c.past_break (Ok x)) (c.past_break (Ok z))) h (past-at x)
past-agree (Ok x) (Err t) h = absurd h
past-agree (Err t) (Ok y) h = absurd h
past-agree (Err t) (Err u) h = h

breaks-agree : (r s : After) → AgreeAfter r s → AgreeAfter (c.past_breaks r) (c.past_breaks s)
breaks-agree r s h = record { flow_agree = past-agree r.flow s.flow h.flow_agree; locals_same = h.locals_same; objects_same = h.objects_same }

running-agree : (r s : Option (List Part)) → SomeParts r s → (locals : List Block) (objects : List Object) → AgreeAfter (c.running r locals objects) (c.running s locals objects)
running-agree None None h locals objects = agree-after (Ok Next) (Ok Next) locals objects refl
running-agree None (Some qs) h locals objects = absurd h
running-agree (Some ps) None h locals objects = absurd h
running-agree (Some ps) (Some qs) h locals objects =
    breaks-agree (in_block (sequence (effects ps)) locals objects) (in_block (sequence (effects qs)) locals objects)
    (SameEffect.same (block-agree (sequence (effects ps)) (sequence (effects qs)) (sequence-agree (effects ps) (effects qs) (effects-same ps qs h))) locals objects)

-- ---- in two worlds

module _ (w x : World) (h : SameWorld w x) where
  declaration-agrees : (kind other : IntType) → other ≡ kind → (name : List ℕ) (value : Option Expr) → SameEffect (st.declaration w kind name value) (st.declaration x other name (placeless_option value))
  declaration-agrees kind other eq name None = record { same = λ locals objects. rw eq (agree-after (Ok Next) (Ok Next) _ objects refl) }
  declaration-agrees kind other eq name (Some value) = record {
    same = λ locals objects. rw eq (agree-with (v.number w value _ objects) (v.number x (placeless value) _ objects) _ objects _ _ (number-anywhere w x h value _ objects) (λ y.
        rw h.model_is (agree-after (Ok Next) (Ok Next) _ objects refl)));
  }

  return-agrees : (value : Option Expr) → SameEffect (e.returned w value) (e.returned x (placeless_option value))
  return-agrees None = record { same = λ locals objects. agree-after (Ok (Returned None)) (Ok (Returned None)) locals objects refl }
  return-agrees (Some value) = record {
    same = λ locals objects. agree-with (v.number w value locals objects) (v.number x (placeless value) locals objects) locals objects _ _ (number-anywhere w x h value locals objects) (λ y.
        agree-after (Ok (Returned (Some y))) (Ok (Returned (Some y))) locals objects refl);
  }

  -- ---- assignments

  assigned-agrees : (op : Option BinaryOp) (p q : Place) (kind : IntType) (r s : Result TypedValue Stop) (y : TypedValue) → Agree r s → Agree (st.assigned w.model op p kind r y) (st.assigned x.model op q kind s y)
  assigned-agrees None p q kind r s y g = rw h.model_is refl
  assigned-agrees (Some op) p q kind r s y g = rw h.model_is (agree-bind r s _ _ g (λ left. agree-bind (shown_at p (operate w.model op left y)) (shown_at q (operate w.model op left y)) _ _ (agree-shown p q (operate w.model op left y)) (λ z. refl)))

  typed-agrees : (kind : IntType) (r s : Result ℤ Stop) → Agree r s → Agree (st.typed_in kind r) (st.typed_in kind s)
  typed-agrees kind (Ok y) (Ok z) g = ap (typed kind) g
  typed-agrees kind (Ok y) (Err t) g = g
  typed-agrees kind (Err t) (Ok z) g = g
  typed-agrees kind (Err t) (Err u) g = g

  number_in-agrees : (r s : Result Value Stop) → Agree r s → Agree (st.number_in r) (st.number_in s)
  number_in-agrees (Ok y) (Ok z) g = ap number_of g
  number_in-agrees (Ok y) (Err t) g = g
  number_in-agrees (Err t) (Ok z) g = g
  number_in-agrees (Err t) (Err u) g = g

  cell-agrees : (at : Pointer) (cell : ℤ) (kind : IntType) (p q p2 q2 : Place) (op : Option BinaryOp) (y : TypedValue) → SameEffect (st.into_cell w.model at cell kind p op q y) (st.into_cell x.model at cell kind p2 op q2 y)
  cell-agrees at cell kind p q p2 q2 op y = record {
    same = λ locals objects.
        agree-with (st.assigned w.model op q kind (st.typed_in kind (shown_at p (load objects at cell))) y) (st.assigned x.model op q2 kind (st.typed_in kind (shown_at p2 (load objects at cell))) y) locals objects _ _
        (assigned-agrees op q q2 kind _ _ y (typed-agrees kind _ _ (agree-shown p p2 (load objects at cell)))) (λ z. agree-objects p p2 (store objects at cell z) locals objects);
  }

  number-agrees : (name : List ℕ) (p q p2 q2 : Place) (op : Option BinaryOp) (kind : Option IntType) (y : TypedValue) → SameEffect (st.into_number w name p op q kind y) (st.into_number x name p2 op q2 kind y)
  number-agrees name p q p2 q2 op None y = record { same = λ locals objects. agree-after _ _ locals objects refl }
  number-agrees name p q p2 q2 op (Some kind) y = record {
    same = λ locals objects.
        agree-with (st.assigned w.model op q kind (st.number_in (shown_at p (read_local name locals))) y) (st.assigned x.model op q2 kind (st.number_in (shown_at p2 (read_local name locals))) y) locals objects _ _
        (assigned-agrees op q q2 kind _ _ y (number_in-agrees _ _ (agree-shown p p2 (read_local name locals)))) (λ z. agree-after (Ok Next) (Ok Next) _ objects refl);
  }

  -- a target with the fixed place, by its kind
  abbrev target_at : ExprKind-F ExprKind Expr → Expr
  target_at z = grown (tree.kind_step (map-ExprKind ExprKind Expr Tree Tree bare_kind bare_expression z))

  assign-agrees : (z : ExprKind-F ExprKind Expr) (p q : Place) (op : Option BinaryOp) (r : Expr)
      → SameEffect (st.assign_to w z p op q r) (st.assign_to x (out-ExprKind (target_at z).kind) (target_at z).place op no_place (placeless r))
  assign-agrees (ExprKind-F.Name n) p q op r = rw (k.outs-Name n) (record {
    same = λ locals objects.
        agree-with (v.number w r locals objects) (v.number x (placeless r) locals objects) locals objects _ _ (number-anywhere w x h r locals objects) (λ y.
        SameEffect.same (number-agrees n p q no_place no_place op (number_kind (held_by n locals)) y) locals objects);
  })
  assign-agrees (ExprKind-F.Element b i) p q op r = rw (k.outs-Element b (placeless i)) (record {
    same = λ locals objects.
        agree-with (v.number w i locals objects) (v.number x (placeless i) locals objects) locals objects _ _ (number-anywhere w x h i locals objects) (λ n.
        agree-with (v.number w r locals objects) (v.number x (placeless r) locals objects) locals objects _ _ (number-anywhere w x h r locals objects) (λ y.
        agree-with (shown_at p (read_pointer b locals)) (shown_at no_place (read_pointer b locals)) locals objects _ _ (agree-shown p no_place (read_pointer b locals)) (λ at.
        SameEffect.same (cell-agrees at (TypedValue.value n) t.UnsignedChar p q no_place no_place op y) locals objects)));
  })
  assign-agrees (ExprKind-F.Member b f) p q op r = rw (k.outs-Member b f) (record {
    same = λ locals objects.
        agree-with (v.number w r locals objects) (v.number x (placeless r) locals objects) locals objects _ _ (number-anywhere w x h r locals objects) (λ y.
        agree-with (shown_at p (read_pointer b locals)) (shown_at no_place (read_pointer b locals)) locals objects _ _ (agree-shown p no_place (read_pointer b locals)) (λ at.
        rw (slot_at-same w x h at f objects) (agree-with (shown_at p (slot_at w at f objects)) (shown_at no_place (slot_at w at f objects)) locals objects _ _ (agree-shown p no_place (slot_at w at f objects)) (λ s.
        SameEffect.same (cell-agrees at (pos (Slot.number s)) (Slot.kind s) p q no_place no_place op y) locals objects))));
  })
  assign-agrees (ExprKind-F.Constant n) p q op r = rw (k.outs-Constant n) (record { same = λ locals objects. agree-after _ _ locals objects refl })
  assign-agrees ExprKind-F.Null p q op r = rw k.outs-Null (record { same = λ locals objects. agree-after _ _ locals objects refl })
  assign-agrees (ExprKind-F.Call f args) p q op r = rw (k.outs-Call f (all_grown (trees_of (map bare_expression args)))) (record { same = λ locals objects. agree-after _ _ locals objects refl })
  assign-agrees (ExprKind-F.Unary o y) p q op r = rw (k.outs-Unary o (placeless y)) (record { same = λ locals objects. agree-after _ _ locals objects refl })
  assign-agrees (ExprKind-F.Cast to y) p q op r = rw (k.outs-Cast to (placeless y)) (record { same = λ locals objects. agree-after _ _ locals objects refl })
  assign-agrees (ExprKind-F.Binary o l y) p q op r = rw (k.outs-Binary o (placeless l) (placeless y)) (record { same = λ locals objects. agree-after _ _ locals objects refl })
  assign-agrees (ExprKind-F.Bracket y) p q op r = rw (k.outs-Bracket (placeless y)) (record { same = λ locals objects. agree-after _ _ locals objects refl })

  target-is : (target : Expr) → placeless target ≡ target_at (out-ExprKind target.kind)
  target-is target = ap grown (fold_out-Expr Tree Tree tree.kind_step tree.expr_step target ∙ fold_out-ExprKind Tree Tree tree.kind_step tree.expr_step target.kind)

  assignment-agrees : (target : Expr) (op : AssignOp) (p : Place) (r : Expr) → SameEffect (st.assignment w target op p r) (st.assignment x (placeless target) op no_place (placeless r))
  unfolding st.assignment
  assignment-agrees target op p r = rw (target-is target) (assign-agrees (out-ExprKind target.kind) target.place p (st.operator_of op) r)

  -- ---- calls

  called-agrees : (p : Place) (f : List ℕ) (args : List Expr) → SameEffect (e.called w p f args) (e.called x no_place f (all_grown (trees_of (map bare_expression args))))
  called-agrees p f args = record {
    same = λ locals objects.
        agree-with (v.values_of w args locals objects) (v.values_of x (all_grown (trees_of (map bare_expression args))) locals objects) locals objects _ _ (values-anywhere w x h args locals objects) (λ xs.
        agree-with (w.calls p f xs) (x.calls no_place f xs) locals objects _ _ (h.calls_agree p no_place f xs) (λ y. agree-after (Ok Next) (Ok Next) locals objects refl));
  }

  memset-agrees : (p : Place) (args : List Expr) → SameEffect (st.memset w p args) (st.memset x no_place (all_grown (trees_of (map bare_expression args))))
  memset-agrees p [] = record { same = λ locals objects. agree-after _ _ locals objects refl }
  memset-agrees p (y ∷ []) = record { same = λ locals objects. agree-after _ _ locals objects refl }
  memset-agrees p (y ∷ z ∷ []) = record { same = λ locals objects. agree-after _ _ locals objects refl }
  memset-agrees p (y ∷ z ∷ n ∷ m ∷ rest) = record { same = λ locals objects. agree-after _ _ locals objects refl }
  memset-agrees p (y ∷ z ∷ n ∷ []) = record {
    same = λ locals objects.
        agree-with (v.value w y locals objects) (v.value x (placeless y) locals objects) locals objects _ _ (SameMeaning.same (value-anywhere w x h y) locals objects) (λ at.
        agree-with (v.number w z locals objects) (v.number x (placeless z) locals objects) locals objects _ _ (number-anywhere w x h z locals objects) (λ byte.
        agree-with (v.number w n locals objects) (v.number x (placeless n) locals objects) locals objects _ _ (number-anywhere w x h n locals objects) (λ length. rw h.model_is (agree-objects p no_place _ locals objects))));
  }

  call-agrees : (p : Place) (f : Callee) (args : List Expr) → SameEffect (e.call_of w p f args) (e.call_of x no_place f (all_grown (trees_of (map bare_expression args))))
  call-agrees p (Name f) args = called-agrees p f args
  call-agrees p Memset args = memset-agrees p args

  -- ---- statements that choose

  branch-agrees : (condition : Expr) (f g : Effect) (other another : Option Effect) → SameEffect f g → SameEffect (c.otherwise other) (c.otherwise another) → SameEffect (c.branch w condition f other) (c.branch x (placeless condition) g another)
  branch-agrees condition f g other another taken passed = record {
    same = λ locals objects.
        agree-with (v.value w condition locals objects) (v.value x (placeless condition) locals objects) locals objects _ _ (SameMeaning.same (value-anywhere w x h condition) locals objects) (λ y.
        either-agree (is_true y) (f locals objects) (c.otherwise other locals objects) (g locals objects) (c.otherwise another locals objects) (taken.same locals objects) (passed.same locals objects));
  }

  equal-same : (y : TypedValue) (r s : Result TypedValue Stop) → Agree r s → c.is_equal x.model y s ≡ c.is_equal w.model y r
  equal-same y (Ok n) (Ok z) g = rw (h.model_is, sym g) refl
  equal-same y (Ok n) (Err t) g = absurd g
  equal-same y (Err t) (Ok z) g = absurd g
  equal-same y (Err t) (Err u) g = refl

  case-same : (y : TypedValue) (locals : List Block) (objects : List Object) (l : Option (Option Expr)) → c.is_case x y locals objects (placeless_label l) ≡ c.is_case w y locals objects l
  case-same y locals objects None = refl
  case-same y locals objects (Some None) = refl
  case-same y locals objects (Some (Some value)) = equal-same y (v.number w value locals objects) (v.number x (placeless value) locals objects) (number-anywhere w x h value locals objects)

  chosen-agrees : (y : TypedValue) (locals : List Block) (objects : List Object) (ps qs : List Part) → AllParts ps qs → SomeParts (c.chosen w y locals objects ps) (c.chosen x y locals objects qs)
  unfolding c.chosen
  chosen-agrees y locals objects ps qs each = first-agree (c.from_label (c.is_case w y locals objects) ps) (c.from_label c.is_default ps) (c.from_label (c.is_case x y locals objects) qs) (c.from_label c.is_default qs)
      (label-agree (c.is_case w y locals objects) (c.is_case x y locals objects) (case-same y locals objects) ps qs each) (label-agree c.is_default c.is_default default-same ps qs each)

  switch-agrees : (value : Expr) (ps qs : List Part) → AllParts ps qs → SameEffect (c.switch w value ps) (c.switch x (placeless value) qs)
  switch-agrees value ps qs each = record {
    same = λ locals objects.
        agree-with (v.number w value locals objects) (v.number x (placeless value) locals objects) locals objects _ _ (number-anywhere w x h value locals objects) (λ y.
        (let same : in_promoted x.model y ≡ in_promoted w.model y = ap (λ m. in_promoted m y) h.model_is in
        rw same (running-agree _ _ (chosen-agrees (in_promoted w.model y) locals objects ps qs each) locals objects)));
  }

  -- ---- by induction

  abbrev SameS : Stmt → Type 0
  SameS s = SameEffect (e.effect w s) (e.effect x (placeless_stmt s))

  abbrev SameK : StmtKind → Type 0
  SameK kind = (p : Place) → SameEffect (e.kind_effect w kind p) (e.effect x (grown_stmt (bare_stmt_kind kind)))

  abbrev SameP : SwitchPart → Type 0
  SameP q = SamePart (e.part w q) (e.part x (grown_part (bare_part q)))

  unrolls : (z : StmtKind-F StmtKind SwitchPart Stmt)
      → ((p : Place) → SameEffect (e.kind_step w (map-StmtKind StmtKind SwitchPart Stmt (Place → Effect) Part Effect (e.kind_effect w) (e.part w) (e.effect w) z) p)
      (e.effect x (grown_stmt (a.kind_step (map-StmtKind StmtKind SwitchPart Stmt Action BarePart Action bare_stmt_kind bare_part bare_statement z)))))
      → SameK (roll-StmtKind z)
  unrolls z each p = rw (fold-roll-StmtKind (Place → Effect) Part Effect (e.kind_step w) e.part_step e.stmt_step z, fold-roll-StmtKind Action BarePart Action a.kind_step a.part_step a.stmt_step z) (each p)

  all-same : (ys : List ((s : Stmt) × SameS s)) → AllSame (map (e.effect w) (map (λ y. y.0) ys)) (e.effects_of x (grown_list (a.actions_of (map bare_statement (map (λ y. y.0) ys)))))
  all-same [] = tt
  all-same (y ∷ ys) = (y.1, all-same ys)

  grown-before : (b : BarePart) (rest : Parts) → grown_parts (a.before b rest) ≡ grown_part b ∷ grown_parts rest
  grown-before (a.a_label value) rest = refl
  grown-before (a.a_statement first) rest = refl

  all-parts : (ys : List ((q : SwitchPart) × SameP q)) → AllParts (map (e.part w) (map (λ y. y.0) ys)) (e.parts_of x (grown_parts (a.parts_of (map bare_part (map (λ y. y.0) ys)))))
  all-parts [] = tt
  all-parts (y ∷ ys) = rw (grown-before (bare_part y.0) (a.parts_of (map bare_part (map (λ y. y.0) ys)))) (y.1, all-parts ys)

  nothing-same : SameEffect (c.otherwise None) (c.otherwise None)
  nothing-same = record { same = λ locals objects. agree-after (Ok Next) (Ok Next) locals objects refl }

  kind-agrees : (y : StmtKind-F ((kind : StmtKind) × SameK kind) ((q : SwitchPart) × SameP q) ((s : Stmt) × SameS s))
      → SameK (roll-StmtKind (map-StmtKind ((kind : StmtKind) × SameK kind) ((q : SwitchPart) × SameP q) ((s : Stmt) × SameS s) StmtKind SwitchPart Stmt (λ y. y.0) (λ y. y.0) (λ y. y.0) y))
  kind-agrees (StmtKind-F.Declare to name value) = unrolls (StmtKind-F.Declare to name value) (λ p. record {
    same = λ locals objects. rw (does-Declare x no_place to name (placeless_option value) locals objects)
        (SameEffect.same (declaration-agrees (type_of w.model to) (type_of x.model to) (ap (λ m. type_of m to) h.model_is) name value) locals objects);
  })
  kind-agrees (StmtKind-F.Assign target op value) = unrolls (StmtKind-F.Assign target op value) (λ p. record {
    same = λ locals objects. rw (does-Assign x no_place (placeless target) op (placeless value) locals objects)
        (SameEffect.same (assignment-agrees target op p value) locals objects);
  })
  kind-agrees (StmtKind-F.Call f args) = unrolls (StmtKind-F.Call f args) (λ p. record {
    same = λ locals objects. rw (does-Call x no_place f (all_grown (trees_of (map bare_expression args))) locals objects)
        (SameEffect.same (call-agrees p f args) locals objects);
  })
  kind-agrees (StmtKind-F.Discard name) = unrolls (StmtKind-F.Discard name) (λ p. record {
    same = λ locals objects. rw (does-Discard x no_place name locals objects)
        (agree-with (shown_at p (read_local name locals)) (shown_at no_place (read_local name locals)) locals objects _ _ (agree-shown p no_place (read_local name locals)) (λ y. agree-after (Ok Next) (Ok Next) locals objects refl));
  })
  kind-agrees StmtKind-F.Empty = unrolls StmtKind-F.Empty (λ p. record { same = λ locals objects. rw (does-Empty x no_place locals objects) (agree-after (Ok Next) (Ok Next) locals objects refl) })
  kind-agrees (StmtKind-F.Block ys) = unrolls (StmtKind-F.Block (map (λ y. y.0) ys)) (λ p. record {
    same = λ locals objects.
        rw (does-Block x no_place (grown_list (a.actions_of (map bare_statement (map (λ y. y.0) ys)))) locals objects)
        (SameEffect.same (block-agree _ _ (sequence-agree _ _ (all-same ys))) locals objects);
  })
  kind-agrees (StmtKind-F.If condition y None) = unrolls (StmtKind-F.If condition y.0 None) (λ p. record {
    same = λ locals objects.
        rw (does-If x no_place (placeless condition) (placeless_stmt y.0) locals objects)
        (SameEffect.same (branch-agrees condition _ _ None None y.1 nothing-same) locals objects);
  })
  kind-agrees (StmtKind-F.If condition y (Some z)) = unrolls (StmtKind-F.If condition y.0 (Some z.0)) (λ p. record {
    same = λ locals objects.
        rw (does-IfElse x no_place (placeless condition) (placeless_stmt y.0) (placeless_stmt z.0) locals objects)
        (SameEffect.same (branch-agrees condition _ _ (Some (e.effect w z.0)) (Some (e.effect x (placeless_stmt z.0))) y.1 z.1) locals objects);
  })
  kind-agrees (StmtKind-F.Return value) = unrolls (StmtKind-F.Return value) (λ p. record {
    same = λ locals objects. rw (does-Return x no_place (placeless_option value) locals objects)
        (SameEffect.same (return-agrees value) locals objects);
  })
  kind-agrees StmtKind-F.Break = unrolls StmtKind-F.Break (λ p. record { same = λ locals objects. rw (does-Break x no_place locals objects) (agree-after (Ok Broken) (Ok Broken) locals objects refl) })
  kind-agrees (StmtKind-F.Switch value ys) = unrolls (StmtKind-F.Switch value (map (λ y. y.0) ys)) (λ p. record {
    same = λ locals objects.
        rw (does-Switch x no_place (placeless value) (grown_parts (a.parts_of (map bare_part (map (λ y. y.0) ys)))) locals objects)
        (SameEffect.same (switch-agrees value _ _ (all-parts ys)) locals objects);
  })

  part-unrolls : (z : SwitchPart-F StmtKind SwitchPart Stmt)
      → SamePart (e.part_step (map-SwitchPart StmtKind SwitchPart Stmt (Place → Effect) Part Effect (e.kind_effect w) (e.part w) (e.effect w) z))
      (e.part x (grown_part (a.part_step (map-SwitchPart StmtKind SwitchPart Stmt Action BarePart Action bare_stmt_kind bare_part bare_statement z))))
      → SameP (roll-SwitchPart z)
  part-unrolls z same = rw (fold-roll-SwitchPart (Place → Effect) Part Effect (e.kind_step w) e.part_step e.stmt_step z, fold-roll-SwitchPart Action BarePart Action a.kind_step a.part_step a.stmt_step z) same

  part-agrees : (y : SwitchPart-F ((kind : StmtKind) × SameK kind) ((q : SwitchPart) × SameP q) ((s : Stmt) × SameS s))
      → SameP (roll-SwitchPart (map-SwitchPart ((kind : StmtKind) × SameK kind) ((q : SwitchPart) × SameP q) ((s : Stmt) × SameS s) StmtKind SwitchPart Stmt (λ y. y.0) (λ y. y.0) (λ y. y.0) y))
  part-agrees (SwitchPart-F.Label value p) = part-unrolls (SwitchPart-F.Label value p) (rw (part-Label x (placeless_option value) no_place) (record { label_is = refl; effect_same = nothing-same }))
  part-agrees (SwitchPart-F.Statement s) = part-unrolls (SwitchPart-F.Statement s.0) (rw (part-Statement x (placeless_stmt s.0)) (record { label_is = refl; effect_same = s.1 }))

  stmt-unrolls : (z : Stmt-F StmtKind SwitchPart Stmt) → SameK z.kind → SameS (roll-Stmt z)
  stmt-unrolls z each = rw (fold-roll-Stmt (Place → Effect) Part Effect (e.kind_step w) e.part_step e.stmt_step z, fold-roll-Stmt Action BarePart Action a.kind_step a.part_step a.stmt_step z) (each z.place)

  -- a statement, and the same with the fixed place everywhere
  pub effect-anywhere : (s : Stmt) → SameS s
  effect-anywhere = ind-Stmt SameK SameP SameS (λ z y is. subst (λ u. SameK (roll-StmtKind u)) is (kind-agrees y)) (λ z y is. subst (λ u. SameP (roll-SwitchPart u)) is (part-agrees y))
      (λ z y is. subst (λ u. SameS (roll-Stmt u)) is (stmt-unrolls (map-Stmt ((kind : StmtKind) × SameK kind) ((q : SwitchPart) × SameP q) ((s : Stmt) × SameS s) StmtKind SwitchPart Stmt (λ y. y.0) (λ y. y.0) (λ y. y.0) y) y.kind.1))

  effects-anywhere : (xs : List Stmt) → AllSame (e.effects_of w xs) (e.effects_of x (grown_list (a.actions_of (map bare_statement xs))))
  effects-anywhere [] = tt
  effects-anywhere (y ∷ ys) = (effect-anywhere y, effects-anywhere ys)

  -- statements one after another
  pub sequence-anywhere : (xs : List Stmt) → SameEffect (sequence (e.effects_of w xs)) (sequence (e.effects_of x (grown_list (a.actions_of (map bare_statement xs)))))
  sequence-anywhere xs = sequence-agree _ _ (effects-anywhere xs)
