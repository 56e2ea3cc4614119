-- The value of an expression does not hang on its places, but for the place of a stop.
use Rattle.std.proofs.Common.{◌≡◌, ℕ, Bool, true, false, List, [], ◌∷◌, map, Option, Some, None, refl, sym, ap, subst, ◌∙◌, Result, Ok, Err, pos}
use Rattle.std.specs.Prelude.{if◌then◌else◌}
use Rattle.c_text.specs.declared.place.Place.{Place}
use Rattle.c_tree.specs.declared.expression.BinaryOp.{BinaryOp}
use Rattle.c_tree.specs.declared.expression.Callee.{Callee}
use Rattle.c_tree.specs.declared.expression.Callee.TheVariants.{Name, Memset}
use Rattle.c_tree.specs.declared.expression.Expr.{Expr, Expr-F, ind-Expr, fold-roll-Expr, roll-Expr, map-Expr}
use Rattle.c_tree.specs.declared.expression.ExprKind.{ExprKind, fold-roll-ExprKind, roll-ExprKind, map-ExprKind}
use Rattle.c_tree.specs.declared.expression.ExprKind.TheOpen.{ExprKind-F}
use Rattle.c_tree.specs.BareExpression as tree
use Rattle.c_tree.specs.BareExpression.{Tree, trees_of, bare_expression}
use Rattle.c_mem.specs.declared.undefined.Undefined.{Undefined}
use Rattle.c_mem.specs.declared.objects.Object.{Object}
use Rattle.c_mem.specs.declared.objects.Object.TheVariants.{Bytes, Fields}
use Rattle.c_mem.specs.declared.objects.Pointer.{Pointer}
use Rattle.c_mem.specs.Objects.{target, load}
use Rattle.c_operators.specs.declared.value.TypedValue.{TypedValue}
use Rattle.c_operators.specs.declared.value.Value.TheVariants.{Integer}
use Rattle.c_operators.specs.Value.{typed, number_of, is_true}
use Rattle.c_operators.specs.Sign.{signed, constant}
use Rattle.c_operators.specs.Operator.{applied}
use Rattle.cg_out.specs.Words.{◌>>=◌}
use Rattle.c_effect.specs.declared.state.Stop.{Stop}
use Rattle.c_effect.specs.Locals.{Block, read_local, read_pointer}
use Rattle.c_effect.specs.World.{World, shown_at}
use Rattle.c_effect.specs.declared.state.Slot.{Slot}
use Rattle.c_effect.specs.Loading.{slot_named, slot_in, slot_at, element, member}
use Rattle.c_effect.specs.ExpressionValue as v
use Rattle.c_effect.proofs.Equations.{at-Constant, at-Name, at-Null, at-Member, at-Element, at-Call, at-Unary, at-Cast, at-Binary, at-Bracket}
use Rattle.c_effect.proofs.Placeless.{no_place, grown, all_grown, bare_kind, placeless}

-- the same but for the place of a stop
abbrev pub Agree : {A : Type 0} → Result A Stop → Result A Stop → Type 0
Agree (Ok x) (Ok y) = x ≡ y
Agree (Ok x) (Err t) = ⊥
Agree (Err s) (Ok y) = ⊥
Agree (Err s) (Err t) = s.kind ≡ t.kind

pub agree-back : {A : Type 0} (r s : Result A Stop) → Agree r s → Agree s r
agree-back (Ok x) (Ok y) h = sym h
agree-back (Ok x) (Err t) h = absurd h
agree-back (Err s) (Ok y) h = absurd h
agree-back (Err s) (Err t) h = sym h

pub agree-through : {A : Type 0} (r s t : Result A Stop) → Agree r s → Agree s t → Agree r t
agree-through (Ok x) (Ok y) (Ok z) h g = h ∙ g
agree-through (Ok x) (Ok y) (Err t) h g = absurd g
agree-through (Ok x) (Err s) t h g = absurd h
agree-through (Err r) (Ok y) t h g = absurd h
agree-through (Err r) (Err s) (Ok z) h g = absurd g
agree-through (Err r) (Err s) (Err t) h g = h ∙ g

-- ---- agreement goes through what expressions are made of

pub agree-shown : {A : Type 0} (p q : Place) (r : Result A Undefined) → Agree (shown_at p r) (shown_at q r)
agree-shown p q (Ok x) = refl
agree-shown p q (Err kind) = refl

pub agree-integer : (r s : Result TypedValue Stop) → Agree r s → Agree (v.integer r) (v.integer s)
agree-integer (Ok x) (Ok y) h = ap Integer h
agree-integer (Ok x) (Err t) h = h
agree-integer (Err s) (Ok y) h = h
agree-integer (Err s) (Err t) h = h

pub agree-bind : {A B : Type 0} (r s : Result A Stop) (f g : A → Result B Stop) → Agree r s → ((x : A) → Agree (f x) (g x)) → Agree (r >>= f) (s >>= g)
agree-bind (Ok x) (Ok y) f g h each = subst (λ z. Agree (f x) (g z)) h (each x)
agree-bind (Ok x) (Err t) f g h each = absurd h
agree-bind (Err s) (Ok y) f g h each = absurd h
agree-bind (Err s) (Err t) f g h each = h

pub record SameMeaning (f g : v.Meaning) : Type 0 where
  pub same : (locals : List Block) (objects : List Object) → Agree (f locals objects) (g locals objects)

-- two worlds that differ in the places of calls' stops alone
pub record SameWorld (w x : World) : Type 0 where
  pub model_is : x.model ≡ w.model
  pub slots : (tag name : List ℕ) → slot_named x tag name ≡ slot_named w tag name
  pub calls_agree : (p q : Place) (name : List ℕ) (args : List TypedValue) → Agree (w.calls p name args) (x.calls q name args)

module _ (w x : World) (h : SameWorld w x) where
  slot_in-same : (name : List ℕ) (object : Object) → slot_in x name object ≡ slot_in w name object
  slot_in-same name (Bytes cells) = refl
  slot_in-same name (Fields tag cells) = h.slots tag name

  of-target : (name : List ℕ) (found : Result Object Undefined) → (found >>= slot_in x name) ≡ (found >>= slot_in w name)
  of-target name (Ok object) = slot_in-same name object
  of-target name (Err kind) = refl

  pub slot_at-same : (p : Pointer) (name : List ℕ) (objects : List Object) → slot_at x p name objects ≡ slot_at w p name objects
  slot_at-same p name objects = of-target name (target objects p)

  of-pointer : (name : List ℕ) (objects : List Object) (r : Result Pointer Undefined)
      → (r >>= (λ p. slot_at x p name objects >>= (λ s. load objects p (pos (Slot.number s)) >>= (λ z. Ok (typed (Slot.kind s) z)))))
      ≡ (r >>= (λ p. slot_at w p name objects >>= (λ s. load objects p (pos (Slot.number s)) >>= (λ z. Ok (typed (Slot.kind s) z)))))
  of-pointer name objects (Ok p) = rw (slot_at-same p name objects) refl
  of-pointer name objects (Err kind) = refl

  member-same : (base name : List ℕ) (locals : List Block) (objects : List Object) → member x base name locals objects ≡ member w base name locals objects
  member-same base name locals objects = of-pointer name objects (read_pointer base locals)

  abbrev Same : Expr → Type 0
  Same e = SameMeaning (v.value w e) (v.value x (placeless e))

  abbrev SameKind : ExprKind → Type 0
  SameKind kind = (p : Place) → SameMeaning (v.kind_value w kind p) (v.value x (grown (bare_kind kind)))

  all-agree : (args : List ((e : Expr) × Same e)) (locals : List Block) (objects : List Object)
      → Agree (v.all_of (map (v.value w) (map (λ e. e.0) args)) locals objects) (v.values_of x (all_grown (trees_of (map bare_expression (map (λ e. e.0) args)))) locals objects)
  all-agree [] locals objects = refl
  all-agree (a ∷ args) locals objects = agree-bind (v.value w a.0 locals objects) (v.value x (placeless a.0) locals objects) _ _ (a.1.same locals objects) (λ y.
      agree-bind (v.all_of (map (v.value w) (map (λ e. e.0) args)) locals objects) (v.values_of x (all_grown (trees_of (map bare_expression (map (λ e. e.0) args)))) locals objects) _ _ (all-agree args locals objects) (λ ys. refl))

  agree-given : (p q : Place) (y : Option TypedValue) → Agree (v.given p y) (v.given q y)
  agree-given p q (Some y) = refl
  agree-given p q None = refl

  agree-called : (p q : Place) (f : Callee) (xs : List TypedValue) → Agree (v.called w p f xs) (v.called x q f xs)
  agree-called p q (Name f) xs = h.calls_agree p q f xs
  agree-called p q Memset xs = refl

  right-agrees : (d : Option Bool) (f g : v.Meaning) (locals : List Block) (objects : List Object) → Agree (f locals objects) (g locals objects) → Agree (v.by_right d f locals objects) (v.by_right d g locals objects)
  right-agrees (Some b) f g locals objects a = refl
  right-agrees None f g locals objects a = agree-bind (f locals objects) (g locals objects) _ _ a (λ b. refl)

  either-agrees : {A : Type 0} (b : Bool) (r s t u : Result A Stop) → Agree r t → Agree s u → Agree (if b then r else s) (if b then t else u)
  either-agrees true r s t u a c = a
  either-agrees false r s t u a c = c

  binary-agrees : (op : BinaryOp) (p : Place) (f g f2 g2 : v.Meaning) (locals : List Block) (objects : List Object) → Agree (f locals objects) (f2 locals objects) → Agree (g locals objects) (g2 locals objects)
      → Agree (v.binary w.model op p f g locals objects) (v.binary x.model op no_place f2 g2 locals objects)
  binary-agrees op p f g f2 g2 locals objects a b = rw h.model_is (agree-bind (f locals objects) (f2 locals objects) _ _ a (λ y.
      either-agrees (v.is_logical op) _ _ _ _ (right-agrees (v.decided op (is_true y)) g g2 locals objects b)
      (agree-bind (g locals objects) (g2 locals objects) _ _ b (λ z. agree-shown p no_place (applied w.model op y z)))))

  unrolls : (z : ExprKind-F ExprKind Expr)
      → ((p : Place) → SameMeaning (v.kind_step w (map-ExprKind ExprKind Expr (Place → v.Meaning) v.Meaning (v.kind_value w) (v.value w) z) p)
      (v.value x (grown (tree.kind_step (map-ExprKind ExprKind Expr Tree Tree bare_kind bare_expression z)))))
      → SameKind (roll-ExprKind z)
  unrolls z each p = rw (fold-roll-ExprKind (Place → v.Meaning) v.Meaning (v.kind_step w) v.expr_step z, fold-roll-ExprKind Tree Tree tree.kind_step tree.expr_step z) (each p)

  kind-agrees : (y : ExprKind-F ((kind : ExprKind) × SameKind kind) ((e : Expr) × Same e))
      → SameKind (roll-ExprKind (map-ExprKind ((kind : ExprKind) × SameKind kind) ((e : Expr) × Same e) ExprKind Expr (λ e. e.0) (λ e. e.0) y))
  kind-agrees (ExprKind-F.Constant c) = unrolls (ExprKind-F.Constant c) (λ p. record {
    same = λ locals objects.
        rw (at-Constant x no_place c locals objects, h.model_is) (agree-integer _ _ (agree-shown p no_place (constant w.model c)));
  })
  kind-agrees (ExprKind-F.Name name) = unrolls (ExprKind-F.Name name) (λ p. record {
    same = λ locals objects.
        rw (at-Name x no_place name locals objects) (agree-shown p no_place (read_local name locals));
  })
  kind-agrees ExprKind-F.Null = unrolls ExprKind-F.Null (λ p. record { same = λ locals objects. rw (at-Null x no_place locals objects) refl })
  kind-agrees (ExprKind-F.Member base field) = unrolls (ExprKind-F.Member base field) (λ p. record {
    same = λ locals objects.
        rw (at-Member x no_place base field locals objects, member-same base field locals objects) (agree-integer _ _ (agree-shown p no_place (member w base field locals objects)));
  })
  kind-agrees (ExprKind-F.Element base i) = unrolls (ExprKind-F.Element base i.0) (λ p. record {
    same = λ locals objects.
        rw (at-Element x no_place base (placeless i.0) locals objects)
        (agree-bind (v.value w i.0 locals objects) (v.value x (placeless i.0) locals objects) _ _ (i.1.same locals objects) (λ a. agree-integer _ _ (agree-shown p no_place (element base (number_of a).value locals objects))));
  })
  kind-agrees (ExprKind-F.Call f args) = unrolls (ExprKind-F.Call f (map (λ e. e.0) args)) (λ p. record {
    same = λ locals objects.
        rw (at-Call x no_place f (all_grown (trees_of (map bare_expression (map (λ e. e.0) args)))) locals objects)
        (agree-bind (v.all_of (map (v.value w) (map (λ e. e.0) args)) locals objects) (v.values_of x (all_grown (trees_of (map bare_expression (map (λ e. e.0) args)))) locals objects) _ _ (all-agree args locals objects) (λ xs.
        agree-bind (v.called w p f xs) (v.called x no_place f xs) _ _ (agree-called p no_place f xs) (λ y. agree-integer _ _ (agree-given p no_place y))));
  })
  kind-agrees (ExprKind-F.Unary op a) = unrolls (ExprKind-F.Unary op a.0) (λ p. record {
    same = λ locals objects.
        rw (at-Unary x no_place op (placeless a.0) locals objects)
        (agree-bind (v.value w a.0 locals objects) (v.value x (placeless a.0) locals objects) _ _ (a.1.same locals objects) (λ y. rw h.model_is (agree-integer _ _ (agree-shown p no_place (signed w.model op (number_of y))))));
  })
  kind-agrees (ExprKind-F.Cast to a) = unrolls (ExprKind-F.Cast to a.0) (λ p. record {
    same = λ locals objects.
        rw (at-Cast x no_place to (placeless a.0) locals objects)
        (agree-bind (v.value w a.0 locals objects) (v.value x (placeless a.0) locals objects) _ _ (a.1.same locals objects) (λ y. rw h.model_is refl));
  })
  kind-agrees (ExprKind-F.Binary op l r) = unrolls (ExprKind-F.Binary op l.0 r.0) (λ p. record {
    same = λ locals objects.
        rw (at-Binary x no_place op (placeless l.0) (placeless r.0) locals objects)
        (agree-integer _ _ (binary-agrees op p (v.value w l.0) (v.value w r.0) (v.value x (placeless l.0)) (v.value x (placeless r.0)) locals objects (l.1.same locals objects) (r.1.same locals objects)));
  })
  kind-agrees (ExprKind-F.Bracket a) = unrolls (ExprKind-F.Bracket a.0) (λ p. record { same = λ locals objects. rw (at-Bracket x no_place (placeless a.0) locals objects) (a.1.same locals objects) })

  expr-unrolls : (z : Expr-F ExprKind Expr) → SameKind z.kind → Same (roll-Expr z)
  expr-unrolls z each = record {
    same = λ locals objects.
        rw (fold-roll-Expr (Place → v.Meaning) v.Meaning (v.kind_step w) v.expr_step z, fold-roll-Expr Tree Tree tree.kind_step tree.expr_step z) (SameMeaning.same (each z.place) locals objects);
  }

  -- an expression, and the same with the fixed place everywhere
  pub value-anywhere : (e : Expr) → Same e
  value-anywhere = ind-Expr SameKind Same (λ z y is. subst (λ u. SameKind (roll-ExprKind u)) is (kind-agrees y))
      (λ z y is. subst (λ u. Same (roll-Expr u)) is (expr-unrolls (map-Expr ((kind : ExprKind) × SameKind kind) ((e : Expr) × Same e) ExprKind Expr (λ e. e.0) (λ e. e.0) y) y.kind.1))

  pub number-anywhere : (e : Expr) (locals : List Block) (objects : List Object) → Agree (v.number w e locals objects) (v.number x (placeless e) locals objects)
  number-anywhere e locals objects = agree-bind (v.value w e locals objects) (v.value x (placeless e) locals objects) _ _ (SameMeaning.same (value-anywhere e) locals objects) (λ y. refl)

  pub values-anywhere : (args : List Expr) (locals : List Block) (objects : List Object)
      → Agree (v.values_of w args locals objects) (v.values_of x (all_grown (trees_of (map bare_expression args))) locals objects)
  values-anywhere [] locals objects = refl
  values-anywhere (a ∷ args) locals objects = agree-bind (v.value w a locals objects) (v.value x (placeless a) locals objects) _ _ (SameMeaning.same (value-anywhere a) locals objects) (λ y.
      agree-bind (v.values_of w args locals objects) (v.values_of x (all_grown (trees_of (map bare_expression args))) locals objects) _ _ (values-anywhere args locals objects) (λ ys. refl))
