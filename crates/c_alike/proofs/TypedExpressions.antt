-- What each form of expressions is for the types, without a fault (ISO/IEC 9899:1999, the constraints of 6.5), from what is declared and what its operands are: one step each.
use Rattle.std.proofs.Common.{◌≡◌, ℕ, ◌<◌, ◌^◌, Bool, true, false, not, ◌&&◌, ◌==◌, List, [], ◌∷◌, ◌++◌, length, Some, None, refl, sym, ap, ap₂, ◌∙◌}
use Rattle.std.specs.Prelude.{⊤}
use Rattle.std.proofs.lemmas.Bool.Decides.{nat_tests}
use Rattle.std.proofs.Common.{arith, append-nil}
use Rattle.std.proofs.lemmas.List.{length-map}
use Rattle.c_text.specs.declared.place.Place.{Place}
use Rattle.c_text.specs.declared.token.Constant.{Constant}
use Rattle.c_text.specs.declared.token.IntType.{IntType}
use Rattle.c_text.specs.declared.token.IntType.TheVariants as t
use Rattle.c_text.specs.declared.token.Spelled.{Spelled}
use Rattle.c_tree.specs.declared.expression.BinaryOp.{BinaryOp}
use Rattle.c_tree.specs.declared.expression.BinaryOp.TheVariants as o
use Rattle.c_tree.specs.declared.expression.Callee.TheVariants.{Name}
use Rattle.c_tree.specs.declared.expression.Expr.{Expr}
use Rattle.c_tree.specs.declared.expression.ExprKind.TheOpen.{ExprKind-F}
use Rattle.c_tree.specs.declared.expression.ExprKind.TheVariants as k
use Rattle.c_tree.specs.declared.expression.UnaryOp.{UnaryOp}
use Rattle.c_tree.specs.declared.item.CType.{CType}
use Rattle.c_tree.specs.declared.item.CType.TheVariants.{Integer, Pointer}
use Rattle.c_tree.specs.declared.item.Field.{Field}
use Rattle.c_tree.specs.declared.item.Function.{Function}
use Rattle.c_tree.specs.declared.item.Target.{Target}
use Rattle.c_tree.specs.declared.item.Target.TheVariants.{Byte, Struct}
use Rattle.cg_out.specs.Words.{look_up}
use Rattle.c_widths.specs.DataModel.{DataModel}
use Rattle.c_widths.specs.IntegerType.{type_of}
use Rattle.c_widths.specs.ConstantType.{constant_type}
use Rattle.c_operators.proofs.Models.{IsOneOf}
use Rattle.c_operators.proofs.Numbers.{holds-fits, fits-Int, fits-UnsignedInt}
use Rattle.c_types.specs.Scope.{Scope, type_named}
use Rattle.c_types.specs.Setting.{Setting, declared_by}
use Rattle.c_types.specs.ExpressionTypes.{Sort, sort_of, Typing, number_misfit, compares_pointer, binary_found, operand_wanted, kind_step, found, null_pointer, number_found, an_integer, anything, Wanted, unary_type, binary_type, takes_pointer, result_sort, integer_type, is_equality, typing, all_arguments, call_found, callee_found, called, misfit}
use Rattle.c_effect.proofs.Equations.{node}
use Rattle.c_alike.proofs.TypedNodes.{types-Constant, types-Name, types-Null, types-Member, types-Element, types-Call, types-Unary, types-Cast, types-Binary, types-Bracket}

-- ---- constants

pub int-constant : (m : DataModel) → IsOneOf m → (n : ℕ) → n < 2 ^ 31 → constant_type m (record { value = n; base = 10; unsigned = false; longs = 0 }) ≡ Some t.Int
unfolding constant_type
int-constant m one n h = rw (holds-fits m t.Int n (fits-Int m one n 31 h (omega arith))) refl

pub unsigned-constant : (m : DataModel) → IsOneOf m → (n base : ℕ) → n < 2 ^ 32 → constant_type m (record { value = n; base = base; unsigned = true; longs = 0 }) ≡ Some t.UnsignedInt
unfolding constant_type
unsigned-constant m one n base h = rw (holds-fits m t.UnsignedInt n (fits-UnsignedInt m one n 32 h (omega arith))) refl

-- ---- a function that may be called (6.5.2.2): of numbers alone, and it calls nothing

pub record MayCall (s : Setting) (scope : Scope) (name : List ℕ) (count : ℕ) (returns : CType) : Type 0 where
  pub function : Function
  -- no local hides it
  pub shows : type_named name scope ≡ None
  pub declared : s.function name ≡ Some function
  pub defined : s.calls name ≡ Some false
  pub gives : function.returns ≡ returns
  pub takes : length function.params ≡ count
  pub numbers : takes_pointer function.params ≡ false

pub and-false : (b : Bool) → (b && false) ≡ false
and-false true = refl
and-false false = refl

counts : (m n : ℕ) → m ≡ n → not (m == n) ≡ false
counts m n h = grind (arith, nat_tests)

module _ (s : Setting) (scope : Scope) where
  -- an expression is a number of a type, and has no fault
  pub record IsNumber (x : Expr) (type : IntType) : Type 0 where
    pub wanted : typing s x an_integer scope ≡ number_found (Some type) []
    pub plain : typing s x anything scope ≡ number_found (Some type) []

  -- ---- constants and names (6.5.1)

  pub typed-Constant : (p : Place) (c : Constant) (type : IntType) → constant_type s.model c ≡ Some type → IsNumber (node p (k.Constant c)) type
  typed-Constant p c type h = record {
    wanted = types-Constant s p c an_integer scope ∙ rw h refl;
    plain = types-Constant s p c anything scope ∙ rw h refl;
  }

  pub typed-int : IsOneOf s.model → (p : Place) (n : ℕ) → n < 2 ^ 31 → IsNumber (node p (k.Constant (record { value = n; base = 10; unsigned = false; longs = 0 }))) t.Int
  typed-int one p n h = typed-Constant p _ t.Int (int-constant s.model one n h)

  pub typed-unsigned : IsOneOf s.model → (p : Place) (n base : ℕ) → n < 2 ^ 32 → IsNumber (node p (k.Constant (record { value = n; base = base; unsigned = true; longs = 0 }))) t.UnsignedInt
  typed-unsigned one p n base h = typed-Constant p _ t.UnsignedInt (unsigned-constant s.model one n base h)

  -- a parameter or a local
  pub typed-name : (p : Place) (name : List ℕ) (kind : Spelled) → type_named name scope ≡ Some (Integer kind) → IsNumber (node p (k.Name name)) (type_of s.model kind)
  typed-name p name kind h = record {
    wanted = types-Name s p name an_integer scope ∙ rw h refl;
    plain = types-Name s p name anything scope ∙ rw h refl;
  }

  -- ---- elements and members (6.5.2.1, 6.5.2.3)

  pub typed-element : (p : Place) (base : List ℕ) (index : Expr) (type : IntType) (constant : Bool) → type_named base scope ≡ Some (Pointer Byte constant) → IsNumber index type
      → IsNumber (node p (k.Element base index)) t.UnsignedChar
  typed-element p base index type constant h i = record {
    wanted = types-Element s p base index an_integer scope ∙ rw (h, i.wanted) refl;
    plain = types-Element s p base index anything scope ∙ rw (h, i.wanted) refl;
  }

  pub typed-member : (p : Place) (base field tag : List ℕ) (constant : Bool) (fields : List Field) (kind : Spelled)
      → type_named base scope ≡ Some (Pointer (Struct tag) constant) → s.fields tag ≡ Some fields → look_up field (declared_by fields) ≡ Some (Integer kind)
      → IsNumber (node p (k.Member base field)) (type_of s.model kind)
  typed-member p base field tag constant fields kind h has is = record {
    wanted = types-Member s p base field an_integer scope ∙ rw (h, has, is) refl;
    plain = types-Member s p base field anything scope ∙ rw (h, has, is) refl;
  }

  -- ---- operators (6.5.3 to 6.5.14)

  pub typed-bracket : (p : Place) (x : Expr) (type : IntType) → IsNumber x type → IsNumber (node p (k.Bracket x)) type
  typed-bracket p x type h = record {
    wanted = types-Bracket s p x an_integer scope ∙ rw (h.plain) refl;
    plain = types-Bracket s p x anything scope ∙ rw (h.plain) refl;
  }

  pub typed-cast : (p : Place) (to : Spelled) (x : Expr) (type : IntType) → IsNumber x type → IsNumber (node p (k.Cast to x)) (type_of s.model to)
  typed-cast p to x type h = record {
    wanted = types-Cast s p to x an_integer scope ∙ rw (h.wanted) refl;
    plain = types-Cast s p to x anything scope ∙ rw (h.wanted) refl;
  }

  -- minus and its like promote, and `!` is an int: `unary_type`
  pub typed-unary : (p : Place) (op : UnaryOp) (x : Expr) (type given : IntType) → IsNumber x type → unary_type s.model op (Some type) ≡ Some given → IsNumber (node p (k.Unary op x)) given
  typed-unary p op x type given h is = record {
    wanted = types-Unary s p op x an_integer scope ∙ rw (h.wanted, is) refl;
    plain = types-Unary s p op x anything scope ∙ rw (h.wanted, is) refl;
  }

  -- of arithmetic the common type, of shifts the promoted left one, of tests an int: `binary_type`
  pub typed-binary : (p : Place) (op : BinaryOp) (left right : Expr) (a b given : IntType) → IsNumber left a → IsNumber right b → binary_type s.model op (Some a) (Some b) ≡ Some given
      → IsNumber (node p (k.Binary op left right)) given
  typed-binary p op left right a b given l r is = record {
    wanted = types-Binary s p op left right an_integer scope ∙ rw (l.plain, and-false (is_equality op), l.wanted, r.wanted, is) refl;
    plain = types-Binary s p op left right anything scope ∙ rw (l.plain, and-false (is_equality op), l.wanted, r.wanted, is) refl;
  }

  tests-null : (l r : Typing) (p : Place) (wanted : Wanted) (sort : Sort) → compares_pointer o.Equal sort null_pointer ≡ true → l anything scope ≡ found sort None [] → r anything scope ≡ found null_pointer None []
      → number_misfit wanted p ≡ [] → kind_step s (ExprKind-F.Binary o.Equal l r) p wanted scope ≡ number_found (Some t.Int) []
  tests-null l r p wanted sort c hl hr fits =
      let compares : compares_pointer o.Equal (l anything scope).sort (r anything scope).sort ≡ true = ap₂ (λ a b. compares_pointer o.Equal a b) (ap (λ f. f.sort) hl) (ap (λ f. f.sort) hr) ∙ c in
      ap (λ b. binary_found s.model o.Equal wanted p (l (operand_wanted b) scope) (r (operand_wanted b) scope)) compares
      ∙ rw (hl, hr, fits) refl

  pointer-named : (p : Place) (name : List ℕ) (target : Target) (constant : Bool) → type_named name scope ≡ Some (Pointer target constant)
      → typing s (node p (k.Name name)) anything scope ≡ found (sort_of (Pointer target constant)) None []
  pointer-named p name target constant h = types-Name s p name anything scope ∙ rw h refl

  null-found : (p : Place) → typing s (node p k.Null) anything scope ≡ found null_pointer None []
  null-found p = types-Null s p anything scope

  pointer-compares : (target : Target) (constant : Bool) → compares_pointer o.Equal (sort_of (Pointer target constant)) null_pointer ≡ true
  pointer-compares Byte constant = refl
  pointer-compares (Struct tag) constant = refl

  -- a pointer against NULL (6.5.9)
  pub typed-null_test : (p q r : Place) (name : List ℕ) (target : Target) (constant : Bool) → type_named name scope ≡ Some (Pointer target constant)
      → IsNumber (node p (k.Binary o.Equal (node q (k.Name name)) (node r k.Null))) t.Int
  typed-null_test p q r name target constant h =
      let at : (wanted : Wanted) → number_misfit wanted p ≡ [] → typing s (node p (k.Binary o.Equal (node q (k.Name name)) (node r k.Null))) wanted scope ≡ number_found (Some t.Int) [] = λ wanted fits.
      types-Binary s p o.Equal _ _ wanted scope
      ∙ tests-null (typing s (node q (k.Name name))) (typing s (node r k.Null)) p wanted (sort_of (Pointer target constant)) (pointer-compares target constant) (pointer-named q name target constant h) (null-found r) fits in
      record { wanted = at an_integer refl; plain = at anything refl }

  -- ---- calls (6.5.2.2)

  -- each argument is a number
  abbrev pub AllNumbers : List Expr → Type 0
  AllNumbers [] = ⊤
  AllNumbers (x ∷ xs) = ((type : IntType) × IsNumber x type) × AllNumbers xs

  no-argument-faults : (xs : List Expr) → AllNumbers xs → all_arguments s xs scope ≡ []
  no-argument-faults [] h = refl
  no-argument-faults (x ∷ xs) h = rw ((h.0.1).wanted, no-argument-faults xs h.1) refl

  -- what a call finds that may be made
  pub found-call : (p : Place) (name : List ℕ) (args : List Expr) (returns : CType) (wanted : Wanted) → MayCall s scope name (length args) returns → AllNumbers args
      → call_found (callee_found (called s (Name name) (length args) p scope) wanted p) (all_arguments s args scope)
      ≡ found (result_sort returns) (integer_type s.model returns) (misfit wanted (result_sort returns) p)
  found-call p name args returns wanted may xs =
      rw (may.shows, may.declared, may.defined, may.numbers, ← may.gives, counts (length args) (length may.function.params) (sym may.takes), no-argument-faults args xs)
      (ap (found (result_sort may.function.returns) (integer_type s.model may.function.returns)) (append-nil (misfit wanted (result_sort may.function.returns) p ++ []) ∙ append-nil (misfit wanted (result_sort may.function.returns) p)))

  pub typed-call : (p : Place) (name : List ℕ) (args : List Expr) (kind : Spelled) → MayCall s scope name (length args) (Integer kind) → AllNumbers args
      → IsNumber (node p (k.Call (Name name) args)) (type_of s.model kind)
  typed-call p name args kind may xs = record {
    wanted = types-Call s p (Name name) args an_integer scope ∙ rw (length-map args (typing s)) (found-call p name args (Integer kind) an_integer may xs);
    plain = types-Call s p (Name name) args anything scope ∙ rw (length-map args (typing s)) (found-call p name args (Integer kind) anything may xs);
  }
