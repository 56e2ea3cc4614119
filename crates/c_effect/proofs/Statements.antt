-- How statements end (ISO/IEC 9899:1999, 6.8), from what their expressions give and how their parts end: one step each.
use Rattle.std.proofs.Common.{◌≡◌, ℕ, ◌<◌, ◌≤◌, ◌^◌, true, false, List, [], ◌∷◌, length, Option, Some, None, ◌∙◌, refl, arith, Ok, pos, ℤ, Result}
use Rattle.std.specs.Prelude.{slice_get, slice_set, nat_lt, nat_le, bit_or}
use Rattle.std.proofs.Math.Nat.{mod-eq_of_lt}
use Rattle.std.proofs.lemmas.Bool.Decides.{nat_tests}
use Rattle.std.proofs.lemmas.Nat.{or_lt}
use Rattle.std.proofs.lemmas.Option.{slice_get_within}
use Rattle.c_text.specs.declared.place.Place.{Place}
use Rattle.c_text.specs.declared.token.IntType.{IntType}
use Rattle.c_text.specs.declared.token.IntType.TheVariants as t
use Rattle.c_text.specs.declared.token.Spelled.{Spelled}
use Rattle.c_tree.specs.declared.expression.BinaryOp.{BinaryOp}
use Rattle.c_tree.specs.declared.expression.Callee.TheVariants.{Memset}
use Rattle.c_tree.specs.declared.expression.Expr.{Expr}
use Rattle.c_tree.specs.declared.expression.ExprKind.TheVariants as k
use Rattle.c_tree.specs.declared.statement.AssignOp.{AssignOp}
use Rattle.c_tree.specs.declared.statement.AssignOp.TheVariants as a
use Rattle.c_tree.specs.declared.statement.Stmt.{Stmt}
use Rattle.c_tree.specs.declared.statement.StmtKind.TheVariants as s
use Rattle.c_mem.specs.declared.objects.Object.{Object}
use Rattle.c_mem.specs.declared.objects.Object.TheVariants.{Bytes, Fields}
use Rattle.c_mem.specs.declared.objects.Pointer.TheVariants.{At}
use Rattle.c_mem.specs.Cells.{CellsOf, filled}
use Rattle.c_mem.specs.Objects.{byte_of}
use Rattle.c_widths.specs.IntegerType.{type_of, size_type}
use Rattle.c_widths.specs.Conversion.{convert}
use Rattle.c_operators.specs.declared.value.Value.{Value}
use Rattle.c_operators.specs.declared.value.Value.TheVariants.{Pointer as pointer}
use Rattle.c_operators.specs.Value.{typed, is_true}
use Rattle.c_operators.specs.Operator.{operate}
use Rattle.c_operators.proofs.Models.{IsOneOf}
use Rattle.c_operators.proofs.Numbers.{convert-fits, fits-Int, unsigned_char-fits, operate-BitOr-bytes}
use Rattle.c_effect.specs.declared.state.Flow.{Flow}
use Rattle.c_effect.specs.declared.state.Flow.TheVariants.{Next, Broken, Returned}
use Rattle.c_effect.specs.declared.state.Held.TheVariants.{Integer as Number}
use Rattle.c_effect.specs.declared.state.Stop.{Stop}
use Rattle.c_effect.specs.Locals.{Block, held_by, read_local, set_local, declare_local, opened, closed}
use Rattle.c_effect.specs.World.{World}
use Rattle.c_effect.specs.ExpressionValue.{value}
use Rattle.c_effect.specs.Ending.{after, sequence}
use Rattle.c_effect.specs.Storing.{operator_of}
use Rattle.c_effect.specs.StatementEffect.{effect, effects_of}
use Rattle.c_effect.proofs.Equations.{node, stmt, at-Name, does-Declare, does-Assign, assigns-Name, assigns-Element, assigns-Member, does-Call, does-Discard, does-Empty, does-Block, does-If, does-IfElse, does-Return, does-Break}
use Rattle.c_effect.proofs.Expressions.{Gives, AtBytes, AtField}
use Rattle.c_effect.proofs.Locals.{reads-number}

-- a byte is stored as it is
pub byte-fits : (n : ℕ) → n < 2 ^ 8 → byte_of (pos n) ≡ n
byte-fits n h = mod-eq_of_lt h

module _ (w : World) (locals : List Block) (objects : List Object) where
  -- a statement ends
  pub record Ends (x : Stmt) (flow : Result Flow Stop) (left : List Block) (new : List Object) : Type 0 where
    pub ends : effect w x locals objects ≡ after flow left new

  -- ---- assignments (6.5.16)

  -- name = right;
  pub sets-local : (p at : Place) (name : List ℕ) (right : Expr) (kind from : IntType) (old : Option ℤ) (z y : ℤ)
      → held_by name locals ≡ Some (Number kind old) → Gives w locals objects right from z → convert w.model kind z ≡ y
      → Ends (stmt p (s.Assign (node at (k.Name name)) a.Set right)) (Ok Next) (set_local name (Number kind (Some y)) locals) objects
  sets-local p at name right kind from old z y there h c =
      record { ends = does-Assign w p _ a.Set right locals objects ∙ rw (assigns-Name w at name a.Set p right locals objects, h.gives, there, c) refl }

  -- name op= right;
  pub changes-local : (p at : Place) (name : List ℕ) (op : AssignOp) (by : BinaryOp) (right : Expr) (kind from to : IntType) (old z x y : ℤ)
      → operator_of op ≡ Some by → held_by name locals ≡ Some (Number kind (Some old)) → Gives w locals objects right from z
      → operate w.model by (typed kind old) (typed from z) ≡ Ok (typed to x) → convert w.model kind x ≡ y
      → Ends (stmt p (s.Assign (node at (k.Name name)) op right)) (Ok Next) (set_local name (Number kind (Some y)) locals) objects
  changes-local p at name op by right kind from to old z x y is there h g c =
      record { ends = does-Assign w p _ op right locals objects ∙ rw (assigns-Name w at name op p right locals objects, h.gives, there, is, reads-number name kind old locals there, g, c) refl }

  -- base[index] = right;
  pub sets-element : (p at : Place) (base : List ℕ) (index right : Expr) (kind from : IntType) (n i b : ℕ) (z : ℤ) (cells : CellsOf ℕ)
      → AtBytes w locals objects base n cells → Gives w locals objects index kind (pos i) → Gives w locals objects right from z
      → convert w.model t.UnsignedChar z ≡ pos b → b < 2 ^ 8 → i < length cells
      → Ends (stmt p (s.Assign (node at (k.Element base index)) a.Set right)) (Ok Next) locals (slice_set objects n (Bytes (slice_set cells i (Some b))))
  sets-element p at base index right kind from n i b z cells f hi h c small within =
      let lt : nat_lt i (length cells) ≡ true = grind (arith, nat_tests) in
      record { ends = does-Assign w p _ a.Set right locals objects ∙ rw (assigns-Element w at base index a.Set p right locals objects, hi.gives, h.gives, f.points, c, f.there, lt, byte-fits b small) refl }

  -- base[index] |= right; of two bytes
  pub ors-element : IsOneOf w.model → (p at : Place) (base : List ℕ) (index right : Expr) (kind : IntType) (n i old b : ℕ) (cells : CellsOf ℕ)
      → AtBytes w locals objects base n cells → Gives w locals objects index kind (pos i) → Gives w locals objects right t.UnsignedChar (pos b)
      → slice_get cells i ≡ Some (Some old) → old < 2 ^ 8 → b < 2 ^ 8
      → Ends (stmt p (s.Assign (node at (k.Element base index)) a.BitOr right)) (Ok Next) locals (slice_set objects n (Bytes (slice_set cells i (Some (bit_or old b)))))
  ors-element one p at base index right kind n i old b cells f hi h has lo lb =
      let within : i < length cells = slice_get_within cells i (Some old) has in
      let lt : nat_lt i (length cells) ≡ true = grind (arith, nat_tests) in
      let small : bit_or old b < 2 ^ 8 = or_lt 8 old b lo lb in
      record {
        ends = does-Assign w p _ a.BitOr right locals objects
            ∙ rw (assigns-Element w at base index a.BitOr p right locals objects, hi.gives, h.gives, f.points, f.there, has, operate-BitOr-bytes w.model one old b lo lb, unsigned_char-fits w.model (bit_or old b) small, lt, byte-fits (bit_or old b) small) refl;
      }

  -- base->field = right;
  pub sets-member : (p at : Place) (base field : List ℕ) (n : ℕ) (tag : List ℕ) (cells : CellsOf ℤ) (i : ℕ) (kind : IntType) (right : Expr) (from : IntType) (z y : ℤ)
      → AtField w locals objects base field n tag cells i kind → Gives w locals objects right from z → convert w.model kind z ≡ y → i < length cells
      → Ends (stmt p (s.Assign (node at (k.Member base field)) a.Set right)) (Ok Next) locals (slice_set objects n (Fields tag (slice_set cells i (Some y))))
  sets-member p at base field n tag cells i kind right from z y f h c within =
      let lt : nat_lt i (length cells) ≡ true = grind (arith, nat_tests) in
      record { ends = does-Assign w p _ a.Set right locals objects ∙ rw (assigns-Member w at base field a.Set p right locals objects, h.gives, f.points, f.there, f.is, c, lt) refl }

  -- memset(base, byte, count); the first cells hold the byte (7.21.6.1)
  pub memset-fills : IsOneOf w.model → (p at : Place) (base : List ℕ) (byte count : Expr) (n b len : ℕ) (cells : CellsOf ℕ) (kb kn : IntType)
      → read_local base locals ≡ Ok (pointer (At n)) → slice_get objects n ≡ Some (Bytes cells)
      → Gives w locals objects byte kb (pos b) → b < 2 ^ 8 → Gives w locals objects count kn (pos len) → convert w.model (size_type w.model) (pos len) ≡ pos len → len ≤ length cells
      → Ends (stmt p (s.Call Memset (node at (k.Name base) ∷ byte ∷ count ∷ []))) (Ok Next) locals (slice_set objects n (Bytes (filled cells b len)))
  memset-fills one p at base byte count n b len cells kb kn reads there hb small hn whole le =
      let enough : nat_le len (length cells) ≡ true = grind (arith, nat_tests) in
      record {
        ends = does-Call w p Memset _ locals objects
            ∙ rw (at-Name w at base locals objects, reads, hb.gives, hn.gives, convert-fits w.model t.Int b (fits-Int w.model one b 8 small (omega arith)), byte-fits b small, whole, there, enough) refl;
      }

  -- ---- declarations (6.7.8)

  pub declares : (p : Place) (kind : Spelled) (name : List ℕ)
      → Ends (stmt p (s.Declare kind name None)) (Ok Next) (declare_local name (Number (type_of w.model kind) None) locals) objects
  declares p kind name = record { ends = does-Declare w p kind name None locals objects }

  -- ---- statements that choose, and blocks (6.8.2, 6.8.4.1)

  pub ends-If-taken : (p : Place) (c : Expr) (y : Stmt) (x : Value) (flow : Result Flow Stop) (left : List Block) (new : List Object)
      → value w c locals objects ≡ Ok x → is_true x ≡ true → Ends y flow left new → Ends (stmt p (s.If c y None)) flow left new
  ends-If-taken p c y x flow left new h is g = record { ends = does-If w p c y locals objects ∙ rw (h, is) g.ends }

  pub ends-If-passed : (p : Place) (c : Expr) (y : Stmt) (x : Value) → value w c locals objects ≡ Ok x → is_true x ≡ false
      → Ends (stmt p (s.If c y None)) (Ok Next) locals objects
  ends-If-passed p c y x h is = record { ends = does-If w p c y locals objects ∙ rw (h, is) refl }

  pub ends-IfElse-taken : (p : Place) (c : Expr) (y other : Stmt) (x : Value) (flow : Result Flow Stop) (left : List Block) (new : List Object)
      → value w c locals objects ≡ Ok x → is_true x ≡ true → Ends y flow left new → Ends (stmt p (s.If c y (Some other))) flow left new
  ends-IfElse-taken p c y other x flow left new h is g = record { ends = does-IfElse w p c y other locals objects ∙ rw (h, is) g.ends }

  pub ends-IfElse-passed : (p : Place) (c : Expr) (y other : Stmt) (x : Value) (flow : Result Flow Stop) (left : List Block) (new : List Object)
      → value w c locals objects ≡ Ok x → is_true x ≡ false → Ends other flow left new → Ends (stmt p (s.If c y (Some other))) flow left new
  ends-IfElse-passed p c y other x flow left new h is g = record { ends = does-IfElse w p c y other locals objects ∙ rw (h, is) g.ends }

  pub ends-Block : (p : Place) (xs : List Stmt) (flow : Result Flow Stop) (left : List Block) (new : List Object)
      → sequence (effects_of w xs) (opened locals) objects ≡ after flow left new → Ends (stmt p (s.Block xs)) flow (closed left) new
  ends-Block p xs flow left new h = record { ends = does-Block w p xs locals objects ∙ rw h refl }

  -- ---- the others

  pub ends-Empty : (p : Place) → Ends (stmt p s.Empty) (Ok Next) locals objects
  ends-Empty p = record { ends = does-Empty w p locals objects }

  pub ends-Break : (p : Place) → Ends (stmt p s.Break) (Ok Broken) locals objects
  ends-Break p = record { ends = does-Break w p locals objects }

  pub ends-Return : (p : Place) (x : Expr) (kind : IntType) (z : ℤ) → Gives w locals objects x kind z → Ends (stmt p (s.Return (Some x))) (Ok (Returned (Some (typed kind z)))) locals objects
  ends-Return p x kind z h = record { ends = does-Return w p (Some x) locals objects ∙ rw h.gives refl }

  pub discards : (p : Place) (name : List ℕ) (x : Value) → read_local name locals ≡ Ok x → Ends (stmt p (s.Discard name)) (Ok Next) locals objects
  discards p name x h = record { ends = does-Discard w p name locals objects ∙ rw h refl }

-- kind name = x; the local is there without a value while its own is taken
pub declares-value : (w : World) (locals : List Block) (objects : List Object) (p : Place) (kind : Spelled) (name : List ℕ) (x : Expr) (from : IntType) (z y : ℤ)
    → Gives w (declare_local name (Number (type_of w.model kind) None) locals) objects x from z → convert w.model (type_of w.model kind) z ≡ y
    → Ends w locals objects (stmt p (s.Declare kind name (Some x))) (Ok Next)
    (set_local name (Number (type_of w.model kind) (Some y)) (declare_local name (Number (type_of w.model kind) None) locals)) objects
declares-value w locals objects p kind name x from z y h c = record { ends = does-Declare w p kind name (Some x) locals objects ∙ rw (h.gives, c) refl }
