-- A worked helper, by the steps and not by computation: for every model, width and number.
use Rattle.std.proofs.Common.{◌≡◌, ℕ, ◌*◌, ◌%◌, ◌^◌, ◌<◌, true, false, List, [], ◌∷◌, Some, refl, ap, ◌∙◌, arith, Ok, pos, inl}
use Rattle.std.specs.Prelude.{codes, bit_and}
use Rattle.std.proofs.lemmas.Nat.{and_le_l}
use Rattle.c_text.specs.declared.place.Place.{Place}
use Rattle.c_text.specs.declared.token.IntType.TheVariants as t
use Rattle.c_text.specs.declared.token.Spelled.{Spelled}
use Rattle.c_text.specs.declared.token.Spelled.TheVariants.{Exact}
use Rattle.c_tree.specs.declared.expression.BinaryOp.TheVariants as o
use Rattle.c_tree.specs.declared.expression.Expr.{Expr}
use Rattle.c_tree.specs.declared.expression.ExprKind.TheVariants as k
use Rattle.c_tree.specs.declared.item.CType.TheVariants as c
use Rattle.c_tree.specs.declared.item.Field.{Field}
use Rattle.c_tree.specs.declared.item.Function.{Function}
use Rattle.c_tree.specs.declared.statement.StmtKind.TheVariants as s
use Rattle.c_widths.specs.DataModel.{DataModel}
use Rattle.c_widths.specs.IntegerType.{exact_type}
use Rattle.c_widths.specs.CommonType.{common_promoted}
use Rattle.c_operators.specs.Value.{typed}
use Rattle.c_operators.proofs.Models.{IsOneOf}
use Rattle.c_operators.proofs.Numbers.{low-bits, fits-Int, operate-BitAnd, promote-UnsignedChar}
use Rattle.c_operators.proofs.Exact.{IsWidth, unsigned-at, exact-byte, exact-fits, shifted}
use Rattle.c_effect.specs.declared.state.Arg.{Arg}
use Rattle.c_effect.specs.declared.state.Arg.TheVariants as arg
use Rattle.c_effect.specs.World.{World, world, no_calls}
use Rattle.c_effect.specs.FunctionCall.{run_in, ended}
use Rattle.c_effect.proofs.Equations.{node, stmt}
use Rattle.c_effect.proofs.Expressions.{Gives, gives-Name, gives-Binary, gives-Bracket, gives-Cast}
use Rattle.c_effect.proofs.Locals.{reads-number}
use Rattle.c_effect.proofs.Calls.{parameters, runs-return}

abbrev pub at : Place
at = record { header = false; line = 1; start = 0; end = 0 }

abbrev pub byte : Spelled
byte = Exact 8 false

abbrev pub name : List ℕ → Expr
name n = node at (k.Name n)

abbrev pub param : Spelled → List ℕ → Field
param type n = record { kind = c.Integer type; name = n; place = at }

-- (uint8_t)(value << shift)
abbrev pub low_byte : Expr
low_byte = node at (k.Cast byte (node at (k.Bracket (node at (k.Binary o.ShiftLeft (name (codes "value")) (name (codes "shift")))))))

-- (uint8_t)((uint8_t)(value << shift) & mask)
abbrev pub masked : Expr
masked = node at (k.Cast byte (node at (k.Bracket (node at (k.Binary o.BitAnd low_byte (name (codes "mask")))))))

-- uint8_t left_shift(uintW_t value, uint8_t shift, uint8_t mask)
abbrev pub helper : ℕ → Function
helper width = record {
  fixed = true;
  returns = c.Integer byte;
  name = codes "left_shift";
  params = param (Exact width false) (codes "value") ∷ param byte (codes "shift") ∷ param byte (codes "mask") ∷ [];
  body = Some (stmt at (s.Return (Some masked)) ∷ []);
  place = at;
  close = at;
}

abbrev pub arguments : ℕ → ℕ → ℕ → List Arg
arguments x n mask = arg.Integer (pos x) ∷ arg.Integer (pos n) ∷ arg.Integer (pos mask) ∷ []

module _ (m : DataModel) (one : IsOneOf m) (table : List (List ℕ × List Field)) (width x n mask : ℕ) (is : IsWidth width) (hx : x < 2 ^ width) (hn : n < 8) (hm : mask < 2 ^ 8) where
  abbrev pub alone : World
  alone = world m table no_calls

  value-is : Gives alone (parameters m (helper width) (arguments x n mask)) [] (name (codes "value")) (exact_type m width false) (pos x)
  value-is = gives-Name alone _ [] at _ _ _ (reads-number _ _ _ _ (rw (exact-fits m one width x is hx) refl))

  shift-is : Gives alone (parameters m (helper width) (arguments x n mask)) [] (name (codes "shift")) (exact_type m 8 false) (pos n)
  shift-is = gives-Name alone _ [] at _ _ _ (reads-number _ _ _ _ (rw (exact-fits m one 8 n (inl refl) (omega arith)) refl))

  mask-is : Gives alone (parameters m (helper width) (arguments x n mask)) [] (name (codes "mask")) (exact_type m 8 false) (pos mask)
  mask-is = gives-Name alone _ [] at _ _ _ (reads-number _ _ _ _ (rw (exact-fits m one 8 mask (inl refl) hm) refl))

  low-is : Gives alone (parameters m (helper width) (arguments x n mask)) [] low_byte (exact_type m 8 false) (pos (x * 2 ^ n % 2 ^ 8))
  low-is =
      let r = shifted m one width x n is hx hn in
      gives-Cast alone _ [] at byte _ r.kind (pos r.number) (pos (x * 2 ^ n % 2 ^ 8))
      (gives-Bracket alone _ [] at _ _ _ (gives-Binary alone _ [] at o.ShiftLeft _ _ _ _ r.kind _ _ (pos r.number) refl value-is shift-is (rw (exact-byte m one) r.is)))
      ((unsigned-at m one 8 (inl refl)).converts (pos r.number) ∙ low-bits 8 r.number ∙ ap pos r.low)

  both : common_promoted m (exact_type m 8 false) (exact_type m 8 false) ≡ t.Int
  both = rw (exact-byte m one, promote-UnsignedChar m one) refl

  masked-is : Gives alone (parameters m (helper width) (arguments x n mask)) [] masked (exact_type m 8 false) (pos (bit_and (x * 2 ^ n % 2 ^ 8) mask))
  masked-is =
      let low : x * 2 ^ n % 2 ^ 8 < 2 ^ 8 = omega arith in
      let small : bit_and (x * 2 ^ n % 2 ^ 8) mask < 2 ^ 8 = omega (arith, and_le_l (x * 2 ^ n % 2 ^ 8) mask) in
      gives-Cast alone _ [] at byte _ t.Int (pos (bit_and (x * 2 ^ n % 2 ^ 8) mask)) (pos (bit_and (x * 2 ^ n % 2 ^ 8) mask))
      (gives-Bracket alone _ [] at _ _ _ (gives-Binary alone _ [] at o.BitAnd _ _ _ _ t.Int _ _ (pos (bit_and (x * 2 ^ n % 2 ^ 8) mask)) refl low-is mask-is
      (operate-BitAnd m _ _ t.Int _ _ both (fits-Int m one _ 8 low (omega arith)) (fits-Int m one _ 8 hm (omega arith)))))
      (exact-fits m one 8 _ (inl refl) small)

  pub helper-gives : run_in alone (helper width) (arguments x n mask) [] ≡ ended (Ok (Some (typed (exact_type m 8 false) (pos (bit_and (x * 2 ^ n % 2 ^ 8) mask))))) []
  helper-gives =
      let small : bit_and (x * 2 ^ n % 2 ^ 8) mask < 2 ^ 8 = omega (arith, and_le_l (x * 2 ^ n % 2 ^ 8) mask) in
      runs-return alone (helper width) at masked (arguments x n mask) [] byte (exact_type m 8 false) _ _ refl refl masked-is (exact-fits m one 8 _ (inl refl) small)
