-- The statement that extends the sign of a signal in its local.
use Rattle.std.proofs.Common.{◌≡◌, ℕ, suc, ◌+◌, ◌-◌, ◌*◌, ◌^◌, ◌<◌, ◌≤◌, Bool, true, false, not, List, [], ◌∷◌, map, Some, refl, ap, subst, ◌∙◌, arith, Ok, pos, int_eq}
use Rattle.std.specs.Prelude.{bit_and, if◌then◌else◌}
use Rattle.std.specs.Int.{bit_at}
use Rattle.std.specs.Str.{bytes_eq}
use Rattle.std.proofs.lemmas.Nat.{and_le_l}
use Rattle.std.proofs.lemmas.Nat.Bits.{and_pow}
use Rattle.std.proofs.lemmas.Bool.Decides.{nat_tests}
use Rattle.std.proofs.Math.Pow.{pow_mono, pow_pos}
use Rattle.c_text.specs.declared.token.IntType.{IntType}
use Rattle.c_text.specs.declared.token.IntType.TheVariants as t
use Rattle.c_tree.specs.declared.expression.BinaryOp.TheVariants as o
use Rattle.c_tree.specs.declared.statement.AssignOp.TheVariants as a
use Rattle.c_tree.specs.BareStatement.{Action, when, block, actions_of}
use Rattle.c_mem.specs.declared.objects.Object.{Object}
use Rattle.c_widths.specs.IntegerType.{exact_type}
use Rattle.c_operators.specs.declared.value.Value.TheVariants.{Integer}
use Rattle.c_operators.specs.Value.{typed, is_true}
use Rattle.c_operators.proofs.Models.{IsOneOf}
use Rattle.c_operators.proofs.Exact.{exact-fits}
use Rattle.c_operators.proofs.Numbers.{convert-fits, operate-BitAnd, operate-BitOr, operate-NotEqual}
use Rattle.c_effect.specs.declared.state.Flow.TheVariants.{Next}
use Rattle.c_effect.specs.declared.state.Held.{Held as Holding}
use Rattle.c_effect.specs.declared.state.Held.TheVariants.{Integer as Number}
use Rattle.c_effect.specs.Locals.{Block, held_by, set_local, opened, closed}
use Rattle.c_effect.specs.World.{World}
use Rattle.c_effect.specs.Ending.{after, sequence}
use Rattle.c_effect.specs.StatementEffect.{effects_of}
use Rattle.c_effect.proofs.Expressions.{Gives, gives-Name, gives-Binary, gives-Bracket}
use Rattle.c_effect.proofs.Locals.{held-set, held-other, reads-number, set-around, closed-around}
use Rattle.c_effect.proofs.Placeless.{no_place, grown, grown_stmt}
use Rattle.c_effect.proofs.Sequences.{sequence-first}
use Rattle.c_effect.proofs.Statements.{Ends, changes-local, ends-If-taken, ends-If-passed, ends-Block}
use Rattle.shift_helpers.specs.HelperResult.{IsWidth}
use Rattle.gen_unpack.specs.UnpackTree.{of_width, has_sign, filled_up}
use Rattle.gen_unpack.proofs.Sums.{number_of}
use Rattle.gen_unpack.proofs.Signs.{carried, with-upper}
use Rattle.gen_unpack.proofs.Widths.{suffixed-at, suffixed-fits, gives-of-width}

-- what a block changed behind it
closed-set : (local : List ℕ) (g h : Holding) (locals : List Block) → held_by local locals ≡ Some h → closed (set_local local g (opened locals)) ≡ set_local local g locals
closed-set local g h [] has = absurd (cc)
closed-set local g h (next ∷ outer) has = ap closed (set-around local g [] (next ∷ outer) refl) ∙ closed-around local g [] next outer

above-zero : (n : ℕ) → 0 < n → is_true (Integer (typed t.Int (if not (int_eq (pos n) (pos 0)) then pos 1 else pos 0))) ≡ true
above-zero n h = let e : int_eq (pos n) (pos 0) ≡ false = grind (arith, nat_tests) in rw e refl

module _ (w : World) (one : IsOneOf w.model) (objects : List Object) (width n : ℕ) (iw : IsWidth width) (some : 0 < n) (le : n ≤ width) (local : List ℕ) where
  abbrev kind : IntType
  kind = exact_type w.model width false

  abbrev holds : ℕ → Holding
  holds x = Number kind (Some (pos x))

  below : (x : ℕ) → x < 2 ^ n → x < 2 ^ width
  below x h = let p : 2 ^ n ≤ 2 ^ width = pow_mono {i = n} {j = width} le in omega arith

  sign_below : 2 ^ (n - 1) < 2 ^ width
  sign_below =
      let p : 2 ^ suc (n - 1) ≤ 2 ^ width = pow_mono {i = suc (n - 1)} {j = width} (omega arith) in
      let q : 0 < 2 ^ (n - 1) = pow_pos (n - 1) in
      omega arith

  sign-is : (x : ℕ) (top : Bool) → bit_at x (n - 1) ≡ number_of top → bit_and x (2 ^ (n - 1)) ≡ number_of top * 2 ^ (n - 1)
  sign-is x top e = and_pow x (n - 1) ∙ ap (λ b. b * 2 ^ (n - 1)) e

  -- (local & sign) != 0
  gives-sign : (locals : List Block) (x : ℕ) (top : Bool) → held_by local locals ≡ Some (holds x) → x < 2 ^ n → bit_at x (n - 1) ≡ number_of top
      → Gives w locals objects (grown (has_sign width n local)) t.Int (if not (int_eq (pos (number_of top * 2 ^ (n - 1))) (pos 0)) then pos 1 else pos 0)
  gives-sign locals x top has small bit =
      let f = suffixed-at w.model one width iw in
      let sign : ℕ = 2 ^ (n - 1) in
      let y : ℕ = number_of top * sign in
      let y_small : y < 2 ^ width = (let l = and_le_l x sign in let b = below x small in let e = sign-is x top bit in omega arith) in
      let zero_small : 0 < 2 ^ width = pow_pos width in
      let fits : (k : ℕ) → k < 2 ^ width → _ = suffixed-fits w.model one width iw in
      gives-Binary w locals objects no_place o.NotEqual _ _ f.kind f.kind t.Int (pos y) (pos 0) _ refl
      (gives-Bracket w locals objects no_place _ f.kind (pos y)
      (gives-Binary w locals objects no_place o.BitAnd _ _ kind f.kind f.kind (pos x) (pos sign) (pos y) refl
      (gives-Name w locals objects no_place local kind (pos x) (reads-number local kind (pos x) locals has))
      (gives-of-width w one locals objects width iw sign 16 sign_below)
      (operate-BitAnd w.model kind f.kind f.kind x sign f.joins (fits x (below x small)) (fits sign sign_below) ∙ rw (sign-is x top bit) refl)))
      (gives-of-width w one locals objects width iw 0 10 zero_small)
      (operate-NotEqual w.model f.kind f.kind f.kind (pos y) (pos 0) f.both (convert-fits w.model f.kind y (fits y y_small)) (convert-fits w.model f.kind 0 (fits 0 zero_small)))

  -- local |= upper;
  fills-up : (locals : List Block) (x : ℕ) → held_by local locals ≡ Some (holds x) → x < 2 ^ n
      → Ends w locals objects (grown_stmt (filled_up width n local)) (Ok Next) (set_local local (holds (2 ^ width - 2 ^ n + x)) locals) objects
  fills-up locals x has small =
      let f = suffixed-at w.model one width iw in
      let u : ℕ = 2 ^ width - 2 ^ n in
      let p : 2 ^ n ≤ 2 ^ width = pow_mono {i = n} {j = width} le in
      let q : 0 < 2 ^ n = pow_pos n in
      let u_below : u < 2 ^ width = omega arith in
      let y : ℕ = u + x in
      let y_below : y < 2 ^ width = omega arith in
      changes-local w locals objects no_place no_place local a.BitOr o.BitOr (grown (of_width width u 16)) kind f.kind f.kind (pos x) (pos u) (pos y) (pos y)
      refl has (gives-of-width w one locals objects width iw u 16 u_below)
      (operate-BitOr w.model kind f.kind f.kind x u f.joins (suffixed-fits w.model one width iw x (below x small)) (suffixed-fits w.model one width iw u u_below) ∙ rw (with-upper width n x le small) refl)
      (exact-fits w.model one width y iw y_below)

  -- the local holds a number, and all others what they held
  pub record Extended (xs : List Action) (locals : List Block) (y : ℕ) : Type 0 where
    pub left : List Block
    pub is : sequence (effects_of w (map grown_stmt xs)) locals objects ≡ after (Ok Next) left objects
    pub has : held_by local left ≡ Some (holds y)
    pub keeps : (other : List ℕ) → bytes_eq local other ≡ false → held_by other left ≡ held_by other locals

  stays : (locals : List Block) (x : ℕ) → held_by local locals ≡ Some (holds x) → Extended [] locals x
  stays locals x has = record { left = locals; is = refl; has = has; keeps = λ other ne. refl }

  abbrev statement : Action
  statement = when (has_sign width n local) (block (actions_of (filled_up width n local ∷ [])))

  passes : (locals : List Block) (x : ℕ) → held_by local locals ≡ Some (holds x) → x < 2 ^ n → bit_at x (n - 1) ≡ 0 → Extended (statement ∷ []) locals x
  passes locals x has small bit =
      let z : 0 * 2 ^ (n - 1) ≡ 0 = omega arith in
      record {
        left = locals;
        is = sequence-first w locals objects (grown_stmt statement) [] locals objects
            (ends-If-passed w locals objects no_place _ _ _ (Gives.gives (gives-sign locals x false has small bit)) (rw z refl));
        has = has;
        keeps = λ other ne. refl;
      }

  takes : (locals : List Block) (x : ℕ) → held_by local locals ≡ Some (holds x) → x < 2 ^ n → bit_at x (n - 1) ≡ 1 → Extended (statement ∷ []) locals (2 ^ width - 2 ^ n + x)
  takes locals x has small bit =
      let y : ℕ = 2 ^ width - 2 ^ n + x in
      let next : List Block = set_local local (holds y) locals in
      let q : 0 < 2 ^ (n - 1) = pow_pos (n - 1) in
      let inner : List Block = set_local local (holds y) (opened locals) in
      let back : closed inner ≡ next = closed-set local (holds y) (holds x) locals has in
      let body : sequence (effects_of w (map grown_stmt (filled_up width n local ∷ []))) (opened locals) objects ≡ after (Ok Next) inner objects =
      sequence-first w (opened locals) objects (grown_stmt (filled_up width n local)) [] inner objects (fills-up (opened locals) x has small) in
      let ends : Ends w locals objects (grown_stmt statement) (Ok Next) (closed inner) objects =
      ends-If-taken w locals objects no_place _ _ _ (Ok Next) (closed inner) objects (Gives.gives (gives-sign locals x true has small bit)) (above-zero (1 * 2 ^ (n - 1)) (omega arith))
      (ends-Block w locals objects no_place _ (Ok Next) inner objects body) in
      record {
        left = next;
        is = sequence-first w locals objects (grown_stmt statement) [] next objects (subst (λ l. Ends w locals objects (grown_stmt statement) (Ok Next) l objects) back ends);
        has = held-set local (holds y) (holds x) locals has;
        keeps = λ other ne. held-other local other (holds y) locals ne;
      }

  pub extends : (shorter top : Bool) (locals : List Block) (x : ℕ) → held_by local locals ≡ Some (holds x) → x < 2 ^ n → bit_at x (n - 1) ≡ number_of top
      → Extended (if shorter then statement ∷ [] else []) locals (carried width n shorter top x)
  extends false top locals x has small bit = stays locals x has
  extends true false locals x has small bit = passes locals x has small bit
  extends true true locals x has small bit = takes locals x has small bit
