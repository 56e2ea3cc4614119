-- The statements around those of the signals: the size test, what is discarded, and what is returned.
use Rattle.std.proofs.Common.{◌≡◌, ℕ, ◌^◌, ◌<◌, ◌≤◌, Bool, true, false, List, [], ◌∷◌, map, Some, refl, ◌∙◌, arith, Ok, pos, negsuc}
use Rattle.std.specs.Prelude.{nat_lt, if◌then◌else◌}
use Rattle.std.proofs.lemmas.Bool.Decides.{nat_tests}
use Rattle.c_text.specs.declared.token.IntType.TheVariants as t
use Rattle.c_tree.specs.declared.expression.BinaryOp.TheVariants as o
use Rattle.c_tree.specs.declared.expression.UnaryOp.TheVariants as u
use Rattle.c_tree.specs.BareStatement.{discard}
use Rattle.c_mem.specs.declared.objects.Object.{Object}
use Rattle.c_mem.specs.declared.objects.Pointer.{Pointer}
use Rattle.c_widths.specs.IntegerType.{size_type}
use Rattle.c_widths.specs.Conversion.{convert, wrap}
use Rattle.c_operators.specs.declared.value.Value.TheVariants.{Integer, Pointer as pointer}
use Rattle.c_operators.specs.Value.{typed, is_true}
use Rattle.c_operators.proofs.Models.{IsOneOf, for_each}
use Rattle.c_operators.proofs.Exact.{sizes, size-fits}
use Rattle.c_operators.proofs.Numbers.{convert-fits, operate-Less, signed-Minus}
use Rattle.c_widths.specs.Promotion.{promote}
use Rattle.c_effect.specs.declared.state.Flow.TheVariants.{Next, Returned}
use Rattle.c_effect.specs.declared.state.Held.TheVariants.{Integer as Number, Pointer as Address}
use Rattle.c_effect.specs.Locals.{Block, held_by, opened, closed}
use Rattle.c_effect.specs.World.{World}
use Rattle.c_effect.specs.Ending.{after, sequence}
use Rattle.c_effect.specs.StatementEffect.{effects_of}
use Rattle.c_effect.proofs.Expressions.{Gives, gives-int, gives-unsigned, gives-Name, gives-Binary, gives-Unary, gives-Bracket}
use Rattle.c_effect.proofs.Locals.{reads-number, reads-pointer}
use Rattle.c_effect.proofs.Placeless.{no_place, grown, grown_stmt}
use Rattle.c_effect.proofs.Sequences.{sequence-first, sequence-last}
use Rattle.c_effect.proofs.Statements.{Ends, ends-Return, ends-If-taken, ends-If-passed, ends-Block, discards}
use Rattle.gen_pack.specs.Parts.{Part}
use Rattle.gen_pack.specs.PackTree.{buffer, source, size, number, returned, size_below, negative, size_asked}
use Rattle.gen_unpack.specs.UnpackTree.{unused}

truth : (b : Bool) → is_true (Integer (typed t.Int (if b then pos 1 else pos 0))) ≡ b
truth true = refl
truth false = refl

-- 22 is an int, and so is -22
record IsError (w : World) : Type 0 where
  promotes : promote w.model t.Int ≡ t.Int
  is : convert w.model t.Int (pos 22) ≡ pos 22
  negative : convert w.model t.Int (negsuc 21) ≡ negsuc 21

error-is : (w : World) → IsOneOf w.model → IsError w
unfolding wrap
error-is w one = record {
  promotes = for_each (λ m. promote m t.Int ≡ t.Int) refl refl w.model one;
  is = for_each (λ m. convert m t.Int (pos 22) ≡ pos 22) refl refl w.model one;
  negative = for_each (λ m. convert m t.Int (negsuc 21) ≡ negsuc 21) refl refl w.model one;
}

pub negative-int : (w : World) → IsOneOf w.model → convert w.model t.Int (negsuc 21) ≡ negsuc 21
negative-int w one = (error-is w one).negative

module _ (w : World) (one : IsOneOf w.model) (locals : List Block) (objects : List Object) where
  -- return (z);
  pub returns-number : (n : ℕ) → n < 2 ^ 31
      → sequence (effects_of w (map grown_stmt (returned (number n) ∷ []))) locals objects ≡ after (Ok (Returned (Some (typed t.Int (pos n))))) locals objects
  returns-number n small =
      sequence-last w locals objects _ [] _ locals objects
      (ends-Return w locals objects no_place _ t.Int (pos n) (gives-Bracket w locals objects no_place _ t.Int (pos n) (gives-int w locals objects one no_place n small)))

  returns-error : sequence (effects_of w (map grown_stmt (returned (negative (number 22)) ∷ []))) locals objects ≡ after (Ok (Returned (Some (typed t.Int (negsuc 21))))) locals objects
  returns-error =
      let e = error-is w one in
      sequence-last w locals objects _ [] _ locals objects
      (ends-Return w locals objects no_place _ t.Int (negsuc 21) (gives-Bracket w locals objects no_place _ t.Int (negsuc 21)
      (gives-Unary w locals objects no_place u.Minus _ t.Int t.Int (pos 22) (negsuc 21) (gives-int w locals objects one no_place 22 (omega arith)) (signed-Minus w.model t.Int t.Int 21 e.promotes e.is e.negative))))

-- ---- the size test

module _ (w : World) (one : IsOneOf w.model) (locals : List Block) (objects : List Object) (given length_of : ℕ)
    (there : held_by size locals ≡ Some (Number (size_type w.model) (Some (pos given)))) (fits : convert w.model (size_type w.model) (pos given) ≡ pos given) (few : length_of < 2 ^ 32) where
  test : Gives w locals objects (grown (size_below length_of)) t.Int (if nat_lt given length_of then pos 1 else pos 0)
  test =
      gives-Binary w locals objects no_place o.Less _ _ (size_type w.model) t.UnsignedInt t.Int (pos given) (pos length_of) _ refl
      (gives-Name w locals objects no_place size (size_type w.model) (pos given) (reads-number size (size_type w.model) (pos given) locals there))
      (gives-unsigned w locals objects one no_place length_of 10 few)
      (operate-Less w.model (size_type w.model) t.UnsignedInt (size_type w.model) (pos given) (pos length_of) (sizes w.model one).joins fits (convert-fits w.model (size_type w.model) length_of (size-fits w.model one length_of few)))

  pub refuses : given < length_of → Ends w locals objects (grown_stmt (size_asked (number 22) length_of)) (Ok (Returned (Some (typed t.Int (negsuc 21))))) (closed (opened locals)) objects
  refuses h =
      let lt : nat_lt given length_of ≡ true = grind (arith, nat_tests) in
      ends-If-taken w locals objects no_place _ _ _ _ (closed (opened locals)) objects test.gives (truth (nat_lt given length_of) ∙ lt)
      (ends-Block w locals objects no_place _ _ (opened locals) objects (returns-error w one (opened locals) objects))

  pub lets : length_of ≤ given → Ends w locals objects (grown_stmt (size_asked (number 22) length_of)) (Ok Next) locals objects
  lets h =
      let lt : nat_lt given length_of ≡ false = grind (arith, nat_tests) in
      ends-If-passed w locals objects no_place _ _ _ test.gives (truth (nat_lt given length_of) ∙ lt)

-- ---- where there is no signal

pub discards-both : (w : World) (parts : List Part) (locals : List Block) (objects : List Object) (p q : Pointer) → held_by buffer locals ≡ Some (Address p) → held_by source locals ≡ Some (Address q)
    → sequence (effects_of w (map grown_stmt (unused parts))) locals objects ≡ after (Ok Next) locals objects
discards-both w [] locals objects p q h g =
    sequence-first w locals objects (grown_stmt (discard buffer)) (map grown_stmt (discard source ∷ [])) locals objects (discards w locals objects no_place buffer (pointer p) (reads-pointer buffer p locals h))
    ∙ sequence-first w locals objects (grown_stmt (discard source)) [] locals objects (discards w locals objects no_place source (pointer q) (reads-pointer source q locals g))
discards-both w (x ∷ xs) locals objects p q h g = refl
