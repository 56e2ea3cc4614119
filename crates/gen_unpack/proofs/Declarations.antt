-- The declarations of the locals of signals: each is there, without a value, and nothing else has changed.
use Rattle.std.proofs.Common.{◌≡◌, ℕ, false, List, [], ◌∷◌, map, Option, Some, None, refl, subst, ◌∙◌, Ok}
use Rattle.std.specs.List.{AllByRecursion, flat_map}
use Rattle.c_text.specs.declared.token.Spelled.TheVariants.{Exact}
use Rattle.c_widths.specs.IntegerType.{exact_type}
use Rattle.c_mem.specs.declared.objects.Object.{Object}
use Rattle.c_effect.specs.declared.state.Flow.TheVariants.{Next}
use Rattle.c_effect.specs.declared.state.Held.TheVariants.{Integer as Number}
use Rattle.c_effect.specs.Locals.{Block, held_by, declare_local}
use Rattle.c_effect.specs.World.{World}
use Rattle.c_effect.specs.Ending.{after, sequence}
use Rattle.c_effect.specs.StatementEffect.{effects_of}
use Rattle.c_effect.proofs.Locals.{held-declared, held-past}
use Rattle.c_effect.proofs.Placeless.{no_place, grown_stmt}
use Rattle.c_effect.proofs.Sequences.{sequence-first}
use Rattle.c_effect.proofs.Statements.{declares}
use Rattle.gen_pack.specs.SegmentMove.{width_of}
use Rattle.gen_pack.specs.Parts.{Part}
use Rattle.gen_pack.specs.PackTree.{declared, local_declared}
use Rattle.gen_pack.proofs.OwnLocals.{IsOther, AreOther, HaveOwn}
use Rattle.gen_pack.proofs.Putting.{HasLocal, HasLocalOf, through-both}

module _ (here : World) (objects : List Object) where
  -- the local that there may be is declared
  record Declared (o : Option (List ℕ)) (w : ℕ) (locals : List Block) : Type 0 where
    left : List Block
    is : sequence (effects_of here (map grown_stmt (local_declared o w))) locals objects ≡ after (Ok Next) left objects
    keeps : (name : List ℕ) → IsOther name o → held_by name left ≡ held_by name locals
    has : HasLocal here.model left o w

  one-declared : (o : Option (List ℕ)) (w : ℕ) (locals : List Block) → Declared o w locals
  one-declared None w locals = record { left = locals; is = refl; keeps = λ name h. refl; has = tt }
  one-declared (Some n) w locals =
      let held = Number (exact_type here.model w false) None in
      let left : List Block = declare_local n held locals in
      record {
        left = left;
        is = sequence-first here locals objects _ [] left objects (declares here locals objects no_place (Exact w false) n);
        keeps = λ name h. held-past n name held locals h;
        has = (None, held-declared n held locals);
      }

  pub record AllDeclared (xs : List Part) (locals : List Block) : Type 0 where
    pub left : List Block
    pub is : sequence (effects_of here (map grown_stmt (flat_map declared xs))) locals objects ≡ after (Ok Next) left objects
    pub keeps : (name : List ℕ) → AllByRecursion (λ x. IsOther name x.names.local) xs → held_by name left ≡ held_by name locals
    pub has : AllByRecursion (HasLocalOf here.model left) xs

  still : (o : Option (List ℕ)) (w : ℕ) (locals left : List Block) → HasLocal here.model locals o w → ((name : List ℕ) → o ≡ Some name → held_by name left ≡ held_by name locals) → HasLocal here.model left o w
  still None w locals left h same = tt
  still (Some n) w locals left h same = (h.0, same n refl ∙ h.1)

  -- a name that another local has is no later one's
  others : (o : Option (List ℕ)) (name : List ℕ) (xs : List Part) → o ≡ Some name → AllByRecursion (λ y. AreOther o y.names.local) xs → AllByRecursion (λ y. IsOther name y.names.local) xs
  others o name xs e h = subst (λ o. AllByRecursion (λ y. AreOther o (Part.names y).local) xs) e h

  pub all-declared : (xs : List Part) → HaveOwn xs → (locals : List Block) → AllDeclared xs locals
  all-declared [] own locals = record { left = locals; is = refl; keeps = λ name h. refl; has = tt }
  all-declared (x ∷ xs) own locals =
      let one = one-declared x.names.local (width_of x.signal) locals in
      let rest = all-declared xs own.1 one.left in
      record {
        left = rest.left;
        is = through-both here (declared x) (flat_map declared xs) locals one.left objects objects one.is ∙ rest.is;
        keeps = λ name h. rest.keeps name h.1 ∙ one.keeps name h.0;
        has = (still x.names.local (width_of x.signal) one.left rest.left one.has (λ name e. rest.keeps name (others x.names.local name xs e own.0)), rest.has);
      }
