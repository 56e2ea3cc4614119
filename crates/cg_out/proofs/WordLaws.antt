-- Laws of small words.
use Rattle.std.proofs.Common.{◌≡◌, Bool, true, false, Option, Some, None, refl}
use Rattle.std.specs.Prelude.{◌&&◌}
use Rattle.std.specs.Option.{option_map}
use Rattle.std.proofs.lemmas.Bool.{false≢true}
use Rattle.cg_out.specs.Words.{or_else}

pub or_else-none : {X : Type 0} (x : Option X) → or_else x None ≡ x
or_else-none (Some x) = refl
or_else-none None = refl

pub or_else-assoc : {X : Type 0} (x y z : Option X) → or_else (or_else x y) z ≡ or_else x (or_else y z)
or_else-assoc (Some x) y z = refl
or_else-assoc None y z = refl

pub or_else-map : {X Y : Type 0} (g : X → Y) (x y : Option X) → or_else (option_map g x) (option_map g y) ≡ option_map g (or_else x y)
or_else-map g (Some x) y = refl
or_else-map g None y = refl

-- what a conjunction says
pub both : (a b : Bool) → (a && b) ≡ true → (a ≡ true) × (b ≡ true)
both true b e = (refl, e)
both false b e = absurd (false≢true e)
