use Rattle.std.proofs.Common.{◌≡◌, ◌↔◌, ℤ, List, Option, true, subst}
use Rattle.can_model.proofs.Elements.{map_itself}
use Rattle.can_model.specs.Active.{IsActive}
use Rattle.can_model.proofs.activity.active_in.Goals as goal

pub returns : goal.returns
returns c = subst (λ (vs : List (Option ℤ)). (c.chain_holds.result ≡ true) ↔ IsActive c.args.message.now vs c.args.index) (map_itself c.args.values.now) c.chain_holds.ensures
