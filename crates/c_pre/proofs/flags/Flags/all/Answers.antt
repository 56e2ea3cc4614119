use Rattle.std.proofs.Common.{ap, ◌∙◌, nat_eq}
use Rattle.std.specs.List.{list_all}
use Rattle.c_pre.proofs.Whole.{none-unset}
use Rattle.c_pre.proofs.flags.Flags.all.Goals as goal

pub returns : goal.returns
returns c = ap (λ n. nat_eq n 0) c.self.invariant ∙ none-unset c.self.inside.items.items ∙ ap (list_all (λ r. r)) c.self.view_is
