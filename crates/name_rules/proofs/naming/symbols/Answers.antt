-- The table is built as the definition says, and what holds of such a table holds of this one.
use Rattle.std.proofs.Common.{ℕ, Bool, List, ◌∷◌, ap, subst, ◌∙◌}
use Rattle.std.specs.Prelude.{codes}
use Rattle.std.specs.List.{flat_map}
use Rattle.can_model.specs.declared.database.Message.{Message}
use Rattle.name_rules.specs.Picks.{ArePicks}
use Rattle.name_rules.specs.Wanted.{upper, wanted_of_message, wanted_names}
use Rattle.name_rules.specs.Symbols.{file_names_of_message, AllPairs, HasNamesOfMessage}
use Rattle.name_rules.specs.Places.{Picks}
use Rattle.name_rules.specs.Taken.{taken_in}
use Rattle.name_rules.proofs.PickLaws.{next, ending}
use Rattle.name_rules.proofs.TableApart.{symbols-apart}
use Rattle.name_rules.proofs.OneTable.{one-table}
use Rattle.name_rules.proofs.naming.symbols.Goals as goal

pub returns-clause-picks : goal.returns-clause-picks
returns-clause-picks c =
    let db = c.args.db.now in
    let name = c.args.name.now in
    let prune = c.args.prune in
    let guard = c.in_ok-guard.guard in
    let names = c.in_ok-messages.messages in
    let before = taken_in c.new-file.result in
    let between = taken_in c.pick_ending.new.place in
    let after = taken_in c.of_messages.new.file in
    let first = ending before between c.deref.result.now (upper name) (codes "_H") guard (c.deref.ensures.value ∙ c.in_ok-capitals.ensures ∙ ap upper c.bytes.ensures) c.in_ok-guard.ensures in
    let second : Picks between after (flat_map (wanted_of_message name prune) db.messages) (flat_map file_names_of_message names) =
    subst (λ (x : List ℕ). Picks between after (flat_map (wanted_of_message x prune) db.messages) (flat_map file_names_of_message names)) c.bytes-2.ensures
    (subst (λ (ms : List Message). Picks between after (flat_map (wanted_of_message c.bytes-2.result.now prune) ms) (flat_map file_names_of_message names)) c.items.ensures c.in_ok-messages.ensures.picks) in
    let both = next before between after _ guard (flat_map (wanted_of_message name prune) db.messages) (flat_map file_names_of_message names) first second in
    record {
      messages = subst (λ (ms : List Message). AllPairs HasNamesOfMessage ms names) c.items.ensures c.in_ok-messages.ensures.pairs;
      file = subst (λ (t : List ℕ → Bool). ArePicks t (wanted_names name prune db) (guard ∷ flat_map file_names_of_message names)) c.new-file.ensures both.picks;
    }

pub returns-clause-apart : goal.returns-clause-apart
returns-clause-apart c = symbols-apart c.args.db.now c.args.name.now c.args.prune _ c.requires.name (returns-clause-picks c)

pub returns-clause-only : goal.returns-clause-only
returns-clause-only c = λ u h. one-table c.args.db.now c.args.name.now c.args.prune _ u (returns-clause-picks c) h
