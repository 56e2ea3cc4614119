-- The file has one message's names more.
use Rattle.std.proofs.Common.{◌≡◌, ℕ, List, ap, subst, ◌∙◌}
use Rattle.name_rules.specs.Identifier.{identifier_of}
use Rattle.name_rules.specs.Wanted.{joined, wanted_of_message}
use Rattle.name_rules.specs.Symbols.{file_names_of_message, HasNamesOfMessage}
use Rattle.name_rules.specs.Places.{Picks}
use Rattle.name_rules.specs.Taken.{taken_in}
use Rattle.name_rules.specs.Naming.{wanted_with}
use Rattle.name_rules.proofs.PickLaws.{its_names, its_pair}
use Rattle.name_rules.proofs.naming.of_messages.Goals as goal

pub loop-m-preserved : goal.loop-m-preserved
loop-m-preserved c =
    let i = c.loop-m.m-index in
    let name = c.args.name.now in
    let messages = c.args.messages.now in
    let m = c.m-item.result in
    let y = c.in_ok-of_message.field-0 in
    let ys = c.loop-m.names in
    let zs = c.push.new.self in
    let before = taken_in c.loop-m.file in
    let after = taken_in c.of_message.new.file in
    let front : c.deref.result.now ≡ joined name (identifier_of m.name) =
    c.deref.ensures.value ∙ c.in_ok-message.ensures ∙ ap (joined name) (c.bytes-in-loop-m.ensures ∙ c.in_ok-identifier.ensures.exact ∙ ap identifier_of c.bytes.ensures) in
    record {
      pairs = its_pair HasNamesOfMessage messages i m ys zs y c.loop-m-test.true c.m-item.is c.in_ok-push.ensures.ok c.loop-m.invariant.pairs c.in_ok-of_message.ensures.has;
      picks =
          its_names (wanted_of_message name c.args.prune) file_names_of_message (taken_in c.args.file.now) before after messages i m ys zs y
          c.loop-m-test.true c.m-item.is c.in_ok-push.ensures.ok c.loop-m.invariant.picks
          (subst (λ (x : List ℕ). Picks before after (wanted_with x c.args.prune m) (file_names_of_message y)) front c.in_ok-of_message.ensures.picks);
    }
