-- Each place has one signal's names more.
use Rattle.name_rules.specs.Identifier.{identifier_of}
use Rattle.name_rules.specs.Reserved.{is_reserved, is_reserved_local}
use Rattle.name_rules.specs.Wanted.{wanted_of_signal}
use Rattle.name_rules.specs.Symbols.{one_or_none, file_names_of_signal, HasNamesOfSignal}
use Rattle.name_rules.specs.Taken.{taken_in}
use Rattle.name_rules.specs.Naming.{field_with_local}
use Rattle.name_rules.proofs.PickLaws.{its_names, its_name, its_pair, own_names}
use Rattle.name_rules.proofs.naming.of_signals.Goals as goal

pub loop-s-preserved : goal.loop-s-preserved
loop-s-preserved c =
    let i = c.loop-s.s-index in
    let signals = c.args.signals.now in
    let s = c.s-item.result in
    let y = c.in_ok-of_signal.field-0 in
    let ys = c.loop-s.names in
    let zs = c.push.new.self in
    record {
      pairs = its_pair HasNamesOfSignal signals i s ys zs y c.loop-s-test.true c.s-item.is c.in_ok-push.ensures.ok c.loop-s.invariant.pairs c.in_ok-of_signal.ensures.has;
      picks =
          its_names (wanted_of_signal c.args.prune c.args.front.now) file_names_of_signal (taken_in c.args.file.now) (taken_in c.loop-s.file) (taken_in c.of_signal.new.file) signals i s ys zs y
          c.loop-s-test.true c.s-item.is c.in_ok-push.ensures.ok c.loop-s.invariant.picks c.in_ok-of_signal.ensures.picks;
      fields =
          its_name (λ s. identifier_of s.name) (λ s. s.field) is_reserved (taken_in c.loop-s.fields) (taken_in c.of_signal.new.fields) signals i s ys zs y
          c.loop-s-test.true c.s-item.is c.in_ok-push.ensures.ok c.loop-s.invariant.fields c.in_ok-of_signal.ensures.field;
      locals =
          own_names field_with_local (λ s. one_or_none s.local) is_reserved_local (taken_in c.loop-s.locals) (taken_in c.of_signal.new.locals) ys zs y
          c.in_ok-push.ensures.ok c.loop-s.invariant.locals c.in_ok-of_signal.ensures.local;
    }
