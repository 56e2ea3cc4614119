use Rattle.std.proofs.Common.{◌≡◌, true, map, length, refl, sym, ◌∙◌, ap, subst, arith}
use Rattle.std.proofs.lemmas.Bool.Decides.{nat_tests}
use Rattle.std.specs.Prelude.{IsSomeAnd}
use Rattle.can_model.specs.Active.{lies_in, value_at}
use Rattle.can_model.proofs.Elements.{element_at, none_at}
use Rattle.can_model.proofs.Chains.{no_steps, one_step, at_none, at_top, at_child, too_far}
use Rattle.can_model.proofs.activity.chain_holds.Goals as goal

pub returns-in_default : goal.returns-in_default
returns-in_default g c = (λ e. absurd (cc), λ a. absurd (at_none c.args.message.now.signals (map g.V.Given.value c.args.values.now) c.args.index c.loop.counter c.loop.at c.loop.invariant (none_at c.args.message.now.signals c.items-signals.result.now c.loop.at c.items-signals.ensures c.in_default.ensures.lookup.0) a))

pub returns-in_default-parent : goal.returns-in_default-parent
returns-in_default-parent g c = (λ e. at_top c.args.message.now.signals (map g.V.Given.value c.args.values.now) c.args.index c.loop.counter c.loop.at c.in-Some.signal.now c.loop.invariant (element_at c.args.message.now.signals c.items-signals.result.now c.loop.at c.in-Some.signal.now c.items-signals.ensures (grind (arith, nat_tests, c.in-Some.ensures.lookup.0)) c.in-Some.ensures.lookup.1) c.in_default-parent.is, λ a. refl)

pub returns-in_default-selector : goal.returns-in_default-selector
returns-in_default-selector g c = (λ e. absurd (cc), λ a. absurd (at_child c.args.message.now.signals (map g.V.Given.value c.args.values.now) c.args.index c.loop.counter c.loop.at c.in-Some.signal.now c.in-Some-parent.parent c.loop.invariant (element_at c.args.message.now.signals c.items-signals.result.now c.loop.at c.in-Some.signal.now c.items-signals.ensures (grind (arith, nat_tests, c.in-Some.ensures.lookup.0)) c.in-Some.ensures.lookup.1) c.in-Some-parent.is (λ j e h. c.in_default-selector.not-Some j e) a))

pub returns-then-not-asks_for : goal.returns-then-not-asks_for
returns-then-not-asks_for g c = (λ e. absurd (cc), λ a. absurd (at_child c.args.message.now.signals (map g.V.Given.value c.args.values.now) c.args.index c.loop.counter c.loop.at c.in-Some.signal.now c.in-Some-parent.parent c.loop.invariant (element_at c.args.message.now.signals c.items-signals.result.now c.loop.at c.in-Some.signal.now c.items-signals.ensures (grind (arith, nat_tests, c.in-Some.ensures.lookup.0)) c.in-Some.ensures.lookup.1) c.in-Some-parent.is (λ j e h. let same : j ≡ c.in-Some-selector.selector = cc (sym e ∙ c.in-Some-selector.is) in let asked : c.asks_for.result ≡ true = c.asks_for.ensures.1 (subst (λ r. IsSomeAnd (value_at (map g.V.Given.value c.args.values.now) c.in-Some-selector.selector) (λ v. lies_in r v ≡ true)) (sym c.items.ensures) (subst (λ k. IsSomeAnd (value_at (map g.V.Given.value c.args.values.now) k) (λ v. lies_in c.in-Some-parent.parent.ranges v ≡ true)) same h)) in absurd (cc (sym asked ∙ c.if-not-asks_for.true))) a))

pub loop-init : goal.loop-init
loop-init g c = no_steps c.args.message.now.signals (map g.V.Given.value c.args.values.now) c.args.index

pub loop-preserved : goal.loop-preserved
loop-preserved g c = one_step c.args.message.now.signals (map g.V.Given.value c.args.values.now) c.args.index c.loop.counter c.loop.at c.in-Some-selector.selector c.loop.invariant (record {
  signal = c.in-Some.signal.now;
  parent = c.in-Some-parent.parent;
  at = (element_at c.args.message.now.signals c.items-signals.result.now c.loop.at c.in-Some.signal.now c.items-signals.ensures (grind (arith, nat_tests, c.in-Some.ensures.lookup.0)) c.in-Some.ensures.lookup.1);
  below = c.in-Some-parent.is;
  selector = c.in-Some-selector.is;
  value = subst (λ r. IsSomeAnd (value_at (map g.V.Given.value c.args.values.now) c.in-Some-selector.selector) (λ v. lies_in r v ≡ true)) c.items.ensures (c.asks_for.ensures.0 c.if-not-asks_for.false);
})

pub returns : goal.returns
returns g c = (λ e. absurd (cc), λ a. absurd (too_far c.args.message.now.signals (map g.V.Given.value c.args.values.now) c.args.index c.loop.counter c.loop.at c.loop.invariant (let same : c.items-signals.result.now ≡ c.args.message.now.signals = c.items-signals.ensures in grind (arith, nat_tests, ap length same)) a))
