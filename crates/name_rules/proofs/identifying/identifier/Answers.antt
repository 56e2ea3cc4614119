-- Each rule's clause, the last one first.
use Rattle.std.proofs.Common.{◌≡◌, ◌∙◌, refl, sym, subst}
use Rattle.std.proofs.lemmas.Result.{IfOk-weaker}
use Rattle.name_rules.specs.Identifier.{identifier_of}
use Rattle.name_rules.specs.IsIdentifier.{IsIdentifier}
use Rattle.name_rules.proofs.Shape.{identifier_of-IsIdentifier}
use Rattle.name_rules.proofs.identifying.identifier.Goals as goal

pub returns-clause-exact : goal.returns-clause-exact
returns-clause-exact c =
    let chain : c.shortened.result.now ≡ identifier_of c.args.text.now =
    rw (c.shortened.ensures, c.deref-5.ensures.value, c.in_ok-whole.ensures, c.deref-4.ensures.value, c.in_ok-small.ensures, c.strip_last.ensures, c.strip_first.ensures, c.deref-3.ensures.value, c.in_ok-joined.ensures, c.deref-2.ensures.value, c.in_ok-words.ensures, c.deref.ensures.value, c.in_ok-clean.ensures) refl in
    IfOk-weaker c.copy_of.result (λ t. t ≡ c.shortened.result.now) (λ t. t ≡ identifier_of c.args.text.now) (λ t e. e ∙ chain) c.copy_of.ensures

pub returns-clause-shape : goal.returns-clause-shape
returns-clause-shape c =
    IfOk-weaker c.copy_of.result (λ t. t ≡ identifier_of c.args.text.now) IsIdentifier (λ t e. subst IsIdentifier (sym e) (identifier_of-IsIdentifier c.args.text.now)) (returns-clause-exact c)
