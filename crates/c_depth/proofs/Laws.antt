-- Tokens with more open brackets than may be have no unit, and others are never too deep.
use Rattle.std.proofs.Common.{◌≡◌, List, Option, Some, None, refl, sym, ap, ◌∙◌, subst, true, false}
use Rattle.std.specs.Prelude.{◌&&◌, is_none, Result, Ok, Err, OnOk, IfErr}
use Rattle.c_text.specs.declared.token.Token.{Token}
use Rattle.c_tree.specs.declared.item.Unit.{Unit as Whole}
use Rattle.c_text.specs.declared.refusal.CFault.{CFault}
use Rattle.c_text.specs.declared.refusal.CFault.TheVariants.{Fault, Memory}
use Rattle.c_text.specs.Refusal.{Refusal, Gives}
use Rattle.c_tree.specs.Sequence.{all_read}
use Rattle.c_tree.specs.declared.symbol.TheConstants.{MOST_OPEN}
use Rattle.c_tree.specs.Brackets.{deep_from, bracket_fault}
use Rattle.c_tree.specs.UnitCut.{each_item, whole, unless_unmatched, unit_of_tokens}
use Rattle.c_depth.specs.Shallow.{IsShallow, is_shallow, is_too_deep, IsNotTooDeep}
use Rattle.c_depth.proofs.Tests.{none-found, and-true}
use Rattle.c_depth.proofs.Keeps.{Keeps, all, keeps-bind}
use Rattle.c_depth.proofs.Sequences.{all-read}
use Rattle.c_depth.proofs.Items.{items-keep}
use Rattle.c_depth.proofs.Faults.{shallow-none-found, IsNoneOrDeep, bracket-fault}

unless-keeps : (o : Option Refusal) (ts : List Token) → IsNoneOrDeep (is_shallow MOST_OPEN 0 ts) o → Keeps (is_shallow MOST_OPEN 0 ts) all (unless_unmatched o ts)
unless-keeps (Some r) ts h = h
unless-keeps None ts h =
    keeps-bind (is_shallow MOST_OPEN 0 ts) all all (all_read each_item 0 ts) (λ is. Ok (whole is)) (all-read MOST_OPEN each_item items-keep 0 ts) (λ is. refl)

unit-keeps : (ts : List Token) → Keeps (is_shallow MOST_OPEN 0 ts) all (unit_of_tokens ts)
unit-keeps ts = unless-keeps (bracket_fault ts) ts (bracket-fault ts)

-- the test with room for as many brackets as may be open
pub shallow-test : (ts : List Token) → is_shallow MOST_OPEN 0 ts ≡ is_none (deep_from 0 0 ts)
shallow-test ts = shallow-none-found 0 0 ts

-- ---- the two laws

-- tokens with more open brackets than may be have no unit
pub unit-is-shallow : (ts : List Token) (u : Whole) → unit_of_tokens ts ≡ Ok u → IsShallow ts
unit-is-shallow ts u e = none-found (deep_from 0 0 ts) (sym (shallow-test ts) ∙ subst (λ got. Keeps (is_shallow MOST_OPEN 0 ts) all got) e (unit-keeps ts))

-- tokens that have no more are never refused as too deep
pub shallow-is-never-too-deep : (ts : List Token) (r : Refusal) → IsShallow ts → unit_of_tokens ts ≡ Err r → is_too_deep r.kind ≡ false
shallow-is-never-too-deep ts r none e =
    let holds : true ≡ is_shallow MOST_OPEN 0 ts = sym (shallow-test ts ∙ ap (λ o. is_none o) none) in
    and-true (is_too_deep r.kind) ∙ ap (λ b. is_too_deep r.kind && b) holds ∙ subst (λ got. Keeps (is_shallow MOST_OPEN 0 ts) all got) e (unit-keeps ts)

-- ---- the same of what a program returns

pub gives_shallow : {X : Type 0} (view : X → Whole) (ts : List Token) (result : Result X CFault) → Gives view result (unit_of_tokens ts) → OnOk result (IsShallow ts)
gives_shallow view ts (Ok x) h = unit-is-shallow ts (view x) h
gives_shallow view ts (Err e) h = tt

not-deep : {X : Type 0} (view : X → Whole) (ts : List Token) (e : CFault) → IsShallow ts → Gives view (Err e) (unit_of_tokens ts) → IsNotTooDeep e
not-deep view ts (Fault kind place) none h = shallow-is-never-too-deep ts (record { kind = kind; place = place }) none h
not-deep view ts Memory none h = tt

pub gives_never_too_deep : {X : Type 0} (view : X → Whole) (ts : List Token) (result : Result X CFault) → Gives view result (unit_of_tokens ts) → IsShallow ts → IfErr result IsNotTooDeep
gives_never_too_deep view ts (Ok x) h none = tt
gives_never_too_deep view ts (Err e) h none = not-deep view ts e none h
