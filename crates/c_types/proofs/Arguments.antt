-- Arguments in a row.
use Rattle.std.proofs.Common.{◌≡◌, ℕ, suc, ◌+◌, ◌-◌, ◌<◌, ◌≤◌, List, [], ◌∷◌, ◌++◌, length, take, drop, get_or, drop-cons, add-one, arith, sym, ap, ◌∙◌, subst}
use Rattle.std.proofs.lemmas.Grind.{common_steps}
use Rattle.c_text.specs.Refusal.{Refusal}
use Rattle.c_text.specs.declared.refusal.CFault.{CFault}
use Rattle.c_tree.specs.declared.expression.Expr.{Expr}
use Rattle.c_types.specs.Scope.{Scope}
use Rattle.c_types.specs.Setting.{Setting}
use Rattle.c_types.specs.ExpressionTypes.{typing, an_integer, a_byte_pointer, all_arguments}
use Rattle.c_types.specs.StatementTypes.{memset_arguments}
use Rattle.c_types.specs.Verdict.{Refuses}
use Rattle.c_types.proofs.Verdicts.{refuses_left}

-- the fault of an argument is told of all, where those before it have none
pub argument-refuses : (s : Setting) (args : List Expr) (i : ℕ) (x : Expr) (scope : Scope) (all : List Refusal) → i < length args → x ≡ get_or args i x
    → all_arguments s (drop i args) scope ≡ all → (e : CFault) → Refuses e (typing s x an_integer scope).faults → Refuses e all
argument-refuses s args i x scope all h is left e refuses =
    let front : drop i args ≡ x ∷ drop (i + 1) args = drop-cons args i x h ∙ ap (λ y. y ∷ drop (suc i) args) (sym is) ∙ ap (λ n. x ∷ drop n args) (sym (add-one i)) in
    subst (Refuses e) (sym (ap (λ ys. all_arguments s ys scope) front) ∙ left)
    (refuses_left e (typing s x an_integer scope).faults (all_arguments s (drop (i + 1) args) scope) refuses)

rest-all : (y : Expr) (ys : List Expr) → take (length (y ∷ ys) - 1) ys ≡ ys
rest-all y ys = grind (arith, common_steps)

-- those of `memset`, of which there is one
pub memset-split : (s : Setting) (args : List Expr) (x : Expr) (scope : Scope) → 1 ≤ length args → x ≡ get_or args 0 x
    → memset_arguments s args scope ≡ (typing s x a_byte_pointer scope).faults ++ all_arguments s (take (length args - 1) (drop 1 args)) scope
memset-split s [] x scope h is = let none : ⊥ = omega (arith, h) in absurd none
memset-split s (y ∷ ys) x scope h is =
    ap (λ z. (typing s z a_byte_pointer scope).faults ++ all_arguments s ys scope) (sym is)
    ∙ ap (λ zs. (typing s x a_byte_pointer scope).faults ++ all_arguments s zs scope) (sym (rest-all y ys))
