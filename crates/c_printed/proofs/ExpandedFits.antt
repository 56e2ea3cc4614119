-- A printable tree is printable with names replaced, where what each name stands for is one constant or stands in brackets.
use Rattle.std.proofs.Common.{◌≡◌, ℕ, Bool, true, false, List, Option, Some, None, refl, sym, ap, subst}
use Rattle.c_tree.specs.declared.expression.UnaryOp.TheVariants as sign
use Rattle.c_tree.specs.BareExpression.{Tree, Trees, constant, name, null, member, element, call, unary, cast, binary, bracket, none, more}
use Rattle.c_tree.specs.BareStatement.{Action, Actions, Parts, declare, assign, discard, empty, block, when, choose, return, break, switch, no_more, then, done, label, statement}
use Rattle.c_tree.specs.BareStatement as a
use Rattle.c_printed.specs.Printable.{IsFree, first_sign, AreDistinct, Fits, FitAll, FitsOption, is_target, IsCase, IsLabel, is_declaration, FitsAction, FitsBlock, FitActions, FitParts}
use Rattle.c_printed.specs.PrintableItem.{FitsBody}
use Rattle.c_printed.specs.Expanded.{Meaning, or_name, expanded, expanded_all, expanded_option, expanded_action, expanded_actions, expanded_parts, expanded_body}
use Rattle.c_printed.specs.Settled.{Becomes, IsAtom, AimsAt, Settles, SettleAll, SettlesOption, SettlesAction, SettleActions, SettleParts, SettlesBody}

-- what names stand for is printable
abbrev pub AreFitting : Meaning → Type 0
AreFitting m = (n : List ℕ) (t : Tree) → m n ≡ Some t → Fits 0 t

-- ---- case values hold no name

case-same : (m : Meaning) (t : Tree) → IsCase t → expanded m t ≡ t
case-same m (constant c) h = refl
case-same m (unary sign.Plus x) h = ap (unary sign.Plus) (case-same m x h.1)
case-same m (unary sign.Minus x) h = ap (unary sign.Minus) (case-same m x h.1)
case-same m (bracket x) h = ap bracket (case-same m x h)
case-same m _ h = absurd h

label-fits : (m : Meaning) (v : Option Tree) → IsLabel v → IsLabel (expanded_option m v)
label-fits m None h = tt
label-fits m (Some t) h = subst IsCase (sym (case-same m t h)) h

target-fits : (m : Meaning) (t : Tree) → AimsAt m t → is_target t ≡ true → is_target (expanded m t) ≡ true
target-fits m (name n) e h = ap (λ o. is_target (or_name n o)) e
target-fits m (member b f) e h = refl
target-fits m (element b i) e h = refl
target-fits m (constant c) e h = cc
target-fits m null e h = cc
target-fits m (call f ts) e h = cc
target-fits m (unary u t) e h = cc
target-fits m (cast to t) e h = cc
target-fits m (binary o l r) e h = cc
target-fits m (bracket t) e h = cc

declaration-fits : (m : Meaning) (y : Action) → is_declaration y ≡ false → is_declaration (expanded_action m y) ≡ false
declaration-fits m (declare s n v) e = cc
declaration-fits m (assign t o v) e = refl
declaration-fits m (a.call f ts) e = refl
declaration-fits m (discard n) e = refl
declaration-fits m empty e = refl
declaration-fits m (block list) e = refl
declaration-fits m (when c y) e = refl
declaration-fits m (choose c y z) e = refl
declaration-fits m (return v) e = refl
declaration-fits m break e = refl
declaration-fits m (switch v ps) e = refl

module _ (env : Becomes) (m : Meaning) (x : AreFitting m) where
  -- ---- a name

  atom-unsigned : (n : List ℕ) (o : Option Tree) → IsAtom o → first_sign (or_name n o) ≡ None
  atom-unsigned n None h = refl
  atom-unsigned n (Some (constant c)) h = refl
  atom-unsigned n (Some (bracket t)) h = refl
  atom-unsigned n (Some _) h = absurd h

  name-fits : (level : ℕ) (n : List ℕ) (o : Option Tree) → m n ≡ o → IsAtom o → IsFree n → Fits level (or_name n o)
  name-fits level n None e h f = f
  name-fits level n (Some (constant c)) e h f = x n (constant c) e
  name-fits level n (Some (bracket t)) e h f = x n (bracket t) e
  name-fits level n (Some _) e h f = absurd h

  -- ---- expressions

  same-sign : (t : Tree) → Settles env m t → first_sign (expanded m t) ≡ first_sign t
  same-sign (constant c) h = refl
  same-sign (name n) h = atom-unsigned n (m n) h.1
  same-sign null h = refl
  same-sign (member b f) h = refl
  same-sign (element b i) h = refl
  same-sign (call f ts) h = refl
  same-sign (unary u t) h = refl
  same-sign (cast to t) h = refl
  same-sign (binary o l r) h = refl
  same-sign (bracket t) h = refl

  mutual
    pub tree-fits : (level : ℕ) (t : Tree) → Settles env m t → Fits level t → Fits level (expanded m t)
    tree-fits level (constant c) s h = h
    tree-fits level (name n) s h = name-fits level n (m n) refl s.1 h
    tree-fits level null s h = tt
    tree-fits level (member b f) s h = h
    tree-fits level (element b i) s h = (h.0, tree-fits 0 i s.1 h.1)
    tree-fits level (call f ts) s h = (h.0, trees-fit ts s.1 h.1)
    tree-fits level (unary u t) s h = (subst (λ o. AreDistinct o u) (sym (same-sign t s)) h.0, tree-fits 9 t s h.1)
    tree-fits level (cast to t) s h = (h.0, tree-fits 9 t s.1 h.1)
    tree-fits level (binary o l r) s h = (h.0, tree-fits _ l s.0 h.1, tree-fits _ r s.1 h.2)
    tree-fits level (bracket t) s h = tree-fits 0 t s h

    trees-fit : (ts : Trees) → SettleAll env m ts → FitAll ts → FitAll (expanded_all m ts)
    trees-fit none s h = tt
    trees-fit (more t ts) s h = (tree-fits 0 t s.0 h.0, trees-fit ts s.1 h.1)

  option-fits : (v : Option Tree) → SettlesOption env m v → FitsOption v → FitsOption (expanded_option m v)
  option-fits None s h = tt
  option-fits (Some t) s h = tree-fits 0 t s h

  -- ---- statements

  mutual
    action-fits : (may : Bool) (y : Action) → SettlesAction env m y → FitsAction may y → FitsAction may (expanded_action m y)
    action-fits may (declare k n v) s h = (h.0, h.1, option-fits v s.2 h.2)
    action-fits may (assign t o v) s h = (target-fits m t s.0 h.0, tree-fits 0 t s.1 h.1, tree-fits 0 v s.2 h.2)
    action-fits may (a.call f ts) s h = (h.0, trees-fit ts s.1 h.1)
    action-fits may (discard n) s h = h
    action-fits may empty s h = tt
    action-fits may (block list) s h = actions-fit may list s h
    action-fits may (when c y) s h = (tree-fits 0 c s.0 h.0, block-fits may y s.1 h.1)
    action-fits may (choose c y z) s h = (tree-fits 0 c s.0 h.0, block-fits may y s.1 h.1, block-fits may z s.2 h.2)
    action-fits may (return v) s h = option-fits v s h
    action-fits may break s h = h
    action-fits may (switch v ps) s h = (tree-fits 0 v s.0 h.0, parts-fit ps s.1 h.1)

    block-fits : (may : Bool) (y : Action) → SettlesAction env m y → FitsBlock may y → FitsBlock may (expanded_action m y)
    block-fits may (block list) s h = actions-fit may list s h
    block-fits may _ s h = absurd h

    actions-fit : (may : Bool) (list : Actions) → SettleActions env m list → FitActions may list → FitActions may (expanded_actions m list)
    actions-fit may no_more s h = tt
    actions-fit may (then y rest) s h = (action-fits may y s.0 h.0, actions-fit may rest s.1 h.1)

    parts-fit : (ps : Parts) → SettleParts env m ps → FitParts ps → FitParts (expanded_parts m ps)
    parts-fit done s h = tt
    parts-fit (label v ps) s h = (label-fits m v h.0, parts-fit ps s.1 h.1)
    parts-fit (statement y ps) s h = (declaration-fits m y h.0, action-fits true y s.0 h.1, parts-fit ps s.1 h.2)

  pub body-fits : (body : Option Actions) → SettlesBody env m body → FitsBody body → FitsBody (expanded_body m body)
  body-fits None s h = tt
  body-fits (Some list) s h = actions-fit false list s h
