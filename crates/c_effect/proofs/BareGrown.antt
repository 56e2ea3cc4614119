-- A tree without places is that of what is grown from it: a generator may say its units without places.
use Rattle.std.proofs.Common.{◌≡◌, List, [], ◌∷◌, map, Option, Some, None, refl, ap, ◌∙◌}
use Rattle.c_tree.specs.BareExpression as tree
use Rattle.c_tree.specs.BareExpression.{Tree, Trees, trees_of, bare_expression}
use Rattle.c_tree.specs.BareStatement as a
use Rattle.c_tree.specs.BareStatement.{Action, Actions, Parts, bare_statement, bare_option, bare_all}
use Rattle.c_tree.specs.BareUnit as u
use Rattle.c_tree.specs.BareUnit.{BareField, BareItem, bare_field, bare_body, bare_item}
use Rattle.c_effect.proofs.Placeless.{no_place, grown, all_grown, grown_option, grown_stmt, grown_list, grown_parts, grown_field, grown_body, grown_item, bare_part}
use Rattle.c_effect.proofs.BareNodes.{bare-Constant, bare-Name, bare-Null, bare-Member, bare-Element, bare-Call, bare-Unary, bare-Cast, bare-Binary, bare-Bracket, bare-Declare, bare-Assign, bare-CallStatement, bare-Discard, bare-Empty, bare-Block, bare-If, bare-IfElse, bare-Return, bare-Break, bare-Switch, bare-Label, bare-Statement}

mutual
  pub bare-grown : (t : Tree) → bare_expression (grown t) ≡ t
  bare-grown (tree.constant c) = bare-Constant no_place c
  bare-grown (tree.name n) = bare-Name no_place n
  bare-grown tree.null = bare-Null no_place
  bare-grown (tree.member base field) = bare-Member no_place base field
  bare-grown (tree.element base index) = bare-Element no_place base (grown index) ∙ ap (tree.element base) (bare-grown index)
  bare-grown (tree.call function args) = bare-Call no_place function (all_grown args) ∙ ap (tree.call function) (all-bare args)
  bare-grown (tree.unary op x) = bare-Unary no_place op (grown x) ∙ ap (tree.unary op) (bare-grown x)
  bare-grown (tree.cast to x) = bare-Cast no_place to (grown x) ∙ ap (tree.cast to) (bare-grown x)
  bare-grown (tree.binary op left right) = bare-Binary no_place op (grown left) (grown right) ∙ rw (bare-grown left, bare-grown right) refl
  bare-grown (tree.bracket x) = bare-Bracket no_place (grown x) ∙ ap tree.bracket (bare-grown x)

  all-bare : (ts : Trees) → bare_all (all_grown ts) ≡ ts
  all-bare tree.none = refl
  all-bare (tree.more first rest) = rw (bare-grown first, all-bare rest) refl

option-bare : (t : Option Tree) → bare_option (grown_option t) ≡ t
option-bare None = refl
option-bare (Some t) = ap Some (bare-grown t)

mutual
  pub bare-grown_stmt : (x : Action) → bare_statement (grown_stmt x) ≡ x
  bare-grown_stmt (a.declare kind name value) = bare-Declare no_place kind name (grown_option value) ∙ ap (a.declare kind name) (option-bare value)
  bare-grown_stmt (a.assign target op value) = bare-Assign no_place (grown target) op (grown value) ∙ rw (bare-grown target, bare-grown value) refl
  bare-grown_stmt (a.call function args) = bare-CallStatement no_place function (all_grown args) ∙ ap (a.call function) (all-bare args)
  bare-grown_stmt (a.discard name) = bare-Discard no_place name
  bare-grown_stmt a.empty = bare-Empty no_place
  bare-grown_stmt (a.block list) = bare-Block no_place (grown_list list) ∙ ap a.block (list-bare list)
  bare-grown_stmt (a.when condition taken) = bare-If no_place (grown condition) (grown_stmt taken) ∙ rw (bare-grown condition, bare-grown_stmt taken) refl
  bare-grown_stmt (a.choose condition taken other) = bare-IfElse no_place (grown condition) (grown_stmt taken) (grown_stmt other) ∙ rw (bare-grown condition, bare-grown_stmt taken, bare-grown_stmt other) refl
  bare-grown_stmt (a.return value) = bare-Return no_place (grown_option value) ∙ ap a.return (option-bare value)
  bare-grown_stmt a.break = bare-Break no_place
  bare-grown_stmt (a.switch value parts) = bare-Switch no_place (grown value) (grown_parts parts) ∙ rw (bare-grown value, parts-bare parts) refl

  list-bare : (xs : Actions) → a.actions_of (map bare_statement (grown_list xs)) ≡ xs
  list-bare a.no_more = refl
  list-bare (a.then first rest) = rw (bare-grown_stmt first, list-bare rest) refl

  parts-bare : (ps : Parts) → a.parts_of (map bare_part (grown_parts ps)) ≡ ps
  parts-bare a.done = refl
  parts-bare (a.label value rest) = rw (bare-Label (grown_option value) no_place, option-bare value, parts-bare rest) refl
  parts-bare (a.statement first rest) = rw (bare-Statement (grown_stmt first), bare-grown_stmt first, parts-bare rest) refl

fields-bare : (fs : List BareField) → map bare_field (map grown_field fs) ≡ fs
fields-bare [] = refl
fields-bare (f ∷ fs) = ap (λ rest. f ∷ rest) (fields-bare fs)

body-bare : (body : Option Actions) → bare_body (grown_body body) ≡ body
body-bare None = refl
body-bare (Some list) = ap Some (list-bare list)

pub bare-grown_item : (i : BareItem) → bare_item (grown_item i) ≡ i
bare-grown_item (u.struct tag fields) = rw (fields-bare fields) refl
bare-grown_item (u.function head body) = rw (fields-bare head.params, body-bare body) refl

pub bare-grown_items : (items : List BareItem) → map bare_item (map grown_item items) ≡ items
bare-grown_items [] = refl
bare-grown_items (i ∷ items) = rw (bare-grown_item i, bare-grown_items items) refl
