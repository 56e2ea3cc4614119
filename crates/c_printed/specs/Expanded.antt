-- Trees in which macros and names of headers are replaced by what they stand for.
use Rattle.std.specs.Prelude.{ℕ, List, Option, Some, None}
use Rattle.c_tree.specs.BareExpression.{Tree, Trees, constant, name, null, member, element, call, unary, cast, binary, bracket, none, more}
use Rattle.c_tree.specs.BareStatement.{Action, Actions, Parts, declare, assign, discard, empty, block, when, choose, return, break, switch, no_more, then, done, label, statement}
use Rattle.c_tree.specs.BareUnit.{BareItem, struct, function}
use Rattle.c_tree.specs.BareStatement as a

-- what a name stands for, if it is not for itself
abbrev pub Meaning : Type 0
Meaning = List ℕ → Option Tree

abbrev pub or_name : List ℕ → Option Tree → Tree
or_name n None = name n
or_name n (Some t) = t

abbrev mutual
  pub expanded : Meaning → Tree → Tree
  expanded m (constant c) = constant c
  expanded m (name n) = or_name n (m n)
  expanded m null = null
  expanded m (member base field) = member base field
  expanded m (element base index) = element base (expanded m index)
  expanded m (call f ts) = call f (expanded_all m ts)
  expanded m (unary u x) = unary u (expanded m x)
  expanded m (cast to x) = cast to (expanded m x)
  expanded m (binary o l r) = binary o (expanded m l) (expanded m r)
  expanded m (bracket x) = bracket (expanded m x)

  pub expanded_all : Meaning → Trees → Trees
  expanded_all m none = none
  expanded_all m (more t ts) = more (expanded m t) (expanded_all m ts)

abbrev pub expanded_option : Meaning → Option Tree → Option Tree
expanded_option m None = None
expanded_option m (Some t) = Some (expanded m t)

abbrev mutual
  pub expanded_action : Meaning → Action → Action
  expanded_action m (declare s x v) = declare s x (expanded_option m v)
  expanded_action m (assign t o v) = assign (expanded m t) o (expanded m v)
  expanded_action m (a.call f ts) = a.call f (expanded_all m ts)
  expanded_action m (discard x) = discard x
  expanded_action m empty = empty
  expanded_action m (block list) = block (expanded_actions m list)
  expanded_action m (when c x) = when (expanded m c) (expanded_action m x)
  expanded_action m (choose c x y) = choose (expanded m c) (expanded_action m x) (expanded_action m y)
  expanded_action m (return v) = return (expanded_option m v)
  expanded_action m break = break
  expanded_action m (switch v ps) = switch (expanded m v) (expanded_parts m ps)

  pub expanded_actions : Meaning → Actions → Actions
  expanded_actions m no_more = no_more
  expanded_actions m (then x rest) = then (expanded_action m x) (expanded_actions m rest)

  pub expanded_parts : Meaning → Parts → Parts
  expanded_parts m done = done
  expanded_parts m (label v ps) = label (expanded_option m v) (expanded_parts m ps)
  expanded_parts m (statement x ps) = statement (expanded_action m x) (expanded_parts m ps)

abbrev pub expanded_body : Meaning → Option Actions → Option Actions
expanded_body m None = None
expanded_body m (Some list) = Some (expanded_actions m list)

abbrev pub expanded_item : Meaning → BareItem → BareItem
expanded_item m (struct tag fs) = struct tag fs
expanded_item m (function h body) = function h (expanded_body m body)
