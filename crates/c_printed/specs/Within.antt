-- In which trees no more than so many brackets are open at any place.
use Rattle.std.specs.Prelude.{ℕ, zero, suc, Option, Some, None}
use Rattle.c_tree.specs.BareExpression.{Tree, Trees, constant, name, null, member, element, call, unary, cast, binary, bracket, none, more}
use Rattle.c_tree.specs.BareStatement.{Action, Actions, Parts, declare, assign, discard, empty, block, when, choose, return, break, switch, no_more, then, done, label, statement}
use Rattle.c_tree.specs.BareStatement as a
use Rattle.c_tree.specs.BareUnit.{BareItem, struct, function}

abbrev mutual
  pub Within : ℕ → Tree → Type 0
  Within room (constant c) = Unit {0}
  Within room (name n) = Unit {0}
  Within room null = Unit {0}
  Within room (member base field) = Unit {0}
  Within zero (element base index) = ⊥
  Within (suc room) (element base index) = Within room index
  Within zero (call f ts) = ⊥
  Within (suc room) (call f ts) = AllWithin room ts
  Within room (unary u x) = Within room x
  Within zero (cast to x) = ⊥
  Within (suc room) (cast to x) = Within (suc room) x
  Within room (binary o l r) = Within room l × Within room r
  Within zero (bracket x) = ⊥
  Within (suc room) (bracket x) = Within room x

  pub AllWithin : ℕ → Trees → Type 0
  AllWithin room none = Unit {0}
  AllWithin room (more t ts) = Within room t × AllWithin room ts

abbrev pub OptionWithin : ℕ → Option Tree → Type 0
OptionWithin room None = Unit {0}
OptionWithin room (Some e) = Within room e

abbrev mutual
  pub ActionWithin : ℕ → Action → Type 0
  ActionWithin room (declare s x v) = OptionWithin room v
  ActionWithin room (assign t o v) = Within room t × Within room v
  ActionWithin zero (a.call f ts) = ⊥
  ActionWithin (suc room) (a.call f ts) = AllWithin room ts
  ActionWithin zero (discard x) = ⊥
  ActionWithin (suc room) (discard x) = Unit {0}
  ActionWithin room empty = Unit {0}
  ActionWithin zero (block list) = ⊥
  ActionWithin (suc room) (block list) = ActionsWithin room list
  ActionWithin zero (when c x) = ⊥
  ActionWithin (suc room) (when c x) = Within room c × ActionWithin (suc room) x
  ActionWithin zero (choose c x y) = ⊥
  ActionWithin (suc room) (choose c x y) = Within room c × ActionWithin (suc room) x × ActionWithin (suc room) y
  ActionWithin room (return v) = OptionWithin room v
  ActionWithin room break = Unit {0}
  ActionWithin zero (switch v ps) = ⊥
  ActionWithin (suc room) (switch v ps) = Within room v × PartsWithin room ps

  pub ActionsWithin : ℕ → Actions → Type 0
  ActionsWithin room no_more = Unit {0}
  ActionsWithin room (then x rest) = ActionWithin room x × ActionsWithin room rest

  pub PartsWithin : ℕ → Parts → Type 0
  PartsWithin room done = Unit {0}
  PartsWithin room (label v ps) = OptionWithin room v × PartsWithin room ps
  PartsWithin room (statement x ps) = ActionWithin room x × PartsWithin room ps

-- ---- items, in which 64 may be open

abbrev pub BodyWithin : Option Actions → Type 0
BodyWithin None = Unit {0}
BodyWithin (Some list) = ActionsWithin 63 list

abbrev pub ItemWithin : BareItem → Type 0
ItemWithin (struct tag fs) = Unit {0}
ItemWithin (function h body) = BodyWithin body
