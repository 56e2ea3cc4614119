-- Which expressions and statements are printed so that they read back.
use Rattle.std.specs.Prelude.{◌≡◌, ℕ, suc, ◌+◌, ◌^◌, ◌<◌, ◌≤◌, Bool, true, false, List, Option, Some, None}
use Rattle.c_text.specs.declared.token.Constant.{Constant}
use Rattle.c_text.specs.declared.token.Spelled.{Spelled}
use Rattle.c_text.specs.declared.token.Spelled.TheVariants.{Exact}
use Rattle.c_tree.specs.declared.expression.Callee.{Callee}
use Rattle.c_tree.specs.declared.expression.Callee.TheVariants as callee
use Rattle.c_tree.specs.declared.expression.UnaryOp.{UnaryOp}
use Rattle.c_tree.specs.declared.expression.UnaryOp.TheVariants as sign
use Rattle.c_text.specs.Characters.{IsName}
use Rattle.c_tree.specs.Symbol.{keyword_in}
use Rattle.c_tree.specs.BareExpression.{Tree, Trees, constant, name, null, member, element, call, unary, cast, binary, bracket, none, more}
use Rattle.c_tree.specs.BareStatement.{Action, Actions, Parts, declare, assign, discard, empty, block, when, choose, return, break, switch, no_more, then, done, label, statement}
use Rattle.c_tree.specs.BareStatement as a
use Rattle.c_printed.specs.Spelling.{level_of}

-- a name that is no keyword
abbrev pub IsFree : List ℕ → Type 0
IsFree n = IsName n × (keyword_in n ≡ None)

abbrev pub IsFreeCallee : Callee → Type 0
IsFreeCallee (callee.Name f) = IsFree f
IsFreeCallee callee.Memset = Unit {0}

-- ---- constants and types

-- the bases of constants; the number 0 has no octal one
pub data IsBase : (base value : ℕ) → Type 0 where
  eight : {v : ℕ} → IsBase 8 (suc v)
  ten : {v : ℕ} → IsBase 10 v
  sixteen : {v : ℕ} → IsBase 16 v

pub record IsConstant (c : Constant) : Type 0 where
  pub small : c.value < 2 ^ 64
  pub base : IsBase c.base c.value
  pub longs : c.longs ≤ 2

pub data IsWidth : ℕ → Type 0 where
  w8 : IsWidth 8
  w16 : IsWidth 16
  w32 : IsWidth 32
  w64 : IsWidth 64

abbrev pub IsType : Spelled → Type 0
IsType (Exact width signed) = IsWidth width
IsType s = Unit {0}

-- ---- expressions

-- the prefix operator that a tree begins with
abbrev pub first_sign : Tree → Option UnaryOp
first_sign (unary u x) = Some u
first_sign t = None

abbrev pub AreDistinct : Option UnaryOp → UnaryOp → Type 0
AreDistinct (Some sign.Plus) sign.Plus = ⊥
AreDistinct (Some sign.Minus) sign.Minus = ⊥
AreDistinct (Some s) u = Unit {0}
AreDistinct None u = Unit {0}

-- no sign stands directly before the same sign
abbrev pub AreApart : UnaryOp → Tree → Type 0
AreApart u t = AreDistinct (first_sign t) u

abbrev mutual
  -- no operator outside brackets is looser than the level
  pub Fits : ℕ → Tree → Type 0
  Fits level (constant c) = IsConstant c
  Fits level (name n) = IsFree n
  Fits level null = Unit {0}
  Fits level (member base field) = IsFree base × IsFree field
  Fits level (element base index) = IsFree base × Fits 0 index
  Fits level (call f ts) = IsFreeCallee f × FitAll ts
  Fits level (unary u x) = AreApart u x × Fits 9 x
  Fits level (cast to x) = IsType to × Fits 9 x
  Fits level (binary o l r) = (level ≤ level_of o) × Fits (level_of o) l × Fits (level_of o + 1) r
  Fits level (bracket x) = Fits 0 x

  pub FitAll : Trees → Type 0
  FitAll none = Unit {0}
  FitAll (more t ts) = Fits 0 t × FitAll ts

abbrev pub FitsOption : Option Tree → Type 0
FitsOption None = Unit {0}
FitsOption (Some e) = Fits 0 e

abbrev pub is_target : Tree → Bool
is_target (name n) = true
is_target (member base field) = true
is_target (element base index) = true
is_target t = false

-- a case value: a constant, with signs and brackets
abbrev pub IsCase : Tree → Type 0
IsCase (constant c) = IsConstant c
IsCase (unary sign.Plus x) = AreApart sign.Plus x × IsCase x
IsCase (unary sign.Minus x) = AreApart sign.Minus x × IsCase x
IsCase (bracket x) = IsCase x
IsCase t = ⊥

abbrev pub IsLabel : Option Tree → Type 0
IsLabel None = Unit {0}
IsLabel (Some e) = IsCase e

-- ---- statements

abbrev pub is_declaration : Action → Bool
is_declaration (declare s x v) = true
is_declaration a = false

abbrev mutual
  -- where a `break` may stand or not
  pub FitsAction : Bool → Action → Type 0
  FitsAction may (declare s x v) = IsType s × IsFree x × FitsOption v
  FitsAction may (assign t o v) = (is_target t ≡ true) × Fits 0 t × Fits 0 v
  FitsAction may (a.call f ts) = IsFreeCallee f × FitAll ts
  FitsAction may (discard x) = IsFree x
  FitsAction may empty = Unit {0}
  FitsAction may (block list) = FitActions may list
  FitsAction may (when c x) = Fits 0 c × FitsBlock may x
  FitsAction may (choose c x y) = Fits 0 c × FitsBlock may x × FitsBlock may y
  FitsAction may (return v) = FitsOption v
  FitsAction may break = may ≡ true
  FitsAction may (switch v ps) = Fits 0 v × FitParts ps

  pub FitsBlock : Bool → Action → Type 0
  FitsBlock may (block list) = FitActions may list
  FitsBlock may x = ⊥

  pub FitActions : Bool → Actions → Type 0
  FitActions may no_more = Unit {0}
  FitActions may (then x rest) = FitsAction may x × FitActions may rest

  pub FitParts : Parts → Type 0
  FitParts done = Unit {0}
  FitParts (label v ps) = IsLabel v × FitParts ps
  FitParts (statement x ps) = (is_declaration x ≡ false) × FitsAction true x × FitParts ps
