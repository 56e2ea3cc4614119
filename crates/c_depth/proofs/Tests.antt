-- Small facts of tests and of options.
use Rattle.std.proofs.Common.{◌≡◌, ℕ, Option, Some, None, refl, Bool, true, false, cond}
use Rattle.std.specs.Prelude.{◌&&◌, is_some, is_none}
use Rattle.c_tree.specs.declared.symbol.Keyword.{Keyword}
use Rattle.c_tree.specs.StatementCut.{is_void_key}

pub same_Some : (a b : ℕ) → Some a ≡ Some b → a ≡ b
same_Some a b e = cc

pub none-found : {A : Type 0} (o : Option A) → is_none o ≡ true → o ≡ None
none-found None h = refl
none-found (Some x) h = cc

pub and-false : (b : Bool) → (b && false) ≡ false
and-false true = refl
and-false false = refl

pub and-true : (b : Bool) → b ≡ (b && true)
and-true true = refl
and-true false = refl

pub cond-and : (b x y : Bool) → cond b false (x && y) ≡ cond b false x && y
cond-and true x y = refl
cond-and false x y = refl

-- `void` is a keyword
pub void-key : (o : Option Keyword) → is_void_key o ≡ true → is_some o ≡ true
void-key (Some w) h = refl
void-key None h = h
