-- What preprocessing leaves of words, and in which trees it leaves what the tree expanded says.
use Rattle.std.specs.Prelude.{◌≡◌, ℕ, false, List, [], ◌∷◌, ◌++◌, codes, Option, Some, None}
use Rattle.std.specs.List.{AllByRecursion}
use Rattle.c_text.specs.declared.token.Spelled.{Spelled}
use Rattle.c_text.specs.declared.token.Spelled.TheVariants.{Exact}
use Rattle.c_text.specs.declared.token.TokenKind.{TokenKind}
use Rattle.c_text.specs.declared.token.TokenKind.TheVariants.{Word, Null}
use Rattle.c_tree.specs.declared.expression.Callee.{Callee}
use Rattle.c_tree.specs.declared.item.CType.{CType}
use Rattle.c_tree.specs.declared.item.CType.TheVariants.{Void, Integer, Pointer}
use Rattle.c_tree.specs.declared.item.Target.{Target}
use Rattle.c_tree.specs.declared.item.Target.TheVariants.{Byte, Struct}
use Rattle.c_tree.specs.BareExpression.{Tree, Trees, constant, name, null, member, element, call, unary, cast, binary, bracket, none, more}
use Rattle.c_tree.specs.BareStatement.{Action, Actions, Parts, declare, assign, discard, empty, block, when, choose, return, break, switch, no_more, then, done, label, statement}
use Rattle.c_tree.specs.BareUnit.{BareField, BareHead, BareItem, struct, function}
use Rattle.c_printed.specs.Spelling.{type_words, words, left_type, left_callee, left, callee_text}
use Rattle.c_printed.specs.PrintedExpression.{tokens_of}
use Rattle.c_printed.specs.Expanded.{Meaning, or_name}
use Rattle.c_tree.specs.BareStatement as a

-- ---- words

-- what becomes of each word
abbrev pub Becomes : Type 0
Becomes = List ℕ → List TokenKind

abbrev pub settle : Becomes → TokenKind → List TokenKind
settle env (Word w) = env w
settle env k = k ∷ []

abbrev pub settled : Becomes → List TokenKind → List TokenKind
settled env [] = []
settled env (k ∷ ks) = settle env k ++ settled env ks

-- ---- trees

abbrev pub Stands : Becomes → List ℕ → Type 0
Stands env w = env w ≡ Word w ∷ []

abbrev pub TypeStands : Becomes → Spelled → Type 0
TypeStands env s = settled env (words (type_words s)) ≡ left_type s

abbrev pub CalleeStands : Becomes → Callee → Type 0
CalleeStands env f = env (callee_text f) ≡ left_callee f ∷ []

-- what a name in an expression stands for is one constant, or stands in brackets
abbrev pub IsAtom : Option Tree → Type 0
IsAtom None = Unit {0}
IsAtom (Some (constant c)) = Unit {0}
IsAtom (Some (bracket t)) = Unit {0}
IsAtom (Some t) = ⊥

-- a name that is assigned to stands for itself
abbrev pub AimsAt : Meaning → Tree → Type 0
AimsAt m (name n) = m n ≡ None
AimsAt m t = Unit {0}

abbrev mutual
  pub Settles : Becomes → Meaning → Tree → Type 0
  Settles env m (constant c) = Unit {0}
  Settles env m (name n) = (env n ≡ tokens_of left (or_name n (m n))) × IsAtom (m n)
  Settles env m null = env (codes "NULL") ≡ Null ∷ []
  Settles env m (member base field) = Stands env base × Stands env field
  Settles env m (element base index) = Stands env base × Settles env m index
  Settles env m (call f ts) = CalleeStands env f × SettleAll env m ts
  Settles env m (unary u x) = Settles env m x
  Settles env m (cast to x) = TypeStands env to × Settles env m x
  Settles env m (binary o l r) = Settles env m l × Settles env m r
  Settles env m (bracket x) = Settles env m x

  pub SettleAll : Becomes → Meaning → Trees → Type 0
  SettleAll env m none = Unit {0}
  SettleAll env m (more t ts) = Settles env m t × SettleAll env m ts

abbrev pub SettlesOption : Becomes → Meaning → Option Tree → Type 0
SettlesOption env m None = Unit {0}
SettlesOption env m (Some t) = Settles env m t

abbrev mutual
  pub SettlesAction : Becomes → Meaning → Action → Type 0
  SettlesAction env m (declare s x v) = TypeStands env s × Stands env x × SettlesOption env m v
  SettlesAction env m (assign t o v) = AimsAt m t × Settles env m t × Settles env m v
  SettlesAction env m (a.call f ts) = CalleeStands env f × SettleAll env m ts
  SettlesAction env m (discard x) = Stands env x
  SettlesAction env m empty = Unit {0}
  SettlesAction env m (block list) = SettleActions env m list
  SettlesAction env m (when c x) = Settles env m c × SettlesAction env m x
  SettlesAction env m (choose c x y) = Settles env m c × SettlesAction env m x × SettlesAction env m y
  SettlesAction env m (return v) = SettlesOption env m v
  SettlesAction env m break = Unit {0}
  SettlesAction env m (switch v ps) = Settles env m v × SettleParts env m ps

  pub SettleActions : Becomes → Meaning → Actions → Type 0
  SettleActions env m no_more = Unit {0}
  SettleActions env m (then x rest) = SettlesAction env m x × SettleActions env m rest

  pub SettleParts : Becomes → Meaning → Parts → Type 0
  SettleParts env m done = Unit {0}
  SettleParts env m (label v ps) = SettlesOption env m v × SettleParts env m ps
  SettleParts env m (statement x ps) = SettlesAction env m x × SettleParts env m ps

-- ---- items

abbrev pub TargetStands : Becomes → Target → Type 0
TargetStands env Byte = TypeStands env (Exact 8 false)
TargetStands env (Struct tag) = Stands env tag

abbrev pub KindStands : Becomes → CType → Type 0
KindStands env Void = Unit {0}
KindStands env (Integer s) = TypeStands env s
KindStands env (Pointer to c) = TargetStands env to

abbrev pub NamedStands : Becomes → BareField → Type 0
NamedStands env p = KindStands env p.kind × Stands env p.name

abbrev pub SettlesBody : Becomes → Meaning → Option Actions → Type 0
SettlesBody env m None = Unit {0}
SettlesBody env m (Some list) = SettleActions env m list

abbrev pub SettlesHead : Becomes → BareHead → Type 0
SettlesHead env h = KindStands env h.returns × Stands env h.name × AllByRecursion (NamedStands env) h.params

abbrev pub SettlesItem : Becomes → Meaning → BareItem → Type 0
SettlesItem env m (struct tag fs) = Stands env tag × AllByRecursion (NamedStands env) fs
SettlesItem env m (function h body) = SettlesHead env h × SettlesBody env m body
