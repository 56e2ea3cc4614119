-- How deep the brackets of tokens nest.
use Rattle.std.specs.Prelude.{◌≡◌, ℕ, Bool, true, false, nat_lt, if◌then◌else◌, List, [], ◌∷◌, None}
use Rattle.c_text.specs.declared.token.Token.{Token}
use Rattle.c_text.specs.declared.refusal.CKind.{CKind}
use Rattle.c_text.specs.declared.refusal.CKind.TheVariants.{TooDeep}
use Rattle.c_text.specs.declared.refusal.CFault.{CFault}
use Rattle.c_text.specs.declared.refusal.CFault.TheVariants.{Fault, Memory}
use Rattle.c_tree.specs.Brackets.{depth_after, deep_from}

-- no token has more open brackets behind it than may be
abbrev pub IsShallow : List Token → Type 0
IsShallow ts = deep_from 0 0 ts ≡ None

-- at most so many are open behind each of the tokens, with `depth` open before them
abbrev pub is_shallow : ℕ → ℕ → List Token → Bool
is_shallow room depth [] = true
is_shallow room depth (t ∷ ts) = if nat_lt room (depth_after t.kind depth) then false else is_shallow room (depth_after t.kind depth) ts

-- the kind of fault that more are open than may be
abbrev pub is_too_deep : CKind → Bool
is_too_deep TooDeep = true
is_too_deep other = false

-- a fault of another kind, or memory that ran out
abbrev pub IsNotTooDeep : CFault → Type 0
IsNotTooDeep (Fault kind place) = is_too_deep kind ≡ false
IsNotTooDeep Memory = Unit {0}
