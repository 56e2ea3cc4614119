-- Which brackets belong together, and where they do not.
use Rattle.std.specs.Prelude.{ℕ, ◌+◌, ◌-◌, Bool, true, false, ◌&&◌, ◌==◌, nat_lt, if◌then◌else◌, List, [], ◌∷◌, Option, Some, None}
use Rattle.c_text.specs.declared.place.Place.{Place}
use Rattle.c_text.specs.declared.token.Token.{Token}
use Rattle.c_text.specs.declared.token.TokenKind.{TokenKind}
use Rattle.c_tree.specs.declared.symbol.Bracket.{Bracket}
use Rattle.c_tree.specs.declared.symbol.Bracket.TheVariants.{Round, Square, Brace}
use Rattle.c_tree.specs.declared.symbol.Punctuator.{Punctuator}
use Rattle.c_tree.specs.declared.symbol.Punctuator.TheVariants as mark
use Rattle.c_text.specs.declared.refusal.CKind.TheVariants.{Syntax, TooDeep}
use Rattle.c_text.specs.Refusal.{Refusal}
use Rattle.c_tree.specs.Symbol.{mark_of}
use Rattle.c_tree.specs.declared.symbol.TheConstants.{MOST_OPEN}

-- ---- opening and closing tokens

abbrev pub mark_opens : Option Punctuator → Option Bracket
mark_opens (Some mark.OpenParen) = Some Round
mark_opens (Some mark.OpenBracket) = Some Square
mark_opens (Some mark.OpenBrace) = Some Brace
mark_opens other = None

abbrev pub mark_closes : Option Punctuator → Option Bracket
mark_closes (Some mark.CloseParen) = Some Round
mark_closes (Some mark.CloseBracket) = Some Square
mark_closes (Some mark.CloseBrace) = Some Brace
mark_closes other = None

abbrev pub opens : TokenKind → Option Bracket
opens k = mark_opens (mark_of k)

abbrev pub closes : TokenKind → Option Bracket
closes k = mark_closes (mark_of k)

abbrev pub same_bracket : Bracket → Bracket → Bool
same_bracket Round Round = true
same_bracket Square Square = true
same_bracket Brace Brace = true
same_bracket a b = false

-- the token opens, or closes, brackets of this kind
abbrev pub is_bracket : Bracket → Option Bracket → Bool
is_bracket wanted None = false
is_bracket wanted (Some b) = same_bracket wanted b

-- ---- how deep a token stands

abbrev pub depth_by : Option Bracket → Option Bracket → ℕ → ℕ
depth_by (Some b) other depth = depth + 1
depth_by None (Some b) depth = depth - 1
depth_by None None depth = depth

-- how many brackets are open behind a token
abbrev pub depth_after : TokenKind → ℕ → ℕ
depth_after k depth = depth_by (opens k) (closes k) depth

-- where the bracket is closed that is open before these tokens, counted from `at`
abbrev pub closing_from : ℕ → ℕ → List Token → Option ℕ
closing_from at depth [] = None
closing_from at depth (t ∷ ts) =
    if depth_after t.kind depth == 0 then Some at else closing_from (at + 1) (depth_after t.kind depth) ts

-- the first token outside brackets that passes a test, counted from `at`
abbrev pub first_outside : (TokenKind → Bool) → ℕ → ℕ → List Token → Option ℕ
first_outside passes at depth [] = None
first_outside passes at depth (t ∷ ts) =
    if depth == 0 && passes t.kind then Some at else first_outside passes (at + 1) (depth_after t.kind depth) ts

-- ---- brackets that do not match

-- the place of a fault, behind so many tokens
pub record Found : Type 0 where
  pub at : ℕ
  pub refusal : Refusal

abbrev pub fault_at : ℕ → Refusal → Option Found
fault_at at r = Some (record { at = at; refusal = r })

abbrev pub syntax : Place → Refusal
syntax p = record { kind = Syntax; place = p }

abbrev pub too_deep : Place → Refusal
too_deep p = record { kind = TooDeep; place = p }

-- a bracket that is open, behind so many tokens
pub record Open : Type 0 where
  pub bracket : Bracket
  pub at : ℕ
  pub place : Place

-- the last of these, which is the first that was opened
abbrev pub outermost : List Open → Option Found
outermost [] = None
outermost (o ∷ []) = fault_at o.at (syntax o.place)
outermost (o ∷ p ∷ os) = outermost (p ∷ os)

-- the brackets that are open, the innermost first, or the first closing one that does not fit
pub data Walk : Type 0 where
  within : List Open → Walk
  unfit : Found → Walk

abbrev pub close_by : Bracket → ℕ → Place → List Open → Walk
close_by b at p [] = unfit (record { at = at; refusal = syntax p })
close_by b at p (o ∷ os) = if same_bracket o.bracket b then within os else unfit (record { at = at; refusal = syntax p })

abbrev pub walk_by : Option Bracket → Option Bracket → ℕ → Place → List Open → Walk
walk_by (Some b) other at p os = within (record { bracket = b; at = at; place = p } ∷ os)
walk_by None (Some b) at p os = close_by b at p os
walk_by None None at p os = within os

-- the first closing bracket that does not fit the innermost open one, else the first opening one that is never closed
abbrev pub mismatch : ℕ → Walk → List Token → Option Found
mismatch at (unfit f) ts = Some f
mismatch at (within os) [] = outermost os
mismatch at (within os) (t ∷ ts) = mismatch (at + 1) (walk_by (opens t.kind) (closes t.kind) at t.place os) ts

-- the first token with which more brackets are open
abbrev pub deep_from : ℕ → ℕ → List Token → Option Found
deep_from at depth [] = None
deep_from at depth (t ∷ ts) =
    if nat_lt MOST_OPEN (depth_after t.kind depth) then fault_at at (too_deep t.place)
    else deep_from (at + 1) (depth_after t.kind depth) ts

-- the first of two faults, at one token the one of the lesser number
abbrev pub first_of : Found → Option Found → Refusal
first_of m None = m.refusal
first_of m (Some d) = if nat_lt d.at m.at then d.refusal else m.refusal

abbrev pub fault_of : Option Found → Option Found → Option Refusal
fault_of None deep = None
fault_of (Some m) deep = Some (first_of m deep)

-- the one fault of tokens whose brackets do not match
unfoldable pub bracket_fault : List Token → Option Refusal
bracket_fault ts = fault_of (mismatch 0 (within []) ts) (deep_from 0 0 ts)
