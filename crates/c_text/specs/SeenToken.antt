-- Tokens as preprocessing sees them: it asks nothing of a place but whether a token stands directly behind the one before.
use Rattle.std.specs.Prelude.{ℕ, Bool, false, ◌==◌, List, [], ◌∷◌, map, Option, Some, None}
use Rattle.c_text.specs.declared.place.Place.{Place}
use Rattle.c_text.specs.declared.token.Token.{Token}
use Rattle.c_text.specs.declared.token.TokenKind.{TokenKind}

-- a token with what is kept of its place: all of it, or nothing
pub record Seen (P : Type 0) : Type 0 where
  pub kind : TokenKind
  pub fresh : Bool
  -- there is a token before it, and nothing stands between the two
  pub joined : Bool
  pub kept : P

-- the offset is the one where the token before ends, if there is one
abbrev pub is_end : Option ℕ → ℕ → Bool
is_end None at = false
is_end (Some end) at = at == end

-- tokens behind a token that ends at this offset, or behind none
abbrev pub seen_behind : Option ℕ → List Token → List (Seen Place)
seen_behind end [] = []
seen_behind end (t ∷ ts) = record { kind = t.kind; fresh = t.fresh; joined = is_end end t.place.start; kept = t.place } ∷ seen_behind (Some t.place.end) ts

abbrev pub token_of : Seen Place → Token
token_of s = record { kind = s.kind; place = s.kept; fresh = s.fresh }

-- ---- without places

abbrev pub kept_by : {P Q : Type 0} → (P → Q) → Seen P → Seen Q
kept_by f s = record { kind = s.kind; fresh = s.fresh; joined = s.joined; kept = f s.kept }

abbrev pub all_kept_by : {P Q : Type 0} → (P → Q) → List (Seen P) → List (Seen Q)
all_kept_by f ts = map (kept_by f) ts

-- a token without its place
abbrev pub Bare : Type 0
Bare = Seen (Unit {0})

abbrev pub bare : Seen Place → Bare
bare s = kept_by (λ p. tt) s

abbrev pub bares_behind : Option ℕ → List Token → List Bare
bares_behind end ts = map bare (seen_behind end ts)

-- the tokens of a text without their places
abbrev pub bares : List Token → List Bare
bares ts = bares_behind None ts
