-- Tokens seen and tokens as they stand.
use Rattle.std.proofs.Common.{◌≡◌, ℕ, ◌≤◌, Bool, ◌||◌, List, [], ◌∷◌, map, Option, Some, is_some, length, refl, ap, arith}
use Rattle.std.specs.List.{list_any}
use Rattle.c_text.specs.declared.place.Place.{Place}
use Rattle.c_text.specs.declared.token.Token.{Token}
use Rattle.c_text.specs.declared.token.TokenKind.TheVariants.{Quoted}
use Rattle.c_text.specs.declared.refusal.CKind.TheVariants.{BadDirective}
use Rattle.c_text.specs.SeenToken.{seen_behind, token_of}
use Rattle.c_text.specs.Directive.{Line, refused, word_of, include_quoted, has_word, conditional_line, none_follow}
use Rattle.c_pre.specs.Shown.{flat, flats, unjoin}

-- ---- where the token before ends is open

pub unjoined_seen : (end : Option ℕ) (ts : List Token) → map unjoin (seen_behind end ts) ≡ flats ts
unjoined_seen end [] = refl
unjoined_seen end (t ∷ ts) = ap (λ r. flat t ∷ r) (unjoined_seen (Some t.place.end) ts)

pub word_seen : (end : Option ℕ) (ts : List Token) → has_word (seen_behind end ts) ≡ list_any (λ t. is_some (word_of t.kind)) ts
word_seen end [] = refl
word_seen end (t ∷ ts) = ap (λ r. is_some (word_of t.kind) || r) (word_seen (Some t.place.end) ts)

pub flats_back : (ts : List Token) → map token_of (flats ts) ≡ ts
flats_back [] = refl
flats_back (t ∷ ts) = ap (λ r. t ∷ r) (flats_back ts)

-- ---- tokens too many

pub none_follow-more : (p : Place) (l : Line Place) (end : Option ℕ) (ts : List Token) → 1 ≤ length ts → none_follow p l (seen_behind end ts) ≡ refused p BadDirective
none_follow-more p l end [] h = absurd (omega arith)
none_follow-more p l end (t ∷ ts) h = refl

pub quoted-more : (beside : Option (List ℕ)) (p : Place) (name : List ℕ) (end : Option ℕ) (ts : List Token) → 1 ≤ length ts → include_quoted beside p (Quoted name) (seen_behind end ts) ≡ refused p BadDirective
quoted-more beside p name end [] h = absurd (omega arith)
quoted-more beside p [] end (t ∷ ts) h = refl
quoted-more beside p (c ∷ cs) end (t ∷ ts) h = refl

pub conditional-more : (p : Place) (wanted : Bool) (end : Option ℕ) (ts : List Token) → 2 ≤ length ts → conditional_line p wanted (seen_behind end ts) ≡ refused p BadDirective
conditional-more p wanted end [] h = absurd (omega arith)
conditional-more p wanted end (t ∷ []) h = absurd (omega arith)
conditional-more p wanted end (t ∷ u ∷ ts) h = refl
