-- The name of an included header, token by token.
use Rattle.std.proofs.Common.{◌≡◌, ℕ, ◌+◌, ◌<◌, ◌≤◌, suc, true, List, [], ◌∷◌, ◌++◌, length, drop, get_or, codes, Option, Some, None, option_map, refl, ap, ◌∙◌, arith, eq-eqb, drop-cons, length-drop}
use Rattle.c_text.specs.declared.token.Token.{Token}
use Rattle.c_text.specs.declared.token.TokenKind.{TokenKind}
use Rattle.c_text.specs.SeenToken.{seen_behind}
use Rattle.c_text.specs.StandardHeader.{is_mark}
use Rattle.c_text.specs.Directive.{up_to_greater}
use Rattle.c_pre.specs.Shown.{kinds}

-- what stands before the `>`, behind these tokens
abbrev pub with_front : List Token → Option (List TokenKind) → Option (List TokenKind)
with_front front o = option_map (λ ks. kinds front ++ ks) o

tokens-behind : (front : List Token) (e : ℕ) (t : Token) (us : List Token) → t.place.start ≡ e → is_mark (codes ">") t.kind ≡ true → 1 ≤ length us → with_front front (up_to_greater (seen_behind (Some e) (t ∷ us))) ≡ None
tokens-behind front e t [] s m h = absurd (omega arith)
tokens-behind front e t (u ∷ us) s m h = rw (eq-eqb t.place.start e s, m) refl

-- a `>` that is not the last token
pub greater-more : (front ts : List Token) (i e : ℕ) (d : Token) → i < length ts → (get_or ts i d).place.start ≡ e → is_mark (codes ">") (get_or ts i d).kind ≡ true → (i + 1 ≡ length ts → ⊥) → with_front front (up_to_greater (seen_behind (Some e) (drop i ts))) ≡ None
greater-more front ts i e d h s m more =
    ap (λ xs. with_front front (up_to_greater (seen_behind (Some e) xs))) (drop-cons ts i d h)
    ∙ tokens-behind front e (get_or ts i d) (drop (suc i) ts) s m (omega (arith, length-drop (suc i) ts))
