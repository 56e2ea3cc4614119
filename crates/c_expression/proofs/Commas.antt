-- The parts between commas, one comma at a time.
use Rattle.std.proofs.Common.{◌≡◌, ℕ, zero, suc, ◌+◌, ◌==◌, ◌&&◌, Bool, true, false, if◌then◌else◌, List, [], ◌∷◌, length, take, drop, get_or, Option, Some, None, refl, sym, ap, ◌∙◌, arith, add-one}
use Rattle.std.proofs.lemmas.Bool.{false≢true}
use Rattle.std.proofs.lemmas.Bool.Decides.{nat_tests}
use Rattle.std.proofs.lemmas.Option.{none-some, same_Some}
use Rattle.c_text.specs.declared.token.Token.{Token}
use Rattle.c_text.specs.declared.place.Place.{Place}
use Rattle.c_tree.specs.declared.symbol.Punctuator.{Punctuator}
use Rattle.c_tree.specs.declared.symbol.Punctuator.TheVariants as mark
use Rattle.c_tree.specs.Symbol.{is_comma, is_comma_mark, mark_of}
use Rattle.c_tree.specs.Brackets.{mark_opens, mark_closes, depth_by, depth_after, first_outside}
use Rattle.c_tree.specs.ExpressionCut.{Delimited, parts, put_in}
use Rattle.cg_out.proofs.WordLaws.{both}

-- a comma opens and closes nothing
comma-flat : (m : Option Punctuator) (d : ℕ) → is_comma_mark m ≡ true → depth_by (mark_opens m) (mark_closes m) d ≡ d
comma-flat None d h = refl
comma-flat (Some mark.OpenParen) d h = absurd (false≢true h)
comma-flat (Some mark.CloseParen) d h = absurd (false≢true h)
comma-flat (Some mark.OpenBracket) d h = absurd (false≢true h)
comma-flat (Some mark.CloseBracket) d h = absurd (false≢true h)
comma-flat (Some mark.OpenBrace) d h = absurd (false≢true h)
comma-flat (Some mark.CloseBrace) d h = absurd (false≢true h)
comma-flat (Some mark.Comma) d h = refl
comma-flat (Some mark.Semicolon) d h = refl
comma-flat (Some mark.Colon) d h = refl
comma-flat (Some mark.Arrow) d h = refl
comma-flat (Some mark.Star) d h = refl
comma-flat (Some mark.Complement) d h = refl
comma-flat (Some mark.Not) d h = refl
comma-flat (Some mark.Plus) d h = refl
comma-flat (Some mark.Minus) d h = refl
comma-flat (Some mark.ShiftLeft) d h = refl
comma-flat (Some mark.ShiftRight) d h = refl
comma-flat (Some mark.Less) d h = refl
comma-flat (Some mark.Greater) d h = refl
comma-flat (Some mark.LessEqual) d h = refl
comma-flat (Some mark.GreaterEqual) d h = refl
comma-flat (Some mark.EqualEqual) d h = refl
comma-flat (Some mark.NotEqual) d h = refl
comma-flat (Some mark.And) d h = refl
comma-flat (Some mark.Caret) d h = refl
comma-flat (Some mark.Bar) d h = refl
comma-flat (Some mark.AndAnd) d h = refl
comma-flat (Some mark.BarBar) d h = refl
comma-flat (Some mark.Equal) d h = refl
comma-flat (Some mark.BarEqual) d h = refl
comma-flat (Some mark.AndEqual) d h = refl
comma-flat (Some mark.CaretEqual) d h = refl
comma-flat (Some mark.PlusEqual) d h = refl
comma-flat (Some mark.MinusEqual) d h = refl
comma-flat (Some mark.ShiftLeftEqual) d h = refl
comma-flat (Some mark.ShiftRightEqual) d h = refl

-- what is cut off at a comma
record Cut (after : Place) (depth at j : ℕ) (ts : List Token) : Type 0 where
  count : ℕ
  comma : Token
  rest : List Token
  index : j ≡ at + count
  split : drop count ts ≡ comma ∷ rest
  are : parts after depth ts ≡ (take count ts, comma.place) ∷ parts after 0 rest

parts-none-by : (after : Place) (b : Bool) (at : ℕ) (t : Token) (ts : List Token) (more : Option ℕ) (ps : List Delimited) → (if b then Some at else more) ≡ None → (more ≡ None → ps ≡ (ts, after) ∷ [])
    → put_in b t ps ≡ (t ∷ ts, after) ∷ []
parts-none-by after true at t ts more ps e ih = absurd (none-some at (sym e))
parts-none-by after false at t ts more ps e ih = rw (ih e) refl

parts-none : (after : Place) (depth at : ℕ) (ts : List Token) → first_outside is_comma at depth ts ≡ None → parts after depth ts ≡ (ts, after) ∷ []
parts-none after depth at [] e = refl
parts-none after depth at (t ∷ ts) e =
    parts-none-by after (depth == 0 && is_comma t.kind) at t ts (first_outside is_comma (at + 1) (depth_after t.kind depth) ts) (parts after (depth_after t.kind depth) ts) e
    (parts-none after (depth_after t.kind depth) (at + 1) ts)

pub is-zero : (n : ℕ) → (n == 0) ≡ true → n ≡ 0
is-zero n h = grind (arith, nat_tests)

parts-some-by : (after : Place) (b : Bool) (depth at j : ℕ) (t : Token) (ts : List Token) (more : Option ℕ)
    → (depth == 0 && is_comma t.kind) ≡ b → (if b then Some at else more) ≡ Some j → (more ≡ Some j → Cut after (depth_after t.kind depth) (at + 1) j ts) → Cut after depth at j (t ∷ ts)
parts-some-by after true depth at j t ts more c e ih =
    let two = both (depth == 0) (is_comma t.kind) c in
    let flat : depth ≡ 0 = is-zero depth two.0 in
    let at_is : at ≡ j = same_Some at j e in
    record {
      count = 0;
      comma = t;
      rest = ts;
      index = omega (arith, at_is);
      split = refl;
      are = rw (c, comma-flat (mark_of t.kind) depth two.1, flat) refl;
    }
parts-some-by after false depth at j t ts more c e ih =
    let r = ih e in
    record { count = suc r.count; comma = r.comma; rest = r.rest; index = omega (arith, r.index); split = r.split; are = rw (c, r.are) refl }

parts-some : (after : Place) (depth at j : ℕ) (ts : List Token) → first_outside is_comma at depth ts ≡ Some j → Cut after depth at j ts
parts-some after depth at j [] e = absurd (none-some j e)
parts-some after depth at j (t ∷ ts) e =
    parts-some-by after (depth == 0 && is_comma t.kind) depth at j t ts (first_outside is_comma (at + 1) (depth_after t.kind depth) ts) refl e
    (parts-some after (depth_after t.kind depth) (at + 1) j ts)

pub at-drop : (n : ℕ) (xs : List Token) (x : Token) (rest : List Token) (d : Token) → drop n xs ≡ x ∷ rest → (get_or xs n d ≡ x) × (drop (suc n) xs ≡ rest)
at-drop zero xs x rest d e = rw e (refl, refl)
at-drop (suc n) [] x rest d e = absurd (omega (arith, ap length e))
at-drop (suc n) (y ∷ ys) x rest d e = at-drop n ys x rest d e

-- one comma cuts off one part
pub comma-part : (after : Place) (i : ℕ) (ts : List Token) (d : Token) → Some i ≡ first_outside is_comma 0 0 ts
    → parts after 0 ts ≡ (take i ts, (get_or ts i d).place) ∷ parts after 0 (drop (i + 1) ts)
comma-part after i ts d e =
    let r = parts-some after 0 0 i ts (sym e) in
    let two = at-drop r.count ts r.comma r.rest d r.split in
    let same : r.count ≡ i = omega (arith, r.index) in
    r.are ∙ (λ k. (take r.count ts, (sym two.0 k).place) ∷ parts after 0 (sym two.1 k)) ∙ (λ k. (take (same k) ts, (get_or ts (same k) d).place) ∷ parts after 0 (drop (suc (same k)) ts))
    ∙ ap (λ n. (take i ts, (get_or ts i d).place) ∷ parts after 0 (drop n ts)) (sym (add-one i))

pub no-comma : (after : Place) (ts : List Token) → None ≡ first_outside is_comma 0 0 ts → parts after 0 ts ≡ (ts, after) ∷ []
no-comma after ts e = parts-none after 0 0 ts (sym e)
