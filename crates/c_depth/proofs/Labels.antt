-- Labels, and statements among them, tell how deep their tokens are.
use Rattle.std.proofs.Common.{◌≡◌, ℕ, suc, ◌+◌, List, [], ◌∷◌, take, drop, Option, Some, None, refl, sym, ap, ◌∙◌, Bool, true, false, add-one}
use Rattle.std.specs.Prelude.{◌&&◌, if◌then◌else◌, is_some, Ok, Err}
use Rattle.c_text.specs.declared.place.Place.{Place}
use Rattle.c_text.specs.declared.token.Token.{Token}
use Rattle.c_tree.specs.declared.symbol.Keyword.{Keyword}
use Rattle.c_tree.specs.declared.symbol.Keyword.TheVariants as key
use Rattle.c_tree.specs.declared.statement.SwitchPart.TheVariants.{Label, Statement}
use Rattle.c_tree.specs.Symbol.{keyword_of, is_colon}
use Rattle.c_tree.specs.Brackets.{first_outside, syntax}
use Rattle.c_tree.specs.TypeName.{is_type_word}
use Rattle.c_tree.specs.CaseValue.{case_value}
use Rattle.c_tree.specs.StatementCut.{StatementRead, case_at, default_at, statement_part, part_by}
use Rattle.c_tree.specs.Sequence.{place_at}
use Rattle.c_depth.specs.Shallow.{is_shallow}
use Rattle.c_depth.proofs.Keeps.{Keeps, keeps-bind, keeps-is, keeps-part}
use Rattle.c_depth.proofs.Depth.{shallow-outside}
use Rattle.c_depth.proofs.Split.{outside-first, outside-shallow}
use Rattle.c_depth.proofs.Flat.{IsFlat, keyword-flat, colon-flat}
use Rattle.c_depth.proofs.CaseValues.{value-keeps}
use Rattle.c_depth.proofs.Sequences.{behind}

-- what stands behind a statement at the front
abbrev pub past : {A : Type 0} → ℕ → List Token → A × ℕ → Bool
past room ts x = is_shallow room 0 (drop (x.1 + 1) ts)

pub past-first : {A : Type 0} (room : ℕ) (t : Token) (ts : List Token) (x : A × ℕ) → behind room ts x ≡ past room (t ∷ ts) x
past-first room t ts x = ap (λ n. is_shallow room 0 (drop n (t ∷ ts))) (sym (add-one x.1))

pub drop-next : (i : ℕ) (ts us : List Token) → drop (suc i) ts ≡ us → us ≡ drop (i + 1) ts
drop-next i ts us e = sym e ∙ ap (λ n. drop n ts) (sym (add-one i))

pub by-keyword : (t : Token) (o : Option Keyword) → keyword_of t.kind ≡ o → is_some o ≡ true → IsFlat t.kind
by-keyword t o e h = keyword-flat t.kind (ap (λ w. is_some w) e ∙ h)

case-keeps : (room : ℕ) (place : Place) (i : Option ℕ) (ts : List Token) (after : Place) → first_outside is_colon 0 0 ts ≡ i → Keeps (is_shallow room 0 ts) (behind room ts) (case_at room place i ts after)
case-keeps room place None ts after e = refl
case-keeps room place (Some i) ts after e =
    let o = outside-first is_colon i ts e in
    let rest = is_shallow room 0 o.rest in
    let value = case_value room (take i ts) (place_at (drop i ts) after) in
    keeps-bind (is_shallow room 0 ts) (λ v. rest) (behind room ts) value _
    (keeps-is (is_shallow room 0 ts) (is_shallow room 0 (take i ts) && rest) (λ v. rest) value (outside-shallow is_colon room i ts o (colon-flat o.token.kind o.passed))
    (keeps-part (is_shallow room 0 (take i ts)) rest value (value-keeps.at room (take i ts) (place_at (drop i ts) after))))
    (λ v. ap (λ us. is_shallow room 0 us) (drop-next i ts o.rest o.behind))

default-by : (room : ℕ) (b : Bool) (place : Place) (t : Token) (ts : List Token) → is_colon t.kind ≡ b
    → Keeps (is_shallow room 0 (t ∷ ts)) (behind room (t ∷ ts)) (if b then Ok (Label None place, 1) else Err (syntax place))
default-by room true place t ts e = shallow-outside room 0 t ts (colon-flat t.kind e)
default-by room false place t ts e = refl

default-keeps : (room : ℕ) (place : Place) (ts : List Token) → Keeps (is_shallow room 0 ts) (behind room ts) (default_at place ts)
default-keeps room place [] = refl
default-keeps room place (t ∷ ts) = default-by room (is_colon t.kind) place t ts refl

statement-part : (room : ℕ) (b : Bool) (place : Place) (t : Token) (ts : List Token) (got : StatementRead) → Keeps (is_shallow room 0 (t ∷ ts)) (past room (t ∷ ts)) got
    → Keeps (is_shallow room 0 (t ∷ ts)) (behind room ts) (statement_part b place got)
statement-part room true place t ts got h = refl
statement-part room false place t ts got h =
    keeps-bind (is_shallow room 0 (t ∷ ts)) (past room (t ∷ ts)) (behind room ts) got (λ s. Ok (Statement s.0, s.1)) h (λ s. sym (past-first room t ts s))

pub part-by : (room : ℕ) (o : Option Keyword) (got : StatementRead) (after : Place) (t : Token) (ts : List Token) → keyword_of t.kind ≡ o → Keeps (is_shallow room 0 (t ∷ ts)) (past room (t ∷ ts)) got
    → Keeps (is_shallow room 0 (t ∷ ts)) (behind room ts) (part_by o got room after t ts)
part-by room (Some key.Case) got after t ts e h =
    keeps-is (is_shallow room 0 (t ∷ ts)) (is_shallow room 0 ts) (behind room ts) (case_at room t.place (first_outside is_colon 0 0 ts) ts after)
    (shallow-outside room 0 t ts (by-keyword t (Some key.Case) e refl)) (case-keeps room t.place (first_outside is_colon 0 0 ts) ts after refl)
part-by room (Some key.Default) got after t ts e h =
    keeps-is (is_shallow room 0 (t ∷ ts)) (is_shallow room 0 ts) (behind room ts) (default_at t.place ts)
    (shallow-outside room 0 t ts (by-keyword t (Some key.Default) e refl)) (default-keeps room t.place ts)
part-by room _ got after t ts e h = statement-part room (is_type_word t.kind) t.place t ts got h
