-- A statement that ends with a semicolon tells how deep its tokens are.
use Rattle.std.proofs.Common.{◌≡◌, ℕ, suc, ◌+◌, List, [], ◌∷◌, take, drop, Option, Some, None, refl, sym, ap, ◌∙◌, Bool, true, false, add-one}
use Rattle.std.specs.Prelude.{◌&&◌, is_some, Result, Ok}
use Rattle.c_text.specs.declared.place.Place.{Place}
use Rattle.c_text.specs.declared.token.Spelled.{Spelled}
use Rattle.c_text.specs.declared.token.Token.{Token}
use Rattle.c_tree.specs.declared.symbol.Keyword.{Keyword}
use Rattle.c_tree.specs.declared.symbol.Keyword.TheVariants as key
use Rattle.c_tree.specs.declared.expression.Callee.{Callee}
use Rattle.c_tree.specs.declared.expression.Expr.{Expr}
use Rattle.c_tree.specs.declared.statement.AssignOp.{AssignOp}
use Rattle.c_tree.specs.declared.statement.StmtKind.TheVariants as k
use Rattle.c_tree.specs.Symbol.{keyword_of, is_semicolon}
use Rattle.c_tree.specs.Brackets.{first_outside}
use Rattle.c_tree.specs.ExpressionCut.{inside, Closed, arguments, expression_of}
use Rattle.c_tree.specs.StatementCut.{Simple, declares, discards, calls, assigns, unknown, form_of, stmt, declare, discard_statement, call_statement, assign_statement, by_form, return_of, break_of, simple_by, simple, simple_at}
use Rattle.c_tree.specs.Sequence.{place_at}
use Rattle.c_depth.specs.Shallow.{is_shallow}
use Rattle.c_depth.proofs.Keeps.{Keeps, all, keeps-bind, keeps-is, keeps-part}
use Rattle.c_depth.proofs.Depth.{shallow-outside}
use Rattle.c_depth.proofs.Split.{outside-first, outside-shallow}
use Rattle.c_depth.proofs.Flat.{keyword-flat, semicolon-flat}
use Rattle.c_depth.proofs.Inside.{inside-keeps}
use Rattle.c_depth.proofs.Expressions.{cut-keeps, arguments-keep}
use Rattle.c_depth.proofs.Forms.{Says, form-says}

-- what stands in brackets, with tokens that are as deep where one bracket may be open
in-form : {A : Type 0} (place : Place) (part : ℕ → Result A _) (ts : List Token) (inner : ℕ → Bool) → is_shallow 0 0 ts ≡ false → ((r : ℕ) → is_shallow (suc r) 0 ts ≡ inner r)
    → ((r : ℕ) → Keeps (inner r) all (part r)) → (room : ℕ) → Keeps (is_shallow room 0 ts) all (inside room place part)
in-form place part ts inner deep same keeps room =
    inside-keeps place part (is_shallow room 0 ts) all room (λ none. ap (λ n. is_shallow n 0 ts) none ∙ deep)
    (λ r more. keeps-is (is_shallow room 0 ts) (inner r) all (part r) (ap (λ n. is_shallow n 0 ts) more ∙ same r) (keeps r))

declare-keeps : (room : ℕ) (s : Spelled) (name : List ℕ) (place : Place) (value : Option (List Token)) (ts : List Token) (after : Place) → Says ts (declares s name place value)
    → Keeps (is_shallow room 0 ts) all (declare room s name place value after)
declare-keeps room s name place None ts after h = h room
declare-keeps room s name place (Some value) ts after h =
    keeps-bind (is_shallow room 0 ts) all all (expression_of room value after) _ (keeps-is (is_shallow room 0 ts) (is_shallow room 0 value) all (expression_of room value after) (h room) (cut-keeps.at room value after)) (λ v. refl)

discard-keeps : (room : ℕ) (name : List ℕ) (place open_place : Place) (ts : List Token) → Says ts (discards name place open_place) → Keeps (is_shallow room 0 ts) all (discard_statement room name place open_place)
discard-keeps room name place open_place ts h = in-form open_place (λ r. Ok (stmt place (k.Discard name))) ts (λ r. true) h.0 h.1 (λ r. refl) room

call-keeps : (room : ℕ) (function : Callee) (place open_place : Place) (c : Closed) (ts : List Token) → Says ts (calls function place open_place c)
    → Keeps (is_shallow room 0 ts) all (call_statement room function place open_place c)
call-keeps room function place open_place c ts h =
    let part : (r : ℕ) → Result (List Expr) _ = λ r. arguments expression_of r c.inner c.close in
    keeps-bind (is_shallow room 0 ts) all all (inside room open_place part) _
    (in-form open_place part ts (λ r. is_shallow r 0 c.inner && true) h.0 h.1 (λ r. keeps-part (is_shallow r 0 c.inner) true (part r) (arguments-keep expression_of cut-keeps r c.inner c.close)) room) (λ es. refl)

assign-keeps : (room : ℕ) (target : List Token) (o : AssignOp) (place : Place) (value ts : List Token) (after : Place) → Says ts (assigns target o place value)
    → Keeps (is_shallow room 0 ts) all (assign_statement room target o place value after)
assign-keeps room target o place value ts after h =
    keeps-bind (is_shallow room 0 ts) (λ t. is_shallow room 0 value) all (expression_of room target place) _
    (keeps-is (is_shallow room 0 ts) (is_shallow room 0 target && is_shallow room 0 value) (λ t. is_shallow room 0 value) (expression_of room target place) (h room)
    (keeps-part (is_shallow room 0 target) (is_shallow room 0 value) (expression_of room target place) (cut-keeps.at room target place)))
    (λ t. keeps-bind (is_shallow room 0 value) all all (expression_of room value after) (λ v. Ok (stmt place (k.Assign t o v))) (cut-keeps.at room value after) (λ v. refl))

form-keeps : (room : ℕ) (first : Place) (form : Simple) (ts : List Token) (after : Place) → Says ts form → Keeps (is_shallow room 0 ts) all (by_form room first form after)
form-keeps room first (declares s name place value) ts after h = declare-keeps room s name place value ts after h
form-keeps room first (discards name place open_place) ts after h = discard-keeps room name place open_place ts h
form-keeps room first (calls function place open_place c) ts after h = call-keeps room function place open_place c ts h
form-keeps room first (assigns target o place value) ts after h = assign-keeps room target o place value ts after h
form-keeps room first unknown ts after h = refl

return-keeps : (room : ℕ) (place : Place) (ts : List Token) (after : Place) → Keeps (is_shallow room 0 ts) all (return_of room place ts after)
return-keeps room place [] after = refl
return-keeps room place (t ∷ ts) after = keeps-bind (is_shallow room 0 (t ∷ ts)) all all (expression_of room (t ∷ ts) after) _ (cut-keeps.at room (t ∷ ts) after) (λ v. refl)

break-keeps : (room : ℕ) (may : Bool) (place : Place) (ts : List Token) → Keeps (is_shallow room 0 ts) all (break_of may place ts)
break-keeps room true place [] = refl
break-keeps room true place (_ ∷ _) = refl
break-keeps room false place ts = refl

simple-by : (o : Option Keyword) (may : Bool) (room : ℕ) (t : Token) (ts : List Token) (after : Place) → keyword_of t.kind ≡ o → Keeps (is_shallow room 0 (t ∷ ts)) all (simple_by o may room t ts after)
simple-by (Some key.Return) may room t ts after e =
    keeps-is (is_shallow room 0 (t ∷ ts)) (is_shallow room 0 ts) all (return_of room t.place ts after) (shallow-outside room 0 t ts (keyword-flat t.kind (ap (λ w. is_some w) e))) (return-keeps room t.place ts after)
simple-by (Some key.Break) may room t ts after e =
    keeps-is (is_shallow room 0 (t ∷ ts)) (is_shallow room 0 ts) all (break_of may t.place ts) (shallow-outside room 0 t ts (keyword-flat t.kind (ap (λ w. is_some w) e))) (break-keeps room may t.place ts)
simple-by _ may room t ts after e = form-keeps room t.place (form_of (t ∷ ts)) (t ∷ ts) after (form-says (t ∷ ts))

simple-keeps : (may : Bool) (room : ℕ) (ts : List Token) (after : Place) → Keeps (is_shallow room 0 ts) all (simple may room ts after)
simple-keeps may room [] after = refl
simple-keeps may room (t ∷ ts) after = simple-by (keyword_of t.kind) may room t ts after refl

-- up to a semicolon, and what stands behind it
pub simple-at : (may : Bool) (room : ℕ) (i : Option ℕ) (ts : List Token) (after : Place) → first_outside is_semicolon 0 0 ts ≡ i
    → Keeps (is_shallow room 0 ts) (λ x. is_shallow room 0 (drop (x.1 + 1) ts)) (simple_at may room i ts after)
simple-at may room None ts after e = refl
simple-at may room (Some i) ts after e =
    let o = outside-first is_semicolon i ts e in
    let rest = is_shallow room 0 o.rest in
    let tokens : o.rest ≡ drop (i + 1) ts = sym o.behind ∙ ap (λ n. drop n ts) (sym (add-one i)) in
    let made = simple may room (take i ts) (place_at (drop i ts) after) in
    keeps-bind (is_shallow room 0 ts) (λ s. rest) (λ x. is_shallow room 0 (drop (x.1 + 1) ts)) made _
    (keeps-is (is_shallow room 0 ts) (is_shallow room 0 (take i ts) && rest) (λ s. rest) made (outside-shallow is_semicolon room i ts o (semicolon-flat o.token.kind o.passed))
    (keeps-part (is_shallow room 0 (take i ts)) rest made (simple-keeps may room (take i ts) (place_at (drop i ts) after))))
    (λ s. ap (λ us. is_shallow room 0 us) tokens)
