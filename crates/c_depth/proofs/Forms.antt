-- What each form of a statement says of the depth of its tokens.
use Rattle.std.proofs.Common.{◌≡◌, ℕ, suc, List, [], ◌∷◌, take, drop, Option, Some, None, refl, sym, ap, ◌∙◌, subst, Bool, true, false, cond}
use Rattle.std.specs.Prelude.{◌&&◌, is_some}
use Rattle.std.proofs.lemmas.Bool.{and_parts, false≢true}
use Rattle.c_text.specs.declared.place.Place.{Place}
use Rattle.c_text.specs.declared.token.Spelled.{Spelled}
use Rattle.c_text.specs.declared.token.Token.{Token}
use Rattle.c_tree.specs.declared.symbol.Bracket.{Bracket}
use Rattle.c_tree.specs.declared.symbol.Bracket.TheVariants.{Round}
use Rattle.c_tree.specs.declared.symbol.Punctuator.{Punctuator}
use Rattle.c_tree.specs.declared.symbol.Punctuator.TheVariants as mark
use Rattle.c_tree.specs.declared.expression.Callee.{Callee}
use Rattle.c_tree.specs.declared.statement.AssignOp.{AssignOp}
use Rattle.c_tree.specs.Symbol.{keyword_of, name_of, callee_of, mark_of, is_equal}
use Rattle.c_tree.specs.Brackets.{opens, closes, mark_opens, mark_closes, depth_by, is_bracket, first_outside}
use Rattle.c_tree.specs.Operators.{assignment}
use Rattle.c_tree.specs.TypeName.{CountedType, front_type}
use Rattle.c_tree.specs.ExpressionCut.{Closed, closed}
use Rattle.c_tree.specs.StatementCut.{is_void, Simple, declares, discards, calls, assigns, unknown, or_form, declares_value, declares_name, declaration_by, declaration_form, discards_name, discard_form, call_by, call_form, is_target, assigns_by, assigns_at, is_assignment, assign_by, assignment_form, form_of}
use Rattle.c_depth.specs.Shallow.{is_shallow}
use Rattle.c_depth.proofs.Tests.{void-key}
use Rattle.c_depth.proofs.Depth.{shallow-outside, shallow-level, shallow-open, shallow-none}
use Rattle.c_depth.proofs.Split.{outside-first, outside-shallow}
use Rattle.c_depth.proofs.Flat.{name-flat, callee-flat, equal-flat, assignment-flat, keyword-level, IsBehind, type-behind}
use Rattle.c_depth.proofs.Inside.{IsInner, closed-inner}
use Rattle.c_depth.proofs.Expressions.{bracket-is}

-- where no bracket may be open the tokens of a discard or a call are too deep, and else as deep as what stands in the brackets
abbrev pub Says : List Token → Simple → Type 0
Says ts (declares s name place None) = (room : ℕ) → is_shallow room 0 ts ≡ true
Says ts (declares s name place (Some value)) = (room : ℕ) → is_shallow room 0 ts ≡ is_shallow room 0 value
Says ts (discards name place open_place) = (is_shallow 0 0 ts ≡ false) × ((room : ℕ) → is_shallow (suc room) 0 ts ≡ true)
Says ts (calls function place open_place c) = (is_shallow 0 0 ts ≡ false) × ((room : ℕ) → is_shallow (suc room) 0 ts ≡ (is_shallow room 0 c.inner && true))
Says ts (assigns target o place value) = (room : ℕ) → is_shallow room 0 ts ≡ (is_shallow room 0 target && is_shallow room 0 value)
Says ts unknown = Unit {0}

-- ---- declarations

-- the same of tokens that stand behind others, of which none is a bracket
says-behind : (ts us : List Token) (form : Simple) → ((room : ℕ) → is_shallow room 0 ts ≡ is_shallow room 0 us) → Says us form → Says ts form
says-behind ts us (declares s name place None) e h = λ room. e room ∙ h room
says-behind ts us (declares s name place (Some value)) e h = λ room. e room ∙ h room
says-behind ts us (discards name place open_place) e h = (e 0 ∙ h.0, λ room. e (suc room) ∙ h.1 room)
says-behind ts us (calls function place open_place c) e h = (e 0 ∙ h.0, λ room. e (suc room) ∙ h.1 room)
says-behind ts us (assigns target o place value) e h = λ room. e room ∙ h room
says-behind ts us unknown e h = tt

value-by : (b : Bool) (s : Spelled) (name : List ℕ) (place : Place) (t : Token) (ts : List Token) → is_equal t.kind ≡ b → Says (t ∷ ts) (cond b (declares s name place (Some ts)) unknown)
value-by true s name place t ts e = λ room. shallow-outside room 0 t ts (equal-flat t.kind e)
value-by false s name place t ts e = tt

value-says : (s : Spelled) (name : Option (List ℕ)) (place : Place) (ts : List Token) → Says ts (declares_value s name place ts)
value-says s None place ts = tt
value-says s (Some name) place [] = λ room. refl
value-says s (Some name) place (t ∷ ts) = value-by (is_equal t.kind) s name place t ts refl

named-says : (s : Spelled) (t : Token) (ts : List Token) (name : Option (List ℕ)) → name_of t.kind ≡ name → Says (t ∷ ts) (declares_value s name t.place ts)
named-says s t ts (Some name) e =
    says-behind (t ∷ ts) ts (declares_value s (Some name) t.place ts) (λ room. shallow-outside room 0 t ts (name-flat t.kind (ap (λ n. is_some n) e))) (value-says s (Some name) t.place ts)
named-says s t ts None e = tt

name-says : (s : Spelled) (ts : List Token) → Says ts (declares_name s ts)
name-says s [] = tt
name-says s (t ∷ ts) = named-says s t ts (name_of t.kind) refl

declaration-by : (ts : List Token) (o : Option CountedType) → IsBehind ts o → Says ts (declaration_by o ts)
declaration-by ts None h = tt
declaration-by ts (Some t) h = says-behind ts (drop t.1 ts) (declares_name t.0 (drop t.1 ts)) h (name-says t.0 (drop t.1 ts))

-- ---- `(void)` and a name

closing-mark : (m : Option Punctuator) → is_bracket Round (mark_closes m) ≡ true → depth_by (mark_opens m) (mark_closes m) 1 ≡ 0
closing-mark (Some mark.CloseParen) h = refl
closing-mark _ h = absurd (false≢true h)

void-inner : (room : ℕ) (v c x : Token) → is_void v.kind ≡ true → is_bracket Round (closes c.kind) ≡ true → is_some (name_of x.kind) ≡ true → is_shallow (suc room) 1 (v ∷ c ∷ x ∷ []) ≡ true
void-inner room v c x is_v is_c is_x =
    shallow-level room v (c ∷ x ∷ []) (keyword-level v.kind 1 (void-key (keyword_of v.kind) is_v))
    ∙ shallow-outside (suc room) 1 c (x ∷ []) (closing-mark (mark_of c.kind) is_c) ∙ shallow-outside (suc room) 0 x [] (name-flat x.kind is_x)

discards-says : (o v c x : Token) (b : Bracket) (name : Option (List ℕ)) → opens o.kind ≡ Some b → is_void v.kind ≡ true → is_bracket Round (closes c.kind) ≡ true → name_of x.kind ≡ name
    → Says (o ∷ v ∷ c ∷ x ∷ []) (discards_name name x.place o.place)
discards-says o v c x b (Some name) is_o is_v is_c is_x =
    (shallow-none o b (v ∷ c ∷ x ∷ []) is_o, λ room. shallow-open room o b (v ∷ c ∷ x ∷ []) is_o ∙ void-inner room v c x is_v is_c (ap (λ n. is_some n) is_x))
discards-says o v c x b None is_o is_v is_c is_x = tt

discard-by : (b : Bool) (o v c x : Token) → (is_bracket Round (opens o.kind) && (is_void v.kind && is_bracket Round (closes c.kind))) ≡ b
    → Says (o ∷ v ∷ c ∷ x ∷ []) (cond b (discards_name (name_of x.kind) x.place o.place) unknown)
discard-by true o v c x e =
    let one = and_parts (is_bracket Round (opens o.kind)) (is_void v.kind && is_bracket Round (closes c.kind)) e in
    let two = and_parts (is_void v.kind) (is_bracket Round (closes c.kind)) one.1 in
    let b = bracket-is Round (opens o.kind) one.0 in
    discards-says o v c x b.0 (name_of x.kind) b.1 two.0 two.1 refl
discard-by false o v c x e = tt

discard-says : (ts : List Token) → Says ts (discard_form ts)
discard-says (o ∷ v ∷ c ∷ x ∷ []) = discard-by (is_bracket Round (opens o.kind) && (is_void v.kind && is_bracket Round (closes c.kind))) o v c x refl
discard-says [] = tt
discard-says (_ ∷ []) = tt
discard-says (_ ∷ _ ∷ []) = tt
discard-says (_ ∷ _ ∷ _ ∷ []) = tt
discard-says (_ ∷ _ ∷ _ ∷ _ ∷ _ ∷ _) = tt

-- ---- calls

calls-says : (f o : Token) (b : Bracket) (ts : List Token) (function : Option Callee) (c : Option Closed) → opens o.kind ≡ Some b → callee_of f.kind ≡ function → IsInner ts c
    → Says (f ∷ o ∷ ts) (call_by function f.place o.place c)
calls-says f o b ts (Some function) (Some c) is_o is_f inner =
    let flat = callee-flat f.kind (ap (λ n. is_some n) is_f) in
    (shallow-outside 0 0 f (o ∷ ts) flat ∙ shallow-none o b ts is_o, λ room. shallow-outside (suc room) 0 f (o ∷ ts) flat ∙ shallow-open room o b ts is_o ∙ inner room)
calls-says f o b ts (Some function) None is_o is_f inner = tt
calls-says f o b ts None c is_o is_f inner = tt

call-by : (b : Bool) (f o : Token) (ts : List Token) → is_bracket Round (opens o.kind) ≡ b → Says (f ∷ o ∷ ts) (cond b (call_by (callee_of f.kind) f.place o.place (closed ts)) unknown)
call-by true f o ts e = let b = bracket-is Round (opens o.kind) e in calls-says f o b.0 ts (callee_of f.kind) (closed ts) b.1 refl (closed-inner ts)
call-by false f o ts e = tt

call-says : (ts : List Token) → Says ts (call_form ts)
call-says (f ∷ o ∷ ts) = call-by (is_bracket Round (opens o.kind)) f o ts refl
call-says [] = tt
call-says (_ ∷ []) = tt

-- ---- assignments

assigns-says : (b : Bool) (o : Option AssignOp) (ts target value : List Token) (place : Place) → ((room : ℕ) → is_shallow room 0 ts ≡ (is_shallow room 0 target && is_shallow room 0 value))
    → Says ts (assigns_by b o target place value)
assigns-says true (Some o) ts target value place h = h
assigns-says true None ts target value place h = tt
assigns-says false o ts target value place h = tt

assign-by : (i : Option ℕ) (ts : List Token) → first_outside is_assignment 0 0 ts ≡ i → Says ts (assign_by i ts)
assign-by None ts e = tt
assign-by (Some i) ts e =
    let o = outside-first is_assignment i ts e in
    subst (λ us. Says ts (assigns_at (take i ts) us)) (sym o.there)
    (assigns-says (is_target (take i ts)) (assignment o.token.kind) ts (take i ts) o.rest o.token.place
    (λ room. outside-shallow is_assignment room i ts o (assignment-flat o.token.kind o.passed)))

-- ---- the one form that the tokens have

or-says : (ts : List Token) (form other : Simple) → Says ts form → Says ts other → Says ts (or_form form other)
or-says ts unknown other h i = i
or-says ts (declares s name place value) other h i = h
or-says ts (discards name place open_place) other h i = h
or-says ts (calls function place open_place c) other h i = h
or-says ts (assigns target o place value) other h i = h

pub form-says : (ts : List Token) → Says ts (form_of ts)
unfolding form_of
form-says ts =
    or-says ts (declaration_form ts) (or_form (discard_form ts) (or_form (call_form ts) (assignment_form ts))) (declaration-by ts (front_type ts) (type-behind ts))
    (or-says ts (discard_form ts) (or_form (call_form ts) (assignment_form ts)) (discard-says ts)
    (or-says ts (call_form ts) (assignment_form ts) (call-says ts) (assign-by (first_outside is_assignment 0 0 ts) ts refl)))
