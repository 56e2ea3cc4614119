-- The types and the faults of an expression do not hang on its places, but for the places of the faults.
use Rattle.std.proofs.Common.{◌≡◌, ℕ, Bool, List, [], ◌∷◌, ◌++◌, map, length, Option, Some, None, option_map, refl, ap, ◌∙◌}
use Rattle.std.specs.Prelude.{not, ◌==◌}
use Rattle.std.proofs.lemmas.List.{map-append, length-map}
use Rattle.c_text.specs.declared.place.Place.{Place}
use Rattle.c_text.specs.declared.refusal.CKind.TheVariants.{TypeMismatch, ImpureCall, DeepCall}
use Rattle.c_text.specs.declared.token.IntType.{IntType}
use Rattle.c_text.specs.Refusal.{Refusal}
use Rattle.c_tree.specs.declared.expression.Callee.{Callee}
use Rattle.c_tree.specs.declared.expression.Callee.TheVariants.{Name, Memset}
use Rattle.c_tree.specs.declared.expression.Expr.{Expr}
use Rattle.c_tree.specs.declared.expression.ExprKind.{map-ExprKind}
use Rattle.c_tree.specs.declared.expression.ExprKind.TheOpen.{ExprKind-F}
use Rattle.c_tree.specs.declared.item.CType.{CType}
use Rattle.c_tree.specs.declared.item.CType.TheVariants.{Void, Integer, Pointer}
use Rattle.c_tree.specs.declared.item.Field.{Field}
use Rattle.c_tree.specs.declared.item.Function.{Function}
use Rattle.c_tree.specs.declared.item.Target.TheVariants.{Byte, Struct}
use Rattle.c_tree.specs.BareExpression.{trees_of, bare_expression}
use Rattle.cg_out.specs.Words.{look_up}
use Rattle.c_widths.specs.DataModel.{DataModel}
use Rattle.c_widths.specs.ConstantType.{constant_type}
use Rattle.c_types.specs.Scope.{Scope, type_named}
use Rattle.c_types.specs.Setting.{Setting, declared_by}
use Rattle.c_types.specs.TypeFault.{when}
use Rattle.c_types.specs.ExpressionTypes.{Sort, sort_of, integer_type, number, null_pointer, byte_pointer, struct_pointer, void_value, function_name, found, number_found, Wanted, an_integer, anything, a_byte_pointer, Typing, Called, integer_faults, name_misfit, misfit, number_misfit, constant_faults, name_found, no_local, bytes_faults, element_faults, tag_of, unknown_field, type_among, faults_among, tagged_type, tagged_faults, member_type, member_faults, takes_pointer, declared_call, named_call, called, callee_found, argument_faults, call_found, compares_pointer, operand_wanted, kind_step, typing, integer_value, all_arguments}
use Rattle.c_effect.proofs.Placeless.{no_place, all_grown, placeless, placeless_field, placeless_function}
use Rattle.c_effect.proofs.AnywhereCalls.{regrown}
use Rattle.c_alike.proofs.Unplaced.{unplaced, all_unplaced, found_unplaced, typing_unplaced, called_unplaced, setting_unplaced, both, when-unplaced, typing-ext}
use Rattle.c_alike.proofs.Folding.{expression-same}

-- ---- what is wanted

integer-faults : (sort : Sort) (p : Place) → integer_faults sort no_place ≡ all_unplaced (integer_faults sort p)
integer-faults number p = refl
integer-faults null_pointer p = refl
integer-faults byte_pointer p = refl
integer-faults struct_pointer p = refl
integer-faults void_value p = refl
integer-faults function_name p = refl

name-misfit : (wanted : Wanted) (sort : Sort) (p : Place) → name_misfit wanted sort no_place ≡ all_unplaced (name_misfit wanted sort p)
name-misfit anything sort p = refl
name-misfit an_integer sort p = integer-faults sort p
name-misfit a_byte_pointer number p = refl
name-misfit a_byte_pointer null_pointer p = refl
name-misfit a_byte_pointer byte_pointer p = refl
name-misfit a_byte_pointer struct_pointer p = refl
name-misfit a_byte_pointer void_value p = refl
name-misfit a_byte_pointer function_name p = refl

misfits : (wanted : Wanted) (sort : Sort) (p : Place) → misfit wanted sort no_place ≡ all_unplaced (misfit wanted sort p)
misfits anything sort p = refl
misfits an_integer sort p = integer-faults sort p
misfits a_byte_pointer sort p = refl

number-misfit : (wanted : Wanted) (p : Place) → number_misfit wanted no_place ≡ all_unplaced (number_misfit wanted p)
number-misfit anything p = refl
number-misfit an_integer p = refl
number-misfit a_byte_pointer p = refl

-- ---- constants and names

constant-faults : (type : Option IntType) (wanted : Wanted) (p : Place) → constant_faults type wanted no_place ≡ all_unplaced (constant_faults type wanted p)
constant-faults None wanted p = refl
constant-faults (Some type) wanted p = number-misfit wanted p

name-found : (m : DataModel) (type : Option CType) (f : Option Function) (wanted : Wanted) (p : Place)
    → name_found m type (option_map placeless_function f) wanted no_place ≡ found_unplaced (name_found m type f wanted p)
name-found m (Some type) f wanted p = ap (found (sort_of type) (integer_type m type)) (name-misfit wanted (sort_of type) p)
name-found m None (Some f) wanted p = ap (found function_name None) (name-misfit wanted function_name p)
name-found m None None wanted p = refl

-- ---- elements

bytes-faults : (type : CType) (p : Place) → bytes_faults type no_place ≡ all_unplaced (bytes_faults type p)
bytes-faults Void p = refl
bytes-faults (Integer s) p = refl
bytes-faults (Pointer Byte constant) p = refl
bytes-faults (Pointer (Struct tag) constant) p = refl

pub no_local-same : (f : Option Function) → no_local (option_map placeless_function f) ≡ no_local f
no_local-same (Some f) = refl
no_local-same None = refl

element-faults : (type : Option CType) (f : Option Function) (p : Place) → element_faults type (option_map placeless_function f) no_place ≡ all_unplaced (element_faults type f p)
element-faults (Some type) f p = bytes-faults type p
element-faults None f p = rw (no_local-same f) refl

-- ---- members

pub declared-same : (fs : List Field) → declared_by (map placeless_field fs) ≡ declared_by fs
declared-same [] = refl
declared-same (f ∷ fs) = ap (λ rest. (f.name, f.kind) ∷ rest) (declared-same fs)

type-among : (m : DataModel) (field : List ℕ) (fs : Option (List Field)) → type_among m field (option_map (map placeless_field) fs) ≡ type_among m field fs
type-among m field None = refl
type-among m field (Some fs) = rw (declared-same fs) refl

unknown-field : (type : Option CType) (p : Place) → unknown_field type no_place ≡ all_unplaced (unknown_field type p)
unknown-field None p = refl
unknown-field (Some type) p = refl

faults-among : (field : List ℕ) (fs : Option (List Field)) (p : Place) → faults_among field (option_map (map placeless_field) fs) no_place ≡ all_unplaced (faults_among field fs p)
faults-among field None p = refl
faults-among field (Some fs) p = rw (declared-same fs) (unknown-field (look_up field (declared_by fs)) p)

tagged-type : (s : Setting) (tag : Option (List ℕ)) (field : List ℕ) → tagged_type (setting_unplaced s) tag field ≡ tagged_type s tag field
tagged-type s None field = refl
tagged-type s (Some tag) field = type-among s.model field (s.fields tag)

tagged-faults : (s : Setting) (tag : Option (List ℕ)) (field : List ℕ) (p : Place) → tagged_faults (setting_unplaced s) tag field no_place ≡ all_unplaced (tagged_faults s tag field p)
tagged-faults s None field p = refl
tagged-faults s (Some tag) field p = faults-among field (s.fields tag) p

member-type : (s : Setting) (type : Option CType) (field : List ℕ) → member_type (setting_unplaced s) type field ≡ member_type s type field
member-type s None field = refl
member-type s (Some type) field = tagged-type s (tag_of type) field

member-faults : (s : Setting) (type : Option CType) (f : Option Function) (field : List ℕ) (p : Place)
    → member_faults (setting_unplaced s) type (option_map placeless_function f) field no_place ≡ all_unplaced (member_faults s type f field p)
member-faults s None f field p = rw (no_local-same f) refl
member-faults s (Some type) f field p = tagged-faults s (tag_of type) field p

-- ---- calls

takes-pointer : (fs : List Field) → takes_pointer (map placeless_field fs) ≡ takes_pointer fs
takes-pointer [] = refl
takes-pointer (f ∷ fs) = rw (takes-pointer fs) refl

declared-call : (m : DataModel) (f : Option Function) (deep : Option Bool) (count : ℕ) (p : Place)
    → declared_call m (option_map placeless_function f) deep count no_place ≡ called_unplaced (declared_call m f deep count p)
declared-call m None None count p = refl
declared-call m None (Some deep) count p = refl
declared-call m (Some f) None count p = refl
declared-call m (Some f) (Some deep) count p =
    rw (regrown f.params, length-map f.params placeless_field, takes-pointer f.params, when-unplaced (takes_pointer f.params) ImpureCall p, when-unplaced deep DeepCall p, when-unplaced (not (count == length f.params)) TypeMismatch p, map-append unplaced (when (takes_pointer f.params) ImpureCall p) (when deep DeepCall p)) refl

named-call : (m : DataModel) (type : Option CType) (f : Option Function) (deep : Option Bool) (count : ℕ) (p : Place)
    → named_call m type (option_map placeless_function f) deep count no_place ≡ called_unplaced (named_call m type f deep count p)
named-call m (Some type) f deep count p = refl
named-call m None f deep count p = declared-call m f deep count p

called-same : (s : Setting) (f : Callee) (count : ℕ) (p : Place) (scope : Scope) → called (setting_unplaced s) f count no_place scope ≡ called_unplaced (called s f count p scope)
called-same s (Name name) count p scope = named-call s.model (type_named name scope) (s.function name) (s.calls name) count p
called-same s Memset count p scope = refl

callee-found : (c : Called) (wanted : Wanted) (p : Place) → callee_found (called_unplaced c) wanted no_place ≡ found_unplaced (callee_found c wanted p)
callee-found c wanted p = ap (found c.sort c.type) (both _ _ c.ahead (misfit wanted c.sort p ++ c.last) refl (both _ _ (misfit wanted c.sort p) c.last (misfits wanted c.sort p) refl))

arguments-same : (ts : List Typing) (scope : Scope) → argument_faults (map typing_unplaced ts) scope ≡ all_unplaced (argument_faults ts scope)
arguments-same [] scope = refl
arguments-same (t ∷ ts) scope = both _ _ (t an_integer scope).faults (argument_faults ts scope) refl (arguments-same ts scope)

pub call-same : (s : Setting) (f : Callee) (count : ℕ) (wanted : Wanted) (p : Place) (arguments : List Refusal) (scope : Scope)
    → call_found (callee_found (called (setting_unplaced s) f count no_place scope) wanted no_place) (all_unplaced arguments)
    ≡ found_unplaced (call_found (callee_found (called s f count p scope) wanted p) arguments)
call-same s f count wanted p arguments scope =
    let c = called s f count p scope in
    let made = callee_found c wanted p in
    ap (λ d. call_found (callee_found d wanted no_place) (all_unplaced arguments)) (called-same s f count p scope)
    ∙ ap (λ d. call_found d (all_unplaced arguments)) (callee-found c wanted p)
    ∙ ap (found made.sort made.type) (both _ _ made.faults arguments refl refl)

-- ---- one level, of parts in their places

step-same : (s : Setting) (z : ExprKind-F (Place → Typing) Typing) (p : Place) (wanted : Wanted) (scope : Scope)
    → kind_step (setting_unplaced s) (map-ExprKind (Place → Typing) Typing (Place → Typing) Typing (λ k. k) typing_unplaced z) no_place wanted scope ≡ found_unplaced (kind_step s z p wanted scope)
step-same s (ExprKind-F.Constant c) p wanted scope = ap (number_found (constant_type s.model c)) (constant-faults (constant_type s.model c) wanted p)
step-same s (ExprKind-F.Name name) p wanted scope = name-found s.model (type_named name scope) (s.function name) wanted p
step-same s ExprKind-F.Null p wanted scope = ap (found null_pointer None) (misfits wanted null_pointer p)
step-same s (ExprKind-F.Member base field) p wanted scope =
    let type = type_named base scope in
    rw (member-type s type field) (ap (number_found (member_type s type field))
    (both _ _ (member_faults s type (s.function base) field p) (number_misfit wanted p) (member-faults s type (s.function base) field p) (number-misfit wanted p)))
step-same s (ExprKind-F.Element base index) p wanted scope =
    let type = type_named base scope in
    ap (number_found _) (both _ _ (element_faults type (s.function base) p) (number_misfit wanted p ++ (index an_integer scope).faults) (element-faults type (s.function base) p)
    (both _ _ (number_misfit wanted p) (index an_integer scope).faults (number-misfit wanted p) refl))
step-same s (ExprKind-F.Call f args) p wanted scope =
    rw (length-map args typing_unplaced, arguments-same args scope) (call-same s f (length args) wanted p (argument_faults args scope) scope)
step-same s (ExprKind-F.Unary op x) p wanted scope = ap (number_found _) (both _ _ (number_misfit wanted p) (x an_integer scope).faults (number-misfit wanted p) refl)
step-same s (ExprKind-F.Cast to x) p wanted scope = ap (number_found _) (both _ _ (number_misfit wanted p) (x an_integer scope).faults (number-misfit wanted p) refl)
step-same s (ExprKind-F.Binary op l r) p wanted scope =
    let operands = operand_wanted (compares_pointer op (l anything scope).sort (r anything scope).sort) in
    let a = l operands scope in
    let b = r operands scope in
    ap (number_found _) (both _ _ a.faults (number_misfit wanted p ++ b.faults) refl (both _ _ (number_misfit wanted p) b.faults (number-misfit wanted p) refl))
step-same s (ExprKind-F.Bracket x) p wanted scope =
    let a = x anything scope in
    ap (found a.sort a.type) (both _ _ (misfit wanted a.sort p) a.faults (misfits wanted a.sort p) refl)

-- ---- of whole expressions

module _ (s : Setting) where
  -- an expression, and the same with the fixed place everywhere
  pub typing-same : (e : Expr) → typing (setting_unplaced s) (placeless e) ≡ typing_unplaced (typing s e)
  typing-same = expression-same (Place → Typing) Typing (λ f p. f p) (kind_step s) (kind_step (setting_unplaced s)) typing_unplaced (λ z p. typing-ext _ _ (step-same s z p))

  pub integer-same : (e : Expr) (scope : Scope) → integer_value (setting_unplaced s) (placeless e) scope ≡ all_unplaced (integer_value s e scope)
  integer-same e scope = ap (λ (t : Typing). (t an_integer scope).faults) (typing-same e)

  pub arguments-anywhere : (args : List Expr) (scope : Scope) → all_arguments (setting_unplaced s) (all_grown (trees_of (map bare_expression args))) scope ≡ all_unplaced (all_arguments s args scope)
  arguments-anywhere [] scope = refl
  arguments-anywhere (a ∷ args) scope = both _ _ (integer_value s a scope) (all_arguments s args scope) (integer-same a scope) (arguments-anywhere args scope)
