-- A message's pack function has no fault of types behind its struct, its prototype and its helpers.
use Rattle.std.proofs.Common.{◌≡◌, ℕ, false, List, [], map, Some, None, refl, sym, subst}
use Rattle.std.specs.List.{AllByRecursion}
use Rattle.can_model.specs.declared.database.Message.{Message}
use Rattle.can_model.specs.Validity.{IsOfValidDatabase}
use Rattle.name_rules.specs.declared.table.MessageNames.{MessageNames}
use Rattle.c_tree.specs.declared.item.Field.{Field}
use Rattle.c_tree.specs.declared.item.Function.{Function}
use Rattle.c_tree.specs.declared.statement.Stmt.{Stmt}
use Rattle.c_tree.specs.BareStatement.{actions_of}
use Rattle.c_tree.specs.BareUnit.{function}
use Rattle.c_operators.proofs.Models.{IsOneOf}
use Rattle.c_types.specs.Scope.{is_reserved}
use Rattle.c_types.specs.Setting.{Setting}
use Rattle.c_types.specs.UnitTypes.{item_faults}
use Rattle.c_effect.proofs.Placeless.{grown_list, grown_field, grown_function, grown_item}
use Rattle.c_alike.proofs.TypedStatements.{AreTyped}
use Rattle.c_alike.proofs.TypedUnits.{AreFieldsTyped, typed-no_fields, typed-field, typed-first_head, typed-later_head, typed-prototype, typed-definition}
use Rattle.gen_pack.specs.Named.{IsNamed}
use Rattle.gen_pack.specs.Switches.{HasNoParent}
use Rattle.gen_pack.specs.PackTree.{buffer, source, size, number, message_body, parameters, pack_head, pack_function}
use Rattle.gen_pack.proofs.Running.{grown-list}
use Rattle.gen_items.proofs.TypedScope.{at_top}
use Rattle.gen_items.proofs.TypedBody.{from_parameters, int, CallsHelpers, grown_fields, body-typed}

-- ---- the head

-- the parameters, where the struct is declared
pub parameters-typed : (s : Setting) (tag : List ℕ) (fields : List Field) → s.fields tag ≡ Some fields → AreFieldsTyped s [] (map grown_field (parameters tag))
unfolding buffer source size
parameters-typed s tag fields found =
    typed-field s [] _ _ refl refl refl (typed-field s _ _ _ (rw found refl) refl refl (typed-field s _ _ [] refl refl refl (typed-no_fields s _)))

-- without a body
abbrev pub prototype : MessageNames → Function
prototype names = grown_function (pack_head names) None

pub prototype-typed : (s after : Setting) (names : MessageNames) (fields : List Field) → s.fields names.tag ≡ Some fields → s.function names.pack ≡ None → is_reserved names.pack ≡ false
    → item_faults s after (grown_item (function (pack_head names) None)) ≡ []
prototype-typed s after names fields found new plain =
    typed-prototype s after (prototype names) refl (typed-first_head s (prototype names) new plain (parameters-typed s names.tag fields found))

-- ---- the whole

-- what stands before its definition
pub record IsDeclared (s : Setting) (message : Message) (names : MessageNames) : Type 0 where
  pub fields_are : s.fields names.tag ≡ Some (grown_fields message names)
  pub own : s.function names.pack ≡ Some (prototype names)
  pub undefined : s.defined names.pack ≡ None

pub function-typed : (s after : Setting) → IsOneOf after.model → (message : Message) (names : MessageNames) → IsNamed message names → IsOfValidDatabase message → AllByRecursion HasNoParent message.signals
    → is_reserved names.pack ≡ false → IsDeclared s message names → after.fields names.tag ≡ Some (grown_fields message names) → AllByRecursion (CallsHelpers after) message.signals
    → item_faults s after (grown_item (pack_function (number 22) message names)) ≡ []
function-typed s after one message names named valid flat plain declared found callable =
    let body : List Stmt = grown_list (actions_of (message_body (number 22) message names)) in
    let whole : Function = grown_function (pack_head names) (Some (actions_of (message_body (number 22) message names))) in
    let head = typed-later_head s whole (prototype names) declared.own refl declared.undefined plain (parameters-typed s names.tag (grown_fields message names) declared.fields_are) in
    typed-definition s after whole body refl head
    (subst (AreTyped after int (at_top (from_parameters names.tag))) (sym (grown-list (message_body (number 22) message names))) (body-typed after one message names named valid flat found callable))
