-- Helpers and pack functions are found by their names, among the unit's definitions.
use Rattle.std.proofs.Common.{◌≡◌, ℕ, true, not, List, [], ◌∷◌, ◌++◌, map, Some, inl, inr, refl, sym, subst}
use Rattle.std.specs.List.{list_any}
use Rattle.std.specs.Str.{bytes_eq}
use Rattle.can_model.specs.declared.database.Message.{Message}
use Rattle.name_rules.specs.declared.table.MessageNames.{MessageNames}
use Rattle.name_rules.specs.Distinct.{are_distinct}
use Rattle.c_tree.specs.BareExpression.{Tree}
use Rattle.c_tree.specs.BareStatement.{actions_of}
use Rattle.c_tree.specs.BareUnit.{BareItem}
use Rattle.c_tree.specs.declared.item.Function.{Function}
use Rattle.cg_out.specs.Words.{look_up}
use Rattle.c_types.specs.Setting.{definitions}
use Rattle.c_effect.proofs.Locals.{same-name}
use Rattle.c_effect.proofs.Placeless.{grown_function, grown_item, placeless_function}
use Rattle.shift_helpers.specs.declared.helper.HelperKind.{HelperKind}
use Rattle.shift_helpers.specs.HelperTree.{helper, helper_name}
use Rattle.gen_types.specs.HelperList.{AreDifferent}
use Rattle.gen_types.proofs.HelperCalls.{IsAmong, lacks-name}
use Rattle.gen_pack.specs.PackTree.{pack_head, message_body}
use Rattle.gen_pack.proofs.Members.{Among}
use Rattle.gen_pack.proofs.OwnLocals.{and-left, and-right, flipped-names}
use Rattle.gen_items.specs.ItemNames.{IsNoHelper}
use Rattle.gen_items.specs.UnitItems.{declared_items, helper_items, defined_items}
use Rattle.gen_items.proofs.PackingPairs.{other-name}
use Rattle.gen_items.proofs.HelpersCalled.{HaveWidths}

-- what bare items define
abbrev pub defined_by : List BareItem → List (List ℕ × Function)
defined_by items = definitions (map grown_item items)

-- structs and prototypes define nothing
pub defines-none : (pairs : List (Message × MessageNames)) (rest : List BareItem) → defined_by (declared_items pairs ++ rest) ≡ defined_by rest
defines-none [] rest = refl
defines-none (p ∷ pairs) rest = defines-none pairs rest

-- ---- helpers

pub finds-called : (h : HelperKind × ℕ) (helpers : List (HelperKind × ℕ)) (rest : List BareItem) → AreDifferent helpers → IsAmong h helpers
    → look_up (helper_name h.0 h.1) (defined_by (helper_items helpers ++ rest)) ≡ Some (placeless_function (helper h.0 h.1))
finds-called h [] rest different among = absurd among
finds-called h (g ∷ helpers) rest different (inl is) =
    subst (λ (x : HelperKind × ℕ). look_up (helper_name x.0 x.1) (defined_by (helper_items (g ∷ helpers) ++ rest)) ≡ Some (placeless_function (helper x.0 x.1))) is (rw (same-name (helper_name g.0 g.1)) refl)
finds-called h (g ∷ helpers) rest different (inr among) =
    rw (lacks-name h helpers (helper_name g.0 g.1) different.0 among) (finds-called h helpers rest different.1 among)

-- a name that no helper has is looked up behind them
pub passes-helpers : (name : List ℕ) (helpers : List (HelperKind × ℕ)) (rest : List BareItem) → IsNoHelper name → HaveWidths helpers
    → look_up name (defined_by (helper_items helpers ++ rest)) ≡ look_up name (defined_by rest)
passes-helpers name [] rest lacks widths = refl
passes-helpers name (h ∷ helpers) rest lacks widths =
    rw (flipped-names name (helper_name h.0 h.1) (lacks h.0 h.1 widths.0)) (passes-helpers name helpers rest lacks widths.1)

-- ---- pack functions

abbrev pub pack_of : Message × MessageNames → List ℕ
pack_of p = p.1.pack

-- the function of a message, without places
abbrev pub placeless_pack : Tree → Message × MessageNames → Function
placeless_pack error p = grown_function (pack_head p.1) (Some (actions_of (message_body error p.0 p.1)))

pub finds-pack : (error : Tree) (pairs : List (Message × MessageNames)) (p : Message × MessageNames) → Among p pairs → are_distinct (map pack_of pairs) ≡ true
    → look_up p.1.pack (defined_by (defined_items error pairs)) ≡ Some (placeless_pack error p)
finds-pack error [] p a distinct = absurd a
finds-pack error (q ∷ qs) p (inl e) distinct =
    subst (λ (x : Message × MessageNames). look_up x.1.pack (defined_by (defined_items error (q ∷ qs))) ≡ Some (placeless_pack error x)) (sym e) (rw (same-name q.1.pack) refl)
finds-pack error (q ∷ qs) p (inr a) distinct =
    let none = and-left (not (list_any (bytes_eq q.1.pack) (map pack_of qs))) (are_distinct (map pack_of qs)) distinct in
    let later = and-right (not (list_any (bytes_eq q.1.pack) (map pack_of qs))) (are_distinct (map pack_of qs)) distinct in
    rw (other-name pack_of q.1.pack p qs a none) (finds-pack error qs p a later)
