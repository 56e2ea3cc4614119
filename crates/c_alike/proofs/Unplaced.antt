-- Faults with one fixed place everywhere, and the settings of trees with that place.
use Rattle.std.proofs.Common.{◌≡◌, Bool, true, false, List, ◌++◌, map, option_map, refl}
use Rattle.std.proofs.lemmas.List.{map-append}
use Rattle.c_text.specs.declared.place.Place.{Place}
use Rattle.c_text.specs.declared.refusal.CKind.{CKind}
use Rattle.c_text.specs.Refusal.{Refusal}
use Rattle.c_tree.specs.declared.item.CType.{CType}
use Rattle.c_types.specs.TypeFault.{when}
use Rattle.c_types.specs.Scope.{Declared, Scope}
use Rattle.c_types.specs.Setting.{Setting}
use Rattle.c_types.specs.ExpressionTypes.{Found, found, Called, Typing, Wanted}
use Rattle.c_types.specs.StatementTypes.{Checks, Checked, CheckedPart, checked}
use Rattle.c_effect.proofs.Placeless.{no_place, placeless_field, placeless_function}

abbrev pub unplaced : Refusal → Refusal
unplaced r = record { kind = r.kind; place = no_place }

abbrev pub all_unplaced : List Refusal → List Refusal
all_unplaced faults = map unplaced faults

-- what is found, but for the places of the faults
abbrev pub found_unplaced : Found → Found
found_unplaced f = found f.sort f.type (all_unplaced f.faults)

abbrev pub typing_unplaced : Typing → Typing
typing_unplaced t wanted scope = found_unplaced (t wanted scope)

abbrev pub called_unplaced : Called → Called
called_unplaced c = record { sort = c.sort; type = c.type; ahead = all_unplaced c.ahead; last = all_unplaced c.last }

abbrev pub checks_unplaced : Checks → Checks
checks_unplaced f returns scope = all_unplaced (f returns scope)

abbrev pub checked_unplaced : Checked → Checked
checked_unplaced c = checked c.declares (checks_unplaced c.faults)

abbrev pub part_unplaced : CheckedPart → CheckedPart
part_unplaced p = record { labels = p.labels; declares = p.declares; faults = λ type labels returns scope. all_unplaced (p.faults type labels returns scope) }

-- what a place knows, of declarations with the fixed place
abbrev pub setting_unplaced : Setting → Setting
setting_unplaced s = record {
  model = s.model;
  fields = λ tag. option_map (map placeless_field) (s.fields tag);
  function = λ name. option_map placeless_function (s.function name);
  defined = λ name. option_map placeless_function (s.defined name);
  calls = s.calls;
}

-- ---- lists of faults one after another

pub both : (a b x y : List Refusal) → a ≡ all_unplaced x → b ≡ all_unplaced y → a ++ b ≡ all_unplaced (x ++ y)
both a b x y h g = rw (map-append unplaced x y, h, g) refl

pub when-unplaced : (b : Bool) (kind : CKind) (p : Place) → when b kind no_place ≡ all_unplaced (when b kind p)
when-unplaced true kind p = refl
when-unplaced false kind p = refl

-- ---- what is equal at every scope

pub checked-ext : (declares : Declared) (f g : Checks) → ((returns : CType) (scope : Scope) → f returns scope ≡ g returns scope) → checked declares f ≡ checked declares g
checked-ext declares f g h = λ i. checked declares (λ returns scope. h returns scope i)

pub typing-ext : (f g : Typing) → ((wanted : Wanted) (scope : Scope) → f wanted scope ≡ g wanted scope) → f ≡ g
typing-ext f g h = λ i. λ wanted scope. h wanted scope i
