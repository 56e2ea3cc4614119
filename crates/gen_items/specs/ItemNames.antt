-- The names of a unit's items, as the unit needs them (ISO/IEC 9899:1999, 6.2.1 to 6.2.3).
use Rattle.std.specs.Prelude.{◌≡◌, ℕ, false, List, map, bytes_eq}
use Rattle.std.specs.List.{AllByRecursion}
use Rattle.can_model.specs.declared.database.Message.{Message}
use Rattle.name_rules.specs.declared.table.MessageNames.{MessageNames}
use Rattle.name_rules.specs.Names.{AreApart}
use Rattle.name_rules.specs.Reserved.{is_reserved}
use Rattle.name_rules.specs.Symbols.{AllPairs}
use Rattle.shift_helpers.specs.declared.helper.HelperKind.{HelperKind}
use Rattle.shift_helpers.specs.HelperResult.{IsWidth}
use Rattle.shift_helpers.specs.HelperTree.{helper_name}
use Rattle.gen_pack.specs.Named.{IsNamed}

-- no helper has the name
abbrev pub IsNoHelper : List ℕ → Type 0
IsNoHelper x = (kind : HelperKind) (w : ℕ) → IsWidth w → bytes_eq x (helper_name kind w) ≡ false

-- each message has its names; no two structs have one tag, and no two functions one name
pub record AreNamed (messages : List Message) (names : List MessageNames) : Type 0 where
  pub each : AllPairs IsNamed messages names
  pub tags : AreApart is_reserved (map (λ n. n.tag) names)
  pub functions : AreApart is_reserved (map (λ n. n.pack) names)
  pub no_helpers : AllByRecursion (λ n. IsNoHelper n.pack) names
