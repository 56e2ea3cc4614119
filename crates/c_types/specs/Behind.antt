-- What an item adds to what a place knows.
use Rattle.std.specs.Prelude.{[], ◌∷◌}
use Rattle.c_tree.specs.declared.item.Item.{Item}
use Rattle.name_table.specs.Adds.{first_named}
use Rattle.c_types.specs.Setting.{Setting, structs, functions, definitions}

abbrev pub behind_item : Item → Setting → Setting
behind_item i s = record {
  model = s.model;
  fields = first_named s.fields (structs (i ∷ []));
  function = first_named s.function (functions (i ∷ []));
  defined = first_named s.defined (definitions (i ∷ []));
  calls = s.calls;
}
