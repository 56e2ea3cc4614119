-- The field that a name stands for in a struct, with its number there (ISO/IEC 9899:1999, 6.5.2.3).
use Rattle.std.specs.Prelude.{ℕ, List, Option, bytes_eq, position, slice_get}
use Rattle.std.specs.Option.{option_map, option_and_then}
use Rattle.c_tree.specs.declared.item.Field.{Field}
use Rattle.cg_out.specs.Words.{look_up}

-- the field of a number, counted from 0, beside its number
abbrev pub numbered : List Field → ℕ → Option (ℕ × Field)
numbered fields number = option_map (λ f. (number, f)) (slice_get fields number)

-- the first field of a name, beside its number
abbrev pub field_named : List ℕ → List Field → Option (ℕ × Field)
field_named name fields = option_and_then (numbered fields) (position (λ f. bytes_eq name f.name) fields)

-- the field of a name in the struct of a tag, where these have that struct and it has that field
abbrev pub field_in : List ℕ → List ℕ → List (List ℕ × List Field) → Option (ℕ × Field)
field_in tag name structs = option_and_then (field_named name) (look_up tag structs)
