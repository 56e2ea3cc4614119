-- What the code's scopes show.
use Rattle.std.specs.Prelude.{◌-◌, length, take, slice_index_or}
use Rattle.c_tree.specs.declared.item.CType.{CType}
use Rattle.c_tree.specs.declared.item.CType.TheVariants.{Integer as IntegerType}
use Rattle.c_types.specs.Scope.{Scope}
use Rattle.c_types.specs.declared.named_type.Kind.{Kind}
use Rattle.c_types.specs.declared.named_type.Kind.TheVariants.{Integer, Given}

abbrev pub shown : Kind → CType
shown (Integer s) = IntegerType s
shown (Given type) = type.now

-- without the innermost block
abbrev pub closed : Scope → Scope
closed s = record {
  outer = take (length s.outer - 1) s.outer;
  inner = slice_index_or s.outer (length s.outer - 1) s.inner;
}
