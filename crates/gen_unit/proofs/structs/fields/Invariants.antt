use Rattle.std.proofs.Common.{◌≡◌, length, take, map}
use Rattle.std.specs.List.{zip}
use Rattle.c_tree.specs.BareUnit.{bare_field}
use Rattle.gen_pack.specs.StructFields.{field_of}
use Rattle.gen_unit.proofs.structs.fields.Given as goal

abbrev pub invariant-loop-s : goal.invariant-loop-s
invariant-loop-s l = map bare_field l.fields ≡ map (λ p. field_of p.0 p.1) (take (length l.yielded) (zip l.signals l.names))
