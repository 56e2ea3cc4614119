use Rattle.std.proofs.Common.{◌≡◌, length, take, map}
use Rattle.std.specs.List.{zip}
use Rattle.gen_unit.specs.HeaderStruct.{field_comment}
use Rattle.gen_unit.proofs.structs.comments.Given as goal

abbrev pub invariant-loop-s : goal.invariant-loop-s
invariant-loop-s l = l.comments ≡ map (λ p. field_comment p.0) (take (length l.yielded) (zip l.signals l.names))
