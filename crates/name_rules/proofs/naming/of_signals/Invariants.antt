use Rattle.std.proofs.Common.{map, take}
use Rattle.std.specs.List.{flat_map}
use Rattle.name_rules.specs.Identifier.{identifier_of}
use Rattle.name_rules.specs.Reserved.{is_reserved, is_reserved_local}
use Rattle.name_rules.specs.Wanted.{wanted_of_signal}
use Rattle.name_rules.specs.Symbols.{one_or_none, file_names_of_signal, AllPairs, HasNamesOfSignal}
use Rattle.name_rules.specs.Places.{Picks}
use Rattle.name_rules.specs.Taken.{taken_in}
use Rattle.name_rules.specs.Naming.{field_with_local}
use Rattle.name_rules.proofs.naming.of_signals.Given as goal

abbrev pub invariant-loop-s : goal.invariant-loop-s
invariant-loop-s l = record {
  pairs : AllPairs HasNamesOfSignal (take l.s-index l.signals) l.names;
  picks : Picks (taken_in l.fn.file) (taken_in l.file) (flat_map (wanted_of_signal l.prune l.front) (take l.s-index l.signals)) (flat_map file_names_of_signal l.names);
  fields : Picks is_reserved (taken_in l.fields) (map (λ s. identifier_of s.name) (take l.s-index l.signals)) (map (λ s. s.field) l.names);
  locals : Picks is_reserved_local (taken_in l.locals) (flat_map field_with_local l.names) (flat_map (λ s. one_or_none s.local) l.names);
}
