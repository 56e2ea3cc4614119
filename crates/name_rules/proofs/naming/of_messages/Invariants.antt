use Rattle.std.proofs.Common.{take}
use Rattle.std.specs.List.{flat_map}
use Rattle.name_rules.specs.Wanted.{wanted_of_message}
use Rattle.name_rules.specs.Symbols.{file_names_of_message, AllPairs, HasNamesOfMessage}
use Rattle.name_rules.specs.Places.{Picks}
use Rattle.name_rules.specs.Taken.{taken_in}
use Rattle.name_rules.proofs.naming.of_messages.Given as goal

abbrev pub invariant-loop-m : goal.invariant-loop-m
invariant-loop-m l = record {
  pairs : AllPairs HasNamesOfMessage (take l.m-index l.messages) l.names;
  picks : Picks (taken_in l.fn.file) (taken_in l.file) (flat_map (wanted_of_message l.name l.prune) (take l.m-index l.messages)) (flat_map file_names_of_message l.names);
}
