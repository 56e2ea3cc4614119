use Rattle.std.proofs.Common.{◌≡◌, ◌++◌, take, drop}
use Rattle.c_effect.specs.Locals.{set_local}
use Rattle.c_exec.proofs.locals.Locals.set.Given as goal

-- no block before this one has the name
abbrev pub invariant-loop-index : goal.invariant-loop-index
invariant-loop-index l =
    record {
      same : l.self-inside.blocks.items ≡ l.initial.self-inside.blocks.items;
      rest : take l.index l.initial.self-inside.blocks.items ++ set_local l.name l.held (drop l.index l.initial.self-inside.blocks.items) ≡ set_local l.name l.held l.initial.self-inside.blocks.items;
    }
