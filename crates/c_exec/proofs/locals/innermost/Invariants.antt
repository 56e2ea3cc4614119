use Rattle.std.proofs.Common.{◌≡◌, drop}
use Rattle.c_effect.specs.Locals.{held_by}
use Rattle.c_exec.proofs.locals.innermost.Given as goal

abbrev pub invariant-loop-block : goal.invariant-loop-block
invariant-loop-block l = held_by l.name (drop l.block-index l.blocks) ≡ held_by l.name l.blocks
