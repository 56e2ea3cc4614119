use Rattle.std.proofs.Common.{take, drop, sym, arith}
use Rattle.std.proofs.lemmas.Grind.{common_steps}
use Rattle.std.proofs.lemmas.List.{take-append-drop}
use Rattle.cg_out.proofs.memory_sink.MemorySinkSink.write.Goals as goal

pub returns-in-Some-clause-err : goal.returns-in-Some-clause-err
returns-in-Some-clause-err c =
    let keep = c.in-Some.keep in
    let bytes = c.args.bytes.now in
    (take keep bytes, (drop keep bytes, sym (take-append-drop keep bytes)), grind (arith, common_steps))
