use Rattle.std.proofs.Common.{take, drop, sym, inr, rules}
use Rattle.std.proofs.lemmas.List.{take-append-drop}
use Rattle.cg_out.proofs.memory_files.MemoryFilesFiles.write.Goals as goal

pub returns-in-Some-keep-clause-err : goal.returns-in-Some-keep-clause-err
returns-in-Some-keep-clause-err c =
    let keep = c.in-Some-keep.keep in
    let bytes = c.args.bytes.now in
    inr (take keep bytes, (drop keep bytes, sym (take-append-drop keep bytes)), search rules)
