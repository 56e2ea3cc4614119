use Rattle.std.proofs.Common.{ℕ, ◌++◌, List, length, drop, ap, sym, ◌∙◌, arith, length-drop}
use Rattle.std.proofs.lemmas.List.{take-append-drop}
use Rattle.cantoolc.proofs.files.RealFilesFiles.read.Goals as goal

pub returns-in-Ok-clause-ok : goal.returns-in-Ok-clause-ok
returns-in-Ok-clause-ok g c =
    let old = c.args.into.now.items in
    let new = c.read_file.new.into.items in
    let n = length old in
    record { told = tt; bound = (drop n new, sym (take-append-drop n new) ∙ ap (λ (xs : List ℕ). xs ++ drop n new) c.read_file.ensures.front, omega (arith, length-drop n new, c.read_file.ensures.bound)) }
