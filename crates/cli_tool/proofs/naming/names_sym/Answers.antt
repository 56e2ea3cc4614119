-- The comparison of the last four bytes decides one fact, by either word.
use Rattle.std.proofs.Common.{◌≡◌, ◌-◌, length, drop, map}
use Rattle.std.specs.Prelude.{codes}
use Rattle.std.specs.Bool.{Decides, one_answer}
use Rattle.std.specs.Str.{bytes_eq}
use Rattle.std.specs.Char.{to_ascii_lowercase}
use Rattle.std.proofs.lemmas.Slice.Eq.{bytes_eq-Decides}
use Rattle.cli_tool.specs.FileName.{is_sym}
use Rattle.cli_tool.proofs.naming.names_sym.Goals as goal

pub returns : goal.returns
unfolding is_sym
returns c =
    let path = c.args.path.now in
    let tail = map to_ascii_lowercase (drop (length path - 4) path) in
    let test : Decides c.eq_ignore_ascii_case.result (tail ≡ codes ".sym") = rw c.last_four.ensures at c.eq_ignore_ascii_case.ensures.test in
    one_answer c.eq_ignore_ascii_case.result (bytes_eq tail (codes ".sym")) test (bytes_eq-Decides tail (codes ".sym"))
