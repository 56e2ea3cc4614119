-- One file more is written, or torn.
use Rattle.std.proofs.Common.{◌≡◌, Result, Ok, Err, length, slice_get, Some, refl, ap, ◌∙◌, arith}
use Rattle.std.proofs.lemmas.Bool.Decides.{nat_tests}
use Rattle.std.proofs.lemmas.Option.{slice_get_read}
use Rattle.std.specs.Prelude.{OnErr}
use Rattle.cli_tool.specs.Task.{Output}
use Rattle.cli_tool.proofs.FilesWritten.{writes_more, tears}
use Rattle.cli_tool.proofs.writing.write_files.Goals as goal

on_err : {T E P : Type 0} (r : Result T E) → P → OnErr r P
on_err (Ok x) p = tt
on_err (Err y) p = p

pub returns-in_err-write-clause-err : goal.returns-in_err-write-clause-err
returns-in_err-write-clause-err g c =
    let all = c.args.outputs.now in
    let i = c.loop-output.output-index in
    let o = c.output-item.result in
    let at : slice_get all i ≡ Some o = slice_get_read all (length all) i o refl (grind (arith, nat_tests)) c.output-item.is in
    let failed = c.in_err-write.ensures in
    let named = c.deref.ensures.value ∙ ap (λ (x : Output). x.file) c.output.view_is in
    let has = c.deref-in-loop-output.ensures.value ∙ ap (λ (x : Output). x.bytes) c.output.view_is in
    on_err c.from_residual.result
    (tears all i o _ _ (g.F.Files.seen c.args.files.now) (g.F.Files.seen c.loop-output.files) (g.F.Files.seen c.write.new.self) at named has c.loop-output.invariant.written c.loop-output.invariant.later failed.err failed.cause.failed failed.calls)

pub loop-output-preserved : goal.loop-output-preserved
loop-output-preserved g c =
    let all = c.args.outputs.now in
    let i = c.loop-output.output-index in
    let o = c.output-item.result in
    let at : slice_get all i ≡ Some o = slice_get_read all (length all) i o refl (grind (arith, nat_tests)) c.output-item.is in
    let done = c.in_ok-write.ensures in
    let named = c.deref.ensures.value ∙ ap (λ (x : Output). x.file) c.output.view_is in
    let has = c.deref-in-loop-output.ensures.value ∙ ap (λ (x : Output). x.bytes) c.output.view_is in
    record {
      written = writes_more all i o _ _ (g.F.Files.seen c.args.files.now) (g.F.Files.seen c.loop-output.files) (g.F.Files.seen c.write.new.self) at named has c.loop-output.invariant.written done.ok done.calls;
      later = omega (arith, c.loop-output.invariant.later, done.cause.later);
    }
