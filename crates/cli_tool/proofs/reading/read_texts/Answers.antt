-- Why the texts are not all there, behind those that were read.
use Rattle.std.proofs.Common.{◌≡◌, Result, Ok, Err, length, slice_get, Some, sym, ap, subst, ◌∙◌, ◌++◌, ◌∷◌, [], rules}
use Rattle.std.specs.Prelude.{IfErr}
use Rattle.std.specs.Result.{IsErrAnd}
use Rattle.cli_tool.specs.Asked.{task_by}
use Rattle.cli_tool.proofs.TextsRead.{no_room, not_all, reads_one_more}
use Rattle.cli_tool.proofs.reading.read_texts.Goals as goal

if_err : {T E : Type 0} (r : Result T E) (e : E) (Q : E → Type 0) → IsErrAnd r (λ y. y ≡ e) → Q e → IfErr r Q
if_err (Ok x) e Q h q = absurd h
if_err (Err y) e Q h q = subst Q (sym h) q

pub returns-in_err-text-clause-err : goal.returns-in_err-text-clause-err
returns-in_err-text-clause-err g c =
    let inputs = (task_by c.args.command.now).inputs in
    let texts = c.loop-input.texts.items in
    let i = c.in-Some.input in
    let counted : c.len.result ≡ length texts = search rules in
    let at : slice_get inputs (length texts) ≡ Some i = sym (c.input.ensures ∙ ap (slice_get inputs) counted) ∙ c.in-Some.is in
    if_err c.from_residual.result c.in_err-text.field-0.0 _ c.from_residual.ensures.1
    (not_all inputs (length texts) i texts (g.F.Files.seen c.args.files.now) (g.F.Files.seen c.loop-input.files) (g.F.Files.seen c.read_text.new.files) c.in_err-text.field-0.0 c.loop-input.invariant.read at (c.in_err-text.ensures).err)

pub returns-then-is_err-clause-err : goal.returns-then-is_err-clause-err
returns-then-is_err-clause-err g c =
    let inputs = (task_by c.args.command.now).inputs in
    let texts = c.loop-input.texts.items in
    let i = c.in-Some.input in
    let counted : c.len.result ≡ length texts = search rules in
    let at : slice_get inputs (length texts) ≡ Some i = sym (c.input.ensures ∙ ap (slice_get inputs) counted) ∙ c.in-Some.is in
    no_room inputs (length texts) i texts c.in_ok-text.text (g.F.Files.seen c.args.files.now) (g.F.Files.seen c.loop-input.files) (g.F.Files.seen c.read_text.new.files) c.loop-input.invariant.read at (c.in_ok-text.ensures).ok

pub loop-input-preserved : goal.loop-input-preserved
loop-input-preserved g c =
    let inputs = (task_by c.args.command.now).inputs in
    let texts = c.loop-input.texts.items in
    let i = c.in-Some.input in
    let counted : c.len.result ≡ length texts = search rules in
    let longer : c.push.new.self.items ≡ texts ++ c.in_ok-text.text ∷ [] = search rules in
    let more = reads_one_more inputs c.len.result i texts c.push.new.self.items c.in_ok-text.text (g.F.Files.seen c.args.files.now) (g.F.Files.seen c.loop-input.files) (g.F.Files.seen c.read_text.new.files) counted longer c.loop-input.invariant.read (sym c.input.ensures ∙ c.in-Some.is) (c.in_ok-text.ensures).ok c.read_text.ensures.later in
    record { count = more.0; read = more.1 }
