-- Each part is what the definition says.
use Rattle.std.proofs.Common.{ap, ◌∙◌, Some}
use Rattle.dbc_build.proofs.Alike.{alike}
use Rattle.dbc_build.proofs.signals.signal.Goals as goal

pub returns : goal.returns
returns c =
    let s = c.in-Signal in
    rw (c.in-Signal.is, ← c.bytes-name.ensures) (ap Some (alike s.start s.length s.motorola s.signed s.factor s.offset c.args.statement.now.line
    (c.in_ok-copy_of.ensures ∙ c.signal_name.ensures) c.is_float.ensures c.limit.ensures c.limit-2.ensures c.initial.ensures
    c.in_ok-choices.ensures (c.in_ok-copy_of-2.ensures ∙ c.bytes.ensures) (c.in_ok-copy_of-3.ensures ∙ c.comment.ensures)))
