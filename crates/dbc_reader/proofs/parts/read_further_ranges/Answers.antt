use Rattle.std.proofs.Common.{sym, ◌∙◌}
use Rattle.std.proofs.lemmas.Result.{err_from_is_err_and}
use Rattle.dbc_reader.specs.Template.{is_mark}
use Rattle.dbc_reader.specs.Parts.{with_comma, further, range, range_behind, with_ranges}
use Rattle.dbc_reader.specs.Reading.{seen}
use Rattle.dbc_reader.proofs.Documents.{ranges_regular}
use Rattle.dbc_reader.proofs.Loop.{goes_on, ends, is_done, seen_shorter, next_true, next_false}
use Rattle.dbc_reader.proofs.Views.{seen_first}
use Rattle.dbc_reader.proofs.parts.read_further_ranges.Goals as goal

pub loop-left-init : goal.loop-left-init
loop-left-init c = rw (c.in_ok-push.ensures.ok, c.new-list.ensures) (sym (seen_first _ c.args.end (is_mark 44) (with_comma range) range_behind c.args.first c.args.tokens.now))

pub returns-in_err-range : goal.returns-in_err-range
returns-in_err-range c =
    let p = err_from_is_err_and c.from_residual-in_err-range.result c.from_residual-in_err-range.ensures.1 in
    let ls = c.loop-left.left.now in
    rw (p.1, p.2) (ends c.args.end (is_mark 44) (with_comma range) _ range_behind ranges_regular c.in_err-range.field-0.0 c.loop-left.list ls (seen c.args.end (further range) (with_ranges c.args.first) c.args.tokens.now) (next_true (is_mark 44) ls (sym c.is_next.ensures ∙ c.loop-left-test.true)) c.in_err-range.ensures c.loop-left.invariant)

pub loop-left-preserved : goal.loop-left-preserved
loop-left-preserved c =
    let ls = c.loop-left.left.now in
    rw (c.identity-left.ensures, c.in_ok-push-2.ensures.ok) (goes_on c.args.end (is_mark 44) (with_comma range) _ range_behind ranges_regular c.loop-left.list ls (c.in_ok-range.range, c.in_ok-range.after.now) (seen c.args.end (further range) (with_ranges c.args.first) c.args.tokens.now) (next_true (is_mark 44) ls (sym c.is_next.ensures ∙ c.loop-left-test.true)) c.in_ok-range.ensures c.loop-left.invariant)

pub loop-left-smaller : goal.loop-left-smaller
loop-left-smaller c = rw c.identity-left.ensures (seen_shorter c.args.end (is_mark 44) (with_comma range) _ range_behind ranges_regular c.loop-left.left.now (c.in_ok-range.range, c.in_ok-range.after.now) c.in_ok-range.ensures)

pub returns : goal.returns
returns c = is_done c.args.end (is_mark 44) (with_comma range) _ range_behind ranges_regular c.loop-left.list c.loop-left.left.now (seen c.args.end (further range) (with_ranges c.args.first) c.args.tokens.now) (next_false (is_mark 44) c.loop-left.left.now (sym c.is_next.ensures ∙ c.loop-left-test.false)) c.loop-left.invariant
