use Rattle.std.proofs.Common.{sym, ◌∙◌}
use Rattle.std.proofs.lemmas.Result.{err_from_is_err_and}
use Rattle.dbc_reader.specs.Template.{is_mark, word, take}
use Rattle.dbc_reader.specs.Parts.{with_comma, further, word_behind, with_words}
use Rattle.dbc_reader.specs.Reading.{seen}
use Rattle.dbc_reader.proofs.Documents.{words_regular}
use Rattle.dbc_reader.proofs.Loop.{goes_on, ends, is_done, seen_shorter, next_true, next_false}
use Rattle.dbc_reader.proofs.Views.{seen_first}
use Rattle.dbc_reader.proofs.parts.read_further_words.Goals as goal

pub loop-alloc-init : goal.loop-alloc-init
loop-alloc-init c = rw (c.in_ok-push.ensures.ok, c.new-list.ensures) (sym (seen_first _ c.args.end (is_mark 44) (with_comma (take word)) word_behind c.args.first c.args.tokens.now))

pub returns-in_err-word : goal.returns-in_err-word
returns-in_err-word c =
    let p = err_from_is_err_and c.from_residual-in_err-word.result c.from_residual-in_err-word.ensures.1 in
    let ls = c.loop-alloc.left.now in
    rw (p.1, p.2) (ends c.args.end (is_mark 44) (with_comma (take word)) _ word_behind words_regular c.in_err-word.field-0.0 c.loop-alloc.list ls (seen c.args.end (further (take word)) (with_words c.args.first) c.args.tokens.now) (next_true (is_mark 44) ls (sym c.is_next.ensures ∙ c.loop-alloc-test.true)) c.in_err-word.ensures c.loop-alloc.invariant)

pub loop-alloc-preserved : goal.loop-alloc-preserved
loop-alloc-preserved c =
    let ls = c.loop-alloc.left.now in
    rw (c.identity-left.ensures, c.in_ok-push-2.ensures.ok) (goes_on c.args.end (is_mark 44) (with_comma (take word)) _ word_behind words_regular c.loop-alloc.list ls (c.in_ok-word.word, c.in_ok-word.after.now) (seen c.args.end (further (take word)) (with_words c.args.first) c.args.tokens.now) (next_true (is_mark 44) ls (sym c.is_next.ensures ∙ c.loop-alloc-test.true)) c.in_ok-word.ensures c.loop-alloc.invariant)

pub loop-alloc-smaller : goal.loop-alloc-smaller
loop-alloc-smaller c = rw c.identity-left.ensures (seen_shorter c.args.end (is_mark 44) (with_comma (take word)) _ word_behind words_regular c.loop-alloc.left.now (c.in_ok-word.word, c.in_ok-word.after.now) c.in_ok-word.ensures)

pub returns : goal.returns
returns c = is_done c.args.end (is_mark 44) (with_comma (take word)) _ word_behind words_regular c.loop-alloc.list c.loop-alloc.left.now (seen c.args.end (further (take word)) (with_words c.args.first) c.args.tokens.now) (next_false (is_mark 44) c.loop-alloc.left.now (sym c.is_next.ensures ∙ c.loop-alloc-test.false)) c.loop-alloc.invariant
