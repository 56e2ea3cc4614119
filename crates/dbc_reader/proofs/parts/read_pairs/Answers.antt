use Rattle.std.proofs.Common.{[], ◌∷◌, sym, ◌∙◌}
use Rattle.std.proofs.lemmas.Result.{err_from_is_err_and}
use Rattle.dbc_reader.specs.Template.{is_number_or}
use Rattle.dbc_reader.specs.Parts.{pair, pair_of}
use Rattle.dbc_reader.proofs.Documents.{pairs_regular}
use Rattle.dbc_reader.proofs.Loop.{all_seen, goes_on, ends, is_done, seen_shorter, next_true, next_false}
use Rattle.dbc_reader.proofs.parts.read_pairs.Goals as goal

pub returns-in_err-pair : goal.returns-in_err-pair
returns-in_err-pair c =
    let p = err_from_is_err_and c.from_residual.result c.from_residual.ensures.1 in
    let ls = c.loop-alloc.left.now in
    rw (p.1, p.2) (ends c.args.end (is_number_or (43 ∷ 45 ∷ [])) pair _ pair_of pairs_regular c.in_err-pair.field-0.0 c.loop-alloc.list ls (all_seen c.args.end (is_number_or (43 ∷ 45 ∷ [])) pair _ pair_of pairs_regular c.args.tokens.now) (next_true (is_number_or (43 ∷ 45 ∷ [])) ls (sym c.is_next.ensures ∙ c.loop-alloc-test.true)) c.in_err-pair.ensures c.loop-alloc.invariant)

pub loop-alloc-preserved : goal.loop-alloc-preserved
loop-alloc-preserved c =
    let ls = c.loop-alloc.left.now in
    rw (c.identity-left.ensures, c.in_ok-push.ensures.ok) (goes_on c.args.end (is_number_or (43 ∷ 45 ∷ [])) pair _ pair_of pairs_regular c.loop-alloc.list ls (c.in_ok-pair.pair, c.in_ok-pair.after.now) (all_seen c.args.end (is_number_or (43 ∷ 45 ∷ [])) pair _ pair_of pairs_regular c.args.tokens.now) (next_true (is_number_or (43 ∷ 45 ∷ [])) ls (sym c.is_next.ensures ∙ c.loop-alloc-test.true)) c.in_ok-pair.ensures c.loop-alloc.invariant)

pub loop-alloc-smaller : goal.loop-alloc-smaller
loop-alloc-smaller c = rw c.identity-left.ensures (seen_shorter c.args.end (is_number_or (43 ∷ 45 ∷ [])) pair _ pair_of pairs_regular c.loop-alloc.left.now (c.in_ok-pair.pair, c.in_ok-pair.after.now) c.in_ok-pair.ensures)

pub returns : goal.returns
returns c = is_done c.args.end (is_number_or (43 ∷ 45 ∷ [])) pair _ pair_of pairs_regular c.loop-alloc.list c.loop-alloc.left.now (all_seen c.args.end (is_number_or (43 ∷ 45 ∷ [])) pair _ pair_of pairs_regular c.args.tokens.now) (next_false (is_number_or (43 ∷ 45 ∷ [])) c.loop-alloc.left.now (sym c.is_next.ensures ∙ c.loop-alloc-test.false)) c.loop-alloc.invariant
