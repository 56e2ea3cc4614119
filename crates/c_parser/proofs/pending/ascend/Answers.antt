use Rattle.std.proofs.Common.{◌+◌, Ok, subst, sym, ◌∙◌}
use Rattle.cg_out.specs.Words.{◌>>=◌}
use Rattle.c_parser.specs.Pending.{Joins, read_from, goes_on}
use Rattle.c_parser.proofs.Waiting.{taken, resumed-last}
use Rattle.c_parser.proofs.pending.ascend.Goals as goal

pub loop-last-preserved : goal.loop-last-preserved
loop-last-preserved c a end left =
    let joins = subst (λ j. Joins j c.in-Some.last c.loop-last.made c.args.rest.now) c.in-Whole.is c.in_ok-stmt.ensures.value in
    c.loop-last.invariant a end left ∙ taken a c.loop-last.pending.items c.pop.new.self.items c.in-Some.last c.loop-last.made end (Ok (c.in-Whole.stmt, end)) c.in-Some.ensures.items (joins a end left)

pub returns-in-Waits-clause-value : goal.returns-in-Waits-clause-value
returns-in-Waits-clause-value c a end left =
    let joins = subst (λ j. Joins j c.in-Some.last c.loop-last.made c.args.rest.now) c.in-Waits.is c.in_ok-stmt.ensures.value in
    let got = read_from a (end + 2) in
    c.loop-last.invariant a end left
    ∙ taken a c.loop-last.pending.items c.pop.new.self.items c.in-Some.last c.loop-last.made end (got >>= goes_on a c.in-Waits.last) c.in-Some.ensures.items (joins a end left)
    ∙ rw c.in_ok-push-in-Waits.ensures.items (sym (resumed-last a c.pop.new.self.items c.in-Waits.last got))
