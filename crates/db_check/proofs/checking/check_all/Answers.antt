use Rattle.std.proofs.Common.{subst}
use Rattle.std.proofs.lemmas.Option.{IfSome_then}
use Rattle.std.proofs.lemmas.Result.{err_from_is_err_and}
use Rattle.db_check.specs.Answer.{fault_of}
use Rattle.db_check.specs.OfMessages.{IsCleanAt, IsFirstOfMessages}
use Rattle.db_check.proofs.FirstFaults.{valid, first_of_messages}
use Rattle.db_check.proofs.checking.check_all.Goals as goal

pub returns-in_err-check_messages-clause-fault : goal.returns-in_err-check_messages-clause-fault
returns-in_err-check_messages-clause-fault c =
    let p = err_from_is_err_and c.from_residual-in_err-check_messages.result c.from_residual-in_err-check_messages.ensures.1 in
    rw (p.1, p.2)
    (IfSome_then (fault_of c.in_err-check_messages.field-0.0) c.in_err-check_messages.ensures.fault
    (λ f h. first_of_messages c.args.db.now c.in_ok-check_counts.ensures.within f (subst (λ ms. IsFirstOfMessages ms f) c.items.ensures h)))

pub returns-clause-valid : goal.returns-clause-valid
returns-clause-valid c =
    valid c.args.db.now c.in_ok-check_counts.ensures.within (λ i. subst (λ ms. IsCleanAt ms i) c.items.ensures (c.in_ok-check_messages.ensures.clean i))
