use Rattle.std.proofs.Common.{sym, ◌∙◌}
use Rattle.dbc_reader.proofs.Bounded.{answer_bounded}
use Rattle.dbc_reader.proofs.WholeText.{is_found, is_only, is_fault, is_refused}
use Rattle.dbc_reader.proofs.reading.statements.Goals as goal

pub returns-clause-exact : goal.returns-clause-exact
returns-clause-exact c = rw (sym c.is_too_large.ensures.value ∙ c.if-is_too_large.false) (rw (c.end_line.ensures, c.deref.ensures.value, c.in_ok-tokens.ensures) at c.read_all.ensures)

pub returns-clause-found : goal.returns-clause-found
returns-clause-found c = is_found c.args.text.now c.read_all.result (sym c.is_too_large.ensures.value ∙ c.if-is_too_large.false) (rw (c.end_line.ensures, c.deref.ensures.value, c.in_ok-tokens.ensures) at c.read_all.ensures)

pub returns-clause-only : goal.returns-clause-only
returns-clause-only c = λ ss a. is_only c.args.text.now c.read_all.result ss a (rw (c.end_line.ensures, c.deref.ensures.value, c.in_ok-tokens.ensures) at c.read_all.ensures)

pub returns-clause-fault : goal.returns-clause-fault
returns-clause-fault c = λ kind line e. is_fault c.args.text.now c.read_all.result kind line (sym c.is_too_large.ensures.value ∙ c.if-is_too_large.false) e (rw (c.end_line.ensures, c.deref.ensures.value, c.in_ok-tokens.ensures) at c.read_all.ensures)

pub returns-clause-refused : goal.returns-clause-refused
returns-clause-refused c = λ r h. is_refused c.args.text.now c.read_all.result r (sym c.is_too_large.ensures.value ∙ c.if-is_too_large.false) h (rw (c.end_line.ensures, c.deref.ensures.value, c.in_ok-tokens.ensures) at c.read_all.ensures)

pub returns-clause-bounded : goal.returns-clause-bounded
returns-clause-bounded c = answer_bounded c.args.text.now c.read_all.result (rw (c.end_line.ensures, c.deref.ensures.value, c.in_ok-tokens.ensures) at c.read_all.ensures)
