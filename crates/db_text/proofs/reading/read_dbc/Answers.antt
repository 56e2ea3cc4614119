use Rattle.db_text.specs.Answer.{answer_of}
use Rattle.db_text.proofs.OneAnswer.{only_answer}
use Rattle.db_text.proofs.reading.read_dbc.Goals as goal

pub returns-clause-only : goal.returns-clause-only
returns-clause-only c = only_answer c.args.text.now (answer_of c.read.result) c.read.ensures
