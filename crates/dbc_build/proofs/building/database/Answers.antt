use Rattle.dbc_build.proofs.Kept.{formed, no_parents}
use Rattle.dbc_build.proofs.building.database.Goals as goal

pub returns-clause-formed : goal.returns-clause-formed
returns-clause-formed c = formed c.args.list.now c.built.result c.built.ensures

pub returns-clause-no_parents : goal.returns-clause-no_parents
returns-clause-no_parents c = no_parents c.args.list.now c.built.result c.built.ensures
