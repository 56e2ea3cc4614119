-- A callee whose name is lent.
use Rattle.c_tree.specs.declared.expression.Callee.{Callee}
use Rattle.c_tree.specs.declared.expression.Callee.TheVariants as own
use Rattle.c_expression.specs.declared.symbols.LentCallee.{LentCallee}
use Rattle.c_expression.specs.declared.symbols.LentCallee.TheVariants.{Name, Memset}

-- the callee that it stands for
abbrev pub callee_lent : LentCallee → Callee
callee_lent (Name name) = own.Name name.now
callee_lent Memset = own.Memset
