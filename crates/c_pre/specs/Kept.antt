-- What the code keeps so far, as what is left so far.
use Rattle.std.specs.Prelude.{map}
use Rattle.c_pre.specs.declared.expansion.Expansion.{Expansion}
use Rattle.c_pre.specs.Shown.{header_shown}
use Rattle.c_pre.specs.Run.{Progress}

abbrev pub progress : Expansion → Progress
progress e = record { tokens = e.tokens; macros = e.macros; headers = map header_shown e.headers }
