use mathlib.Core.Path.{refl}
use Rattle.std.specs.FinMap.{get}
use Rattle.table_laws.proofs.Tables.{write_there}
use Rattle.table_laws.proofs.table.write_there_law.Goals as goal

pub returns : goal.returns
returns g c = λ R is table key. write_there is.total is.exact table key (get table key) refl
