use Rattle.std.proofs.Common.{◌↔◌, drop}
use Rattle.std.specs.List.{AllByRecursion}
use Rattle.iv_types.specs.Encoding.{FitAll}
use Rattle.iv_meaning.specs.Schema.{numbered, kinds_of_table}
use Rattle.iv_meaning.specs.Objects.{schema_of}
use Rattle.row_eval.proofs.readable.all_fit.Given as goal

abbrev pub invariant-loop-index : goal.invariant-loop-index
invariant-loop-index l =
    AllByRecursion (λ row. FitAll (kinds_of_table (numbered (schema_of l.catalog) l.table)) row) (drop l.index l.rows)
    ↔ AllByRecursion (λ row. FitAll (kinds_of_table (numbered (schema_of l.catalog) l.table)) row) l.rows
