use Rattle.std.proofs.Common.{◌↔◌, drop}
use Rattle.iv_meaning.specs.Schema.{numbered, kinds_of_table}
use Rattle.iv_meaning.specs.Objects.{schema_of}
use Rattle.row_eval.specs.Fresh.{AreAlike}
use Rattle.row_eval.proofs.readable.are_alike.Given as goal

abbrev pub invariant-loop-index : goal.invariant-loop-index
invariant-loop-index l =
    AreAlike (kinds_of_table (numbered (schema_of l.catalog) l.one)) (kinds_of_table (numbered (schema_of l.catalog) l.other)) (drop l.index l.columns) (drop l.index l.places)
    ↔ AreAlike (kinds_of_table (numbered (schema_of l.catalog) l.one)) (kinds_of_table (numbered (schema_of l.catalog) l.other)) l.columns l.places
